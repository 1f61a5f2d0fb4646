use mathlib.Core.Path.{ap, ◌∙◌}
use mir.Syntax.{w32}
use mir.ValLaws.{to_z-of_z}
use Rattle.calendar.specs.Years.{year_length_of}
use Rattle.calendar_c.proofs.anafzir_year_length.Goals as goal

pub returns : goal.returns
returns c = c.year_length.ensures ∙ ap year_length_of (c.from.ensures ∙ to_z-of_z w32 _ c.ranges.year)
