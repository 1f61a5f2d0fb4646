use mathlib.Core.Path.{ap, ◌∙◌}
use mir.Syntax.{w32}
use mir.ValLaws.{to_z-of_z}
use Rattle.calendar.specs.Weeks.{weeks_of}
use Rattle.calendar_c.proofs.anafzir_weeks_in_year.Goals as goal

pub returns : goal.returns
returns c = c.weeks_in_year.ensures ∙ ap weeks_of (c.from.ensures ∙ to_z-of_z w32 _ c.ranges.year)
