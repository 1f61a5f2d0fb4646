use mathlib.Core.Path.{ap, ◌∙◌}
use mir.Syntax.{w32}
use mir.ValLaws.{to_z-of_z}
use lib.IntN.{ℤ}
use Rattle.calendar.specs.Months.{month_length_of}
use Rattle.calendar_c.proofs.anafzir_month_length.Goals as goal

pub returns : goal.returns
returns c =
    c.month_length.ensures ∙ ap (λ (y : ℤ). month_length_of y c.args.month) (c.from.ensures ∙ to_z-of_z w32 _
    c.ranges.year)
