use mathlib.Core.Path.{sym, ◌∙◌}
use mir.Syntax.{w32}
use mir.Val.{SFits}
use borrow.Author.Rules.{rules}
use Rattle.std.proofs.lemmas.Int.{to_z-of_z}
use Rattle.calendar.proofs.Laws.Years.{year_is}
use Rattle.rows.specs.Readings.{read_date}
use Rattle.unpacking.proofs.Laws.Steps.{step}
use Rattle.unpacking.proofs.dates.date.Goals as goal

pub returns-clause-value : goal.returns-clause-value
unfolding read_date
returns-clause-value c =
    let fits : SFits w32 c.in_ok-year.year = search rules in
    let year = year_is c.from.result c.in_ok-year.year (c.from.ensures ∙ to_z-of_z w32 c.in_ok-year.year fits) in
    (rw year at c.day.ensures.value) ∙ sym (step _ _ _ c.in_ok-year.ensures.value)
