use mathlib.Core.Path.{◌∙◌}
use borrow.Author.Tests.{eq-eqb, ne_eqb}
use Rattle.calendar.proofs.Laws.Weeks.{weeks_from, thursday}
use Rattle.calendar.proofs.weeks.has_week_53.Goals as goal

-- the Thursday rule, with what the weekday was found to be
pub returns-then-weekday-eq-THURSDAY : goal.returns-then-weekday-eq-THURSDAY
unfolding weeks_from
returns-then-weekday-eq-THURSDAY c = thursday _ ∙ simp (← c.new_year_weekday-weekday.ensures, eq-eqb _ _ c.if-weekday-eq-THURSDAY.true)

pub returns-then-weekday-ne-WEDNESDAY : goal.returns-then-weekday-ne-WEDNESDAY
unfolding weeks_from
returns-then-weekday-ne-WEDNESDAY c =
    thursday _ ∙ simp (← c.new_year_weekday-weekday.ensures, ne_eqb _ _ c.if-weekday-eq-THURSDAY.false, ne_eqb _ _ c.if-weekday-ne-WEDNESDAY.true)

pub returns : goal.returns
unfolding weeks_from
returns c =
    thursday _ ∙ simp (
      ← c.new_year_weekday-weekday.ensures,
      ne_eqb _ _ c.if-weekday-eq-THURSDAY.false,
      eq-eqb _ _ c.if-weekday-ne-WEDNESDAY.false,
      c.leap_year.ensures,
    )
