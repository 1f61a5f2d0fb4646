use Rattle.calendar.proofs.weeks.weeks_in_year.Goals as goal

pub returns-then-has_week_53 : goal.returns-then-has_week_53
returns-then-has_week_53 c = simp (c.has_week_53.ensures, c.if-has_week_53.true)

pub returns-else-has_week_53 : goal.returns-else-has_week_53
returns-else-has_week_53 c = simp (c.has_week_53.ensures, c.if-has_week_53.false)
