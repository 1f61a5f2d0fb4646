use Rattle.calendar.specs.Years.{year_length_of}
use Rattle.calendar.proofs.years.year_length.Goals as goal

pub returns-then-leap_year : goal.returns-then-leap_year
unfolding year_length_of
returns-then-leap_year c = simp (← c.leap_year.ensures, c.if-leap_year.true)

pub returns-else-leap_year : goal.returns-else-leap_year
unfolding year_length_of
returns-else-leap_year c = simp (← c.leap_year.ensures, c.if-leap_year.false)
