use Rattle.calendar.proofs.Laws.Days.{days_of}
use Rattle.calendar.proofs.Laws.Numbers.{weekday_number}
use Rattle.calendar.proofs.weeks.new_year_weekday.Goals as goal

pub returns : goal.returns
unfolding days_of
returns c = rw weekday_number
