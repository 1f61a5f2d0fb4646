-- "Week 01 contains 4 January; weeks 1 to 52, or 53 where the year has it; weekday 1 (Monday) to 7."
use Rattle.std.specs.Prelude.{ℕ, ℤ, pos, nat_abs, ◌+ℤ◌, ◌-ℤ◌, ◌*ℤ◌}
use Rattle.calendar.specs.Integers.{quotient}

-- The days of n years from 0001 on: a leap day every 4 years, none every 100, and yet one every 400.
unfoldable pub days_of_years : ℤ → ℤ
days_of_years n = pos 365 *ℤ n +ℤ quotient n 4 -ℤ quotient n 100 +ℤ quotient n 400

-- 1 January of year y as a day number: the days since 1 January 0001, a Monday, whose number is 0.
unfoldable pub new_year : ℤ → ℤ
new_year y = days_of_years (y -ℤ pos 1)

-- The week of a day, Monday to Sunday, as a week number: the weeks since that of 1 January 0001.
unfoldable pub week_of : ℤ → ℤ
week_of day = quotient day 7

-- Week 01 of year y, the week that contains 4 January.
unfoldable pub week_one_of : ℤ → ℤ
week_one_of y = week_of (new_year y +ℤ pos 3)

-- The weeks of year y: from its week 01 to that of the next year, which is never before it (law weeks_counted).
unfoldable pub weeks_of : ℤ → ℕ
weeks_of y = nat_abs (week_one_of (y +ℤ pos 1) -ℤ week_one_of y)
