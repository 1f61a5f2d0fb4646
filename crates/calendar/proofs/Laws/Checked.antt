-- Checked values of the definitions: one table of years and one of dates, each closed by computation. The independent
-- reference gives their rows.
use mathlib.Core.Path.{◌≡◌, refl}
use mathlib.Core.Bool.{Bool, true, false, beq, ◌&&◌}
use mathlib.Core.List.{List, [], ◌∷◌}
use Prim.Native.Nat.{ℕ}
use lib.Dec.{eqb}
use lib.IntN.{ℤ, pos, negsuc}
use Rattle.calendar.specs.declared.dates.Date.{Date}
use Rattle.calendar.specs.Integers.{quotient, remainder, divisible}
use Rattle.calendar.specs.Years.{astronomical_of, year_at, leap_of, year_length_of}
use Rattle.calendar.specs.Months.{month_length_of}
use Rattle.calendar.specs.Weeks.{days_of_years, new_year, week_of, week_one_of, weeks_of}
use Rattle.calendar.specs.Dates.{up_to, exists_of}
use Rattle.calendar.proofs.Laws.Weeks.{new_year_weekday}

-- a year, whether it is leap, its days, its weeks, and the weekday of its 1 January, Monday 0
data YearRow : Type 0 where
  year : ℤ → Bool → ℕ → ℕ → ℕ → YearRow

years : List YearRow
years =
    year (negsuc 2147483647) true 366 52 1 ∷
    year (negsuc 9998) false 365 52 0 ∷
    year (negsuc 399) true 366 52 5 ∷
    year (negsuc 99) false 365 52 0 ∷
    year (negsuc 7) true 366 53 2 ∷
    year (negsuc 3) true 366 52 0 ∷
    year (negsuc 0) false 365 52 4 ∷
    year (pos 0) true 366 52 5 ∷
    year (pos 1) false 365 52 0 ∷
    year (pos 4) true 366 53 3 ∷
    year (pos 100) false 365 52 4 ∷
    year (pos 400) true 366 52 5 ∷
    year (pos 1581) false 365 53 3 ∷
    year (pos 1582) false 365 52 4 ∷
    year (pos 1600) true 366 52 5 ∷
    year (pos 1749) false 365 52 2 ∷
    year (pos 1899) false 365 52 6 ∷
    year (pos 1900) false 365 52 0 ∷
    year (pos 1901) false 365 52 1 ∷
    year (pos 1999) false 365 52 4 ∷
    year (pos 2000) true 366 52 5 ∷
    year (pos 2004) true 366 53 3 ∷
    year (pos 2009) false 365 53 3 ∷
    year (pos 2015) false 365 53 3 ∷
    year (pos 2016) true 366 52 4 ∷
    year (pos 2019) false 365 52 1 ∷
    year (pos 2020) true 366 53 2 ∷
    year (pos 2021) false 365 52 4 ∷
    year (pos 2024) true 366 52 0 ∷
    year (pos 2025) false 365 52 2 ∷
    year (pos 2026) false 365 53 3 ∷
    year (pos 9999) false 365 52 4 ∷
    year (pos 99999) false 365 52 4 ∷
    year (pos 999999999) false 365 52 4 ∷
    year (pos 2147483647) false 365 52 1 ∷ []

years_right : List YearRow → Bool
years_right [] = true
years_right (year y leap days weeks weekday ∷ l) =
    beq (leap_of y) leap && eqb (year_length_of y) days && eqb (weeks_of y) weeks && eqb (new_year_weekday y) weekday && years_right l

years_checked : years_right years ≡ true
unfolding years years_right leap_of divisible remainder quotient year_length_of days_of_years new_year week_of week_one_of weeks_of
years_checked = refl

-- a date, and whether it exists
data DateRow : Type 0 where
  date : Date → Bool → DateRow

dates : List DateRow
dates =
    date (Date.Y (year_at (pos 0))) true ∷
    date (Date.YM (year_at (pos 2006)) 0) false ∷
    date (Date.YM (year_at (pos 2006)) 1) true ∷
    date (Date.YM (year_at (pos 2006)) 12) true ∷
    date (Date.YM (year_at (pos 2006)) 13) false ∷
    date (Date.YMD (year_at (pos 2006)) 6 0) false ∷
    date (Date.YMD (year_at (pos 2006)) 6 13) true ∷
    date (Date.YMD (year_at (pos 1900)) 2 29) false ∷
    date (Date.YMD (year_at (pos 2000)) 2 29) true ∷
    date (Date.YMD (year_at (pos 1500)) 2 29) false ∷
    date (Date.YMD (year_at (pos 0)) 2 29) true ∷
    date (Date.YMD (year_at (negsuc 3)) 2 29) true ∷
    date (Date.YMD (year_at (negsuc 99)) 2 29) false ∷
    date (Date.YMD (year_at (negsuc 399)) 2 29) true ∷
    date (Date.YMD (year_at (pos 2006)) 0 1) false ∷
    date (Date.YMD (year_at (pos 2006)) 13 1) false ∷
    date (Date.YMD (year_at (pos 2006)) 257 1) false ∷
    -- each month's last day, and the day after it, in a common year and in a leap year
    date (Date.YMD (year_at (pos 2006)) 1 31) true ∷
    date (Date.YMD (year_at (pos 2006)) 1 32) false ∷
    date (Date.YMD (year_at (pos 2006)) 2 28) true ∷
    date (Date.YMD (year_at (pos 2006)) 2 29) false ∷
    date (Date.YMD (year_at (pos 2006)) 3 31) true ∷
    date (Date.YMD (year_at (pos 2006)) 3 32) false ∷
    date (Date.YMD (year_at (pos 2006)) 4 30) true ∷
    date (Date.YMD (year_at (pos 2006)) 4 31) false ∷
    date (Date.YMD (year_at (pos 2006)) 5 31) true ∷
    date (Date.YMD (year_at (pos 2006)) 5 32) false ∷
    date (Date.YMD (year_at (pos 2006)) 6 30) true ∷
    date (Date.YMD (year_at (pos 2006)) 6 31) false ∷
    date (Date.YMD (year_at (pos 2006)) 7 31) true ∷
    date (Date.YMD (year_at (pos 2006)) 7 32) false ∷
    date (Date.YMD (year_at (pos 2006)) 8 31) true ∷
    date (Date.YMD (year_at (pos 2006)) 8 32) false ∷
    date (Date.YMD (year_at (pos 2006)) 9 30) true ∷
    date (Date.YMD (year_at (pos 2006)) 9 31) false ∷
    date (Date.YMD (year_at (pos 2006)) 10 31) true ∷
    date (Date.YMD (year_at (pos 2006)) 10 32) false ∷
    date (Date.YMD (year_at (pos 2006)) 11 30) true ∷
    date (Date.YMD (year_at (pos 2006)) 11 31) false ∷
    date (Date.YMD (year_at (pos 2006)) 12 31) true ∷
    date (Date.YMD (year_at (pos 2006)) 12 32) false ∷
    date (Date.YMD (year_at (pos 2004)) 1 31) true ∷
    date (Date.YMD (year_at (pos 2004)) 1 32) false ∷
    date (Date.YMD (year_at (pos 2004)) 2 29) true ∷
    date (Date.YMD (year_at (pos 2004)) 2 30) false ∷
    date (Date.YMD (year_at (pos 2004)) 3 31) true ∷
    date (Date.YMD (year_at (pos 2004)) 3 32) false ∷
    date (Date.YMD (year_at (pos 2004)) 4 30) true ∷
    date (Date.YMD (year_at (pos 2004)) 4 31) false ∷
    date (Date.YMD (year_at (pos 2004)) 5 31) true ∷
    date (Date.YMD (year_at (pos 2004)) 5 32) false ∷
    date (Date.YMD (year_at (pos 2004)) 6 30) true ∷
    date (Date.YMD (year_at (pos 2004)) 6 31) false ∷
    date (Date.YMD (year_at (pos 2004)) 7 31) true ∷
    date (Date.YMD (year_at (pos 2004)) 7 32) false ∷
    date (Date.YMD (year_at (pos 2004)) 8 31) true ∷
    date (Date.YMD (year_at (pos 2004)) 8 32) false ∷
    date (Date.YMD (year_at (pos 2004)) 9 30) true ∷
    date (Date.YMD (year_at (pos 2004)) 9 31) false ∷
    date (Date.YMD (year_at (pos 2004)) 10 31) true ∷
    date (Date.YMD (year_at (pos 2004)) 10 32) false ∷
    date (Date.YMD (year_at (pos 2004)) 11 30) true ∷
    date (Date.YMD (year_at (pos 2004)) 11 31) false ∷
    date (Date.YMD (year_at (pos 2004)) 12 31) true ∷
    date (Date.YMD (year_at (pos 2004)) 12 32) false ∷
    -- ordinal days, weeks and weekdays
    date (Date.YD (year_at (pos 2006)) 0) false ∷
    date (Date.YD (year_at (pos 2006)) 164) true ∷
    date (Date.YD (year_at (pos 2006)) 365) true ∷
    date (Date.YD (year_at (pos 2006)) 366) false ∷
    date (Date.YD (year_at (pos 2004)) 366) true ∷
    date (Date.YD (year_at (pos 2004)) 367) false ∷
    date (Date.YD (year_at (negsuc 3)) 366) true ∷
    date (Date.YW (year_at (pos 2006)) 0) false ∷
    date (Date.YW (year_at (pos 2006)) 24) true ∷
    date (Date.YW (year_at (pos 2020)) 53) true ∷
    date (Date.YW (year_at (pos 2021)) 53) false ∷
    date (Date.YW (year_at (pos 2020)) 54) false ∷
    date (Date.YW (year_at (negsuc 7)) 53) true ∷
    date (Date.YW (year_at (negsuc 3)) 53) false ∷
    date (Date.YWD (year_at (pos 2006)) 24 0) false ∷
    date (Date.YWD (year_at (pos 2006)) 24 2) true ∷
    date (Date.YWD (year_at (pos 2006)) 24 7) true ∷
    date (Date.YWD (year_at (pos 2006)) 24 8) false ∷
    date (Date.YWD (year_at (pos 2020)) 53 7) true ∷
    date (Date.YWD (year_at (pos 2021)) 53 1) false ∷
    date (Date.YWD (year_at (pos 2006)) 0 1) false ∷ []

dates_right : List DateRow → Bool
dates_right [] = true
dates_right (date d exists ∷ l) = beq (exists_of d) exists && dates_right l

dates_checked : dates_right dates ≡ true
unfolding dates dates_right up_to astronomical_of year_at leap_of divisible remainder quotient year_length_of month_length_of days_of_years new_year week_of week_one_of
    weeks_of
dates_checked = refl
