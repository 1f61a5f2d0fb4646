-- Which dates exist, by the six forms.
use Rattle.std.specs.Prelude.{ℕ, Bool, true, ◌&&◌, leb}
use Rattle.calendar.specs.Years.{astronomical_of, year_length_of}
use Rattle.calendar.specs.Months.{month_length_of}
use Rattle.calendar.specs.Weeks.{weeks_of}
use Rattle.calendar.specs.declared.dates.Date.{Date}

-- A field from 1 to its highest number.
unfoldable pub up_to : ℕ → ℕ → Bool
up_to highest x = leb 1 x && leb x highest

-- "the date has one of six forms": each field lies from 1 to the highest number that the year, or the month, has.
abbrev pub exists_of : Date → Bool
exists_of (Date.Y y) = true
exists_of (Date.YM y month) = up_to 12 month
exists_of (Date.YMD y month day) = up_to (month_length_of (astronomical_of y) month) day
exists_of (Date.YD y day) = up_to (year_length_of (astronomical_of y)) day
exists_of (Date.YW y week) = up_to (weeks_of (astronomical_of y)) week
exists_of (Date.YWD y week weekday) = up_to (weeks_of (astronomical_of y)) week && up_to 7 weekday
