-- Which dates exist, exactly: each field from 1 to the highest number that the year, or the month, has.
use mathlib.Core.Path.{◌≡◌, refl}
use mathlib.Core.Bool.{true}
use Prim.Native.Nat.{ℕ, ◌≤◌}
use borrow.Author.Tests.{le-leb}
use Rattle.octets.proofs.Laws.Cases.{both}
use Rattle.calendar.specs.declared.dates.Date.{Date}
use Rattle.calendar.specs.Years.{astronomical_of, year_length_of}
use Rattle.calendar.specs.Months.{month_length_of}
use Rattle.calendar.specs.Weeks.{weeks_of}
use Rattle.calendar.specs.Dates.{up_to, exists_of}
use Rattle.calendar.proofs.Laws.Dates.{up_to_true}

-- A number from 1 to the highest.
abbrev pub From1 : ℕ → ℕ → Type 0
From1 highest x = (1 ≤ x) × (x ≤ highest)

-- "the date has one of six forms". A month that there is not has no days.
abbrev pub Existing : Date → Type 0
Existing (Date.Y y) = Unit {0}
Existing (Date.YM y month) = From1 12 month
Existing (Date.YMD y month day) = From1 (month_length_of (astronomical_of y) month) day
Existing (Date.YD y day) = From1 (year_length_of (astronomical_of y)) day
Existing (Date.YW y week) = From1 (weeks_of (astronomical_of y)) week
Existing (Date.YWD y week weekday) = From1 (weeks_of (astronomical_of y)) week × From1 7 weekday

up-to : (highest x : ℕ) → From1 highest x → up_to highest x ≡ true
unfolding up_to
up-to highest x h = rw (le-leb 1 x h.0, le-leb x highest h.1)

-- Each field of a date that exists lies from 1 to its highest number.
pub date_existing : (date : Date) → exists_of date ≡ true → Existing date
date_existing (Date.Y y) e = tt
date_existing (Date.YM y month) e = up_to_true 12 month e
date_existing (Date.YMD y month day) e = up_to_true (month_length_of (astronomical_of y) month) day e
date_existing (Date.YD y day) e = up_to_true (year_length_of (astronomical_of y)) day e
date_existing (Date.YW y week) e = up_to_true (weeks_of (astronomical_of y)) week e
date_existing (Date.YWD y week weekday) e =
    let p = both (up_to (weeks_of (astronomical_of y)) week) (up_to 7 weekday) e in
    (up_to_true (weeks_of (astronomical_of y)) week p.0, up_to_true 7 weekday p.1)

-- A date exists where each of its fields lies from 1 to its highest number.
pub existing_date : (date : Date) → Existing date → exists_of date ≡ true
existing_date (Date.Y y) h = refl
existing_date (Date.YM y month) h = up-to 12 month h
existing_date (Date.YMD y month day) h = up-to (month_length_of (astronomical_of y) month) day h
existing_date (Date.YD y day) h = up-to (year_length_of (astronomical_of y)) day h
existing_date (Date.YW y week) h = up-to (weeks_of (astronomical_of y)) week h
existing_date (Date.YWD y week weekday) h = rw (up-to (weeks_of (astronomical_of y)) week h.0, up-to 7 weekday h.1)
