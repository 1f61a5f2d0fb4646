-- What the rules say of a year's number, for the code.
use mathlib.Core.Path.{◌≡◌, ap, ◌∙◌}
use Prim.Native.Nat.{ℕ, ◌+◌, ◌*◌, ◌/◌, ◌%◌}
use native.Mathlib.Omega.{arith}
use lib.IntN.{sub_ℕ}
use Rattle.calendar.specs.declared.years.Year.{Year}
use Rattle.calendar.specs.Years.{astronomical_of, leap_of}
use Rattle.calendar.proofs.Laws.Integers.{same}
use Rattle.calendar.proofs.Laws.Days.{leap_number, leap_at, days_of, days_period}
use Rattle.calendar.proofs.Laws.Weeks.{new_year_weekday, weekday_at, whole_weeks}

module _ (year : Year) where
  abbrev n : ℕ
  n = year.number

  pub leap-number : leap_of (astronomical_of year) ≡ leap_number n
  unfolding astronomical_of
  leap-number = leap_at n 10737419

  -- the year, as one of the second 400 years and some whole periods of them
  second : sub_ℕ n (400 * 10737419) ≡ sub_ℕ (n % 400 + 399 + 400 * (n / 400) + 1) (400 * 10737420)
  second = same n (400 * 10737419) (n % 400 + 399 + 400 * (n / 400) + 1) (400 * 10737420) (omega arith)

  pub weekday_number : new_year_weekday (astronomical_of year) ≡ days_of (n % 400 + 399) % 7
  unfolding astronomical_of
  weekday_number =
      ap new_year_weekday second
      ∙ weekday_at (n % 400 + 399 + 400 * (n / 400)) 10737420
      ∙ ap (λ (d : ℕ). d % 7) (days_period (n % 400 + 399) (n / 400))
      ∙ whole_weeks (days_of (n % 400 + 399)) (n / 400)
