-- What existing says of a date's fields.
use mathlib.Core.Path.{◌≡◌, refl}
use mathlib.Core.Bool.{Bool, true, false, cond}
use mathlib.Core.Logic.{⊎_elim}
use Prim.Native.Nat.{ℕ, ◌≤◌}
use native.Mathlib.Omega.{arith}
use lib.Dec.{leb, eqb, ltb}
use lib.IntN.{ℤ}
use borrow.Author.Tests.{leb-true, eqb-true, eqb-false, ltb-true, ltb-false}
use Rattle.octets.proofs.Laws.Cases.{both}
use Rattle.calendar.specs.declared.dates.Date.{Date}
use Rattle.calendar.specs.Years.{astronomical_of, leap_of, year_length_of}
use Rattle.calendar.specs.Months.{month_length_of}
use Rattle.calendar.specs.Weeks.{weeks_of}
use Rattle.calendar.specs.Dates.{up_to, exists_of}
use Rattle.calendar.proofs.Laws.Months.{no_month_0, no_month_above, month_days}
use Rattle.calendar.proofs.Laws.Weeks.{fifty_two-or-three}

pub up_to_true : (highest x : ℕ) → up_to highest x ≡ true → (1 ≤ x) × (x ≤ highest)
unfolding up_to
up_to_true highest x e =
    let p = both (leb 1 x) (leb x highest) e in
    (leb-true 1 x p.0, leb-true x highest p.1)

-- A month with a day in it is one of twelve.
pub month_of_day : (y : ℤ) (month day : ℕ) → up_to (month_length_of y month) day ≡ true → (1 ≤ month) × (month ≤ 12)
month_of_day y month day e = go (eqb month 0) (ltb 12 month) refl refl where
  bounds : (1 ≤ day) × (day ≤ month_length_of y month)
  bounds = up_to_true (month_length_of y month) day e

  go : (s t : Bool) → eqb month 0 ≡ s → ltb 12 month ≡ t → (1 ≤ month) × (month ≤ 12)
  go true t p q = absurd (let z : ◌≡◌ {A = ℕ} 0 1 = omega (arith, bounds, no_month_0 y month (eqb-true month 0 p)) in omega arith)
  go false true p q = absurd (let z : ◌≡◌ {A = ℕ} 0 1 = omega (arith, bounds, no_month_above y month (ltb-true 12 month q)) in omega arith)
  go false false p q = let f : month ≡ 0 → ⊥ = eqb-false month 0 p in (omega arith, omega (arith, ltb-false 12 month q))

pub year_days : (y : ℤ) → year_length_of y ≤ 366
unfolding year_length_of
year_days y = go (leap_of y) where
  go : (t : Bool) → cond t 366 365 ≤ 366
  go true = omega arith
  go false = omega arith

pub weeks_most : (y : ℤ) → weeks_of y ≤ 53
weeks_most y = ⊎_elim (λ e. omega arith) (λ e. omega arith) (fifty_two-or-three y)

-- The range that each field of an existing date lies in, by the six forms.
abbrev pub InRange : Date → Type 0
InRange (Date.Y y) = Unit {0}
InRange (Date.YM y month) = (1 ≤ month) × (month ≤ 12)
InRange (Date.YMD y month day) = (1 ≤ month) × (month ≤ 12) × (1 ≤ day) × (day ≤ 31)
InRange (Date.YD y day) = (1 ≤ day) × (day ≤ 366)
InRange (Date.YW y week) = (1 ≤ week) × (week ≤ 53)
InRange (Date.YWD y week weekday) = (1 ≤ week) × (week ≤ 53) × (1 ≤ weekday) × (weekday ≤ 7)

pub in-range : (date : Date) → exists_of date ≡ true → InRange date
in-range (Date.Y y) e = tt
in-range (Date.YM y month) e = up_to_true 12 month e
in-range (Date.YMD y month day) e =
    let m = month_of_day (astronomical_of y) month day e in
    let d = up_to_true (month_length_of (astronomical_of y) month) day e in
    let l = month_days (astronomical_of y) month m.0 m.1 in
    (m.0, m.1, d.0, omega arith)
in-range (Date.YD y day) e =
    let d = up_to_true (year_length_of (astronomical_of y)) day e in
    (d.0, omega (arith, year_days (astronomical_of y)))
in-range (Date.YW y week) e =
    let w = up_to_true (weeks_of (astronomical_of y)) week e in
    (w.0, omega (arith, weeks_most (astronomical_of y)))
in-range (Date.YWD y week weekday) e =
    let p = both (up_to (weeks_of (astronomical_of y)) week) (up_to 7 weekday) e in
    let w = up_to_true (weeks_of (astronomical_of y)) week p.0 in
    let d = up_to_true 7 weekday p.1 in
    (w.0, omega (arith, weeks_most (astronomical_of y)), d.0, d.1)
