-- The weeks of a year: 52 or 53, told by the weekday of 1 January, and alike after 400 years.
use mathlib.Core.Path.{◌≡◌, refl, sym, ap, ◌∙◌}
use mathlib.Core.Bool.{Bool, true, false, ◌&&◌, ◌||◌, cond}
use mathlib.Core.Logic.{◌⊎◌, inl, inr}
use Prim.Native.Nat.{ℕ, ◌+◌, ◌-◌, ◌*◌, ◌/◌, ◌%◌, ◌≤◌}
use native.Mathlib.Omega.{arith}
use lib.Dec.{eqb}
use lib.IntN.{ℤ, pos, nat_abs, ◌+ℤ◌, ◌-ℤ◌, sub_ℕ}
use borrow.Author.Tests.{eqb-true, eqb-false}
use Rattle.calendar.specs.Integers.{quotient, remainder}
use Rattle.calendar.specs.Years.{leap_of}
use Rattle.calendar.specs.Weeks.{new_year, week_of, week_one_of, weeks_of}
use Rattle.calendar.proofs.Laws.Integers as Z
use Rattle.calendar.proofs.Laws.Days.{every-year, next, later, leap_number, leap_at, days_of, days_at, days_step, days_period, leap_period}

-- The weekday of 1 January, Monday 0 to Sunday 6.
abbrev pub new_year_weekday : ℤ → ℕ
new_year_weekday y = remainder (new_year y) 7

-- 400 years are 20871 weeks
module _ (n m : ℕ) where
  pub weekday_at : new_year_weekday (sub_ℕ (n + 1) (400 * m)) ≡ days_of n % 7
  weekday_at = ap (λ (z : ℤ). remainder z 7) (days_at n m) ∙ Z.remainder_of 7 (omega arith) (days_of n) (146097 * m) (20871 * m) (omega arith)

  week_one_at : week_one_of (sub_ℕ (n + 1) (400 * m)) ≡ sub_ℕ ((days_of n + 3) / 7) (20871 * m)
  unfolding week_one_of week_of
  week_one_at =
      ap (λ (z : ℤ). quotient (z +ℤ pos 3) 7) (days_at n m)
      ∙ ap (λ (z : ℤ). quotient z 7) (Z.add-pos (days_of n) (146097 * m) 3)
      ∙ Z.quotient_of 7 (omega arith) (days_of n + 3) (146097 * m) (20871 * m) (omega arith)

-- the weeks between, for a year of l days whose 1 January is day a
between : (a l : ℕ) → ℕ
between a l = (a + l + 3) / 7 - (a + 3) / 7

module _ (n m : ℕ) where
  abbrev a : ℕ
  a = (days_of (n + 1) + 3) / 7

  abbrev b : ℕ
  b = (days_of n + 3) / 7

  up : b ≤ a
  up = omega (arith, days_step n)

  difference : week_one_of (sub_ℕ (n + 1) (400 * m) +ℤ pos 1) -ℤ week_one_of (sub_ℕ (n + 1) (400 * m)) ≡ pos (a - b)
  difference =
      ap (λ (z : ℤ). week_one_of z -ℤ week_one_of (sub_ℕ (n + 1) (400 * m))) (next n m)
      ∙ (λ i. week_one_at (n + 1) m i -ℤ week_one_at n m i)
      ∙ Z.sub a (20871 * m) b (20871 * m)
      ∙ Z.is_pos (a + 20871 * m) (20871 * m + b) (a - b) (omega (arith, up))

  weeks_at : weeks_of (sub_ℕ (n + 1) (400 * m)) ≡ between (days_of n) (cond (leap_number (n + 1)) 366 365)
  unfolding weeks_of between
  weeks_at = ap nat_abs difference ∙ ap (λ (d : ℕ). (d + 3) / 7 - (days_of n + 3) / 7) (days_step n)

  counted : week_one_of (sub_ℕ (n + 1) (400 * m) +ℤ pos 1) -ℤ week_one_of (sub_ℕ (n + 1) (400 * m)) ≡ pos (weeks_of (sub_ℕ (n + 1) (400 * m)))
  unfolding weeks_of
  counted = difference ∙ sym (ap (λ (z : ℤ). pos (nat_abs z)) difference)

-- A year's weeks are counted from its week 01 up to that of the next year: the difference is never below 0.
pub weeks_counted : (y : ℤ) → week_one_of (y +ℤ pos 1) -ℤ week_one_of y ≡ pos (weeks_of y)
weeks_counted = every-year (λ (y : ℤ). week_one_of (y +ℤ pos 1) -ℤ week_one_of y ≡ pos (weeks_of y)) counted

-- 53 weeks where 1 January is a Thursday, or a Wednesday in a leap year, and else 52.
unfoldable pub weeks_from : Bool → ℕ → ℕ
weeks_from leap weekday = cond (eqb weekday 3 || eqb weekday 2 && leap) 53 52

module _ (a : ℕ) where
  by_tests : (leap s t : Bool) → eqb (a % 7) 3 ≡ s → eqb (a % 7) 2 ≡ t → between a (cond leap 366 365) ≡ cond (s || t && leap) 53 52
  unfolding between
  by_tests true true t p q = let e = eqb-true (a % 7) 3 p in omega arith
  by_tests false true t p q = let e = eqb-true (a % 7) 3 p in omega arith
  by_tests true false true p q = let e = eqb-true (a % 7) 2 q in omega arith
  by_tests false false true p q = let e = eqb-true (a % 7) 2 q in omega arith
  by_tests true false false p q = let e : a % 7 ≡ 3 → ⊥ = eqb-false (a % 7) 3 p in let f : a % 7 ≡ 2 → ⊥ = eqb-false (a % 7) 2 q in omega arith
  by_tests false false false p q = let e : a % 7 ≡ 3 → ⊥ = eqb-false (a % 7) 3 p in omega arith

  from_days : (leap : Bool) → between a (cond leap 366 365) ≡ weeks_from leap (a % 7)
  unfolding weeks_from
  from_days leap = by_tests leap _ _ refl refl

-- The Thursday rule.
pub thursday : (y : ℤ) → weeks_of y ≡ weeks_from (leap_of y) (new_year_weekday y)
thursday =
    every-year (λ (y : ℤ). weeks_of y ≡ weeks_from (leap_of y) (new_year_weekday y))
    (λ n m.
    weeks_at n m
    ∙ from_days (days_of n) (leap_number (n + 1))
    ∙ sym (λ i. weeks_from (leap_at (n + 1) m i) (weekday_at n m i)))

-- "52, or 53 where the year has it"
two : (t : Bool) (k : ℕ) → k ≡ cond t 53 52 → (k ≡ 52) ⊎ (k ≡ 53)
two true k e = inr e
two false k e = inl e

pub fifty_two-or-three : (y : ℤ) → (weeks_of y ≡ 52) ⊎ (weeks_of y ≡ 53)
unfolding weeks_from
fifty_two-or-three y = two (eqb (new_year_weekday y) 3 || eqb (new_year_weekday y) 2 && leap_of y) (weeks_of y) (thursday y)

-- The period of 400 years.
pub whole_weeks : (d k : ℕ) → (d + 146097 * k) % 7 ≡ d % 7
whole_weeks d k = omega arith

module _ (y : ℤ) (k : ℕ) where
  pub weekday_period : new_year_weekday (y +ℤ pos (400 * k)) ≡ new_year_weekday y
  weekday_period =
      every-year (λ (y : ℤ). new_year_weekday (y +ℤ pos (400 * k)) ≡ new_year_weekday y)
      (λ n m.
      ap new_year_weekday (later n m k)
      ∙ weekday_at (n + 400 * k) m
      ∙ ap (λ (d : ℕ). d % 7) (days_period n k)
      ∙ whole_weeks (days_of n) k
      ∙ sym (weekday_at n m))
      y

  pub weeks_period : weeks_of (y +ℤ pos (400 * k)) ≡ weeks_of y
  weeks_period = thursday (y +ℤ pos (400 * k)) ∙ (λ i. weeks_from (leap_period y k i) (weekday_period i)) ∙ sym (thursday y)
