-- The count of days: what it is over the naturals, that it grows by each year's length, and its period of 400 years.
use mathlib.Core.Path.{◌≡◌, refl, sym, ap, subst, ◌∙◌}
use mathlib.Core.Bool.{Bool, true, false, not, ◌&&◌, ◌||◌, cond}
use Prim.Native.Nat.{ℕ, suc, ◌+◌, ◌-◌, ◌*◌, ◌/◌, ◌%◌, ◌≤◌, ◌<◌}
use native.Mathlib.Nat.{mul-zero, mul-suc, mul-add-div, div-eq_of_lt, div-add-mod, mod-lt}
use native.Mathlib.Omega.{arith}
use lib.Dec.{eqb}
use lib.IntN.{ℤ, pos, negsuc, ◌+ℤ◌, ◌-ℤ◌, sub_ℕ}
use borrow.Author.Tests.{eqb-true, eqb-false}
use Rattle.calendar.specs.Integers.{quotient, divisible}
use Rattle.calendar.specs.Years.{leap_of, year_length_of}
use Rattle.calendar.specs.Weeks.{days_of_years, new_year}
use Rattle.calendar.proofs.Laws.Integers as Z

-- A law for every year, from one for the years n + 1 - 400 m: each year is one of these.
pub every-year : (P : ℤ → Type 0) → ((n m : ℕ) → P (sub_ℕ (n + 1) (400 * m))) → (y : ℤ) → P y
every-year P h (pos k) = subst P (Z.is_pos (k + 399 + 1) (400 * 1) k (omega arith)) (h (k + 399) 1)
every-year P h (negsuc k) = subst P (Z.is-neg (399 * k + 398 + 1) (400 * suc k) k (omega arith)) (h (399 * k + 398) (suc k))

-- the next year, and one 400 k years on
pub next : (n m : ℕ) → sub_ℕ (n + 1) (400 * m) +ℤ pos 1 ≡ sub_ℕ (n + 1 + 1) (400 * m)
next n m = Z.add-pos (n + 1) (400 * m) 1

pub later : (n m k : ℕ) → sub_ℕ (n + 1) (400 * m) +ℤ pos (400 * k) ≡ sub_ℕ (n + 400 * k + 1) (400 * m)
later n m k = Z.add-pos (n + 1) (400 * m) (400 * k) ∙ Z.same (n + 1 + 400 * k) (400 * m) (n + 400 * k + 1) (400 * m) (omega arith)

-- the leap rule over the naturals
unfoldable pub leap_number : ℕ → Bool
leap_number n = eqb (n % 4) 0 && not (eqb (n % 100) 0) || eqb (n % 400) 0

pub leap_at : (n m : ℕ) → leap_of (sub_ℕ n (400 * m)) ≡ leap_number n
unfolding leap_of leap_number divisible
leap_at n m =
    let four = Z.remainder_of 4 (omega arith) n (400 * m) (100 * m) (omega arith) in
    let hundred = Z.remainder_of 100 (omega arith) n (400 * m) (4 * m) (omega arith) in
    let period = Z.remainder_of 400 (omega arith) n (400 * m) m refl in
    λ i. eqb (four i) 0 && not (eqb (hundred i) 0) || eqb (period i) 0

-- above zero, a number is one more than another
by_zero : (k : ℕ) → (k ≡ 0 → ⊥) → k ≡ suc (k - 1)
by_zero k f = omega arith

swap : (n k : ℕ) → n + 400 * k + 1 ≡ n + 1 + 400 * k
swap n k = omega arith

-- the days of n years from 1 January 0001
unfoldable pub days_of : ℕ → ℕ
days_of n = 365 * n + n / 4 - n / 100 + n / 400

-- 400 years are 146097 days
module _ (n m : ℕ) where
  before : sub_ℕ (n + 1) (400 * m) -ℤ pos 1 ≡ sub_ℕ n (400 * m)
  before = Z.sub (n + 1) (400 * m) 1 0 ∙ Z.same (n + 1 + 0) (400 * m + 1) n (400 * m) (omega arith)

  total : (a x y z : ℕ) → y ≤ a + x → sub_ℕ (a + x + 4 * m + z) (365 * (400 * m) + 100 * m + y + m) ≡ sub_ℕ (a + x - y + z) (146097 * m)
  total a x y z h = Z.same (a + x + 4 * m + z) (365 * (400 * m) + 100 * m + y + m) (a + x - y + z) (146097 * m) (omega arith)

  pub days_at : new_year (sub_ℕ (n + 1) (400 * m)) ≡ sub_ℕ (days_of n) (146097 * m)
  unfolding new_year days_of_years days_of
  days_at =
      let fours = Z.quotient_of 4 (omega arith) n (400 * m) (100 * m) (omega arith) in
      let hundreds = Z.quotient_of 100 (omega arith) n (400 * m) (4 * m) (omega arith) in
      let periods = Z.quotient_of 400 (omega arith) n (400 * m) m refl in
      ap days_of_years before
      ∙ (λ i. Z.times 365 n (400 * m) i +ℤ fours i -ℤ hundreds i +ℤ periods i)
      ∙ ap (λ (z : ℤ). z -ℤ sub_ℕ (n / 100) (4 * m) +ℤ sub_ℕ (n / 400) m) (Z.add (365 * n) (365 * (400 * m)) (n / 4) (100 * m))
      ∙ ap (λ (z : ℤ). z +ℤ sub_ℕ (n / 400) m) (Z.sub (365 * n + n / 4) (365 * (400 * m) + 100 * m) (n / 100) (4 * m))
      ∙ Z.add (365 * n + n / 4 + 4 * m) (365 * (400 * m) + 100 * m + n / 100) (n / 400) m
      ∙ total (365 * n) (n / 4) (n / 100) (n / 400) (omega arith)

-- a quotient grows by one exactly where the year is divisible
module _ (d : ℕ) (some : 0 < d) (n : ℕ) where
  abbrev q : ℕ
  q = (n + 1) / d

  step : (t : Bool) → eqb ((n + 1) % d) 0 ≡ t → (n + 1) / d ≡ n / d + cond t 1 0
  step true e =
      let z : (n + 1) % d ≡ 0 = eqb-true ((n + 1) % d) 0 e in
      let w : d * q + (n + 1) % d ≡ n + 1 = div-add-mod (n + 1) d in
      let one : q ≡ suc (q - 1) = by_zero q (λ g. let h : d * q ≡ 0 = ap (λ (x : ℕ). d * x) g ∙ mul-zero d in omega arith) in
      let u : d * q ≡ d * (q - 1) + d = ap (λ (x : ℕ). d * x) one ∙ mul-suc d (q - 1) in
      let v : n ≡ d * (q - 1) + (d - 1) = omega arith in
      let l : d - 1 < d = omega arith in
      let h : n / d ≡ (q - 1) + (d - 1) / d = ap (λ (x : ℕ). x / d) v ∙ mul-add-div some (q - 1) (d - 1) in
      omega (arith, div-eq_of_lt l)
  step false e =
      let f : (n + 1) % d ≡ 0 → ⊥ = eqb-false ((n + 1) % d) 0 e in
      let w : d * q + (n + 1) % d ≡ n + 1 = div-add-mod (n + 1) d in
      let v : n ≡ d * q + ((n + 1) % d - 1) = omega arith in
      let l : (n + 1) % d - 1 < d = omega (arith, mod-lt (n + 1) some) in
      let h : n / d ≡ q + ((n + 1) % d - 1) / d = ap (λ (x : ℕ). x / d) v ∙ mul-add-div some q ((n + 1) % d - 1) in
      omega (arith, div-eq_of_lt l)

-- the next year's days
module _ (n : ℕ) where
  sum : (x y z a b e l : ℕ) → y ≤ 365 * n + x → b ≤ 1 → a + e + 365 ≡ b + l → 365 * (n + 1) + (x + a) - (y + b) + (z + e) ≡ 365 * n + x - y + z + l
  sum x y z a b e l h o g = omega arith

  at_most_one : (t : Bool) → cond t 1 0 ≤ 1
  at_most_one true = omega arith
  at_most_one false = omega arith

  by_tests : (s t u : Bool) → eqb ((n + 1) % 4) 0 ≡ s → eqb ((n + 1) % 100) 0 ≡ t → eqb ((n + 1) % 400) 0 ≡ u
      → cond s 1 0 + cond u 1 0 + 365 ≡ cond t 1 0 + cond (s && not t || u) 366 365
  by_tests true true true p r v = refl
  by_tests true true false p r v = refl
  by_tests true false true p r v = absurd (eqb-false ((n + 1) % 100) 0 r (let w = eqb-true ((n + 1) % 400) 0 v in omega arith))
  by_tests true false false p r v = refl
  by_tests false true u p r v = absurd (eqb-false ((n + 1) % 4) 0 p (let w = eqb-true ((n + 1) % 100) 0 r in omega arith))
  by_tests false false true p r v = absurd (eqb-false ((n + 1) % 4) 0 p (let w = eqb-true ((n + 1) % 400) 0 v in omega arith))
  by_tests false false false p r v = refl

  pub days_step : days_of (n + 1) ≡ days_of n + cond (leap_number (n + 1)) 366 365
  unfolding days_of leap_number
  days_step =
      rw (step 4 (omega arith) n _ refl, step 100 (omega arith) n _ refl, step 400 (omega arith) n _ refl)
      (sum (n / 4) (n / 100) (n / 400) _ _ _ _ (omega arith) (at_most_one (eqb ((n + 1) % 100) 0)) (by_tests _ _ _ refl refl refl))

-- The count starts at 1 January 0001, and grows by each year's length: so it is the count of days.
pub starts : new_year (pos 1) ≡ pos 0
unfolding new_year days_of_years quotient
starts = refl

pub grows : (y : ℤ) → new_year (y +ℤ pos 1) ≡ new_year y +ℤ pos (year_length_of y)
unfolding year_length_of
grows =
    every-year (λ (y : ℤ). new_year (y +ℤ pos 1) ≡ new_year y +ℤ pos (cond (leap_of y) 366 365))
    (λ n m.
    ap new_year (next n m)
    ∙ days_at (n + 1) m
    ∙ ap (λ (k : ℕ). sub_ℕ k (146097 * m)) (days_step n)
    ∙ sym ((λ i. days_at n m i +ℤ pos (cond (leap_at (n + 1) m i) 366 365)) ∙ Z.add-pos (days_of n) (146097 * m) (cond (leap_number (n + 1)) 366 365)))

-- The period over the naturals: 400 k years on there are 146097 k days more, and the years are leap alike.
module _ (n k : ℕ) where
  whole : (x y z : ℕ) → y ≤ 365 * n + x → 365 * (n + 400 * k) + (100 * k + x) - (4 * k + y) + (k + z) ≡ 365 * n + x - y + z + 146097 * k
  whole x y z h = omega arith

  pub days_period : days_of (n + 400 * k) ≡ days_of n + 146097 * k
  unfolding days_of
  days_period =
      let fours : (n + 400 * k) / 4 ≡ 100 * k + n / 4 = omega arith in
      let hundreds : (n + 400 * k) / 100 ≡ 4 * k + n / 100 = omega arith in
      let periods : (n + 400 * k) / 400 ≡ k + n / 400 = omega arith in
      rw (fours, hundreds, periods) (whole (n / 4) (n / 100) (n / 400) (omega arith))

  pub leap_number_period : leap_number (n + 400 * k) ≡ leap_number n
  unfolding leap_number
  leap_number_period =
      let four : (n + 400 * k) % 4 ≡ n % 4 = omega arith in
      let hundred : (n + 400 * k) % 100 ≡ n % 100 = omega arith in
      let period : (n + 400 * k) % 400 ≡ n % 400 = omega arith in
      rw (four, hundred, period)

-- 400 k years on, the years are leap alike, negative years too.
pub leap_period : (y : ℤ) (k : ℕ) → leap_of (y +ℤ pos (400 * k)) ≡ leap_of y
leap_period y k =
    every-year (λ (y : ℤ). leap_of (y +ℤ pos (400 * k)) ≡ leap_of y)
    (λ n m.
    ap leap_of (later n m k)
    ∙ leap_at (n + 400 * k + 1) m
    ∙ ap leap_number (swap n k)
    ∙ leap_number_period (n + 1) k
    ∙ sym (leap_at (n + 1) m))
    y
