-- Month lengths: what the table says of each month, and that the months fill the year.
use mathlib.Core.Path.{◌≡◌, refl, ap, ◌∙◌}
use mathlib.Core.Bool.{Bool, true, false, ◌&&◌, cond}
use mathlib.Core.List.{List, [], ◌∷◌}
use Prim.Native.Nat.{ℕ, zero, suc, ◌+◌, ◌-◌, ◌≤◌, ◌<◌}
use native.Mathlib.Omega.{arith}
use lib.Dec.{leb}
use lib.IntN.{ℤ}
use lib.ListN.{length, get_or, get_or-eq_default}
use mir.Val.{bool_byte}
use borrow.Author.Tests.{leb-true}
use Rattle.octets.proofs.Laws.Cases.{both}
use Rattle.calendar.specs.Years.{leap_of, year_length_of}
use Rattle.calendar.specs.Months.{common_row, leap_row, month_length_of}

-- A month's place in its row.
pub month_at : (y : ℤ) (k : ℕ) → 1 ≤ k → month_length_of y k ≡ get_or (cond (leap_of y) leap_row common_row) (k - 1) 0
unfolding month_length_of
month_at y zero h = absurd (let z : ◌≡◌ {A = ℕ} 0 1 = omega arith in omega arith)
month_at y (suc k) h = ap (λ (m : ℕ). get_or (cond (leap_of y) leap_row common_row) m 0) (omega arith)

-- The row of the table, by its place: 1 for a leap year.
pub row_there : (leap : Bool) (k : ℕ) → get_or (get_or (common_row ∷ leap_row ∷ []) (bool_byte leap) []) k 0 ≡ get_or (cond leap leap_row common_row) k 0
row_there true k = refl
row_there false k = refl

-- There is no month 0 and none above 12.
pub no_month_0 : (y : ℤ) (k : ℕ) → k ≡ 0 → month_length_of y k ≡ 0
unfolding month_length_of
no_month_0 y k e = ap (month_length_of y) e

past : (leap : Bool) (k : ℕ) → 12 ≤ k → get_or (cond leap leap_row common_row) k 0 ≡ 0
past true k h = get_or-eq_default leap_row 0 h
past false k h = get_or-eq_default common_row 0 h

pub no_month_above : (y : ℤ) (k : ℕ) → 12 < k → month_length_of y k ≡ 0
no_month_above y k h = month_at y k (omega arith) ∙ past (leap_of y) (k - 1) (omega arith)

-- A rule of the table, by one computed test.
within : ℕ → ℕ → List ℕ → Bool
within low high [] = true
within low high (x ∷ l) = (leb low x && leb x high) && within low high l

at : (low high : ℕ) (l : List ℕ) → within low high l ≡ true → (k : ℕ) → k < length l → (low ≤ get_or l k 0) × (get_or l k 0 ≤ high)
unfolding within
at low high [] e k h = absurd (let z : ◌≡◌ {A = ℕ} 0 1 = omega arith in omega arith)
at low high (x ∷ l) e zero h =
    let p = both (leb low x) (leb x high) (both (leb low x && leb x high) (within low high l) e).0 in
    (leb-true low x p.0, leb-true x high p.1)
at low high (x ∷ l) e (suc k) h = at low high l (both (leb low x && leb x high) (within low high l) e).1 k (omega arith)

-- A month has 28 to 31 days.
row_at : (leap : Bool) (k : ℕ) → k < 12 → (28 ≤ get_or (cond leap leap_row common_row) k 0) × (get_or (cond leap leap_row common_row) k 0 ≤ 31)
unfolding within
row_at true k h = at 28 31 leap_row refl k h
row_at false k h = at 28 31 common_row refl k h

pub month_days : (y : ℤ) (k : ℕ) → 1 ≤ k → k ≤ 12 → (28 ≤ month_length_of y k) × (month_length_of y k ≤ 31)
month_days y k l h = rw (month_at y k l) (row_at (leap_of y) (k - 1) (omega arith))

-- a row has so many days at a place
abbrev At : Bool → ℕ → ℕ → Type 0
At leap k days = get_or (cond leap leap_row common_row) k 0 ≡ days

-- The length of each month in every year, in numbers: a table whose twelve lengths add up, but in another order, is refused.
module _ (y : ℤ) where
  -- Months 1, 3, 5, 7, 8, 10 and 12 have 31 days.
  pub thirty_one_days :
      (month_length_of y 1 ≡ 31) × (month_length_of y 3 ≡ 31) × (month_length_of y 5 ≡ 31) × (month_length_of y 7 ≡ 31) ×
      (month_length_of y 8 ≡ 31) × (month_length_of y 10 ≡ 31) × (month_length_of y 12 ≡ 31)
  unfolding month_length_of
  thirty_one_days = go (leap_of y) where
    go : (leap : Bool) → At leap 0 31 × At leap 2 31 × At leap 4 31 × At leap 6 31 × At leap 7 31 × At leap 9 31 × At leap 11 31
    go true = (refl, refl, refl, refl, refl, refl, refl)
    go false = (refl, refl, refl, refl, refl, refl, refl)

  -- Months 4, 6, 9 and 11 have 30 days.
  pub thirty_days : (month_length_of y 4 ≡ 30) × (month_length_of y 6 ≡ 30) × (month_length_of y 9 ≡ 30) × (month_length_of y 11 ≡ 30)
  unfolding month_length_of
  thirty_days = go (leap_of y) where
    go : (leap : Bool) → At leap 3 30 × At leap 5 30 × At leap 8 30 × At leap 10 30
    go true = (refl, refl, refl, refl)
    go false = (refl, refl, refl, refl)

  -- Month 2 has 29 days in a leap year and 28 in any other.
  pub february_days : month_length_of y 2 ≡ cond (leap_of y) 29 28
  unfolding month_length_of
  february_days = go (leap_of y) where
    go : (leap : Bool) → At leap 1 (cond leap 29 28)
    go true = refl
    go false = refl

-- The months of a year are its days.
abbrev pub up_to_month : (ℕ → ℕ) → ℕ → ℕ
up_to_month f zero = 0
up_to_month f (suc k) = up_to_month f k + f (suc k)

pub months_fill : (y : ℤ) → up_to_month (month_length_of y) 12 ≡ year_length_of y
unfolding month_length_of year_length_of
months_fill y = go (leap_of y) where
  go : (leap : Bool) → up_to_month (λ k. get_or (cond leap leap_row common_row) (k - 1) 0) 12 ≡ cond leap 366 365
  go true = refl
  go false = refl
