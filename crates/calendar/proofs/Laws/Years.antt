-- A `Year` and its astronomical year: which number is which year, that no two numbers are one year, and the order.
use Rattle.std.specs.Prelude.{Some, None}
use mathlib.Core.Path.{◌≡◌, refl, sym, ap, ◌∙◌}
use mathlib.Core.Bool.{Bool, true, false}
use Prim.Native.Nat.{ℕ, suc, ◌+◌, ◌-◌, ◌≤◌, ◌<◌}
use native.Mathlib.Omega.{arith}
use lib.Dec.{leb}
use lib.IntN.{ℤ, pos, negsuc, neg_ℤ, ◌+ℤ◌, sub_ℕ}
use lib.Signed.{le_z, mag}
use borrow.Author.Tests.{le-leb, lt-leb, leb-true, leb-false}
use Rattle.std.proofs.lemmas.Bool.Decides.{nat_tests}
use Rattle.std.specs.Ordering.{is_le, nat_cmp}
use Rattle.calendar.specs.declared.years.Year.{Year}
use Rattle.calendar.specs.declared.years.Distance.{Distance}
use Rattle.calendar.specs.Years.{astronomical_of, year_at, distance_of, in32}
use Rattle.calendar.proofs.Laws.Integers as Z

-- The number of the year 0000.
abbrev pub zero_year : ℕ
zero_year = 4294967600

module _ (year : Year) where
  -- the year k, and the year -(k + 1)
  pub from_zero : (k : ℕ) → year.number ≡ zero_year + k → astronomical_of year ≡ pos k
  unfolding astronomical_of
  from_zero k e = Z.is_pos year.number zero_year k e

  pub below-zero : (k : ℕ) → year.number + suc k ≡ zero_year → astronomical_of year ≡ negsuc k
  unfolding astronomical_of
  below-zero k e = Z.is-neg year.number zero_year k e

  -- a law for a year, from one for each of the two
  pub by_sign : (P : ℤ → Type 0) → ((k : ℕ) → year.number ≡ zero_year + k → P (pos k)) → ((k : ℕ) → year.number + suc k ≡ zero_year → P (negsuc k))
      → P (astronomical_of year)
  unfolding astronomical_of
  by_sign P p n = Z.by_form P year.number zero_year p n

same_test : (a b d e : ℕ) (t : Bool) → leb d e ≡ t → (d ≤ e → a ≤ b) → (e < d → b < a) → leb a b ≡ leb d e
same_test a b d e true h p q = le-leb a b (p (leb-true d e h)) ∙ sym h
same_test a b d e false h p q = lt-leb a b (q (leb-false d e h)) ∙ sym h

-- Years are ordered as their numbers are.
pub order : (a b : Year) → le_z (astronomical_of a) (astronomical_of b) ≡ leb a.number b.number
order a b =
    by_sign a (λ (x : ℤ). le_z x (astronomical_of b) ≡ leb a.number b.number)
    (λ j p. by_sign b (λ (y : ℤ). le_z (pos j) y ≡ leb a.number b.number)
    (λ k q. same_test j k a.number b.number _ refl (λ h. omega arith) (λ h. omega arith))
    (λ k q. sym (lt-leb a.number b.number (omega arith))))
    (λ j p. by_sign b (λ (y : ℤ). le_z (negsuc j) y ≡ leb a.number b.number)
    (λ k q. sym (le-leb a.number b.number (omega arith)))
    (λ k q. same_test k j a.number b.number _ refl (λ h. omega arith) (λ h. omega arith)))

number_test : (a b : ℕ) → is_le (nat_cmp a b) ≡ leb a b
number_test a b = grind (arith, nat_tests)

-- Years are compared by their numbers.
pub order_test : (a b : Year) → is_le (nat_cmp a.number b.number) ≡ le_z (astronomical_of a) (astronomical_of b)
order_test a b = rw (order a b) (number_test a.number b.number)

-- Years and astronomical years give each other back.
pub year_back : (year : Year) → year_at (astronomical_of year) ≡ year
unfolding year_at
year_back year =
    by_sign year (λ (y : ℤ). year_at y ≡ year)
    (λ k e. λ i. record { number = sym e i })
    (λ k e. let n : zero_year - suc k ≡ year.number = omega arith in λ i. record { number = n i })

pub year-at : (y : ℤ) → mag y < zero_year → astronomical_of (year_at y) ≡ y
unfolding year_at
year-at (pos k) h = from_zero (record { number = zero_year + k }) k refl
year-at (negsuc k) h = below-zero (record { number = zero_year - suc k }) k (omega arith)

pub year_is : (year : Year) (y : ℤ) → astronomical_of year ≡ y → year ≡ year_at y
year_is year y e = sym (year_back year) ∙ ap year_at e

-- Two years of one astronomical year are one year.
pub one_year : (a b : Year) → astronomical_of a ≡ astronomical_of b → a ≡ b
one_year a b e = year_is a (astronomical_of b) e ∙ year_back b

-- The year at a distance, so that a distance is that of one year.
abbrev pub at_distance : Distance → ℤ
at_distance (Distance.Since years) = pos years
at_distance (Distance.Before years) = neg_ℤ (pos years)

pub distance_back : (y : ℤ) → at_distance (distance_of y) ≡ y
distance_back (pos k) = refl
distance_back (negsuc k) = refl

-- The years from 0000 on lie since it, so that 0000 is not before itself.
pub distance_since : (k : ℕ) → distance_of (pos k) ≡ Distance.Since k
distance_since k = refl

-- The years below 0000 lie before it.
pub distance_before : (k : ℕ) → distance_of (negsuc k) ≡ Distance.Before (suc k)
distance_before k = refl

-- 32 bits hold the years whose magnitude, `mag`, is below 2147483648, and no others; the magnitude of -(k + 1) is k.
pub in32-within : (y : ℤ) → mag y < 2147483648 → in32 y ≡ Some y
unfolding in32
in32-within (pos k) h = simp (le-leb k 2147483647 (omega arith))
in32-within (negsuc k) h = simp (le-leb k 2147483647 (omega arith))

pub in32_outside : (y : ℤ) → 2147483648 ≤ mag y → in32 y ≡ None
unfolding in32
in32_outside (pos k) h = simp (lt-leb k 2147483647 (omega arith))
in32_outside (negsuc k) h = simp (lt-leb k 2147483647 (omega arith))

-- The years of a magnitude below 2147483648 are those of the numbers 2147483952 to 6442451247.
module _ (year : Year) where
  pub size_within : 2147483952 ≤ year.number → year.number ≤ 6442451247 → mag (astronomical_of year) < 2147483648
  size_within l h = by_sign year (λ (y : ℤ). mag y < 2147483648) (λ k e. omega arith) (λ k e. omega arith)

  pub size_below : year.number < 2147483952 → 2147483648 ≤ mag (astronomical_of year)
  size_below l = by_sign year (λ (y : ℤ). 2147483648 ≤ mag y) (λ k e. absurd (let z : ◌≡◌ {A = ℕ} 0 1 = omega arith in omega arith)) (λ k e. omega arith)

  pub size_above : 6442451247 < year.number → 2147483648 ≤ mag (astronomical_of year)
  size_above l = by_sign year (λ (y : ℤ). 2147483648 ≤ mag y) (λ k e. omega arith) (λ k e. omega arith)

-- A 32-bit year moved up by k.
pub record Shifted (k : ℕ) (y : ℤ) : Type 0 where
  pub number : ℕ
  pub sum : y +ℤ pos k ≡ pos number
  pub small : number < k + 2147483648
  pub back : sub_ℕ number k ≡ y

pub shifted : (k : ℕ) (y : ℤ) → 2147483648 ≤ k → mag y < 2147483648 → Shifted k y
shifted k (pos n) l h = record { number = n + k; sum = refl; small = omega arith; back = Z.is_pos (n + k) k n (omega arith) }
shifted k (negsuc n) l h =
    record { number = k - suc n; sum = Z.is_pos k (suc n) (k - suc n) (omega arith); small = omega arith; back = Z.is-neg (k - suc n) k n (omega arith) }
