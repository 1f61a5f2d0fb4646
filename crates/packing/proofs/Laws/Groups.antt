-- Numbers joined, free integers, and the layouts of few fields.
use mathlib.Core.Path.{◌≡◌, refl, sym, ap, ap₂, ◌∙◌, subst}
use mathlib.Core.Logic.{◌≢◌}
use mathlib.Core.List.{List, [], ◌∷◌, ◌++◌, append-nil}
use Prim.Native.Nat.{ℕ, zero, suc, ◌+◌, ◌-◌, ◌*◌, ◌/◌, ◌^◌, ◌≤◌, ◌<◌}
use native.Mathlib.Nat.{lt_of_lt_of_le, lt_of_le_of_lt, le-add_right}
use native.Mathlib.Omega.{arith}
use borrow.Author.Tests.{lt-ltb, le-ltb}
use lib.Arith.{digits_lt}
use lib.IntN.{ℤ, pos, negsuc}
use lib.Pow.{pow-add, pow_mono}
use Rattle.answers.specs.Counts.{octets_for}
use Rattle.answers.specs.declared.counts.Bits.{Bits}
use Rattle.calendar.specs.Years.{distance_of}
use Rattle.calendar.specs.declared.years.Distance.{Distance}
use Rattle.fields.specs.Bits.{BitString, bits_of}
use Rattle.fields.specs.Integers.{half, within as inOctets, fewest, twos}
use Rattle.fields.specs.Fields.{Field, Ranged, Free, field_bits, layout}
use Rattle.fields.proofs.Laws.Bits.{bits_join}
use Rattle.rows.specs.Fields.{other_year, choice_of_year, long_fraction, fraction_fields, difference_fields}
use Rattle.packing.specs.Groups.{integer_bits}

-- ---- a number of a bits and then one of b bits, as the code joins them

module _ (a b x y p : ℕ) (e : p ≡ 2 ^ b) (high : x < 2 ^ a) (low : y < 2 ^ b) where
  pub joined-lt : x * p + y < 2 ^ (a + b)
  joined-lt = subst (λ (n : ℕ). x * n + y < 2 ^ (a + b)) (sym e) (rw (pow-add 2 a b) (digits_lt high low))

  pub joined-fits : a + b ≤ 64 → x * p + y < 2 ^ 64
  joined-fits h = lt_of_lt_of_le joined-lt (pow_mono {i = a + b} {j = 64} h)

  pub shifted_fits : a + b ≤ 64 → x * p < 2 ^ 64
  shifted_fits h = lt_of_le_of_lt (le-add_right (x * p) y) (joined-fits h)

  pub joined-bits : bits_of (a + b) (x * p + y) ≡ bits_of a x ++ bits_of b y
  joined-bits = ap (λ (n : ℕ). bits_of (a + b) (x * n + y)) e ∙ bits_join a b x y low

-- ---- free integers

-- Their width, 8 to 32 bits.
module _ (n : ℕ) where
  pub width_8 : n < 128 → integer_bits n ≡ 8
  unfolding integer_bits fewest inOctets half
  width_8 h = simp (lt-ltb n 128 h)

  pub width_16 : 128 ≤ n → n < 32768 → integer_bits n ≡ 16
  unfolding integer_bits fewest inOctets half
  width_16 l h = simp (le-ltb n 128 l, lt-ltb n 32768 h)

  pub width_24 : 32768 ≤ n → n < 8388608 → integer_bits n ≡ 24
  unfolding integer_bits fewest inOctets half
  width_24 l h =
      let m : 128 ≤ n = omega arith in
      simp (le-ltb n 128 m, le-ltb n 32768 l, lt-ltb n 8388608 h)

  pub width_32 : 8388608 ≤ n → integer_bits n ≡ 32
  unfolding integer_bits fewest inOctets half
  width_32 l =
      let m : 128 ≤ n = omega arith in
      let k : 32768 ≤ n = omega arith in
      simp (le-ltb n 128 m, le-ltb n 32768 k, le-ltb n 8388608 l)

free-bits : (z : ℤ) (w : Bits) (v : ℕ) → w.count ≡ 8 * fewest z → v ≡ twos (fewest z) z
    → bits_of 8 (octets_for w).count ++ bits_of w.count v ≡ field_bits (Free z)
unfolding octets_for field_bits
free-bits z w v e f =
    let k : (8 * fewest z + 7) / 8 ≡ fewest z = omega arith in
    ap₂ (λ (m n : ℕ). bits_of 8 ((m + 7) / 8) ++ bits_of m n) e f
    ∙ ap (λ (m : ℕ). bits_of 8 m ++ bits_of (8 * fewest z) (twos (fewest z) z)) k

pub integer-bits : (n : ℕ) (w : Bits) → w.count ≡ integer_bits n → bits_of 8 (octets_for w).count ++ bits_of w.count n ≡ field_bits (Free (pos n))
unfolding integer_bits twos
integer-bits n w e = free-bits (pos n) w n e refl

pub negative_bits : (n : ℕ) (w : Bits) (p v : ℕ) → w.count ≡ integer_bits n → p ≡ 2 ^ w.count → v ≡ p - 1 - n
    → bits_of 8 (octets_for w).count ++ bits_of w.count v ≡ field_bits (Free (negsuc n))
unfolding integer_bits fewest inOctets twos
negative_bits n w p v e f g =
    let k : v ≡ 2 ^ w.count - suc n = omega arith in
    free-bits (negsuc n) w v e (k ∙ ap (λ (m : ℕ). 2 ^ m - suc n) e)

-- ---- bits that are the layout of one field, two and three, by the groups that they were joined from

module _ {l : List Field} {f : Field} {bs : BitString} where
  pub one_field : l ≡ f ∷ [] → bs ≡ field_bits f → bs ≡ layout l
  unfolding layout
  one_field e a = a ∙ sym (ap layout e ∙ append-nil (field_bits f))

  module _ {g : Field} {xs ys : BitString} where
    pub two_fields : l ≡ f ∷ g ∷ [] → bs ≡ xs ++ ys → xs ≡ field_bits f → ys ≡ field_bits g → bs ≡ layout l
    unfolding layout
    two_fields e j a b = j ∙ ap₂ ◌++◌ a (b ∙ sym (append-nil (field_bits g))) ∙ sym (ap layout e)

    pub three-fields : {h : Field} {zs rest : BitString} → l ≡ f ∷ g ∷ h ∷ [] → bs ≡ xs ++ rest → xs ≡ field_bits f
        → rest ≡ ys ++ zs → ys ≡ field_bits g → zs ≡ field_bits h → bs ≡ layout l
    unfolding layout
    three-fields {h} e j a k b d = j ∙ ap₂ ◌++◌ a (k ∙ ap₂ ◌++◌ b (d ∙ sym (append-nil (field_bits h)))) ∙ sym (ap layout e)

-- ---- the fraction's and the difference's fields by the code's tests

pub no_fraction_lem : (n f : ℕ) → n ≡ 0 → layout (fraction_fields n f) ≡ []
unfolding fraction_fields layout
no_fraction_lem zero f e = refl
no_fraction_lem (suc n) f e = absurd (omega arith)

pub short-fraction : (n f : ℕ) → n ≢ 0 → f < 1000 → fraction_fields n f ≡ Ranged 2 0 ∷ Ranged 1000 f ∷ []
unfolding fraction_fields
short-fraction zero f e h = absurd (e refl)
short-fraction (suc n) f e h = rw (lt-ltb f 1000 h)

pub long-fraction : (n f : ℕ) → n ≢ 0 → 1000 ≤ f → fraction_fields n f ≡ Ranged 2 1 ∷ Free (pos f) ∷ []
unfolding fraction_fields long_fraction
long-fraction zero f e h = absurd (e refl)
long-fraction (suc n) f e h = rw (le-ltb f 1000 h)

pub no_minutes : (h m : ℕ) → m ≡ 0 → difference_fields h m ≡ Ranged 2 0 ∷ Ranged 32 h ∷ []
unfolding difference_fields
no_minutes h zero e = refl
no_minutes h (suc m) e = absurd (omega arith)

pub some_minutes : (h m : ℕ) → m ≢ 0 → difference_fields h m ≡ Ranged 2 1 ∷ Ranged 32 h ∷ Ranged 59 (m - 1) ∷ []
unfolding difference_fields
some_minutes h zero e = absurd (e refl)
some_minutes h (suc m) e = let k : m ≡ suc m - 1 = omega arith in ap (λ (n : ℕ). Ranged 2 1 ∷ Ranged 32 h ∷ Ranged 59 n ∷ []) k

-- ---- the fields of a year since the year 0000, by the years of each choice

module _ (n : ℕ) where
  pub choice_0 : 2005 ≤ n → n < 2021 → choice_of_year (pos n) ≡ Ranged 4 0 ∷ Ranged 16 (n - 2005) ∷ []
  unfolding choice_of_year
  choice_0 l h =
      let k : 1749 ≤ n = omega arith in
      simp (le-ltb n 1749 k, le-ltb n 2005 l, lt-ltb n 2021 h)

  pub choice_1 : 2021 ≤ n → n < 2277 → choice_of_year (pos n) ≡ Ranged 4 1 ∷ Ranged 256 (n - 2021) ∷ []
  unfolding choice_of_year
  choice_1 l h =
      let k : 1749 ≤ n = omega arith in
      let m : 2005 ≤ n = omega arith in
      simp (le-ltb n 1749 k, le-ltb n 2005 m, le-ltb n 2021 l, lt-ltb n 2277 h)

  pub choice_2 : 1749 ≤ n → n < 2005 → choice_of_year (pos n) ≡ Ranged 4 2 ∷ Ranged 256 (n - 1749) ∷ []
  unfolding choice_of_year
  choice_2 l h = simp (le-ltb n 1749 l, lt-ltb n 2005 h)

  pub choice_3_early : n < 1749 → choice_of_year (pos n) ≡ Ranged 4 3 ∷ Free (pos n) ∷ []
  unfolding choice_of_year other_year
  choice_3_early h = simp (lt-ltb n 1749 h)

  pub choice_3_late : 2277 ≤ n → choice_of_year (pos n) ≡ Ranged 4 3 ∷ Free (pos n) ∷ []
  unfolding choice_of_year other_year
  choice_3_late l =
      let k : 1749 ≤ n = omega arith in
      let m : 2005 ≤ n = omega arith in
      let o : 2021 ≤ n = omega arith in
      simp (le-ltb n 1749 k, le-ltb n 2005 m, le-ltb n 2021 o, le-ltb n 2277 l)

-- ---- the year by its distance from the year 0000

pub is_since : {d : Distance} {n : ℕ} (z : ℤ) → d ≡ distance_of z → d ≡ Distance.Since n → z ≡ pos n
is_since {d} {n} (pos k) e h = let q : k ≡ n = cc in ap pos q
is_since (negsuc k) e h = absurd (let q : ◌≡◌ {A = ℕ} 0 1 = cc in omega arith)

pub is_before : {d : Distance} {n m : ℕ} (z : ℤ) → d ≡ distance_of z → d ≡ Distance.Before n → m ≡ n - 1 → z ≡ negsuc m
is_before (pos k) e h l = absurd (let q : ◌≡◌ {A = ℕ} 0 1 = cc in omega arith)
is_before {d} {n} {m} (negsuc k) e h l =
    let q : suc k ≡ n = cc in
    let r : k ≡ m = omega arith in
    ap negsuc r
