-- Fields: their widths, their bits one after the other, and the reading of one.
use mathlib.Core.Path.{◌≡◌, refl, sym, ap, ap₂, ◌∙◌, subst}
use mathlib.Core.Bool.{Bool, true, false, cond}
use mathlib.Core.List.{List, [], ◌∷◌, ◌++◌, append_assoc}
use Prim.Native.Nat.{ℕ, zero, suc, ◌+◌, ◌-◌, ◌*◌, ◌/◌, ◌^◌, ◌≤◌, ◌<◌, zero-le, suc-le-suc}
use native.Mathlib.Nat.{pow-suc, mod-eq_of_lt, zero-lt-suc, le_refl, lt_of_lt_of_le, add_assoc}
use native.Mathlib.Omega.{arith}
use lib.Arith.{half_le}
use lib.Dec.{leb, ltb}
use lib.IntN.{ℤ}
use lib.ListN.{length, take, drop, length-append, take-append-drop}
use lib.Seq.{drop_at}
use borrow.Author.Tests.{le-leb, lt-ltb, leb-true, ltb-true}
use Rattle.octets.specs.Found.{Found, found, nothing, onward}
use Rattle.octets.proofs.Laws.Found.{nothing-not, found-value, found-rest}
use Rattle.fields.specs.Bits.{BitString, bits_of, number_in}
use Rattle.fields.specs.Integers.{within, fewest, twos, from_twos}
use Rattle.fields.specs.Fields.{Field, Ranged, Free, binary_digits, width, field_bits, layout, field_width, bit_count}
use Rattle.fields.specs.Readings.{read_bits, read_ranged, read_free}
use Rattle.fields.proofs.Laws.Bits.{length-bits, number_bits, number_lt, bits_number}
use Rattle.fields.proofs.Laws.Integers.{twos_back, twos-fits, from_within, from_back, fewest_range}

-- ---- the width of a range is enough, and the least

digits_enough : (f n : ℕ) → n ≤ f → n < 2 ^ binary_digits f n
unfolding binary_digits
digits_enough zero n h = omega arith
digits_enough (suc f) zero h = lt_of_lt_of_le (zero-lt-suc 0) (le_refl 1)
digits_enough (suc f) (suc n) h =
    let ih : suc n / 2 < 2 ^ binary_digits f (suc n / 2) = digits_enough f (suc n / 2) (half_le h) in
    rw (pow-suc 2 (binary_digits f (suc n / 2))) (omega arith)

digits_least : (f n w : ℕ) → n < 2 ^ w → binary_digits f n ≤ w
unfolding binary_digits
digits_least zero n w h = zero-le
digits_least (suc f) zero w h = zero-le
digits_least (suc f) (suc n) zero h = absurd (omega arith)
digits_least (suc f) (suc n) (suc w) h =
    let k : suc n < 2 ^ w * 2 = subst (λ (x : ℕ). suc n < x) (pow-suc 2 w) h in
    suc-le-suc (digits_least f (suc n / 2) w (omega arith))

pub width_enough : (r v : ℕ) → v < r → v < 2 ^ width r
unfolding width
width_enough r v h = let b : r - 1 < 2 ^ width r = digits_enough (r - 1) (r - 1) (le_refl (r - 1)) in omega arith

pub width_least : (r w : ℕ) → 0 < r → r ≤ 2 ^ w → width r ≤ w
unfolding width
width_least r w p h = digits_least (r - 1) (r - 1) w (omega arith)

-- ---- the bits of fields

pub length-ranged : (r v : ℕ) → length (field_bits (Ranged r v)) ≡ width r
unfolding field_bits
length-ranged r v = length-bits (width r) v

pub length-free : (z : ℤ) → length (field_bits (Free z)) ≡ 8 + 8 * fewest z
unfolding field_bits
length-free z =
    length-append (bits_of 8 (fewest z)) (bits_of (8 * fewest z) (twos (fewest z) z))
    ∙ ap₂ (λ (m n : ℕ). m + n) (length-bits 8 (fewest z)) (length-bits (8 * fewest z) (twos (fewest z) z))

pub length_field : (f : Field) → length (field_bits f) ≡ field_width f
unfolding field_width
length_field (Ranged r v) = length-ranged r v
length_field (Free z) = length-free z

-- The bit count is the plain sum of the widths.
pub length-layout : (fs : List Field) → length (layout fs) ≡ bit_count fs
unfolding layout bit_count
length-layout [] = refl
length-layout (f ∷ fs) = length-append (field_bits f) (layout fs) ∙ ap₂ (λ (m n : ℕ). m + n) (length_field f) (length-layout fs)

pub layout-append : (fs gs : List Field) → layout (fs ++ gs) ≡ layout fs ++ layout gs
unfolding layout
layout-append [] gs = refl
layout-append (f ∷ fs) gs = ap (λ (r : BitString). field_bits f ++ r) (layout-append fs gs) ∙ sym (append_assoc (field_bits f) (layout fs) (layout gs))

pub count-append : (fs gs : List Field) → bit_count (fs ++ gs) ≡ bit_count fs + bit_count gs
unfolding bit_count
count-append [] gs = omega arith
count-append (f ∷ fs) gs = ap (λ (n : ℕ). field_width f + n) (count-append fs gs) ∙ sym (add_assoc (field_width f) (bit_count fs) (bit_count gs))

-- A free integer (an unconstrained whole number) takes 16 to 40 bits.
pub free-width : (z : ℤ) → (16 ≤ field_width (Free z)) × (field_width (Free z) ≤ 40)
unfolding field_width
free-width z = (omega (arith, (fewest_range z).0), omega (arith, (fewest_range z).1))

-- ---- a number of w bits, read where it was written; and what was read, stood there

pub read-bits : (w v : ℕ) (s : BitString) → v < 2 ^ w → read_bits w (bits_of w v ++ s) ≡ found v s
unfolding read_bits
read-bits w v s h =
    let l = length-bits w v in
    let n : w ≤ length (bits_of w v ++ s) = rw (length-append, l) (omega arith) in
    simp (le-leb _ _ n, number_bits, mod-eq_of_lt h, drop_at (bits_of w v) s w l)

pub read_bits_only : (w : ℕ) (s : BitString) (v : ℕ) (t : BitString) → read_bits w s ≡ found v t → (v < 2 ^ w) × (s ≡ bits_of w v ++ t)
unfolding read_bits
read_bits_only w s v t = go (leb w (length s)) refl
  where
    go : (b : Bool) → leb w (length s) ≡ b → cond b (found (number_in w s) (drop w s)) nothing ≡ found v t → (v < 2 ^ w) × (s ≡ bits_of w v ++ t)
    go true b e =
        let q : number_in w s ≡ v = found-value e in
        let p : drop w s ≡ t = found-rest e in
        let n : bits_of w v ≡ take w s = ap (bits_of w) (sym q) ∙ bits_number w s (leb-true w (length s) b) in
        (subst (λ (k : ℕ). k < 2 ^ w) q (number_lt w s), sym (ap₂ (λ (a b : BitString). a ++ b) n (sym p) ∙ take-append-drop w s))
    go false b e = nothing-not e

-- ---- a number of a range (a constrained whole number)

pub read-ranged : (r v : ℕ) (s : BitString) → v < r → read_ranged r (bits_of (width r) v ++ s) ≡ found v s
unfolding read_ranged
read-ranged r v s h = simp (read-bits (width r) v s (width_enough r v h), lt-ltb v r h)

pub read_ranged_only : (r : ℕ) (s : BitString) (v : ℕ) (t : BitString) → read_ranged r s ≡ found v t → (v < r) × (s ≡ bits_of (width r) v ++ t)
unfolding read_ranged
read_ranged_only r s v t = go (read_bits (width r) s) refl
  where
    test : (n : ℕ) (u : BitString) → read_bits (width r) s ≡ found n u → (b : Bool) → ltb n r ≡ b → cond b (found n u) nothing ≡ found v t
        → (v < r) × (s ≡ bits_of (width r) v ++ t)
    test n u q true b e =
        (subst (λ (k : ℕ). k < r) (found-value e) (ltb-true n r b), (read_bits_only (width r) s v t (q ∙ e)).1)
    test n u q false b e = nothing-not e

    go : (g : Found Bool ℕ) → read_bits (width r) s ≡ g → onward g (λ n u. cond (ltb n r) (found n u) nothing) ≡ found v t
        → (v < r) × (s ≡ bits_of (width r) v ++ t)
    go nothing q e = nothing-not e
    go (found n u) q e = test n u q (ltb n r) refl e

-- ---- a free integer, in any of 1 to 4 octets that hold it

pub read-free : (n : ℕ) (z : ℤ) (s : BitString) → 1 ≤ n → n ≤ 4 → within n z ≡ true → read_free (bits_of 8 n ++ (bits_of (8 * n) (twos n z) ++ s)) ≡ found z s
unfolding read_free
read-free n z s l h w =
    let m : n < 2 ^ 8 = omega arith in
    simp (
      read-bits 8 n (bits_of (8 * n) (twos n z) ++ s) m,
      le-leb 1 n l,
      le-leb n 4 h,
      read-bits (8 * n) (twos n z) s (twos-fits n z l w),
      twos_back n z l w,
    )

-- The octets that a free integer was read from.
pub record InOctets (s : BitString) (z : ℤ) (t : BitString) : Type 0 where
  pub octets : ℕ
  pub some : 1 ≤ octets
  pub few : octets ≤ 4
  pub holds : within octets z ≡ true
  pub stood : s ≡ bits_of 8 octets ++ (bits_of (8 * octets) (twos octets z) ++ t)

pub read_free_only : (s : BitString) (z : ℤ) (t : BitString) → read_free s ≡ found z t → InOctets s z t
unfolding read_free
read_free_only s z t = first (read_bits 8 s) refl
  where
    last : (n : ℕ) (u : BitString) → read_bits 8 s ≡ found n u → leb 1 n ≡ true → leb n 4 ≡ true
        → (g : Found Bool ℕ) → read_bits (8 * n) u ≡ g → onward g (λ k u. found (from_twos n k) u) ≡ found z t → InOctets s z t
    last n u q l h nothing p e = nothing-not e
    last n u q l h (found k v) p e =
        let one : 1 ≤ n = leb-true 1 n l in
        let a = read_bits_only 8 s n u q in
        let b = read_bits_only (8 * n) u k v p in
        let f : from_twos n k ≡ z = found-value e in
        let y : twos n z ≡ k = ap (twos n) (sym f) ∙ from_back n k one b.0 in
        record {
          octets = n;
          some = one;
          few = leb-true n 4 h;
          holds = subst (λ (x : ℤ). within n x ≡ true) f (from_within n k one b.0);
          stood = a.1 ∙ ap (λ (r : BitString). bits_of 8 n ++ r) (b.1 ∙ ap₂ (λ (x : ℕ) (r : BitString). bits_of (8 * n) x ++ r) (sym y) (found-rest e));
        }

    high : (n : ℕ) (u : BitString) → read_bits 8 s ≡ found n u → leb 1 n ≡ true → (b : Bool) → leb n 4 ≡ b
        → cond b (onward (read_bits (8 * n) u) (λ k u. found (from_twos n k) u)) nothing ≡ found z t → InOctets s z t
    high n u q l true h e = last n u q l h (read_bits (8 * n) u) refl e
    high n u q l false h e = nothing-not e

    low : (n : ℕ) (u : BitString) → read_bits 8 s ≡ found n u → (b : Bool) → leb 1 n ≡ b
        → cond b (cond (leb n 4) (onward (read_bits (8 * n) u) (λ k u. found (from_twos n k) u)) nothing) nothing ≡ found z t → InOctets s z t
    low n u q true l e = high n u q l (leb n 4) refl e
    low n u q false l e = nothing-not e

    first : (g : Found Bool ℕ) → read_bits 8 s ≡ g
        → onward g (λ n u. cond (leb 1 n) (cond (leb n 4) (onward (read_bits (8 * n) u) (λ k u. found (from_twos n k) u)) nothing) nothing) ≡ found z t
        → InOctets s z t
    first nothing q e = nothing-not e
    first (found n u) q e = low n u q (leb 1 n) refl e
