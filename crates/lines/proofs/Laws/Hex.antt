-- Hex, one digit and one pair of digits at a time.
use Rattle.std.specs.Prelude.{Option, Some, None, SomeIff}
use Rattle.std.specs.Char.{digit_value}
use mathlib.Core.Logic.{◌⊎◌, ⊎_elim, inl, inr}
use Rattle.std.proofs.lemmas.Bool.{cases_lt}
use mathlib.Core.Path.{◌≡◌, refl, ap, sym, ◌∙◌}
use mathlib.Core.Bool.{true, false, false≢true, and-false}
use mathlib.Core.List.{List, [], ◌∷◌, ◌++◌, append-nil}
use Prim.Native.Nat.{ℕ, suc, ◌+◌, ◌-◌, ◌*◌, ◌/◌, ◌%◌, ◌<◌, ◌≤◌}
use native.Mathlib.Numerals.{add-one}
use native.Mathlib.Omega.{arith}
use lib.Dec.{eqb, leb, ltb}
use lib.ListN.{length, get_or, take, drop, set, drop_of_length-le}
use lib.Seq.{sets, drop-cons, take-suc-set, append_snoc}
use borrow.Author.Tests.{eqb-true, le-leb, lt-leb, lt-ltb, le-ltb}
use Rattle.line_replies.specs.Lines.{hex_digit, to_hex, hex_number, in_front, from_hex}

-- An octet is a digit, a capital, a small letter, or stands before, between or behind them.
module _ (c : ℕ) where
  pub digit_number : 48 ≤ c → c ≤ 57 → hex_number c ≡ c - 48
  unfolding hex_number
  digit_number h k = rw (le-leb 48 c h, le-leb c 57 k)

  pub capital_number : 65 ≤ c → c ≤ 70 → hex_number c ≡ c - 55
  unfolding hex_number
  capital_number h k =
      let a : leb c 57 ≡ false = lt-leb c 57 (omega arith) in
      rw (a, and-false, le-leb 65 c h, le-leb c 70 k)

  pub small_number : 97 ≤ c → c ≤ 102 → hex_number c ≡ c - 87
  unfolding hex_number
  small_number h k =
      let a : leb c 57 ≡ false = lt-leb c 57 (omega arith) in
      let b : leb c 70 ≡ false = lt-leb c 70 (omega arith) in
      rw (a, and-false, b, and-false, le-leb 97 c h, le-leb c 102 k)

  pub before_digits : c < 48 → hex_number c ≡ 16
  unfolding hex_number
  before_digits h =
      let b : leb 65 c ≡ false = lt-leb 65 c (omega arith) in
      let d : leb 97 c ≡ false = lt-leb 97 c (omega arith) in
      rw (lt-leb 48 c h, b, d)

  pub before_capitals : 57 < c → c < 65 → hex_number c ≡ 16
  unfolding hex_number
  before_capitals h k =
      let d : leb 97 c ≡ false = lt-leb 97 c (omega arith) in
      rw (lt-leb c 57 h, and-false, lt-leb 65 c k, d)

  pub before_small : 70 < c → c < 97 → hex_number c ≡ 16
  unfolding hex_number
  before_small h k =
      let a : leb c 57 ≡ false = lt-leb c 57 (omega arith) in
      rw (a, and-false, lt-leb c 70 h, and-false, lt-leb 97 c k)

  pub behind_small : 102 < c → hex_number c ≡ 16
  unfolding hex_number
  behind_small h =
      let a : leb c 57 ≡ false = lt-leb c 57 (omega arith) in
      let b : leb c 70 ≡ false = lt-leb c 70 (omega arith) in
      rw (a, and-false, b, and-false, lt-leb c 102 h, and-false)

-- A number below 16 that the library gives a digit of either case is its number here, and it gives one where it is.
digits_agree : (c : ℕ) → (digit_value c ≡ hex_number c) ⊎ ((16 ≤ digit_value c) × (hex_number c ≡ 16))
digits_agree c = ⊎_elim (λ h. inr (rw (lt-ltb c 48 h) (omega arith), before_digits c h)) from_48 (cases_lt c 48)
  where
    Agrees : Type 0
    Agrees = (digit_value c ≡ hex_number c) ⊎ ((16 ≤ digit_value c) × (hex_number c ≡ 16))

    from_103 : 103 ≤ c → Agrees
    from_103 h =
        let g : ltb c 48 ≡ false = le-ltb c 48 (omega arith) in
        let i : ltb c 58 ≡ false = le-ltb c 58 (omega arith) in
        let j : ltb c 65 ≡ false = le-ltb c 65 (omega arith) in
        let k : ltb c 91 ≡ false = le-ltb c 91 (omega arith) in
        let l : ltb c 97 ≡ false = le-ltb c 97 (omega arith) in
        ⊎_elim (λ m. inr (rw (g, i, j, k, l, lt-ltb c 123 m) (omega arith), behind_small c (omega arith)))
        (λ m. inr (rw (g, i, j, k, l, le-ltb c 123 m) (omega arith), behind_small c (omega arith))) (cases_lt c 123)

    from_71 : 71 ≤ c → Agrees
    from_71 h =
        let g : ltb c 48 ≡ false = le-ltb c 48 (omega arith) in
        let i : ltb c 58 ≡ false = le-ltb c 58 (omega arith) in
        let j : ltb c 65 ≡ false = le-ltb c 65 (omega arith) in
        ⊎_elim (λ m. inr (rw (g, i, j, lt-ltb c 91 m) (omega arith), before_small c (omega arith) (omega arith)))
        (λ m. let k : ltb c 91 ≡ false = le-ltb c 91 m in
        ⊎_elim (λ o. inr (rw (g, i, j, k, lt-ltb c 97 o) (omega arith), before_small c (omega arith) (omega arith)))
        (λ o. let l : ltb c 97 ≡ false = le-ltb c 97 o in
        ⊎_elim (λ q. inl (rw (g, i, j, k, l, lt-ltb c 123 (omega arith), small_number c (omega arith) (omega arith)))) from_103 (cases_lt c 103)) (cases_lt c 97)) (cases_lt c 91)

    from_48 : 48 ≤ c → Agrees
    from_48 h =
        let g : ltb c 48 ≡ false = le-ltb c 48 (omega arith) in
        ⊎_elim (λ m. inl (rw (g, lt-ltb c 58 m, digit_number c (omega arith) (omega arith))))
        (λ m. let i : ltb c 58 ≡ false = le-ltb c 58 m in
        ⊎_elim (λ o. inr (rw (g, i, lt-ltb c 65 o) (omega arith), before_capitals c (omega arith) (omega arith)))
        (λ o. let j : ltb c 65 ≡ false = le-ltb c 65 o in
        ⊎_elim (λ q. inl (rw (g, i, j, lt-ltb c 91 (omega arith), capital_number c (omega arith) (omega arith)))) from_71 (cases_lt c 71)) (cases_lt c 65)) (cases_lt c 58)

pub number_given : (c : ℕ) (r : Option ℕ) → SomeIff r (digit_value c < 16) (digit_value c) → SomeIff r (hex_number c < 16) (hex_number c)
number_given c (Some n) s = ⊎_elim (λ e. (omega (arith, s.0, e), s.1 ∙ e)) (λ p. absurd (omega (arith, s.0, p.0))) (digits_agree c)
number_given c None s = λ h. ⊎_elim (λ e. s (omega (arith, h, e))) (λ p. absurd (omega (arith, h, p.1))) (digits_agree c)

-- Two octets at the front.
two : (l : List ℕ) → 2 ≤ length l → l ≡ get_or l 0 0 ∷ (get_or l 1 0 ∷ drop 2 l)
two [] h = absurd (omega arith)
two (x ∷ []) h = absurd (omega arith)
two (x ∷ y ∷ l) h = refl

-- ---- reading

-- Octets behind those that were read.
abbrev pub behind : List ℕ → Option (List ℕ) → Option (List ℕ)
behind front (Some l) = Some (front ++ l)
behind front None = None

-- Where none were read, all are left.
pub behind_none : (o : Option (List ℕ)) → o ≡ behind [] o
behind_none (Some l) = refl
behind_none None = refl

behind_front : (front : List ℕ) (x : ℕ) (o : Option (List ℕ)) → behind front (in_front x o) ≡ behind (front ++ (x ∷ [])) o
behind_front front x (Some l) = ap Some (sym (append_snoc front x l))
behind_front front x None = refl

module _ (text buffer rest : List ℕ) (n : ℕ) (e : from_hex text ≡ behind (take n buffer) (from_hex rest)) where
  -- A pair that is read leaves the rest to be read.
  pub pair_read : (high low : ℕ) → 2 ≤ length rest → n < length buffer → high ≡ hex_number (get_or rest 0 0) → low ≡ hex_number (get_or rest 1 0) →
      high < 16 → low < 16 → from_hex text ≡ behind (take (n + 1) (set buffer n (high * 16 + low))) (from_hex (drop 2 rest))
  unfolding from_hex
  pair_read high low h k a b s t =
      rw (add-one n, take-suc-set buffer n (high * 16 + low) k, ← behind_front) (e ∙ ap (λ (l : List ℕ). behind (take n buffer) (from_hex l)) (two rest h) ∙ rw (← a, ← b, lt-ltb high 16 s, lt-ltb low 16 t))

  -- Nothing is read where a pair has an octet that is no hex digit.
  pub first_bad : 2 ≤ length rest → (hex_number (get_or rest 0 0) < 16 → ⊥) → from_hex text ≡ None
  unfolding from_hex
  first_bad h a = e ∙ ap (λ (l : List ℕ). behind (take n buffer) (from_hex l)) (two rest h) ∙ rw (le-ltb (hex_number (get_or rest 0 0)) 16 (omega (arith, a)))

  pub second_bad : 2 ≤ length rest → (hex_number (get_or rest 1 0) < 16 → ⊥) → from_hex text ≡ None
  unfolding from_hex
  second_bad h a = e ∙ ap (λ (l : List ℕ). behind (take n buffer) (from_hex l)) (two rest h) ∙ rw (le-ltb (hex_number (get_or rest 1 0)) 16 (omega (arith, a)), and-false)

  -- Nothing is read where half a pair is left.
  pub half_left : eqb (length rest) 0 ≡ false → length rest < 2 → from_hex text ≡ None
  unfolding from_hex
  half_left h k = e ∙ go rest h k
    where
      go : (l : List ℕ) → eqb (length l) 0 ≡ false → length l < 2 → behind (take n buffer) (from_hex l) ≡ None
      go [] h k = absurd (false≢true (sym h))
      go (x ∷ []) h k = refl
      go (x ∷ y ∷ l) h k = absurd (omega arith)

  -- At the end of the text, all has been read.
  pub none_left : eqb (length rest) 0 ≡ true → from_hex text ≡ Some (take n buffer)
  unfolding from_hex
  none_left h = e ∙ go rest (eqb-true _ _ h)
    where
      go : (l : List ℕ) → length l ≡ 0 → behind (take n buffer) (from_hex l) ≡ Some (take n buffer)
      go [] h = rw append-nil
      go (x ∷ l) h = absurd (omega arith)

-- ---- printing

-- An octet's two digits are stored before the rest.
pub pair_put : (room octets : List ℕ) (place i : ℕ) → i < length octets →
    sets room place (to_hex (drop i octets))
    ≡ sets (set (set room place (hex_digit (get_or octets i 0 / 16))) (place + 1) (hex_digit (get_or octets i 0 % 16))) (place + 2) (to_hex (drop (i + 1) octets))
unfolding to_hex
pair_put room octets place i h =
    let q : place + 2 ≡ suc (suc place) = omega arith in
    rw (q, add-one place, add-one i, drop-cons octets i 0 h)

pub hex_length : (l : List ℕ) → length (to_hex l) ≡ 2 * length l
unfolding to_hex
hex_length [] = refl
hex_length (x ∷ l) = omega (arith, hex_length l)

pub hex_none : (octets : List ℕ) (i : ℕ) → length octets ≤ i → to_hex (drop i octets) ≡ []
unfolding to_hex
hex_none octets i h = rw (drop_of_length-le octets h)
