-- The readings of a duration in the words of the code's tests and places.
use mathlib.Core.Path.{◌≡◌, refl, sym, ap, ◌∙◌}
use mathlib.Core.Bool.{Bool, true, false, ◌&&◌, cond}
use mathlib.Core.List.{List, [], ◌∷◌, ◌++◌}
use Prim.Native.Nat.{ℕ, zero, suc, ◌+◌, ◌*◌, ◌^◌, ◌≤◌, ◌<◌}
use native.Mathlib.Numerals.{add-one}
use native.Mathlib.Omega.{arith}
use lib.Dec.{leb, ltb}
use lib.ListN.{length, drop, length-append}
use lib.Seq.{drop-drop}
use borrow.Author.Tests.{lt-ltb, le-ltb, le-leb, lt-leb, leb-true, leb-false}
use Rattle.octets.specs.Found.{Found, found, nothing, onward}
use Rattle.octets.proofs.Laws.Cases.{by_ltb}
use Rattle.octets.proofs.Laws.Found.{nothing-not, found-value, found-rest}
use Rattle.answers.specs.declared.counts.Bits.{Bits}
use Rattle.fields.specs.Bits.{BitString, bits_of, bit, number_in, unpacked}
use Rattle.fields.specs.Fields.{width, binary_digits}
use Rattle.fields.specs.Integers.{twos}
use Rattle.fields.specs.Readings.{Reading, give, ◌>>=◌, a_ranged, a_free, a_natural, require, read_bits, read_ranged, read_free, run}
use Rattle.fields.proofs.Laws.Bits.{length-bits, number_lt}
use Rattle.fields.proofs.Laws.Fields.{read_free_only}
use Rattle.durations.specs.Readings.{read_after, read_extended, tail, read_tail}
use Rattle.unpacking.specs.Durations.{read_place}
use Rattle.unpacking.specs.Steps.{rest}
use Rattle.unpacking.proofs.Laws.Rows.{rows}
use Rattle.unpacking.proofs.Laws.Steps.{run-give}

-- ---- a bit in front

bit-lt : (b : Bool) → ltb (bit b) 2 ≡ true
bit-lt true = refl
bit-lt false = refl

bit-ranged : (b : Bool) (s : BitString) → read_ranged 2 (b ∷ s) ≡ found (bit b) s
unfolding read_ranged read_bits width binary_digits number_in
bit-ranged b s =
    let l : leb 1 (suc (length s)) ≡ true = le-leb 1 (suc (length s)) (omega arith) in
    let n : bit b * 1 + 0 ≡ bit b = omega arith in
    simp (l, n, bit-lt b)

pub bit-first : {A : Type 0} (f : ℕ → Reading A) (b : Bool) (s : BitString) → run (a_ranged 2 >>= f) (b ∷ s) ≡ run (f (bit b)) s
unfolding run a_ranged ◌>>=◌
bit-first f b s = rw (bit-ranged b s)

pub no_bit : {A : Type 0} (f : ℕ → Reading A) → run (a_ranged 2 >>= f) [] ≡ nothing
unfolding run a_ranged ◌>>=◌ read_ranged read_bits width binary_digits
no_bit f = refl

-- ---- a number of an extensible range, its first bit and the others read as one number

-- What it says that w bits after a first one make such a number.
record Front (w : ℕ) (s : BitString) (n : ℕ) (t : BitString) : Type 0 where
  first : Bool
  others : BitString
  is : s ≡ first ∷ others
  long : w ≤ length others
  number : n ≡ bit first * 2 ^ w + number_in w others
  left : t ≡ drop w others

front : (w : ℕ) (s : BitString) (n : ℕ) (t : BitString) → read_bits (w + 1) s ≡ found n t → Front w s n t
unfolding read_bits
front w [] n t e =
    let l : leb (w + 1) 0 ≡ false = lt-leb (w + 1) 0 (omega arith) in
    nothing-not (rw l at e)
front w (b ∷ s) n t e = go (leb (w + 1) (suc (length s))) refl e
  where
    go : (c : Bool) → leb (w + 1) (suc (length s)) ≡ c → cond c (found (number_in (w + 1) (b ∷ s)) (drop (w + 1) (b ∷ s))) nothing ≡ found n t
        → Front w (b ∷ s) n t
    go true l e =
        let h = leb-true (w + 1) (suc (length s)) l in
        record {
          first = b;
          others = s;
          is = refl;
          long = omega arith;
          number = sym (found-value e) ∙ unfold number_in in ap (λ (k : ℕ). number_in k (b ∷ s)) (add-one w);
          left = sym (found-rest e) ∙ ap (λ (k : ℕ). drop k (b ∷ s)) (add-one w);
        }
    go false l e = nothing-not e

free-short : (s : BitString) → length s < 16 → read_free s ≡ nothing
free-short s h = go (read_free s) refl
  where
    go : (m : Found Bool _) → read_free s ≡ m → m ≡ nothing
    go (found z t) e =
        let o = read_free_only s z t e in
        let l = ap length o.stood in
        let k = length-append (bits_of 8 o.octets) (bits_of (8 * o.octets) (twos o.octets z) ++ t) in
        let m = length-append (bits_of (8 * o.octets) (twos o.octets z)) t in
        absurd (omega (arith, o.some, length-bits 8 o.octets, length-bits (8 * o.octets) (twos o.octets z)))
    go nothing e = refl

natural-short : (s : BitString) → length s < 16 → run a_natural s ≡ nothing
unfolding run a_free ◌>>=◌
natural-short s h = rw (free-short s h)

outside : (lowest r : ℕ) (s : BitString) → run (read_after lowest r 1) s ≡ run a_natural s
unfolding read_after
outside lowest r s = refl

too_few : (lowest r w : ℕ) (s : BitString) → w ≡ width r → length s < w → run (read_after lowest r 0) s ≡ nothing
unfolding read_after run a_ranged ◌>>=◌ read_ranged read_bits
too_few lowest r w s e h = rw (← e, lt-leb w (length s) h)

no_first : (lowest r : ℕ) → run (read_extended lowest r) [] ≡ nothing
unfolding read_extended
no_first lowest r = no_bit (read_after lowest r)

module _ (lowest r w : ℕ) (e : w ≡ width r) (s : BitString) where
  first-of : (b : Bool) (t : BitString) → s ≡ b ∷ t → run (read_extended lowest r) s ≡ run (read_after lowest r (bit b)) t
  unfolding read_extended
  first-of b t h = rw h (bit-first (read_after lowest r) b t)

  after_inside : (t : BitString) → w ≤ length t → run (read_after lowest r 0) t
      ≡ onward (cond (ltb (number_in w t) r) (found (number_in w t) (drop w t)) nothing) (λ v. run (give (lowest + v)))
  unfolding read_after run a_ranged ◌>>=◌ read_ranged read_bits
  after_inside t h = rw (← e, le-leb w (length t) h)

  module _ {n : ℕ} {t : BitString} (h : read_bits (w + 1) s ≡ found n t) where
    extended-inside : n < r → r ≤ 2 ^ w → run (read_extended lowest r) s ≡ found (lowest + n) t
    extended-inside l k = let f = front w s n t h in go f.first f.others f.is f.long f.number f.left
      where
        go : (b : Bool) (u : BitString) → s ≡ b ∷ u → w ≤ length u → n ≡ bit b * 2 ^ w + number_in w u → t ≡ drop w u
            → run (read_extended lowest r) s ≡ found (lowest + n) t
        go true u is long number left = absurd (omega arith)
        go false u is long number left =
            let v : number_in w u ≡ n = omega arith in
            first-of false u is ∙ after_inside u long ∙ rw (v, ← left, lt-ltb n r l) (run-give (lowest + n) t)

    -- The bits of the range, and above it.
    extended_above : r ≤ n → n < 2 ^ w → run (read_extended lowest r) s ≡ nothing
    extended_above l k = let f = front w s n t h in go f.first f.others f.is f.long f.number
      where
        go : (b : Bool) (u : BitString) → s ≡ b ∷ u → w ≤ length u → n ≡ bit b * 2 ^ w + number_in w u → run (read_extended lowest r) s ≡ nothing
        go true u is long number = absurd (omega arith)
        go false u is long number =
            let v : number_in w u ≡ n = omega arith in
            first-of false u is ∙ after_inside u long ∙ rw (v, le-ltb n r l)

    -- The bit for "outside of the range".
    extended_outside : 2 ^ w ≤ n → run (read_extended lowest r) s ≡ run a_natural (drop 1 s)
    extended_outside k = let f = front w s n t h in go f.first f.others f.is f.number
      where
        go : (b : Bool) (u : BitString) → s ≡ b ∷ u → n ≡ bit b * 2 ^ w + number_in w u → run (read_extended lowest r) s ≡ run a_natural (drop 1 s)
        go true u is number = first-of true u is ∙ outside lowest r u ∙ rw is
        go false u is number = absurd (omega (arith, number_lt w u))

  -- Too few bits are left, for a number of the range and for any other.
  extended-short : read_bits (w + 1) s ≡ nothing → w ≤ 10 → run (read_extended lowest r) s ≡ nothing
  unfolding read_bits
  extended-short h k = split s refl
    where
      ranged-short : (u : BitString) → length u < w → run (read_after lowest r 0) u ≡ nothing
      ranged-short u l = too_few lowest r w u e l

      few : (b : Bool) (u : BitString) → s ≡ b ∷ u → (c : Bool) → leb (w + 1) (suc (length u)) ≡ c
          → cond c (found (number_in (w + 1) (b ∷ u)) (drop (w + 1) (b ∷ u))) nothing ≡ nothing → run (read_extended lowest r) s ≡ nothing
      few b u q true l d = nothing-not (sym d)
      few true u q false l d =
          let m = leb-false (w + 1) (suc (length u)) l in
          first-of true u q ∙ outside lowest r u ∙ natural-short u (omega arith)
      few false u q false l d =
          let m = leb-false (w + 1) (suc (length u)) l in
          first-of false u q ∙ ranged-short u (omega arith)

      split : (u : BitString) → s ≡ u → run (read_extended lowest r) s ≡ nothing
      split [] q = rw q (no_first lowest r)
      split (b ∷ u) q = few b u q (leb (w + 1) (suc (length u))) refl (rw q at h)

-- A number of an extensible range at a place, its first bit and the others read as one number.
pub extended-run : (lowest r : ℕ) (s : List ℕ) (at : Bits) → width r ≤ 10 → r ≤ 2 ^ width r → run (read_extended lowest r) (rest s at)
    ≡ onward (read_bits (width r + 1) (rest s at)) (λ n t.
    cond (ltb n r) (found (lowest + n) t) (cond (ltb n (2 ^ width r)) nothing (run a_natural (rest s (record { count = at.count + 1 })))))
extended-run lowest r s at k l = go (read_bits (width r + 1) (rest s at)) refl
  where
    go : (m : Found Bool ℕ) → read_bits (width r + 1) (rest s at) ≡ m → run (read_extended lowest r) (rest s at)
        ≡ onward m (λ n t.
        cond (ltb n r) (found (lowest + n) t) (cond (ltb n (2 ^ width r)) nothing (run a_natural (rest s (record { count = at.count + 1 })))))
    go nothing e = extended-short lowest r (width r) refl _ e k
    go (found n t) e =
        by_ltb n r (λ h x. rw x (extended-inside lowest r (width r) refl _ e h l))
        (λ h x. by_ltb n (2 ^ width r) (λ g y. rw (x, y) (extended_above lowest r (width r) refl _ e h g))
        (λ g y. rw (x, y) (extended_outside lowest r (width r) refl _ e g ∙ ap (run a_natural) (drop-drop 1 at.count (unpacked s)))))

-- ---- the number at a place

pub place_some : (r b : ℕ) → 1 ≤ b → read_place r b ≡ (read_extended 0 r >>= λ n. require (ltb n (10 ^ 9)) (give n))
place_some r zero h = absurd (omega arith)
place_some r (suc b) h = refl

pub place_none : (r b : ℕ) → b ≡ 0 → read_place r b ≡ give 0
place_none r zero h = refl
place_none r (suc b) h = absurd (omega arith)

-- ---- the fraction

pub tail_none : (x : ℕ) → x ≡ 0 → read_tail x ≡ give (tail 0 0)
unfolding read_tail
tail_none zero h = refl
tail_none (suc x) h = absurd (omega arith)

pub tail_some : (x : ℕ) → 1 ≤ x → read_tail x ≡ (read_extended 1 3 >>= λ d. require (leb 1 d && leb d 9) (read_extended 1 999)
    >>= λ f. require (ltb f (10 ^ d)) (give (tail d f)))
unfolding read_tail
tail_some zero h = absurd (omega arith)
tail_some (suc x) h = refl

-- The readings of a duration, for the goals of the code.
pub ruleset extended = (rows, extended-run, place_none, place_some, tail_none, tail_some)
