-- Readings step by step, for code that goes by places.
use mathlib.Core.Path.{◌≡◌, refl, sym, ap, ◌∙◌}
use mathlib.Core.Bool.{Bool, cond}
use mathlib.Core.List.{List}
use Prim.Native.Nat.{ℕ, ◌+◌, ◌*◌, ◌-◌, ◌≤◌, ◌<◌}
use native.Mathlib.Omega.{arith}
use lib.Dec.{leb, ltb}
use lib.ListN.{length, length-drop}
use lib.Seq.{drop-drop}
use lib.IntN.{ℤ, pos, negsuc}
use lib.Signed.{◌<ℤ◌}
use Rattle.std.proofs.lemmas.Int.{ints}
use borrow.Author.Tests.{le-leb, lt-leb}
use Rattle.octets.specs.Found.{Found, found, nothing, onward}
use Rattle.answers.specs.declared.counts.Bits.{Bits}
use Rattle.fields.specs.Bits.{BitString, number_in, unpacked}
use Rattle.fields.specs.Fields.{width}
use Rattle.fields.specs.Integers.{half, from_twos}
use Rattle.fields.specs.Readings.{Reading, give, ◌>>=◌, a_ranged, a_free, read_bits, read_ranged, read_free, natural, run}
use Rattle.fields.proofs.Laws.Bits.{length-unpacked}
use Rattle.fields.proofs.Laws.Readings.{run_bind}
use Rattle.unpacking.specs.Steps.{rest, signed_of}

-- How a reading goes on by what its first part found.
module _ {A B : Type 0} where
  pub step : (t : Reading A) (f : A → Reading B) (s : BitString) {m : Found Bool A} → m ≡ run t s → run (t >>= f) s ≡ onward m (λ a. run (f a))
  step t f s e = run_bind t f s ∙ ap (λ x. onward x (λ a. run (f a))) (sym e)

-- A result that is given.
pub run-give : {A : Type 0} (a : A) (s : BitString) → run (give a) s ≡ found a s
unfolding run
run-give a s = refl

given : {A : Type 0} (g : Found Bool A) → onward g (λ a. run (give a)) ≡ g
unfolding run
given (found a s) = refl
given nothing = refl

-- A number of a range (a constrained whole number), by its bits.
pub ranged-run : (r : ℕ) (s : BitString) → run (a_ranged r) s ≡ onward (read_bits (width r) s) (λ v s. cond (ltb v r) (found v s) nothing)
unfolding run a_ranged read_ranged
ranged-run r s = given (read_ranged r s)

-- A free integer (an unconstrained whole number), by the bits of its length and its own.
pub free-run : (s : BitString) → run a_free s ≡ onward (read_bits 8 s) (λ n s.
    cond (leb 1 n) (cond (leb n 4) (onward (read_bits (8 * n) s) (λ t s. found (signed_of (8 * n) t) s)) nothing) nothing)
unfolding run a_free read_free signed_of from_twos half
free-run s = given (read_free s)

-- A negative integer where one that is not is read.
pub negative-run : (z : ℤ) (s : BitString) → z <ℤ pos 0 → run (natural z) s ≡ nothing
unfolding natural run
negative-run (pos n) s h = absurd (omega (arith, ints))
negative-run (negsuc n) s h = refl

-- How readings go on, for the goals of the code.
pub ruleset steps = (run_bind, run-give, ranged-run, free-run, negative-run)

-- So many bits at a place, where the octets do not end before, and where they do.
length_rest : (s : List ℕ) (at : Bits) → length (rest s at) ≡ 8 * length s - at.count
length_rest s at = length-drop at.count (unpacked s) ∙ ap (λ (n : ℕ). n - at.count) (length-unpacked s)

module _ (s : List ℕ) (at : Bits) (w : ℕ) where
  pub bits_there : at.count + w ≤ 8 * length s → read_bits w (rest s at) ≡ found (number_in w (rest s at)) (rest s (record { count = at.count + w }))
  unfolding read_bits
  bits_there h =
      let l : w ≤ length (rest s at) = omega (arith, length_rest s at) in
      rw (le-leb _ _ l, drop-drop)

  pub bits-short : 8 * length s < at.count + w → 1 ≤ w → read_bits w (rest s at) ≡ nothing
  unfolding read_bits
  bits-short h p =
      let l : length (rest s at) < w = omega (arith, length_rest s at) in
      rw (lt-leb _ _ l)
