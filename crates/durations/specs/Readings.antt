-- What is to be read for a duration, with no regard to which components should be there or how a number should have been written.
use Rattle.std.specs.Prelude.{ℕ, zero, suc, ◌+◌, ◌^◌, false, ◌&&◌, cond, List, [], ◌∷◌, leb, ltb, Option}
use Rattle.octets.specs.Found.{of_found}
use Rattle.fields.specs.Bits.{unpacked}
use Rattle.fields.specs.Readings.{Reading, give, ◌>>=◌, a_ranged, a_natural, require, run}
use Rattle.durations.specs.declared.Duration.{Duration}
use Rattle.texts.specs.Times.{fraction}
use Rattle.durations.specs.Parts.{Part, absent, present, no_fraction, any_present, well_made}
use Rattle.durations.specs.Durations.{duration_of}
use Rattle.durations.specs.Fields.{roots}

-- "a number that is negative" is nothing.
unfoldable pub read_after : ℕ → ℕ → ℕ → Reading ℕ
read_after lowest r zero = a_ranged r >>= λ v. give (lowest + v)
read_after lowest r (suc x) = a_natural

-- A number of an extensible range.
unfoldable pub read_extended : ℕ → ℕ → Reading ℕ
read_extended lowest r = a_ranged 2 >>= read_after lowest r

unfoldable pub read_presences : ℕ → Reading (List ℕ)
read_presences zero = give []
read_presences (suc k) = do
  b ← a_ranged 2
  bs ← read_presences k
  give (b ∷ bs)

-- "of more than nine digits" is nothing.
unfoldable pub read_numbers : List ℕ → List ℕ → Reading (List Part)
read_numbers [] bs = give []
read_numbers (r ∷ rs) [] = give []
read_numbers (r ∷ rs) (zero ∷ bs) = do
  ps ← read_numbers rs bs
  give (absent ∷ ps)
read_numbers (r ∷ rs) (suc b ∷ bs) = do
  n ← read_extended 0 r
  ps ← require (ltb n (10 ^ 9)) (read_numbers rs bs)
  give (present n 0 no_fraction ∷ ps)

-- A fraction's digits, and the number that they give.
pub record Tail : Type 0 where
  pub digits : ℕ
  pub fraction : ℕ

abbrev pub tail : ℕ → ℕ → Tail
tail d f = record { digits = d; fraction = f }

-- "a decoded fraction of no digits, of over nine, or too large for them" is nothing.
unfoldable pub read_tail : ℕ → Reading Tail
read_tail zero = give (tail 0 0)
read_tail (suc x) = do
  d ← read_extended 1 3
  f ← require (leb 1 d && leb d 9) (read_extended 1 999)
  require (ltb f (10 ^ d)) (give (tail d f))

-- The last component has the fraction.
abbrev pub with_tail : Tail → Part → Part
with_tail t absent = absent
with_tail t (present n d f) = present n t.digits (fraction false t.fraction)

unfoldable pub ended_by : Tail → List Part → List Part
ended_by t [] = []
ended_by t (p ∷ ps) = cond (any_present ps) p (with_tail t p) ∷ ended_by t ps

-- A duration: the components that are there, their numbers, the fraction of the last; zero components are gone.
unfoldable pub read_fields : Reading Duration
read_fields = do
  bs ← read_presences 7
  x ← a_ranged 2
  ps ← read_numbers roots bs
  t ← read_tail x
  require (well_made ps) (give (duration_of (ended_by t ps)))

-- What octets give: a duration, whatever is left after its bits; or nothing.
unfoldable pub duration_in_octets : List ℕ → Option Duration
duration_in_octets octets = of_found (run read_fields (unpacked octets))
