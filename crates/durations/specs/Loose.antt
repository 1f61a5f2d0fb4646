-- What the lenient reader takes for a duration besides the encoder's own bits: zero components, and any number after a 1 bit.
use Rattle.std.specs.Prelude.{◌≡◌, ℕ, ◌^◌, ◌≤◌, ◌<◌, Bool, true, cond, List, [], ◌∷◌, ◌++◌, length}
use Rattle.fields.specs.Bits.{BitString}
use Rattle.fields.specs.Fields.{Field, Ranged}
use Rattle.fields.specs.Spelled.{SpelledField, spelled_bits, spelled_fields, well_spelled}
use Rattle.durations.specs.declared.Duration.{Duration}
use Rattle.durations.specs.Parts.{Part, absent, bares, numbers, present, well_made}
use Rattle.durations.specs.Durations.{all_small, duration_of, first, later}
use Rattle.durations.specs.Fields.{long_number, extended, roots, presences}
use Rattle.durations.specs.Readings.{Tail, tail, ended_by}

-- The fields of a number, or the 1 bit for any number.
unfoldable pub loose_number : Bool → ℕ → ℕ → ℕ → List Field
loose_number long lowest r n = cond long (long_number n) (extended lowest r n)

unfoldable pub loose_numbers : List Bool → List ℕ → List Part → List Field
loose_numbers longs [] ps = []
loose_numbers longs (r ∷ rs) [] = []
loose_numbers longs (r ∷ rs) (absent ∷ ps) = loose_numbers (later longs) rs ps
loose_numbers longs (r ∷ rs) (present n d f ∷ ps) = loose_number (first longs) 0 r n ++ loose_numbers (later longs) rs ps

unfoldable pub loose_tail : Bool → Bool → Tail → List Field
loose_tail count long t = loose_number count 1 3 t.digits ++ loose_number long 1 999 t.fraction

-- That components are such as presence bits and numbers give: seven, well made, none with a fraction of its own, and "at most nine digits" each.
pub record Numbered (ps : List Part) : Type 0 where
  pub seven : length ps ≡ 7
  pub made : well_made ps ≡ true
  pub plain : bares ps ≡ ps
  pub small : all_small (numbers ps) ≡ true

-- That fields are such fields of a duration: of components, zero ones among them, without a fraction, or with one "of one to nine digits".
pub data LooseDuration : List Field → Duration → Type 0 where
  whole : (ps : List Part) (longs : List Bool) → Numbered ps
      → LooseDuration (presences ps ++ (Ranged 2 0 ∷ loose_numbers longs roots ps)) (duration_of (ended_by (tail 0 0) ps))
  parted : (ps : List Part) (t : Tail) (longs : List Bool) (count long : Bool) → Numbered ps
      → 1 ≤ t.digits → t.digits ≤ 9 → t.fraction < 10 ^ t.digits
      → LooseDuration (presences ps ++ (Ranged 2 1 ∷ (loose_numbers longs roots ps ++ loose_tail count long t))) (duration_of (ended_by t ps))

-- That bits begin with such fields of a duration, an integer in more octets than it needs among them; and what is left.
pub record ReadableBits (duration : Duration) (bits rest : BitString) : Type 0 where
  pub spelled : List SpelledField
  pub fields : LooseDuration (spelled_fields spelled) duration
  pub well : well_spelled spelled ≡ true
  pub stood : bits ≡ spelled_bits spelled ++ rest
