-- A duration is read exactly where a loose spelling of it stands in front, whatever follows.
use mathlib.Core.Path.{◌≡◌, refl, ◌∙◌}
use mathlib.Core.Bool.{Bool, true, false}
use mathlib.Core.List.{List, [], ◌∷◌, ◌++◌, append_assoc, append-nil}
use Prim.Native.Nat.{ℕ, ◌^◌, ◌<◌, ◌≤◌}
use native.Mathlib.Omega.{arith}
use lib.Dec.{ltb}
use lib.ListN.{length}
use borrow.Author.Tests.{le-leb, lt-ltb, ltb-true}
use Rattle.octets.specs.Found.{found}
use Rattle.octets.proofs.Laws.Cases.{both}
use Rattle.fields.specs.Bits.{BitString}
use Rattle.fields.specs.Fields.{Field}
use Rattle.fields.specs.Readings.{give, over, require, run}
use Rattle.fields.specs.Spelled.{spelled_fields}
use Rattle.fields.proofs.Laws.Readings.{over_bind, over-ranged, run_only, run-spelled}
use Rattle.durations.specs.Durations.{all_small, duration_of, first, later}
use Rattle.durations.specs.Fields.{presences, roots}
use Rattle.durations.specs.Loose.{LooseDuration, Numbered, ReadableBits, loose_number, loose_numbers, loose_tail, parted, whole}
use Rattle.durations.specs.Parts.{Part, absent, bares, numbers, present, well_made}
use Rattle.durations.specs.Readings.{Tail, ended_by, read_extended, read_fields, read_numbers, read_presences, read_tail, tail}
use Rattle.durations.specs.declared.Duration.{Duration}
use Rattle.durations.proofs.Laws.Fields.{bits, extended_back, long_back, over-give, over-require, presences-count, small-fraction}
use Rattle.durations.proofs.Laws.Found.{drives_duration}

-- A number is read in its range's bits, and after a 1 bit.
number_loose : (long : Bool) (lowest r n : ℕ) (fs : List Field) → n < 10 ^ 9 → over (read_extended lowest r) (loose_number long lowest r n ++ fs) ≡ found n fs
unfolding loose_number
number_loose true lowest r n fs h = long_back lowest r n fs h
number_loose false lowest r n fs h = extended_back lowest r n fs h

numbers_loose : (longs : List Bool) (rs : List ℕ) (ps : List Part) (fs : List Field) → length ps ≡ length rs → all_small (numbers ps) ≡ true
    → over (read_numbers rs (bits ps)) (loose_numbers longs rs ps ++ fs) ≡ found (bares ps) fs
unfolding read_numbers loose_numbers bits bares numbers all_small over
numbers_loose longs [] [] fs n h = refl
numbers_loose longs [] (p ∷ ps) fs n h = absurd (omega arith)
numbers_loose longs (r ∷ rs) [] fs n h = absurd (omega arith)
numbers_loose longs (r ∷ rs) (absent ∷ ps) fs n h = simp (over_bind, numbers_loose (later longs) rs ps fs (omega arith) h)
numbers_loose longs (r ∷ rs) (present x d f ∷ ps) fs n h =
    let k = both (ltb x (10 ^ 9)) (all_small (numbers ps)) h in
    simp (
      append_assoc,
      over_bind,
      number_loose (first longs) 0 r x (loose_numbers (later longs) rs ps ++ fs) (ltb-true x (10 ^ 9) k.0),
      over-require (ltb x (10 ^ 9)) (read_numbers rs (bits ps)) (loose_numbers (later longs) rs ps ++ fs) k.0,
      numbers_loose (later longs) rs ps fs (omega arith) k.1,
    )

tail_none : (fs : List Field) → over (read_tail 0) fs ≡ found (tail 0 0) fs
unfolding read_tail over
tail_none fs = refl

tail_loose : (count long : Bool) (t : Tail) (fs : List Field) → 1 ≤ t.digits → t.digits ≤ 9 → t.fraction < 10 ^ t.digits
    → over (read_tail 1) (loose_tail count long t ++ fs) ≡ found t fs
unfolding read_tail loose_tail over
tail_loose count long t fs l h g =
    simp (
      append_assoc,
      over_bind,
      number_loose count 1 3 t.digits (loose_number long 1 999 t.fraction ++ fs) (omega arith),
      le-leb 1 t.digits l,
      le-leb t.digits 9 h,
      over-require true (read_extended 1 999) (loose_number long 1 999 t.fraction ++ fs) refl,
      number_loose long 1 999 t.fraction fs (small-fraction t.digits t.fraction h g),
      over-require (ltb t.fraction (10 ^ t.digits)) (give (tail t.digits t.fraction)) fs (lt-ltb t.fraction (10 ^ t.digits) g),
    )

module _ (ps : List Part) (n : Numbered ps) where
  -- What components make that are well made.
  made_of : (t : Tail) (fs : List Field) → over (require (well_made (bares ps)) (give (duration_of (ended_by t (bares ps))))) fs ≡ found
      (duration_of (ended_by t ps)) fs
  made_of t fs = rw n.plain (over-require (well_made ps) (give (duration_of (ended_by t ps))) fs n.made ∙ over-give (duration_of (ended_by t ps)) fs)

  presences_there : (fs : List Field) → over (read_presences 7) (presences ps ++ fs) ≡ found (bits ps) fs
  presences_there fs = presences-count 7 ps fs n.seven

  numbers_there : (longs : List Bool) (fs : List Field) → over (read_numbers roots (bits ps)) (loose_numbers longs roots ps ++ fs) ≡ found (bares ps) fs
  numbers_there longs fs = numbers_loose longs roots ps fs n.seven n.small

-- All loose fields of a duration drive what is read to it.
pub loose_drives : (fs : List Field) (d : Duration) → LooseDuration fs d → over read_fields fs ≡ found d []
unfolding read_fields
loose_drives fs d (whole ps longs n) =
    let o : over (read_numbers roots (bits ps)) (loose_numbers longs roots ps) ≡ found (bares ps) [] = simp append-nil at (numbers_there ps n longs []) in
    simp (over_bind, presences_there ps n, over-ranged, o, tail_none, made_of ps n)
loose_drives fs d (parted ps t longs count long n l h g) =
    let o : over (read_tail 1) (loose_tail count long t) ≡ found t [] = simp append-nil at (tail_loose count long t [] l h g) in
    simp (over_bind, presences_there ps n, over-ranged, numbers_there ps n, o, made_of ps n)

module _ (d : Duration) (bits rest : BitString) where
  -- Only loose spellings are read.
  pub reads_only : run read_fields bits ≡ found d rest → ReadableBits d bits rest
  reads_only e =
      let w = run_only read_fields bits d rest e in
      record { spelled = w.spelled; fields = drives_duration (spelled_fields w.spelled) d w.drives; well = w.well; stood = w.stood }

  -- All loose spellings are read.
  pub reads_all : ReadableBits d bits rest → run read_fields bits ≡ found d rest
  reads_all r = rw r.stood (run-spelled read_fields r.spelled rest d r.well (loose_drives (spelled_fields r.spelled) d r.fields))
