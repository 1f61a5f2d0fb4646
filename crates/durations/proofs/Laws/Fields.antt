-- The fields of a duration drive what is read to the duration.
use mathlib.Core.Path.{◌≡◌, refl, ap, ◌∙◌}
use mathlib.Core.Bool.{Bool, true, false, ◌&&◌, not, cond, and-false}
use mathlib.Core.List.{List, [], ◌∷◌, ◌++◌, append_assoc, map}
use Prim.Native.Nat.{ℕ, zero, suc, ◌+◌, ◌-◌, ◌^◌, ◌<◌, ◌≤◌}
use native.Mathlib.Nat.{pow-le-pow_right}
use native.Mathlib.Omega.{arith}
use lib.Dec.{eqb, leb, ltb}
use lib.IntN.{pos}
use lib.ListN.{length}
use borrow.Author.Tests.{le-leb, lt-ltb, leb-true, ltb-true}
use Rattle.fields.specs.Integers.{within, half}
use Rattle.fields.specs.Fields.{Field, Ranged}
use Rattle.octets.specs.Found.{found}
use Rattle.fields.specs.Readings.{Reading, over, require, give, natural}
use Rattle.octets.proofs.Laws.Cases.{by_test, both}
use Rattle.fields.proofs.Laws.Integers.{within_in}
use Rattle.fields.proofs.Laws.Readings.{over_bind, over-ranged, over-free}
use Rattle.durations.specs.declared.Duration.{Duration}
use Rattle.texts.specs.Times.{fraction}
use Rattle.texts.specs.declared.parts.Fraction.{Fraction}
use Rattle.durations.specs.Parts.{Part, absent, any_present, bare, bares, count, is_present, no_fraction, part_at, present, well_made}
use Rattle.durations.specs.Durations.{numbers_of, fraction_of, first, later, shown, spellable, parts_of, duration_of, exists_duration}
use Rattle.durations.specs.Fields.{long_number, extended, roots, presence, presences, number_fields, fraction_part, duration_fields}
use Rattle.durations.specs.Readings.{read_after, read_extended, read_presences, read_numbers, Tail, tail, read_tail, ended_by, read_fields}
use Rattle.durations.proofs.Laws.Parts.{or-true, ends_within, some_absents, exists_parts, duration_back}
use Rattle.durations.proofs.Laws.Texts.{comma-shown}
use Rattle.durations.proofs.Laws.Made.{AllFit, shown_fit, shown-length, made}

-- A reading that gives, and one behind a test that holds.
pub over-give : {A : Type 0} (a : A) (fs : List Field) → over (give a) fs ≡ found a fs
unfolding over
over-give a fs = refl

pub over-require : {A : Type 0} (t : Bool) (k : Reading A) (fs : List Field) → t ≡ true → over (require t k) fs ≡ over k fs
unfolding require
over-require t k fs e = rw e

-- ---- one number

-- Numbers below 2 ^ 31 have four octets.
four_octets : (n : ℕ) → n < 10 ^ 9 → within 4 (pos n) ≡ true
unfolding half
four_octets n h = within_in 4 (pos n) (omega arith)

pub long_back : (lowest r n : ℕ) (fs : List Field) → n < 10 ^ 9 → over (read_extended lowest r) (long_number n ++ fs) ≡ found n fs
unfolding read_extended long_number read_after natural over
long_back lowest r n fs h = simp (over_bind, over-ranged, over-free (pos n) fs (four_octets n h))

pub extended_back : (lowest r n : ℕ) (fs : List Field) → n < 10 ^ 9 → over (read_extended lowest r) (extended lowest r n ++ fs) ≡ found n fs
unfolding extended read_extended read_after over
extended_back lowest r n fs h =
    by_test (leb lowest n && ltb (n - lowest) r)
    (λ e.
    let p = both (leb lowest n) (ltb (n - lowest) r) e in
    let l = leb-true lowest n p.0 in
    let b : lowest + (n - lowest) ≡ n = omega arith in
    simp (p.0, p.1, over_bind, over-ranged, b))
    (λ e. simp e (long_back lowest r n fs h))

-- ---- presence bits

abbrev pub bit_of : Part → ℕ
bit_of absent = 0
bit_of (present n d f) = 1

unfoldable pub bits : List Part → List ℕ
bits [] = []
bits (p ∷ ps) = bit_of p ∷ bits ps

presences_back : (ps : List Part) (fs : List Field) → over (read_presences (length ps)) (presences ps ++ fs) ≡ found (bits ps) fs
unfolding read_presences presences bits over
presences_back [] fs = refl
presences_back (absent ∷ ps) fs = simp (over_bind, over-ranged, presences_back ps fs)
presences_back (present n d f ∷ ps) fs = simp (over_bind, over-ranged, presences_back ps fs)

-- ---- numbers

numbers_back : (rs : List ℕ) (ps : List Part) (fs : List Field) → length ps ≡ length rs → AllFit ps
    → over (read_numbers rs (bits ps)) (number_fields rs ps ++ fs) ≡ found (bares ps) fs
unfolding read_numbers number_fields bits bares AllFit over
numbers_back [] [] fs n h = refl
numbers_back [] (p ∷ ps) fs n h = absurd (omega arith)
numbers_back (r ∷ rs) [] fs n h = absurd (omega arith)
numbers_back (r ∷ rs) (absent ∷ ps) fs n h = simp (over_bind, numbers_back rs ps fs (omega arith) h.1)
numbers_back (r ∷ rs) (present x d f ∷ ps) fs n h =
    simp (
      append_assoc,
      over_bind,
      extended_back 0 r x (number_fields rs ps ++ fs) h.0.0,
      over-require (ltb x (10 ^ 9)) (read_numbers rs (bits ps)) (number_fields rs ps ++ fs) (lt-ltb x (10 ^ 9) h.0.0),
      numbers_back rs ps fs (omega arith) h.1,
    )

-- ---- the fraction

abbrev tail_bit : ℕ → ℕ
tail_bit zero = 0
tail_bit (suc d) = 1

pub small-fraction : (d f : ℕ) → d ≤ 9 → f < 10 ^ d → f < 10 ^ 9
small-fraction d f h g = omega (arith, pow-le-pow_right {n = 10} (omega arith) h)

tail_back : (d f : ℕ) (fs : List Field) → d ≤ 9 → f < 10 ^ d → over (read_tail (tail_bit d)) (fraction_part d f ++ fs) ≡ found (tail d f) fs
unfolding read_tail fraction_part over
tail_back zero f fs h g = let z : 0 ≡ f = omega arith in ap (λ (x : ℕ). found (tail 0 x) fs) z
tail_back (suc d) f fs h g =
    simp (
      append_assoc,
      over_bind,
      extended_back 1 3 (suc d) (extended 1 999 f ++ fs) (omega arith),
      le-leb 1 (suc d) (omega arith),
      le-leb (suc d) 9 h,
      over-require true (read_extended 1 999) (extended 1 999 f ++ fs) refl,
      extended_back 1 999 f fs (small-fraction (suc d) f h g),
      over-require (ltb f (10 ^ suc d)) (give (tail (suc d) f)) fs (lt-ltb f (10 ^ suc d) g),
    )

-- ---- the components again

some_bares : (ps : List Part) → any_present (bares ps) ≡ any_present ps
unfolding any_present bares
some_bares [] = refl
some_bares (absent ∷ ps) = some_bares ps
some_bares (present n d f ∷ ps) = refl

count-bares : (ps : List Part) → count (bares ps) ≡ count ps
unfolding count bares
count-bares [] = refl
count-bares (absent ∷ ps) = count-bares ps
count-bares (present n d f ∷ ps) = ap suc (count-bares ps)

at_bares : (i : ℕ) (ps : List Part) → is_present (part_at i (bares ps)) ≡ is_present (part_at i ps)
unfolding part_at bares
at_bares i [] = refl
at_bares zero (absent ∷ ps) = refl
at_bares zero (present n d f ∷ ps) = refl
at_bares (suc i) (p ∷ ps) = at_bares i ps

made-bares : (ps : List Part) → well_made (bares ps) ≡ well_made ps
unfolding well_made
made-bares ps = rw (some_bares ps, count-bares ps, at_bares 2 ps)

absents_ended : (t : Tail) (ns : List ℕ) → ended_by t (bares (map (λ m. absent) ns)) ≡ map (λ m. absent) ns
unfolding ended_by bares
absents_ended t [] = refl
absents_ended t (n ∷ ns) = rw (absents_ended t ns) (ap (λ (p : Part). p ∷ map (λ m. absent) ns) (same (any_present (bares (map (λ m. absent) ns)))))
  where
    same : (b : Bool) → cond b absent absent ≡ absent
    same true = refl
    same false = refl

bare-shown : (b : Bool) (n : ℕ) → bare (cond b absent (present n 0 no_fraction)) ≡ cond b absent (present n 0 no_fraction)
bare-shown true n = refl
bare-shown false n = refl

some_there : (zs : List Bool) (k d : ℕ) (f : Fraction) (ns : List ℕ) → k < length ns → any_present (shown zs k d f ns) ≡ true
unfolding any_present shown
some_there zs k d f [] h = absurd (omega arith)
some_there zs zero d f (n ∷ ns) h = refl
some_there zs (suc k) d f (n ∷ ns) h =
    rw (some_there (later zs) k d f ns (omega arith)) (or-true (is_present (cond (eqb n 0 && not (first zs)) absent (present n 0 no_fraction))))

ended_back : (zs : List Bool) (k d f : ℕ) (ns : List ℕ) → k < length ns
    → ended_by (tail d f) (bares (shown zs k d (fraction false f) ns)) ≡ shown zs k d (fraction false f) ns
unfolding ended_by bares shown
ended_back zs k d f [] h = refl
ended_back zs zero d f (n ∷ ns) h = rw (some_bares (map (λ m. absent) ns), some_absents ns, absents_ended (tail d f) ns)
ended_back zs (suc k) d f (n ∷ ns) h =
    rw (
      some_bares (shown (later zs) k d (fraction false f) ns),
      some_there (later zs) k d (fraction false f) ns (omega arith),
      ended_back (later zs) k d f ns (omega arith),
      bare-shown (eqb n 0 && not (first zs)) n,
    )

presence-bit : (d : ℕ) (fs : List Field) → ◌≡◌ {A = List Field} (presence (ltb 0 d) ∷ fs) (Ranged 2 (tail_bit d) ∷ fs)
presence-bit zero fs = refl
presence-bit (suc d) fs = rw (lt-ltb 0 (suc d) (omega arith))

tail-bit : (d : ℕ) → ltb (tail_bit d) 2 ≡ true
tail-bit zero = refl
tail-bit (suc d) = refl

pub presences-count : (k : ℕ) (ps : List Part) (fs : List Field) → length ps ≡ k → over (read_presences k) (presences ps ++ fs) ≡ found (bits ps) fs
presences-count k ps fs n = rw (← n) (presences_back ps fs)

module _ (d : Duration) (fs : List Field) (e : exists_duration d ≡ true) where
  -- The fields of a duration, whatever follows, drive what is read to the duration.
  pub over-duration : over read_fields (duration_fields d ++ fs) ≡ found d fs
  unfolding read_fields duration_fields
  over-duration =
      let x = exists_parts d e in
      let few = leb-true d.digits 9 x.few in
      let fits = ltb-true d.fraction (10 ^ d.digits) x.fits in
      let zs = spellable d.last [] in
      let plain : fraction_of false d ≡ fraction false d.fraction = rw (and-false (not (eqb d.digits 0))) in
      let fit = shown_fit zs d.last d.digits (fraction_of false d) (numbers_of d) x.small few fits (comma-shown (not (eqb d.digits 0)) false) in
      let n = shown-length zs d.last d.digits (fraction_of false d) (numbers_of d) in
      let w : well_made (bares (parts_of d)) ≡ true = made-bares (parts_of d) ∙ made false [] d e in
      let there : (gs : List Field) → over (read_presences 7) (presences (parts_of d) ++ gs) ≡ found (bits (parts_of d)) gs = λ gs. presences-count 7
      (parts_of d) gs n in
      let numbered : (gs : List Field) → over (read_numbers roots (bits (parts_of d))) (number_fields roots (parts_of d) ++ gs) ≡ found (bares (parts_of d)) gs =
      λ gs. numbers_back roots (parts_of d) gs n fit in
      simp (
        append_assoc,
        over_bind,
        there,
        presence-bit,
        over-ranged,
        tail-bit,
        numbered,
        tail_back d.digits d.fraction fs few fits,
      )
      (rw (
        over-require (well_made (bares (parts_of d))) (give (duration_of (ended_by (tail d.digits d.fraction) (bares (parts_of d))))) fs w,
        over-give,
        plain,
        ended_back zs d.last d.digits d.fraction (numbers_of d) (ends_within d.last (numbers_of d) x.ends),
        ← plain,
        duration_back false zs d x.ends,
      ))
