-- The components of a duration are well made, and each in its range.
use mathlib.Core.Path.{◌≡◌, refl}
use mathlib.Core.Bool.{Bool, true, false, ◌&&◌, ◌||◌, not, cond}
use mathlib.Core.List.{List, [], ◌∷◌, map}
use Prim.Native.Nat.{ℕ, zero, suc, ◌^◌, ◌<◌, ◌≤◌}
use native.Mathlib.Omega.{arith}
use lib.Dec.{eqb, ltb}
use lib.ListN.{set, length}
use borrow.Author.Tests.{ne_eqb, ltb-true}
use Rattle.octets.proofs.Laws.Cases.{both}
use Rattle.durations.specs.declared.Duration.{Duration}
use Rattle.texts.specs.declared.parts.Fraction.{Fraction}
use Rattle.durations.specs.Parts.{Part, absent, present, no_fraction, is_present, digits_in, count, any_present, part_at, well_made}
use Rattle.durations.specs.Durations.{numbers_of, fraction_of, first, later, shown, spellable, spelled_parts, all_small}
use Rattle.durations.specs.Durations.{weeks_alone, exists_duration}
use Rattle.durations.proofs.Laws.Parts.{or-true, some_absents, some_shown, exists_parts}

-- ---- well made

zero_hidden : (n : ℕ) → eqb n 0 ≡ true → ◌≡◌ {A = Part} (cond (eqb n 0 && not false) absent (present n 0 no_fraction)) absent
zero_hidden n e = rw e

or-not : (a b : Bool) → b ≡ false → (a || not b) ≡ true
or-not a b e = rw e (or-true a)

spell_other : (k : ℕ) (zs : List Bool) → spellable (suc (suc (suc k))) zs ≡ set zs 2 false
unfolding spellable
spell_other k zs = rw (ne_eqb (suc (suc (suc k))) 2 (λ z. omega arith))

module _ (d : ℕ) (f : Fraction) (y m w a b c e : ℕ) where
  later-place : (k : ℕ) → cond (eqb (suc (suc (suc k))) 2) (eqb y 0 && eqb m 0) (eqb w 0) ≡ true → eqb w 0 ≡ true
  later-place k h = rw (ne_eqb (suc (suc (suc k))) 2 (λ z. omega arith)) at h

  weeks_gone : (zs : List Bool) (k : ℕ) → cond (eqb (suc (suc (suc k))) 2) (eqb y 0 && eqb m 0) (eqb w 0) ≡ true
      → is_present (part_at 2 (shown (spellable (suc (suc (suc k))) zs) (suc (suc (suc k))) d f (y ∷ m ∷ w ∷ a ∷ b ∷ c ∷ e ∷ []))) ≡ false
  unfolding shown part_at
  weeks_gone [] k h = rw (spell_other k [], zero_hidden w (later-place k h))
  weeks_gone (x ∷ []) k h = rw (spell_other k (x ∷ []), zero_hidden w (later-place k h))
  weeks_gone (x ∷ x₁ ∷ []) k h = rw (spell_other k (x ∷ x₁ ∷ []), zero_hidden w (later-place k h))
  weeks_gone (x ∷ x₁ ∷ x₂ ∷ zs) k h = rw (spell_other k (x ∷ x₁ ∷ x₂ ∷ zs), zero_hidden w (later-place k h))

  third : (zs : List Bool) (k : ℕ) → cond (eqb k 2) (eqb y 0 && eqb m 0) (eqb w 0) ≡ true
      → (eqb (count (shown (spellable k zs) k d f (y ∷ m ∷ w ∷ a ∷ b ∷ c ∷ e ∷ []))) 1
      || not (is_present (part_at 2 (shown (spellable k zs) k d f (y ∷ m ∷ w ∷ a ∷ b ∷ c ∷ e ∷ []))))) ≡ true
  third zs zero h = or-not (eqb (count (shown (spellable 0 zs) 0 d f (y ∷ m ∷ w ∷ a ∷ b ∷ c ∷ e ∷ []))) 1)
      (is_present (part_at 2 (shown (spellable 0 zs) 0 d f (y ∷ m ∷ w ∷ a ∷ b ∷ c ∷ e ∷ [])))) (unfold shown part_at in refl)
  third zs (suc zero) h = or-not (eqb (count (shown (spellable 1 zs) 1 d f (y ∷ m ∷ w ∷ a ∷ b ∷ c ∷ e ∷ []))) 1)
      (is_present (part_at 2 (shown (spellable 1 zs) 1 d f (y ∷ m ∷ w ∷ a ∷ b ∷ c ∷ e ∷ [])))) (unfold shown part_at in refl)
  third zs (suc (suc zero)) h =
      let p = both (eqb y 0) (eqb m 0) h in
      unfold spellable shown count in rw (zero_hidden y p.0, zero_hidden m p.1)
  third zs (suc (suc (suc k))) h = or-not (eqb (count (shown (spellable (suc (suc (suc k))) zs) (suc (suc (suc k))) d f
      (y ∷ m ∷ w ∷ a ∷ b ∷ c ∷ e ∷ []))) 1) (is_present (part_at 2 (shown (spellable (suc (suc (suc k))) zs) (suc (suc (suc k))) d f
      (y ∷ m ∷ w ∷ a ∷ b ∷ c ∷ e ∷ [])))) (weeks_gone zs k h)

pub made : (c : Bool) (zs : List Bool) (d : Duration) → exists_duration d ≡ true → well_made (spelled_parts c zs d) ≡ true
unfolding well_made weeks_alone
made c zs d e =
    let x = exists_parts d e in
    rw (
      some_shown (spellable d.last zs) d.last d.digits (fraction_of c d) (numbers_of d) x.ends,
      third d.digits (fraction_of c d) d.years d.months d.weeks d.days d.hours d.minutes d.seconds zs d.last x.alone,
    )

-- ---- in range

-- A number of at most nine digits, a fraction of as many as are said.
abbrev pub PartFits : Part → Type 0
PartFits absent = Unit {0}
PartFits (present n d f) = (n < 10 ^ 9) × (d ≤ 9) × (f.number < 10 ^ d) × ((not (eqb d 0) && f.comma) ≡ f.comma)

unfoldable pub AllFit : List Part → Type 0
AllFit [] = Unit {0}
AllFit (p ∷ ps) = PartFits p × AllFit ps

-- A fraction stands at the last component only.
unfoldable pub tidy : List Part → Bool
tidy [] = true
tidy (p ∷ ps) = (eqb (digits_in p) 0 || not (any_present ps)) && tidy ps

absents_fit : (ns : List ℕ) → AllFit (map (λ m. absent) ns)
unfolding AllFit
absents_fit [] = tt
absents_fit (n ∷ ns) = (tt, absents_fit ns)

part_fits : (t : Bool) (n : ℕ) → n < 10 ^ 9 → PartFits (cond t absent (present n 0 no_fraction))
part_fits true n h = tt
part_fits false n h = (h, omega arith, omega arith, refl)

pub shown_fit : (zs : List Bool) (k d : ℕ) (f : Fraction) (ns : List ℕ) → all_small ns ≡ true → d ≤ 9 → f.number < 10 ^ d
    → (not (eqb d 0) && f.comma) ≡ f.comma → AllFit (shown zs k d f ns)
unfolding AllFit shown all_small
shown_fit zs k d f [] s h g o = tt
shown_fit zs zero d f (n ∷ ns) s h g o =
    let p = both (ltb n (10 ^ 9)) (all_small ns) s in
    ((ltb-true n (10 ^ 9) p.0, h, g, o), absents_fit ns)
shown_fit zs (suc k) d f (n ∷ ns) s h g o =
    let p = both (ltb n (10 ^ 9)) (all_small ns) s in
    (part_fits (eqb n 0 && not (first zs)) n (ltb-true n (10 ^ 9) p.0), shown_fit (later zs) k d f ns p.1 h g o)

absents_tidy : (ns : List ℕ) → tidy (map (λ m. absent) ns) ≡ true
unfolding tidy
absents_tidy [] = refl
absents_tidy (n ∷ ns) = absents_tidy ns

no_digits : (t : Bool) (n : ℕ) → digits_in (cond t absent (present n 0 no_fraction)) ≡ 0
no_digits true n = refl
no_digits false n = refl

pub shown_tidy : (zs : List Bool) (k d : ℕ) (f : Fraction) (ns : List ℕ) → tidy (shown zs k d f ns) ≡ true
unfolding tidy shown
shown_tidy zs k d f [] = refl
shown_tidy zs zero d f (n ∷ ns) = rw (some_absents ns, absents_tidy ns, or-true (eqb d 0))
shown_tidy zs (suc k) d f (n ∷ ns) = rw (no_digits (eqb n 0 && not (first zs)) n, shown_tidy (later zs) k d f ns)

pub shown-length : (zs : List Bool) (k d : ℕ) (f : Fraction) (ns : List ℕ) → length (shown zs k d f ns) ≡ length ns
unfolding shown
shown-length zs k d f [] = refl
shown-length zs zero d f (n ∷ ns) = go ns
  where
    go : (ms : List ℕ) → suc (length (map (λ m. absent) ms)) ≡ suc (length ms)
    go [] = refl
    go (x ∷ ms) = omega (arith, go ms)
shown-length zs (suc k) d f (n ∷ ns) = omega (arith, shown-length (later zs) k d f ns)
