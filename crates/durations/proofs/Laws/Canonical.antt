-- The canonical components of a duration are what 11.9 makes of any of its spellings.
use mathlib.Core.Path.{◌≡◌, refl, ap, ◌∙◌}
use mathlib.Core.Bool.{Bool, true, false, ◌&&◌, not, cond, and-false}
use mathlib.Core.List.{List, [], ◌∷◌, map}
use Prim.Native.Nat.{ℕ, zero, suc}
use native.Mathlib.Omega.{arith}
use lib.Dec.{eqb}
use Rattle.texts.specs.Times.{fraction}
use Rattle.texts.specs.declared.parts.Fraction.{Fraction}
use Rattle.durations.specs.Durations.{ends_at, exists_duration, first, fraction_of, later, numbers_of, parts_of, shown, spellable, spelled_parts}
use Rattle.durations.specs.Parts.{Part, absent, any_present, canonical_parts, no_fraction, number_in, present, stopped}
use Rattle.durations.specs.declared.Duration.{Duration}
use Rattle.durations.proofs.Laws.Parts.{exists_parts, some_absents, some_shown}
use Rattle.durations.proofs.Laws.Values.{spell_nil}

-- Made canonical, and with a full stop.
abbrev canonical_with : List Part → List Part
canonical_with ps = map stopped (canonical_parts ps)

absents_stay : (ns : List ℕ) → canonical_with (map (λ m. absent) ns) ≡ map (λ m. absent) ns
unfolding canonical_parts
absents_stay [] = refl
absents_stay (n ∷ ns) = rw (some_absents ns) (ap (λ (ps : List Part). absent ∷ ps) (absents_stay ns))

-- A component before the last goes exactly where it is 0, spelled or not.
before_last : (n : ℕ) (z s b : Bool) → eqb n 0 ≡ b → s ≡ true
    → stopped (cond (eqb (number_in (cond (b && z) absent (present n 0 no_fraction))) 0 && s) absent (cond (b && z) absent (present n 0 no_fraction)))
    ≡ cond (b && true) absent (present n 0 no_fraction)
before_last n true s true e h = rw h
before_last n false s true e h = rw (e, h)
before_last n true s false e h = rw e
before_last n false s false e h = rw e

shown-canonical : (zs : List Bool) (k d : ℕ) (f : Fraction) (ns : List ℕ) → ends_at k ns ≡ true
    → canonical_with (shown zs k d f ns) ≡ shown [] k d (fraction false f.number) ns
unfolding canonical_parts shown ends_at
shown-canonical zs k d f [] e = absurd (let z : ◌≡◌ {A = ℕ} 0 1 = cc in omega arith)
shown-canonical zs zero d f (n ∷ ns) e =
    rw (some_absents ns, and-false (eqb n 0)) (ap (λ (ps : List Part). present n d (fraction false f.number) ∷ ps) (absents_stay ns))
shown-canonical zs (suc k) d f (n ∷ ns) e =
    rw (before_last n (not (first zs)) (any_present (shown (later zs) k d f ns)) (eqb n 0) refl (some_shown (later zs) k d f ns e))
    (ap (λ (ps : List Part). cond (eqb n 0 && true) absent (present n 0 no_fraction) ∷ ps) (shown-canonical (later zs) k d f ns e))

-- "Canonical means no zero components except the least significant one present (11.9 d)": so are the canonical components of a duration.
pub parts_canonical : (c : Bool) (zs : List Bool) (d : Duration) → exists_duration d ≡ true → map stopped (canonical_parts (spelled_parts c zs d)) ≡ parts_of d
parts_canonical c zs d e =
    let x = exists_parts d e in
    shown-canonical (spellable d.last zs) d.last d.digits (fraction_of c d) (numbers_of d) x.ends
    ∙ rw (spell_nil d.last, and-false (not (eqb d.digits 0)))
