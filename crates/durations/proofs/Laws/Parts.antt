-- Components: making canonical, and durations as components.
use mathlib.Core.Path.{◌≡◌, refl, ap, sym}
use mathlib.Core.Bool.{Bool, true, false, ◌&&◌, ◌||◌, not, cond, and-false}
use mathlib.Core.List.{List, [], ◌∷◌, map}
use Prim.Native.Nat.{ℕ, zero, suc, ◌^◌, ◌<◌}
use native.Mathlib.Omega.{arith}
use lib.Dec.{eqb, leb, ltb}
use lib.ListN.{length}
use borrow.Author.Tests.{eqb-true}
use Rattle.octets.proofs.Laws.Cases.{both}
use Rattle.durations.specs.declared.Duration.{Duration}
use Rattle.texts.specs.declared.parts.Fraction.{Fraction}
use Rattle.durations.specs.Parts.{Part, absent, present, no_fraction, is_present, number_in, digits_in, fraction_in, any_present}
use Rattle.durations.specs.Parts.{canonical_parts, last_in, of_last, numbers}
use Rattle.durations.specs.Durations.{numbers_of, fraction_of, first, later, shown, duration_of, all_zero, ends_at}
use Rattle.durations.specs.Durations.{all_small, weeks_alone, exists_duration}

pub or-true : (b : Bool) → (b || true) ≡ true
or-true true = refl
or-true false = refl

either_absent : (b : Bool) → cond b absent absent ≡ absent
either_absent true = refl
either_absent false = refl

-- ---- making canonical

some_canonical : (ps : List Part) → any_present (canonical_parts ps) ≡ any_present ps
unfolding any_present canonical_parts
some_canonical [] = refl
some_canonical (p ∷ ps) = rw (some_canonical ps) (go (any_present ps))
  where
    go : (s : Bool) → (is_present (cond (eqb (number_in p) 0 && s) absent p) || s) ≡ (is_present p || s)
    go true = rw (or-true (is_present p)) (or-true (is_present (cond (eqb (number_in p) 0 && true) absent p)))
    go false = rw (and-false (eqb (number_in p) 0))

again : (b s : Bool) (p : Part) → (eqb (number_in p) 0 && s) ≡ b → cond (eqb (number_in (cond b absent p)) 0 && s) absent (cond b absent p) ≡ cond b absent p
again true s p e = either_absent (eqb 0 0 && s)
again false s p e = rw e

-- "making canonical twice changes nothing more"
pub canonical_twice : (ps : List Part) → canonical_parts (canonical_parts ps) ≡ canonical_parts ps
unfolding canonical_parts
canonical_twice [] = refl
canonical_twice (p ∷ ps) = rw (some_canonical ps, canonical_twice ps, again (eqb (number_in p) 0 && any_present ps) (any_present ps) p refl)

-- ---- the components of a duration

pub some_absents : (ns : List ℕ) → any_present (map (λ m. absent) ns) ≡ false
unfolding any_present
some_absents [] = refl
some_absents (n ∷ ns) = some_absents ns

pub some_shown : (zs : List Bool) (k d : ℕ) (f : Fraction) (ns : List ℕ) → ends_at k ns ≡ true → any_present (shown zs k d f ns) ≡ true
unfolding any_present shown ends_at
some_shown zs k d f [] e = e
some_shown zs zero d f (n ∷ ns) e = refl
some_shown zs (suc k) d f (n ∷ ns) e = rw (some_shown (later zs) k d f ns e)
    (or-true (is_present (cond (eqb n 0 && not (first zs)) absent (present n 0 no_fraction))))

pub ends_within : (k : ℕ) (ns : List ℕ) → ends_at k ns ≡ true → k < length ns
unfolding ends_at
ends_within k [] e = absurd (let z : ◌≡◌ {A = ℕ} 0 1 = cc in omega arith)
ends_within zero (n ∷ ns) e = omega arith
ends_within (suc k) (n ∷ ns) e = omega (arith, ends_within k ns e)

last_shown : (zs : List Bool) (k d : ℕ) (f : Fraction) (ns : List ℕ) → ends_at k ns ≡ true → last_in (shown zs k d f ns) ≡ k
unfolding last_in shown ends_at
last_shown zs k d f [] e = absurd (let z : ◌≡◌ {A = ℕ} 0 1 = cc in omega arith)
last_shown zs zero d f (n ∷ ns) e = rw (some_absents ns)
last_shown zs (suc k) d f (n ∷ ns) e = rw (some_shown (later zs) k d f ns e) (ap suc (last_shown (later zs) k d f ns e))

of_last_shown : (g : Part → ℕ) (x : ℕ) (zs : List Bool) (k d : ℕ) (f : Fraction) (ns : List ℕ) → ends_at k ns ≡ true → ((n : ℕ) → g (present n d f) ≡ x)
    → of_last g (shown zs k d f ns) ≡ x
unfolding of_last shown ends_at
of_last_shown g x zs k d f [] e h = absurd (let z : ◌≡◌ {A = ℕ} 0 1 = cc in omega arith)
of_last_shown g x zs zero d f (n ∷ ns) e h = rw (some_absents ns) (h n)
of_last_shown g x zs (suc k) d f (n ∷ ns) e h = rw (some_shown (later zs) k d f ns e) (of_last_shown g x (later zs) k d f ns e h)

numbers_absents : (ns : List ℕ) → all_zero ns ≡ true → numbers (map (λ m. absent) ns) ≡ ns
unfolding numbers all_zero
numbers_absents [] e = refl
numbers_absents (n ∷ ns) e =
    let p = both (eqb n 0) (all_zero ns) e in
    let z : 0 ≡ n = sym (eqb-true n 0 p.0) in
    rw (numbers_absents ns p.1) (ap (λ (m : ℕ). m ∷ ns) z)

number_shown : (n : ℕ) (z b : Bool) → eqb n 0 ≡ b → number_in (cond (b && z) absent (present n 0 no_fraction)) ≡ n
number_shown n true true e = sym (eqb-true n 0 e)
number_shown n false true e = refl
number_shown n z false e = refl

numbers-shown : (zs : List Bool) (k d : ℕ) (f : Fraction) (ns : List ℕ) → ends_at k ns ≡ true → numbers (shown zs k d f ns) ≡ ns
unfolding numbers shown ends_at
numbers-shown zs k d f [] e = refl
numbers-shown zs zero d f (n ∷ ns) e = rw (numbers_absents ns e)
numbers-shown zs (suc k) d f (n ∷ ns) e =
    rw (numbers-shown (later zs) k d f ns e) (ap (λ (m : ℕ). m ∷ ns) (number_shown n (not (first zs)) (eqb n 0) refl))

-- What `exists_duration` says.
pub record Exists (d : Duration) : Type 0 where
  pub ends : ends_at d.last (numbers_of d) ≡ true
  pub alone : weeks_alone d ≡ true
  pub small : all_small (numbers_of d) ≡ true
  pub few : leb d.digits 9 ≡ true
  pub fits : ltb d.fraction (10 ^ d.digits) ≡ true

pub exists_parts : (d : Duration) → exists_duration d ≡ true → Exists d
unfolding exists_duration
exists_parts d e =
    let p = both (ends_at d.last (numbers_of d) && weeks_alone d && all_small (numbers_of d) && leb d.digits 9) (ltb d.fraction (10 ^ d.digits)) e in
    let q = both (ends_at d.last (numbers_of d) && weeks_alone d && all_small (numbers_of d)) (leb d.digits 9) p.0 in
    let r = both (ends_at d.last (numbers_of d) && weeks_alone d) (all_small (numbers_of d)) q.0 in
    let s = both (ends_at d.last (numbers_of d)) (weeks_alone d) r.0 in
    record { ends = s.0; alone = s.1; small = r.1; few = q.1; fits = p.1 }

-- The components of a duration, zero ones spelled or not, make the duration.
pub duration_back : (c : Bool) (zs : List Bool) (d : Duration) → ends_at d.last (numbers_of d) ≡ true
    → duration_of (shown zs d.last d.digits (fraction_of c d) (numbers_of d)) ≡ d
unfolding duration_of
duration_back c zs d e =
    rw (
      last_shown zs d.last d.digits (fraction_of c d) (numbers_of d) e,
      numbers-shown zs d.last d.digits (fraction_of c d) (numbers_of d) e,
      of_last_shown digits_in d.digits zs d.last d.digits (fraction_of c d) (numbers_of d) e (λ n. refl),
      of_last_shown fraction_in d.fraction zs d.last d.digits (fraction_of c d) (numbers_of d) e (λ n. refl),
    )
