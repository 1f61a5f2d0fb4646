-- How long a duration's text is: at most 72 octets.
use mathlib.Core.Path.{◌≡◌, refl, ap, sym, ◌∙◌}
use mathlib.Core.Bool.{Bool, true, false, ◌||◌, not, cond, false≢true}
use mathlib.Core.List.{List, [], ◌∷◌, ◌++◌}
use Prim.Native.Nat.{ℕ, zero, suc, ◌+◌, ◌*◌, ◌^◌, ◌<◌, ◌≤◌}
use native.Mathlib.Omega.{arith}
use lib.Dec.{eqb}
use lib.ListN.{drop, take, length, length-append, take-append-drop}
use borrow.Author.Tests.{eqb-true, ne_eqb, leb-true, ltb-true}
use Rattle.octets.proofs.Laws.Cases.{both}
use Rattle.texts.specs.Times.{put_fraction}
use Rattle.texts.specs.declared.parts.Fraction.{Fraction}
use Rattle.texts.proofs.Laws.Digits.{length_put}
use Rattle.durations.specs.declared.Duration.{Duration}
use Rattle.durations.specs.Parts.{Part, absent, present, is_present, count, any_present, part_at, well_made}
use Rattle.durations.specs.Durations.{numbers_of, fraction_of, spellable, spelled_parts, exists_duration}
use Rattle.durations.specs.Texts.{date_letters, time_letters, put_number, put_part, put_parts, put_times, put_duration, put_all}
use Rattle.durations.specs.Texts.{DurationSpelling, render_duration}
use Rattle.durations.proofs.Laws.Parts.{exists_parts}
use Rattle.durations.proofs.Laws.Made.{PartFits, AllFit, tidy, shown_fit, shown_tidy, shown-length, made}
use Rattle.durations.proofs.Laws.Numbers.{number_few}
use Rattle.durations.proofs.Laws.Texts.{comma-shown}
use Rattle.durations.proofs.Laws.Values.{count_none}

fraction-length : (d : ℕ) (f : Fraction) → length (put_fraction d f) ≤ suc d
unfolding put_fraction
fraction-length zero f = omega arith
fraction-length (suc d) f = rw (ne_eqb (suc d) 0 (λ z. omega arith), length_put (suc d) f.number) (omega arith)

no_fraction_lem : (f : Fraction) → length (put_fraction 0 f) ≡ 0
unfolding put_fraction
no_fraction_lem f = refl

part_length : (l n d : ℕ) (f : Fraction) → n < 10 ^ 9 → length (put_part l (present n d f)) ≤ 10 + length (put_fraction d f)
unfolding put_part put_number
part_length l n d f h = simp (length-append, length_put) (let k = number_few n h in omega arith)

-- Ten octets a component, and its fraction.
abbrev weight : Part → ℕ
weight absent = 0
weight (present n d f) = 10 + length (put_fraction d f)

unfoldable weights : List Part → ℕ
weights [] = 0
weights (p ∷ ps) = weight p + weights ps

weights_append : (ps q : List Part) → weights (ps ++ q) ≡ weights ps + weights q
unfolding weights
weights_append [] q = omega arith
weights_append (p ∷ ps) q = omega (arith, weights_append ps q)

weights_none : (ps : List Part) → any_present ps ≡ false → weights ps ≡ 0
unfolding weights any_present
weights_none [] e = refl
weights_none (absent ∷ ps) e = omega (arith, weights_none ps e)
weights_none (present n d f ∷ ps) e = absurd (false≢true (sym e))

one-length : (l : ℕ) (p : Part) → PartFits p → length (put_part l p) ≤ weight p
one-length l absent h = unfold put_part in omega arith
one-length l (present n d f) h = part_length l n d f h.0

parts_length : (ls : List ℕ) (ps : List Part) → AllFit ps → length (put_parts ls ps) ≤ weights ps
unfolding put_parts AllFit weights
parts_length [] ps h = omega arith
parts_length (l ∷ ls) [] h = omega arith
parts_length (l ∷ ls) (p ∷ ps) h = rw length-append (omega (arith, one-length l p h.0, parts_length ls ps h.1))

-- Only one component has a fraction, of ten octets at most.
tidy_weights : (ps : List Part) → AllFit ps → tidy ps ≡ true → weights ps ≤ 10 * count ps + 10
unfolding AllFit tidy weights count
tidy_weights [] h t = omega arith
tidy_weights (absent ∷ ps) h t = omega (arith, tidy_weights ps h.1 t)
tidy_weights (present n d f ∷ ps) h t =
    let b = both (eqb d 0 || not (any_present ps)) (tidy ps) t in
    go (eqb d 0) refl b.0 (tidy_weights ps h.1 b.1)
  where
    go : (z : Bool) → eqb d 0 ≡ z → (z || not (any_present ps)) ≡ true → weights ps ≤ 10 * count ps + 10
        → 10 + length (put_fraction d f) + weights ps ≤ 10 * suc (count ps) + 10
    go true z e i =
        let q : length (put_fraction d f) ≡ 0 = rw (eqb-true d 0 z) (no_fraction_lem f) in
        omega arith
    go false z e i =
        let s : any_present ps ≡ false = none (any_present ps) e in
        let w = weights_none ps s in
        let c = count_none ps s in
        let k = fraction-length d f in
        let m = h.0.1 in
        omega arith
      where
        none : (b : Bool) → not b ≡ true → b ≡ false
        none false e = refl
        none true e = absurd (false≢true e)

times_length : (ts : List Part) → AllFit ts → length (put_times ts) ≤ 1 + weights ts
unfolding put_times
times_length ts h = go (any_present ts)
  where
    go : (b : Bool) → length (cond b (84 ∷ put_parts time_letters ts) []) ≤ 1 + weights ts
    go true = omega (arith, parts_length time_letters ts h)
    go false = omega arith

fit_take : (n : ℕ) (ps : List Part) → AllFit ps → AllFit (take n ps)
unfolding AllFit
fit_take zero ps h = tt
fit_take (suc n) [] h = tt
fit_take (suc n) (p ∷ ps) h = (h.0, fit_take n ps h.1)

fit_drop : (n : ℕ) (ps : List Part) → AllFit ps → AllFit (drop n ps)
unfolding AllFit
fit_drop zero ps h = h
fit_drop (suc n) [] h = tt
fit_drop (suc n) (p ∷ ps) h = fit_drop n ps h.1

all_length : (ps : List Part) → AllFit ps → length (put_all ps) ≤ 2 + weights ps
unfolding put_duration
all_length ps h =
    let w : weights ps ≡ weights (take 4 ps) + weights (drop 4 ps) = sym (ap weights (take-append-drop 4 ps)) ∙ weights_append (take 4 ps) (drop 4 ps) in
    let a = parts_length date_letters (take 4 ps) (fit_take 4 ps h) in
    let b = times_length (drop 4 ps) (fit_drop 4 ps h) in
    rw length-append (omega arith)

-- Weeks stand alone, so there are never more than six.
count_most : (ps : List Part) → count ps ≤ length ps
unfolding count
count_most [] = omega arith
count_most (absent ∷ ps) = omega (arith, count_most ps)
count_most (present n d f ∷ ps) = omega (arith, count_most ps)

six : (ps : List Part) → length ps ≡ 7 → well_made ps ≡ true → count ps ≤ 6
unfolding well_made part_at
six ps n w = go (eqb (count ps) 1) refl (both (any_present ps) (eqb (count ps) 1 || not (is_present (part_at 2 ps))) w).1
  where
    absent_third : (ps : List Part) → length ps ≡ 7 → not (is_present (part_at 2 ps)) ≡ true → count ps ≤ 6
    absent_third (a ∷ b ∷ absent ∷ ps) n e = unfold count in omega (arith, at_most a (count (b ∷ absent ∷ ps)), at_most b (count (absent ∷ ps)), count_most ps)
      where
        at_most : (p : Part) (k : ℕ) → cond (is_present p) (suc k) k ≤ suc k
        at_most absent k = omega arith
        at_most (present x d f) k = omega arith
    absent_third (a ∷ b ∷ present x d f ∷ ps) n e = absurd (false≢true e)
    absent_third [] n e = absurd (omega arith)
    absent_third (a ∷ []) n e = absurd (omega arith)
    absent_third (a ∷ b ∷ []) n e = absurd (omega arith)

    go : (z : Bool) → eqb (count ps) 1 ≡ z → (z || not (is_present (part_at 2 ps))) ≡ true → count ps ≤ 6
    go true z e = omega (arith, eqb-true (count ps) 1 z)
    go false z e = absent_third ps n e

-- `P`, six components of ten octets, `T`, and a fraction of ten.
pub duration-length : (s : DurationSpelling) (d : Duration) → exists_duration d ≡ true → length (render_duration s d) ≤ 72
unfolding render_duration
duration-length s d e =
    let x = exists_parts d e in
    let zs = spellable d.last s.zeros in
    let f = fraction_of s.comma d in
    let fit = shown_fit zs d.last d.digits f (numbers_of d) x.small (leb-true _ _ x.few) (ltb-true _ _ x.fits)
    (comma-shown (not (eqb d.digits 0)) s.comma) in
    let n = shown-length zs d.last d.digits f (numbers_of d) in
    let a = all_length (spelled_parts s.comma s.zeros d) fit in
    let b = tidy_weights (spelled_parts s.comma s.zeros d) fit (shown_tidy zs d.last d.digits f (numbers_of d)) in
    let c = six (spelled_parts s.comma s.zeros d) n (made s.comma s.zeros d e) in
    omega arith
