-- Components that are well made give a duration that exists, and are a spelling of it.
use Rattle.std.specs.Prelude.{Option, Some, None}
use mathlib.Core.Path.{◌≡◌, refl, ap, sym, ◌∙◌, subst}
use mathlib.Core.Bool.{Bool, true, false, ◌&&◌, ◌||◌, not, cond, and-false, false≢true}
use mathlib.Core.List.{List, [], ◌∷◌, map}
use Prim.Native.Nat.{ℕ, zero, suc, ◌^◌, ◌<◌, ◌≤◌}
use native.Mathlib.Omega.{arith}
use lib.Dec.{eqb, leb, ltb}
use lib.ListN.{get_or, set, length}
use borrow.Author.Tests.{eqb-true, eqb-false, le-leb, lt-ltb, ne_eqb}
use Rattle.octets.proofs.Laws.Cases.{both, by_test}
use Rattle.texts.specs.Times.{fraction}
use Rattle.texts.specs.declared.parts.Fraction.{Fraction}
use Rattle.octets.specs.Found.{Found, found, nothing}
use Rattle.durations.specs.declared.Duration.{Duration}
use Rattle.durations.specs.Parts.{Part, absent, present, no_fraction, is_present, number_in, digits_in, fraction_in, count, any_present, last_in}
use Rattle.durations.specs.Parts.{of_last, numbers, part_at, well_made}
use Rattle.durations.specs.Durations.{numbers_of, first, later, shown, spellable, spelled_parts, duration_of, all_zero, ends_at}
use Rattle.durations.specs.Durations.{all_small, weeks_alone, exists_duration}
use Rattle.durations.specs.Texts.{put_all, get_duration, whole_duration, read_duration, DurationSpelling, canonical, render_duration, duration_text}
use Rattle.durations.specs.Texts.{canonical_of, made_canonical}
use Rattle.durations.proofs.Laws.Parts.{or-true}
use Rattle.durations.proofs.Laws.Made.{AllFit, tidy}
use Rattle.durations.proofs.Laws.Texts.{read-duration}
use Rattle.durations.proofs.Laws.Whole.{duration-from}

-- ---- which are there

none_absent : (ps : List Part) → any_present ps ≡ false → map (λ m. absent) (numbers ps) ≡ ps
unfolding any_present numbers
none_absent [] e = refl
none_absent (absent ∷ ps) e = ap (λ (x : List Part). absent ∷ x) (none_absent ps e)
none_absent (present n d f ∷ ps) e = absurd (false≢true (sym e))

none_zero : (ps : List Part) → any_present ps ≡ false → all_zero (numbers ps) ≡ true
unfolding any_present numbers all_zero
none_zero [] e = refl
none_zero (absent ∷ ps) e = none_zero ps e
none_zero (present n d f ∷ ps) e = absurd (false≢true (sym e))

pub count_none : (ps : List Part) → any_present ps ≡ false → count ps ≡ 0
unfolding any_present count
count_none [] e = refl
count_none (absent ∷ ps) e = count_none ps e
count_none (present n d f ∷ ps) e = absurd (false≢true (sym e))

none_count : (ps : List Part) → count ps ≡ 0 → any_present ps ≡ false
unfolding any_present count
none_count [] e = refl
none_count (absent ∷ ps) e = none_count ps e
none_count (present n d f ∷ ps) e = absurd (omega arith)

at_some : (i : ℕ) (ps : List Part) → is_present (part_at i ps) ≡ true → any_present ps ≡ true
unfolding any_present part_at
at_some i [] e = e
at_some zero (p ∷ ps) e = rw e
at_some (suc i) (p ∷ ps) e = rw (at_some i ps e) (or-true (is_present p))

-- The last one is there, ..
last_there : (ps : List Part) → any_present ps ≡ true → is_present (part_at (last_in ps) ps) ≡ true
unfolding any_present part_at last_in
last_there [] e = e
last_there (p ∷ ps) e =
    go (any_present ps) refl (λ s. last_there ps s)
  where
    go : (b : Bool) → any_present ps ≡ b → (any_present ps ≡ true → is_present (part_at (last_in ps) ps) ≡ true)
        → is_present (part_at (cond b (suc (last_in ps)) 0) (p ∷ ps)) ≡ true
    go true b h = h b
    go false b h = only (is_present p) (any_present ps) b e
      where
        only : (x y : Bool) → y ≡ false → (x || y) ≡ true → x ≡ true
        only true y z w = refl
        only false y z w = absurd (false≢true (sym z ∙ w))

-- .. and where it is the only one, no other is.
only_last : (i : ℕ) (ps : List Part) → count ps ≡ 1 → is_present (part_at i ps) ≡ true → i ≡ last_in ps
unfolding count part_at last_in
only_last i [] n e = absurd (omega arith)
only_last zero (absent ∷ ps) n e = absurd (false≢true e)
only_last zero (present x d f ∷ ps) n e = rw (none_count ps (omega arith))
only_last (suc i) (absent ∷ ps) n e = rw (at_some i ps e) (ap suc (only_last i ps n e))
only_last (suc i) (present x d f ∷ ps) n e = absurd (false≢true (sym (none_count ps (omega arith)) ∙ at_some i ps e))

-- ---- spelled as they are

-- Tests that say of each component before the last whether it is there.
unfoldable Agrees : List Bool → List Part → Type 0
Agrees zs [] = Unit {0}
Agrees zs (p ∷ ps) = (any_present ps ≡ true → first zs ≡ is_present p) × Agrees (later zs) ps

own_agrees : (ps : List Part) → Agrees (map is_present ps) ps
unfolding Agrees
own_agrees [] = tt
own_agrees (p ∷ ps) = (λ s. refl, own_agrees ps)

one_agrees : (ps : List Part) → count ps ≤ 1 → Agrees [] ps
unfolding Agrees count
one_agrees [] n = tt
one_agrees (absent ∷ ps) n = (λ s. refl, one_agrees ps n)
one_agrees (present x d f ∷ ps) n =
    let z : any_present ps ≡ false = none_count ps (omega arith) in
    (λ s. absurd (false≢true (sym z ∙ s)), one_agrees ps (omega arith))

-- The comma of the last component.
unfoldable last_fraction : List Part → Fraction
last_fraction [] = no_fraction
last_fraction (absent ∷ ps) = last_fraction ps
last_fraction (present n d f ∷ ps) = cond (any_present ps) (last_fraction ps) f

bare-fraction : (f : Fraction) → f.number < 10 ^ 0 → (not (eqb 0 0) && f.comma) ≡ f.comma → no_fraction ≡ f
bare-fraction f h e = let z : 0 ≡ f.number = omega arith in λ i. record { comma = e i; number = z i }

no_digits : (n d : ℕ) (f : Fraction) → d ≡ 0 → f.number < 10 ^ d → (not (eqb d 0) && f.comma) ≡ f.comma → present n 0 no_fraction ≡ present n d f
no_digits n d f z h e =
    let a : no_fraction ≡ f = bare-fraction f (rw z at h) (rw z at e) in
    λ i. present n (sym z i) (a i)

shown_back : (zs : List Bool) (ps : List Part) → any_present ps ≡ true → AllFit ps → tidy ps ≡ true → Agrees zs ps
    → shown zs (last_in ps) (of_last digits_in ps) (last_fraction ps) (numbers ps) ≡ ps
unfolding any_present shown last_in of_last numbers tidy AllFit Agrees last_fraction
shown_back zs [] s h t a = absurd (false≢true s)
shown_back zs (absent ∷ ps) s h t a =
    rw (s, a.0 s) (ap (λ (x : List Part). absent ∷ x) (shown_back (later zs) ps s h.1 t a.1))
shown_back zs (present n d f ∷ ps) s h t a =
    go (any_present ps) refl (both (eqb d 0 || not (any_present ps)) (tidy ps) t).0
    (λ y. shown_back (later zs) ps y h.1 (both (eqb d 0 || not (any_present ps)) (tidy ps) t).1 a.1)
  where
    go : (b : Bool) → any_present ps ≡ b → (eqb d 0 || not (any_present ps)) ≡ true
        → (any_present ps ≡ true → shown (later zs) (last_in ps) (of_last digits_in ps) (last_fraction ps) (numbers ps) ≡ ps)
        → shown zs (cond b (suc (last_in ps)) 0) (cond b (of_last digits_in ps) d) (cond b (last_fraction ps) f) (n ∷ numbers ps) ≡ present n d f ∷ ps
    go true b t g =
        let z : d ≡ 0 = eqb-true d 0 (plain (eqb d 0) (simp b at t)) in
        rw (a.0 b, and-false (eqb n 0), g b) (ap (λ (x : Part). x ∷ ps) (no_digits n d f z h.0.2 h.0.3))
      where
        plain : (x : Bool) → (x || not true) ≡ true → x ≡ true
        plain true e = refl
        plain false e = e
    go false b t g = rw (none_absent ps b)

-- ---- in range

small-numbers : (ps : List Part) → AllFit ps → all_small (numbers ps) ≡ true
unfolding AllFit all_small numbers
small-numbers [] h = refl
small-numbers (absent ∷ ps) h = small-numbers ps h.1
small-numbers (present n d f ∷ ps) h = rw (lt-ltb n (10 ^ 9) h.0.0, small-numbers ps h.1)

last_ends : (ps : List Part) → any_present ps ≡ true → ends_at (last_in ps) (numbers ps) ≡ true
unfolding any_present ends_at last_in numbers
last_ends [] e = e
last_ends (p ∷ ps) e = go (any_present ps) refl (λ s. last_ends ps s)
  where
    go : (b : Bool) → any_present ps ≡ b → (any_present ps ≡ true → ends_at (last_in ps) (numbers ps) ≡ true)
        → ends_at (cond b (suc (last_in ps)) 0) (number_in p ∷ numbers ps) ≡ true
    go true b h = h b
    go false b h = none_zero ps b

record LastFits (ps : List Part) : Type 0 where
  pub few : of_last digits_in ps ≤ 9
  pub fits : of_last fraction_in ps < 10 ^ of_last digits_in ps
  pub number : (last_fraction ps).number ≡ of_last fraction_in ps
  pub comma : (not (eqb (of_last digits_in ps) 0) && (last_fraction ps).comma) ≡ (last_fraction ps).comma

last_fits : (ps : List Part) → any_present ps ≡ true → AllFit ps → LastFits ps
unfolding any_present of_last last_fraction AllFit
last_fits [] s h = absurd (false≢true s)
last_fits (absent ∷ ps) s h =
    let k = last_fits ps s h.1 in
    record { few = rw s k.few; fits = rw s k.fits; number = rw s k.number; comma = rw s k.comma }
last_fits (present n d f ∷ ps) s h = go (any_present ps) refl (λ y. last_fits ps y h.1)
  where
    go : (b : Bool) → any_present ps ≡ b → (any_present ps ≡ true → LastFits ps) → LastFits (present n d f ∷ ps)
    go true b g = let k = g b in record { few = rw b k.few; fits = rw b k.fits; number = rw b k.number; comma = rw b k.comma }
    go false b g = record { few = rw b h.0.1; fits = rw b h.0.2; number = rw b; comma = rw b h.0.3 }

-- ---- the duration

-- What is known of components that make a duration.
module _ (ps : List Part) (n : length ps ≡ 7) (fit : AllFit ps) (t : tidy ps ≡ true) (w : well_made ps ≡ true) where
  there : any_present ps ≡ true
  unfolding well_made
  there = (both (any_present ps) (eqb (count ps) 1 || not (is_present (part_at 2 ps))) w).0

  alone : (eqb (count ps) 1 || not (is_present (part_at 2 ps))) ≡ true
  unfolding well_made
  alone = (both (any_present ps) (eqb (count ps) 1 || not (is_present (part_at 2 ps))) w).1

  -- Weeks that are there are the last.
  weeks_last : is_present (part_at 2 ps) ≡ true → (2 ≡ last_in ps) × (count ps ≡ 1)
  weeks_last e =
      let c : count ps ≡ 1 = eqb-true (count ps) 1 (left (eqb (count ps) 1) (is_present (part_at 2 ps)) e alone) in
      (only_last 2 ps c e, c)
    where
      left : (x y : Bool) → y ≡ true → (x || not y) ≡ true → x ≡ true
      left true y h k = refl
      left false true h k = k
      left false false h k = absurd (false≢true h)

numbers-seven : (ps : List Part) → length ps ≡ 7 → numbers_of (duration_of ps) ≡ numbers ps
unfolding numbers duration_of
numbers-seven (a ∷ b ∷ c ∷ d ∷ e ∷ f ∷ g ∷ []) n = refl
numbers-seven [] n = absurd (omega arith)
numbers-seven (a ∷ []) n = absurd (omega arith)
numbers-seven (a ∷ b ∷ []) n = absurd (omega arith)
numbers-seven (a ∷ b ∷ c ∷ []) n = absurd (omega arith)
numbers-seven (a ∷ b ∷ c ∷ d ∷ []) n = absurd (omega arith)
numbers-seven (a ∷ b ∷ c ∷ d ∷ e ∷ []) n = absurd (omega arith)
numbers-seven (a ∷ b ∷ c ∷ d ∷ e ∷ f ∷ []) n = absurd (omega arith)
numbers-seven (a ∷ b ∷ c ∷ d ∷ e ∷ f ∷ g ∷ x ∷ ps) n = absurd (omega arith)

-- The number at a place where no component is.
number_at_lem : (i : ℕ) (ps : List Part) → is_present (part_at i ps) ≡ false → get_or (numbers ps) i 0 ≡ 0
unfolding part_at numbers
number_at_lem i [] e = refl
number_at_lem zero (absent ∷ ps) e = refl
number_at_lem zero (present n d f ∷ ps) e = absurd (false≢true (sym e))
number_at_lem (suc i) (p ∷ ps) e = number_at_lem i ps e

weeks-alone : (ps : List Part) → length ps ≡ 7 → AllFit ps → tidy ps ≡ true → well_made ps ≡ true → weeks_alone (duration_of ps) ≡ true
unfolding weeks_alone duration_of
weeks-alone ps n h t w = go (eqb (last_in ps) 2) refl
  where
    other : (i : ℕ) → (i ≡ last_in ps → ⊥) → count ps ≡ 1 → get_or (numbers ps) i 0 ≡ 0
    other i d c = by_test (is_present (part_at i ps)) (λ e. absurd (d (only_last i ps c e))) (λ e. number_at_lem i ps e)

    go : (b : Bool) → eqb (last_in ps) 2 ≡ b → cond b (eqb (get_or (numbers ps) 0 0) 0 && eqb (get_or (numbers ps) 1 0) 0) (eqb (get_or (numbers ps) 2 0) 0) ≡ true
    go true b =
        let z : last_in ps ≡ 2 = eqb-true (last_in ps) 2 b in
        let e : is_present (part_at 2 ps) ≡ true = rw z at (last_there ps (there ps n h t w)) in
        let c = (weeks_last ps n h t w e).1 in
        rw (other 0 (λ q. omega arith) c, other 1 (λ q. omega arith) c)
    go false b =
        let z : last_in ps ≡ 2 → ⊥ = eqb-false (last_in ps) 2 b in
        by_test (is_present (part_at 2 ps)) (λ e. absurd (z (sym (weeks_last ps n h t w e).0))) (λ e. rw (number_at_lem 2 ps e))

-- What is made of them exists, ..
pub made-exists : (ps : List Part) → length ps ≡ 7 → AllFit ps → tidy ps ≡ true → well_made ps ≡ true → exists_duration (duration_of ps) ≡ true
unfolding exists_duration
made-exists ps n h t w =
    let s = there ps n h t w in
    let k = last_fits ps s h in
    let e : ends_at (duration_of ps).last (numbers_of (duration_of ps)) ≡ true = rw (numbers-seven ps n) (unfold duration_of in last_ends ps s) in
    let a : all_small (numbers_of (duration_of ps)) ≡ true = rw (numbers-seven ps n) (small-numbers ps h) in
    let f : leb (duration_of ps).digits 9 ≡ true = unfold duration_of in le-leb (of_last digits_in ps) 9 k.few in
    let g : ltb (duration_of ps).fraction (10 ^ (duration_of ps).digits) ≡ true = unfold duration_of in lt-ltb (of_last fraction_in ps)
    (10 ^ of_last digits_in ps) k.fits in
    rw (e, weeks-alone ps n h t w, a, f, g)

pub spell_nil : (k : ℕ) → spellable k [] ≡ []
unfolding spellable
spell_nil k = go (eqb k 2)
  where
    go : (b : Bool) → cond b [] (set [] 2 false) ≡ []
    go true = refl
    go false = refl

set_own : (ps : List Part) → is_present (part_at 2 ps) ≡ false → set (map is_present ps) 2 false ≡ map is_present ps
unfolding part_at
set_own [] e = refl
set_own (a ∷ []) e = refl
set_own (a ∷ b ∷ []) e = refl
set_own (a ∷ b ∷ c ∷ ps) e = rw e

spell_own : (ps : List Part) → is_present (part_at 2 ps) ≡ false → (last_in ps ≡ 2 → ⊥) → spellable (last_in ps) (map is_present ps) ≡ map is_present ps
unfolding spellable
spell_own ps e d = rw (ne_eqb (last_in ps) 2 d, set_own ps e)

spelled-with : (ps : List Part) → length ps ≡ 7 → AllFit ps → tidy ps ≡ true → any_present ps ≡ true → (zs : List Bool) → Agrees zs ps
    → spellable (last_in ps) zs ≡ zs
    → spelled_parts (last_fraction ps).comma zs (duration_of ps) ≡ ps
unfolding duration_of
spelled-with ps n h t s zs a q =
    let k = last_fits ps s h in
    let f : fraction (not (eqb (of_last digits_in ps) 0) && (last_fraction ps).comma) (of_last fraction_in ps) ≡ last_fraction ps =
    λ i. record { comma = k.comma i; number = sym k.number i } in
    rw (numbers-seven ps n, q, f) (shown_back zs ps s h t a)

-- .. and they are a spelling of it.
pub made-spelled : (ps : List Part) → length ps ≡ 7 → AllFit ps → tidy ps ≡ true → well_made ps ≡ true
    → (s : DurationSpelling) × (spelled_parts s.comma s.zeros (duration_of ps) ≡ ps)
made-spelled ps n h t w =
    let s = there ps n h t w in
    by_test (is_present (part_at 2 ps))
    (λ e. (
      record { comma = (last_fraction ps).comma; zeros = [] },
      spelled-with ps n h t s [] (one_agrees ps (let c = (weeks_last ps n h t w e).1 in omega arith)) (spell_nil (last_in ps)),
    ))
    (λ e. (
      record { comma = (last_fraction ps).comma; zeros = map is_present ps },
      spelled-with ps n h t s (map is_present ps) (own_agrees ps) (spell_own ps e (λ z. false≢true (sym e ∙ rw z at (last_there ps s)))),
    ))

-- ---- texts

-- What is read exists, and the text is one of its texts.
pub record ReadAs (l : List ℕ) (d : Duration) : Type 0 where
  pub exists : exists_duration d ≡ true
  pub spelling : DurationSpelling
  pub is : l ≡ render_duration spelling d

as_rendered : (s : DurationSpelling) (ps : List Part) → spelled_parts s.comma s.zeros (duration_of ps) ≡ ps → put_all ps ≡ render_duration s (duration_of ps)
unfolding render_duration
as_rendered s ps e = ap put_all (sym e)

pub read_only : (l : List ℕ) (d : Duration) → read_duration l ≡ Some d → ReadAs l d
unfolding read_duration
read_only l d = go (get_duration l) refl
  where
    made : (ps : List Part) → get_duration l ≡ found ps [] → (b : Bool) → well_made ps ≡ b → cond b (Some (duration_of ps)) None ≡ Some d → ReadAs l d
    made ps g false b e = absurd (let z : ◌≡◌ {A = ℕ} 0 1 = cc in omega arith)
    made ps g true b e =
        let x = duration-from l ps g in
        let s = made-spelled ps x.count x.fits x.tidied b in
        let q : duration_of ps ≡ d = cc in
        subst (ReadAs l) q (record {
          exists = made-exists ps x.count x.fits x.tidied b;
          spelling = s.0;
          is = x.is ∙ as_rendered s.0 ps s.1;
        })

    go : (r : Found ℕ (List Part)) → get_duration l ≡ r → whole_duration r ≡ Some d → ReadAs l d
    go nothing g e = absurd (let z : ◌≡◌ {A = ℕ} 0 1 = cc in omega arith)
    go (found ps (x ∷ r)) g e = absurd (let z : ◌≡◌ {A = ℕ} 0 1 = cc in omega arith)
    go (found ps []) g e = made ps g (well_made ps) refl e

-- Making canonical gives the canonical text of what is read, and nothing where nothing is.
pub canonical-made : (l : List ℕ) (d : Duration) → read_duration l ≡ Some d → made_canonical l ≡ Some (duration_text d)
canonical-made l d e = rw e

pub canonical-nothing : (l : List ℕ) → read_duration l ≡ None → made_canonical l ≡ None
canonical-nothing l e = rw e

-- "making canonical twice changes nothing more"
pub canonical_again : (l c : List ℕ) → made_canonical l ≡ Some c → made_canonical c ≡ Some c
canonical_again l c = go (read_duration l) refl
  where
    go : (o : Option Duration) → read_duration l ≡ o → canonical_of o ≡ Some c → made_canonical c ≡ Some c
    go None g e = absurd (let z : ◌≡◌ {A = ℕ} 0 1 = cc in omega arith)
    go (Some d) g e =
        let q : duration_text d ≡ c = cc in
        let r : read_duration (duration_text d) ≡ Some d = read-duration canonical d (read_only l d g).exists in
        subst (λ (x : List ℕ). made_canonical x ≡ Some x) q (rw r)
