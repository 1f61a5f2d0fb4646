-- Components of a duration read one after another.
use Rattle.std.specs.Prelude.{Option, Some, None}
use mathlib.Core.Path.{◌≡◌, refl, ap, sym, ◌∙◌, subst}
use mathlib.Core.Bool.{Bool, true, false, ◌||◌, cond}
use mathlib.Core.List.{List, [], ◌∷◌, ◌++◌, append_assoc, append-nil}
use Prim.Native.Nat.{ℕ, zero, suc, ◌+◌, ◌-◌, ◌<◌, ◌≤◌}
use native.Mathlib.Omega.{arith}
use lib.Dec.{eqb, ltb}
use lib.ListN.{length, length-append, get_or, set, drop}
use borrow.Author.Tests.{eq-eqb, ne_eqb, eqb-true, eqb-false, lt-ltb, ltb-true, ltb-false}
use Rattle.octets.specs.Found.{Found, found, nothing, onward}
use Rattle.octets.proofs.Laws.Found.{onward-found}
use Rattle.texts.specs.Octets.{first_octet, letter_t}
use Rattle.durations.specs.Parts.{Part, absent, present, is_present, number_in, digits_in, fraction_in, count, any_present}
use Rattle.durations.specs.Parts.{last_in, of_last, numbers, part_at, well_made}
use Rattle.durations.specs.Durations.{duration_of}
use Rattle.durations.specs.Texts.{letter_p, date_letters, time_letters, get_present, get_part, get_parts, get_times, get_duration}
use Rattle.durations.specs.Texts.{whole_duration, read_duration}
use Rattle.durations.proofs.Laws.Reads.{parts_from_lem, date_pos, time_pos}
use Rattle.reading.proofs.Laws.Digits.{drop_at}
use Rattle.reading.specs.declared.steps.Component.{Component}
use Rattle.reading.specs.declared.steps.Tally.{Tally}
use Rattle.reading.specs.Durations.{part_of, seen_part, IsComponent, designators, designators_in, none_read, with_part, with_parts, added_by}
use Rattle.reading.specs.Durations.{tallied, whole_tally, timed_tally}

-- ---- a designator, and the others

onward_again : (m : Found ℕ (List Part)) (p : Part) (t : Tally) (k : ℕ)
    → onward (onward m (λ ps q. found (p ∷ ps) q)) (λ ps r. found (with_parts t k ps) r) ≡ onward m (λ ps r. found (with_parts (with_part k p t) (suc k) ps) r)
unfolding with_parts
onward_again (found ps q) p t k = refl
onward_again nothing p t k = refl

module _ (l : List ℕ) (o : Option Component) (i : IsComponent l o) (c : ℕ) (h : 0 < c) (cs : List ℕ) (t : Tally) (k : ℕ) where
  pub added_there : (g : Component) → o ≡ Some g → g.designator ≡ c
      → added_by (c ∷ cs) l t k ≡ added_by cs g.rest.now (with_part k (part_of g) t) (suc k)
  unfolding added_by get_parts get_part IsComponent
  added_there g e d =
      let p : get_present c l ≡ found (part_of g) g.rest.now = sym (i c h) ∙ rw (e, eq-eqb g.designator c d) in
      rw p (onward_again (get_parts cs g.rest.now) (part_of g) t k)

  pub added_other : seen_part o c ≡ nothing → added_by (c ∷ cs) l t k ≡ added_by cs l t (suc k)
  unfolding added_by get_parts get_part IsComponent
  added_other e = rw (sym (i c h) ∙ e) (onward_again (get_parts cs l) absent t k)

-- Designators are no zeros.
pub designator_pos : (i : ℕ) → i < 7 → 0 < get_or designators i 0
designator_pos zero h = omega arith
designator_pos (suc zero) h = omega arith
designator_pos (suc (suc zero)) h = omega arith
designator_pos (suc (suc (suc zero))) h = omega arith
designator_pos (suc (suc (suc (suc zero)))) h = omega arith
designator_pos (suc (suc (suc (suc (suc zero))))) h = omega arith
designator_pos (suc (suc (suc (suc (suc (suc zero)))))) h = omega arith
designator_pos (suc (suc (suc (suc (suc (suc (suc i))))))) h = absurd (omega arith)

-- The first of those from a place on, and the others; and none.
pub designators-first : (place end : ℕ) → place < end → end ≤ 7 → designators_in place end ≡ get_or designators place 0 ∷ designators_in (place + 1) end
designators-first place end h k =
    let e : end - place ≡ suc (end - (place + 1)) = omega arith in
    rw (e, drop_at designators place (omega arith))

pub added_none : (place end : ℕ) (l : List ℕ) (t : Tally) → end ≤ place → added_by (designators_in place end) l t place ≡ found t l
unfolding added_by get_parts with_parts
added_none place end l t h = let e : end - place ≡ 0 = omega arith in rw e

-- ---- one component more, at the end

some_more : (ps : List Part) (p : Part) → any_present (ps ++ p ∷ []) ≡ (any_present ps || is_present p)
unfolding any_present
some_more [] absent = refl
some_more [] (present n d f) = refl
some_more (absent ∷ ps) p = some_more ps p
some_more (present n d f ∷ ps) p = refl

some_absent : (ps : List Part) → any_present (ps ++ absent ∷ []) ≡ any_present ps
some_absent ps = some_more ps absent ∙ go (any_present ps)
  where
    go : (b : Bool) → (b || false) ≡ b
    go true = refl
    go false = refl

some_present : (ps : List Part) (n d : ℕ) (f : _) → any_present (ps ++ present n d f ∷ []) ≡ true
some_present ps n d f = some_more ps (present n d f) ∙ go (any_present ps)
  where
    go : (b : Bool) → (b || true) ≡ true
    go true = refl
    go false = refl

last_absent : (ps : List Part) → last_in (ps ++ absent ∷ []) ≡ last_in ps
unfolding last_in
last_absent [] = unfold any_present in refl
last_absent (p ∷ ps) = rw (some_absent ps, last_absent ps)

last_present : (ps : List Part) (n d : ℕ) (f : _) → last_in (ps ++ present n d f ∷ []) ≡ length ps
unfolding last_in
last_present [] n d f = unfold any_present in refl
last_present (p ∷ ps) n d f = rw (some_present ps n d f, last_present ps n d f)

of_absent : (g : Part → ℕ) (ps : List Part) → g absent ≡ 0 → of_last g (ps ++ absent ∷ []) ≡ of_last g ps
unfolding of_last
of_absent g [] e = unfold any_present in e
of_absent g (p ∷ ps) e = rw (some_absent ps, of_absent g ps e)

of_present : (g : Part → ℕ) (ps : List Part) (n d : ℕ) (f : _) → of_last g (ps ++ present n d f ∷ []) ≡ g (present n d f)
unfolding of_last
of_present g [] n d f = unfold any_present in refl
of_present g (p ∷ ps) n d f = rw (some_present ps n d f, of_present g ps n d f)

pub count-append : (ps q : List Part) → count (ps ++ q) ≡ count ps + count q
unfolding count
count-append [] q = omega arith
count-append (absent ∷ ps) q = count-append ps q
count-append (present n d f ∷ ps) q = omega (arith, count-append ps q)

numbers-append : (ps q : List Part) → numbers (ps ++ q) ≡ numbers ps ++ numbers q
unfolding numbers
numbers-append [] q = refl
numbers-append (p ∷ ps) q = ap (λ (ns : List ℕ). number_in p ∷ ns) (numbers-append ps q)

numbers-length : (ps : List Part) → length (numbers ps) ≡ length ps
unfolding numbers
numbers-length [] = refl
numbers-length (p ∷ ps) = ap suc (numbers-length ps)

weeks_absent : (i : ℕ) (ps : List Part) → is_present (part_at i (ps ++ absent ∷ [])) ≡ is_present (part_at i ps)
unfolding part_at
weeks_absent zero [] = refl
weeks_absent (suc i) [] = refl
weeks_absent zero (p ∷ ps) = refl
weeks_absent (suc i) (p ∷ ps) = weeks_absent i ps

weeks_same : (ps : List Part) (n d : ℕ) (f : _) → is_present (part_at (length ps) (ps ++ present n d f ∷ [])) ≡ true
unfolding part_at
weeks_same [] n d f = refl
weeks_same (p ∷ ps) n d f = weeks_same ps n d f

weeks_other : (i : ℕ) (ps : List Part) (q : Part) → (length ps ≡ i → ⊥) → is_present (part_at i (ps ++ q ∷ [])) ≡ is_present (part_at i ps)
unfolding part_at
weeks_other zero [] q e = absurd (e refl)
weeks_other (suc i) [] q e = refl
weeks_other zero (p ∷ ps) q e = refl
weeks_other (suc i) (p ∷ ps) q e = weeks_other i ps q (λ z. e (ap suc z))

weeks_present : (ps : List Part) (n d : ℕ) (f : _) → cond (eqb (length ps) 2) true (is_present (part_at 2 ps)) ≡ is_present (part_at 2 (ps ++ present n d f ∷ []))
weeks_present ps n d f = go (eqb (length ps) 2) refl
  where
    go : (b : Bool) → eqb (length ps) 2 ≡ b → cond b true (is_present (part_at 2 ps)) ≡ is_present (part_at 2 (ps ++ present n d f ∷ []))
    go true e = let z : 2 ≡ length ps = sym (eqb-true (length ps) 2 e) in rw z (sym (weeks_same ps n d f))
    go false e = sym (weeks_other 2 ps (present n d f) (eqb-false (length ps) 2 e))

-- ---- what was read, for components

unfoldable pub zeros : ℕ → List ℕ
zeros zero = []
zeros (suc m) = 0 ∷ zeros m

-- That t is the tally of these components, before m others.
pub record Tallies (ps : List Part) (m : ℕ) (t : Tally) : Type 0 where
  pub numbers : t.numbers ≡ numbers ps ++ zeros m
  pub count : t.count ≡ count ps
  pub weeks : t.weeks ≡ is_present (part_at 2 ps)
  pub last : t.last ≡ last_in ps
  pub digits : t.digits ≡ of_last digits_in ps
  pub fraction : t.fraction ≡ of_last fraction_in ps

pub tallies_none : Tallies [] 7 none_read
tallies_none = record {
  numbers = unfold numbers zeros in refl;
  count = unfold count in refl;
  weeks = unfold part_at in refl;
  last = unfold last_in in refl;
  digits = unfold of_last in refl;
  fraction = unfold of_last in refl;
}

set_there : (xs ys : List ℕ) (z n : ℕ) → set (xs ++ z ∷ ys) (length xs) n ≡ xs ++ n ∷ ys
set_there [] ys z n = refl
set_there (x ∷ xs) ys z n = ap (λ (l : List ℕ). x ∷ l) (set_there xs ys z n)

numbers_more : (ps : List Part) (p : Part) (m : ℕ) → numbers (ps ++ p ∷ []) ++ zeros m ≡ numbers ps ++ number_in p ∷ zeros m
numbers_more ps p m = rw (numbers-append ps (p ∷ [])) (unfold numbers in append_assoc (numbers ps) (number_in p ∷ []) (zeros m))

numbers-set : (ps : List Part) (n d : ℕ) (f : _) (m : ℕ) → set (numbers ps ++ zeros (suc m)) (length ps) n ≡ numbers (ps ++ present n d f ∷ []) ++ zeros m
numbers-set ps n d f m =
    let e : set (numbers ps ++ zeros (suc m)) (length (numbers ps)) n ≡ numbers ps ++ n ∷ zeros m =
    unfold zeros in set_there (numbers ps) (zeros m) 0 n in
    rw (← numbers-length ps) (e ∙ sym (numbers_more ps (present n d f) m))

tallies_more : (ps : List Part) (p : Part) (m : ℕ) (t : Tally) → Tallies ps (suc m) t → Tallies (ps ++ p ∷ []) m (with_part (length ps) p t)
tallies_more ps absent m t h = record {
  numbers = h.numbers ∙ (unfold zeros in sym (numbers_more ps absent m));
  count = h.count ∙ sym (count-append ps (absent ∷ []) ∙ (unfold count in omega arith));
  weeks = h.weeks ∙ sym (weeks_absent 2 ps);
  last = h.last ∙ sym (last_absent ps);
  digits = h.digits ∙ sym (of_absent digits_in ps refl);
  fraction = h.fraction ∙ sym (of_absent fraction_in ps refl);
}
tallies_more ps (present n d f) m t h = record {
  numbers = ap (λ (l : List ℕ). set l (length ps) n) h.numbers ∙ numbers-set ps n d f m;
  count = ap (λ (k : ℕ). k + 1) h.count ∙ sym (count-append ps (present n d f ∷ []) ∙ (unfold count in refl));
  weeks = ap (λ (b : Bool). cond (eqb (length ps) 2) true b) h.weeks ∙ weeks_present ps n d f;
  last = sym (last_present ps n d f);
  digits = sym (of_present digits_in ps n d f);
  fraction = sym (of_present fraction_in ps n d f);
}

-- Components read after others.
pub tallies_all : (ps q : List Part) (m : ℕ) (t : Tally) → Tallies ps (length q + m) t → Tallies (ps ++ q) m (with_parts t (length ps) q)
unfolding with_parts
tallies_all ps [] m t h = let z : 0 + m ≡ m = omega arith in rw append-nil (subst (λ (x : ℕ). Tallies ps x t) z h)
tallies_all ps (p ∷ q) m t h =
    let a : (ps ++ p ∷ []) ++ q ≡ ps ++ p ∷ q = append_assoc ps (p ∷ []) q in
    let b : length (ps ++ p ∷ []) ≡ suc (length ps) = length-append ps (p ∷ []) ∙ omega arith in
    let e : suc (length q) + m ≡ suc (length q + m) = omega arith in
    let k = tallies_more ps p (length q + m) t (subst (λ (x : ℕ). Tallies ps x t) e h) in
    let r = tallies_all (ps ++ p ∷ []) q m (with_part (length ps) p t) k in
    subst (λ (x : List Part). Tallies x m (with_parts (with_part (length ps) p t) (suc (length ps)) q)) a
    (subst (λ (x : ℕ). Tallies ((ps ++ p ∷ []) ++ q) m (with_parts (with_part (length ps) p t) x q)) b r)

tallies_absent : (ps : List Part) (t : Tally) → Tallies ps 3 t → Tallies (ps ++ absent ∷ absent ∷ absent ∷ []) 0 t
unfolding with_parts
tallies_absent ps t h = tallies_all ps (absent ∷ absent ∷ absent ∷ []) 0 t h

-- ---- the duration

some_count : (ps : List Part) → ltb 0 (count ps) ≡ any_present ps
unfolding count any_present
some_count [] = refl
some_count (absent ∷ ps) = some_count ps
some_count (present n d f ∷ ps) = lt-ltb 0 (suc (count ps)) (omega arith)

tallied-is : (ps : List Part) (t : Tally) → Tallies ps 0 t → tallied t ≡ duration_of ps
unfolding duration_of
tallied-is ps t h =
    let e : t.numbers ≡ numbers ps = h.numbers ∙ (unfold zeros in append-nil (numbers ps)) in
    λ i. record {
      last = h.last i;
      years = get_or (e i) 0 0;
      months = get_or (e i) 1 0;
      weeks = get_or (e i) 2 0;
      days = get_or (e i) 3 0;
      hours = get_or (e i) 4 0;
      minutes = get_or (e i) 5 0;
      seconds = get_or (e i) 6 0;
      digits = h.digits i;
      fraction = h.fraction i;
    }

-- The tally of all components makes their duration.
whole-tally : (ps : List Part) (t : Tally) (r : List ℕ) → Tallies ps 0 t → whole_duration (found ps r) ≡ whole_tally t r
unfolding well_made
whole-tally ps t [] h = rw (h.count, h.weeks, some_count ps, tallied-is ps t h)
whole-tally ps t (x ∷ r) h = refl

-- What the components before `T` leave, and the tally of them.
record DatesRead (l : List ℕ) (t : Tally) (r : List ℕ) : Type 0 where
  pub parts : List Part
  pub read : get_parts date_letters l ≡ found parts r
  pub tally : Tallies parts 3 t
  pub number : length parts ≡ 4

dates_read : (l : List ℕ) (t : Tally) (r : List ℕ) → found t r ≡ added_by date_letters l none_read 0 → DatesRead l t r
unfolding added_by
dates_read l t r e =
    let x = onward-found (get_parts date_letters l) _ t r (sym e) in
    let n = (parts_from_lem date_letters l x.0 x.1 date_pos x.2).count in
    let u : with_parts none_read 0 x.0 ≡ t = let z = x.3 in cc in
    let v : x.1 ≡ r = let z = x.3 in cc in
    let m : 7 ≡ length x.0 + 3 = omega arith in
    record {
      parts = x.0;
      read = x.2 ∙ ap (λ (q : List ℕ). found x.0 q) v;
      tally = subst (Tallies x.0 3) u (tallies_all [] x.0 3 none_read (subst (λ (k : ℕ). Tallies [] k none_read) m tallies_none));
      number = n;
    }

pub read_none : (l : List ℕ) → eqb (first_octet l) letter_p ≡ false → read_duration l ≡ None
unfolding read_duration get_duration
read_none l e = rw e

module _ (l : List ℕ) (p : eqb (first_octet l) letter_p ≡ true) (t : Tally) (r : List ℕ) (e : found t r ≡ added_by date_letters (drop 1 l) none_read 0) where
  -- Nothing but these components.
  pub read_dates : eqb (first_octet r) letter_t ≡ false → read_duration l ≡ whole_tally t r
  unfolding read_duration get_duration get_times
  read_dates h =
      let d = dates_read (drop 1 l) t r e in
      rw (p, d.read, h) (whole-tally (d.parts ++ absent ∷ absent ∷ absent ∷ []) t r (tallies_absent d.parts t d.tally))

  -- `T`, and components after it.
  pub read_times : eqb (first_octet r) letter_t ≡ true → read_duration l ≡ timed_tally t (added_by time_letters (drop 1 r) t 4)
  unfolding read_duration get_duration get_times added_by
  read_times h =
      let d = dates_read (drop 1 l) t r e in
      rw (p, d.read, h) (go d.parts d.tally d.number (get_parts time_letters (drop 1 r)) refl)
    where
      more : (ds ts : List Part) (q : List ℕ) (u : Tally) → Tallies ds 3 t → Tallies (ds ++ ts) 0 u → (b : Bool) → any_present ts ≡ b
          → whole_duration (onward (cond b (found ts q) nothing) λ ts q. found (ds ++ ts) q) ≡ cond (eqb u.count t.count) None (whole_tally u q)
      more ds ts q u a k b z =
          let n : u.count ≡ t.count + count ts = k.count ∙ count-append ds ts ∙ rw (← a.count) refl in
          each b z n
        where
          each : (b : Bool) → any_present ts ≡ b → u.count ≡ t.count + count ts
              → whole_duration (onward (cond b (found ts q) nothing) λ ts q. found (ds ++ ts) q) ≡ cond (eqb u.count t.count) None (whole_tally u q)
          each true z n =
              let i : 0 < count ts = ltb-true 0 (count ts) (some_count ts ∙ z) in
              rw (ne_eqb u.count t.count (λ y. omega arith)) (whole-tally (ds ++ ts) u q k)
          each false z n =
              let i : count ts ≤ 0 = ltb-false 0 (count ts) (some_count ts ∙ z) in
              rw (eq-eqb u.count t.count (omega arith))

      go : (ds : List Part) → Tallies ds 3 t → length ds ≡ 4 → (m : Found ℕ (List Part)) → get_parts time_letters (drop 1 r) ≡ m
          → whole_duration (onward (onward m λ ts q. cond (any_present ts) (found ts q) nothing) λ ts q. found (ds ++ ts) q)
          ≡ timed_tally t (onward m λ ts q. found (with_parts t 4 ts) q)
      go ds a n nothing z = refl
      go ds a n (found ts q) z =
          let c = (parts_from_lem time_letters (drop 1 r) ts q time_pos z).count in
          let m : 3 ≡ length ts + 0 = omega arith in
          let k : Tallies (ds ++ ts) 0 (with_parts t (length ds) ts) = tallies_all ds ts 0 t (subst (λ (x : ℕ). Tallies ds x t) m a) in
          more ds ts q (with_parts t 4 ts) a (subst (λ (x : ℕ). Tallies (ds ++ ts) 0 (with_parts t x ts)) n k) (any_present ts) refl
