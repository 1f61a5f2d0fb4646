-- Readings: one after the other; over fields and from bits, which are one.
use mathlib.Core.Path.{◌≡◌, refl, ap, sym, ◌∙◌}
use mathlib.Core.Bool.{Bool, true, false, cond, ◌&&◌}
use mathlib.Core.List.{List, [], ◌∷◌, ◌++◌, append_assoc}
use Prim.Native.Nat.{ℕ, zero, suc, ◌*◌, ◌≤◌}
use native.Mathlib.Omega.{arith}
use lib.Dec.{leb, ltb, eqb}
use lib.IntN.{ℤ, pos, neg_ℤ}
use borrow.Author.Tests.{le-leb, lt-ltb, leb-true, ltb-true, eqb-true, eq-eqb}
use Rattle.octets.specs.Found.{Found, found, nothing, onward}
use Rattle.octets.proofs.Laws.Cases.{by_test, both}
use Rattle.octets.proofs.Laws.Found.{nothing-not, found-value, found-rest, found-more}
use Rattle.fields.specs.Bits.{BitString, bits_of}
use Rattle.fields.specs.Integers.{within, fewest, twos}
use Rattle.fields.specs.Fields.{Field, Ranged, Free, width, field_bits, layout}
use Rattle.fields.specs.Readings.{Reading, give, ranged, free, refuse, ◌>>=◌, a_ranged, a_free, natural, read_ranged, read_free, run, over}
use Rattle.fields.specs.Spelled.{SpelledField, Range, Integer, spelled_fields, well_spelled, spelled_bits}
use Rattle.fields.proofs.Laws.Integers.{within_more, fewest-fits}
use Rattle.fields.proofs.Laws.Fields.{read-ranged, read_ranged_only, read-free, read_free_only}

-- ---- one after the other

module _ {A B : Type 0} where
  pub over_bind : (t : Reading A) (f : A → Reading B) (fs : List Field) → over (t >>= f) fs ≡ onward (over t fs) (λ a. over (f a))
  unfolding over ◌>>=◌
  over_bind (give a) f fs = refl
  over_bind (ranged r k) f [] = refl
  over_bind (ranged r k) f (Ranged q v ∷ fs) =
      by_test (eqb q r) (λ e. by_test (ltb v r) (λ h. simp (e, h, over_bind (k v) f fs)) (λ h. simp (e, h))) (λ e. simp e)
  over_bind (ranged r k) f (Free z ∷ fs) = refl
  over_bind (free k) f [] = refl
  over_bind (free k) f (Ranged q v ∷ fs) = refl
  over_bind (free k) f (Free z ∷ fs) = by_test (within 4 z) (λ e. simp (e, over_bind (k z) f fs)) (λ e. simp e)
  over_bind refuse f fs = refl

  pub run_bind : (t : Reading A) (f : A → Reading B) (s : BitString) → run (t >>= f) s ≡ onward (run t s) (λ a. run (f a))
  unfolding run ◌>>=◌
  run_bind (give a) f s = refl
  run_bind (ranged r k) f s = go (read_ranged r s) (λ v s. run_bind (k v) f s)
    where
      go : (g : Found Bool ℕ) → ((v : ℕ) (s : BitString) → run (k v >>= f) s ≡ onward (run (k v) s) (λ a. run (f a)))
          → onward g (λ v. run (k v >>= f)) ≡ onward (onward g (λ v. run (k v))) (λ a. run (f a))
      go nothing h = refl
      go (found v s) h = h v s
  run_bind (free k) f s = go (read_free s) (λ z s. run_bind (k z) f s)
    where
      go : (g : Found Bool ℤ) → ((z : ℤ) (s : BitString) → run (k z >>= f) s ≡ onward (run (k z) s) (λ a. run (f a)))
          → onward g (λ z. run (k z >>= f)) ≡ onward (onward g (λ z. run (k z))) (λ a. run (f a))
      go nothing h = refl
      go (found z s) h = h z s
  run_bind refuse f s = refl

-- ---- one field in front

pub over-ranged : (r v : ℕ) (fs : List Field) → ltb v r ≡ true → over (a_ranged r) (Ranged r v ∷ fs) ≡ found v fs
unfolding over a_ranged
over-ranged r v fs h = simp (eq-eqb r r refl, h)

pub over-free : (z : ℤ) (fs : List Field) → within 4 z ≡ true → over a_free (Free z ∷ fs) ≡ found z fs
unfolding over a_free
over-free z fs h = simp h

-- ---- a reading looks at its own fields only

module _ {A : Type 0} where
  pub over-more : (t : Reading A) (fs gs : List Field) (a : A) → over t fs ≡ found a [] → over t (fs ++ gs) ≡ found a gs
  unfolding over
  over-more (give b) [] gs a e = ap (λ c. found c gs) (found-value e)
  over-more (give b) (f ∷ fs) gs a e = found-more e
  over-more (ranged r k) [] gs a e = nothing-not e
  over-more (ranged r k) (Ranged q v ∷ fs) gs a e =
      by_test (eqb q r)
      (λ t. by_test (ltb v r) (λ l. simp (t, l) (over-more (k v) fs gs a (simp (t, l) at e))) (λ l. nothing-not (simp (t, l) at e)))
      (λ t. nothing-not (simp t at e))
  over-more (ranged r k) (Free z ∷ fs) gs a e = nothing-not e
  over-more (free k) [] gs a e = nothing-not e
  over-more (free k) (Ranged q v ∷ fs) gs a e = nothing-not e
  over-more (free k) (Free z ∷ fs) gs a e =
      by_test (within 4 z) (λ t. simp t (over-more (k z) fs gs a (simp t at e))) (λ t. nothing-not (simp t at e))
  over-more refuse fs gs a e = nothing-not e

-- ---- from the bits of fields that are well spelled, a reading is what it is over the fields

-- An integer that is well spelled stands in 1 to 4 octets that hold it, and the fields after it are well spelled.
pub well_integer : (n : ℕ) (z : ℤ) (ws : List SpelledField) → well_spelled (Integer n z ∷ ws) ≡ true
    → (1 ≤ n) × (n ≤ 4) × (within n z ≡ true) × (well_spelled ws ≡ true)
unfolding well_spelled
well_integer n z ws e =
    let a = both (leb 1 n && leb n 4 && within n z) (well_spelled ws) e in
    let b = both (leb 1 n && leb n 4) (within n z) a.0 in
    let c = both (leb 1 n) (leb n 4) b.0 in
    (leb-true 1 n c.0, leb-true n 4 c.1, b.1, a.1)

module _ {A : Type 0} where
  pub run-spelled : (t : Reading A) (ws : List SpelledField) (s : BitString) (a : A) → well_spelled ws ≡ true → over t (spelled_fields ws) ≡ found a []
      → run t (spelled_bits ws ++ s) ≡ found a s
  unfolding over run spelled_bits well_spelled spelled_fields
  run-spelled (give b) [] s a g e = ap (λ c. found c s) (found-value e)
  run-spelled (give b) (Range r v ∷ ws) s a g e = found-more e
  run-spelled (give b) (Integer n z ∷ ws) s a g e = found-more e
  run-spelled (ranged r k) [] s a g e = nothing-not e
  run-spelled (ranged r k) (Range q v ∷ ws) s a g e = go (run-spelled (k v) ws s a g) (eqb q r) refl e
    where
      into : (over (k v) (spelled_fields ws) ≡ found a [] → run (k v) (spelled_bits ws ++ s) ≡ found a s) → q ≡ r
          → (b : Bool) → ltb v r ≡ b → cond b (over (k v) (spelled_fields ws)) nothing ≡ found a []
          → onward (read_ranged r ((bits_of (width q) v ++ spelled_bits ws) ++ s)) (λ v. run (k v)) ≡ found a s
      into ih i false l e = nothing-not e
      into ih i true l e = simp (i, append_assoc, read-ranged r v (spelled_bits ws ++ s) (ltb-true v r l), ih e)

      go : (over (k v) (spelled_fields ws) ≡ found a [] → run (k v) (spelled_bits ws ++ s) ≡ found a s)
          → (b : Bool) → eqb q r ≡ b → cond b (cond (ltb v r) (over (k v) (spelled_fields ws)) nothing) nothing ≡ found a []
          → onward (read_ranged r ((bits_of (width q) v ++ spelled_bits ws) ++ s)) (λ v. run (k v)) ≡ found a s
      go ih false i e = nothing-not e
      go ih true i e = into ih (eqb-true q r i) (ltb v r) refl e
  run-spelled (ranged r k) (Integer n z ∷ ws) s a g e = nothing-not e
  run-spelled (free k) [] s a g e = nothing-not e
  run-spelled (free k) (Range q v ∷ ws) s a g e = nothing-not e
  run-spelled (free k) (Integer n z ∷ ws) s a g e = go (run-spelled (k z) ws s a) (within 4 z) e
    where
      go : (well_spelled ws ≡ true → over (k z) (spelled_fields ws) ≡ found a [] → run (k z) (spelled_bits ws ++ s) ≡ found a s)
          → (b : Bool) → cond b (over (k z) (spelled_fields ws)) nothing ≡ found a []
          → onward (read_free ((bits_of 8 n ++ (bits_of (8 * n) (twos n z) ++ spelled_bits ws)) ++ s)) (λ z. run (k z)) ≡ found a s
      go ih false e = nothing-not e
      go ih true e =
          let w = well_integer n z ws g in
          simp (append_assoc, read-free n z (spelled_bits ws ++ s) w.0 w.1 w.2, ih w.3 e)
  run-spelled refuse ws s a g e = nothing-not e

-- That bits begin with fields that are well spelled and drive the reading to what it gives.
pub record Spells {A : Type 0} (t : Reading A) (s : BitString) (a : A) (rest : BitString) : Type 0 where
  pub spelled : List SpelledField
  pub well : well_spelled spelled ≡ true
  pub drives : over t (spelled_fields spelled) ≡ found a []
  pub stood : s ≡ spelled_bits spelled ++ rest

module _ {A : Type 0} where
  -- Bits that are read begin with fields that are well spelled and drive the reading to what it gives.
  pub run_only : (t : Reading A) (s : BitString) (a : A) (rest : BitString) → run t s ≡ found a rest → Spells t s a rest
  unfolding over run spelled_bits well_spelled spelled_fields
  run_only (give b) s a rest e = record { spelled = []; well = refl; drives = ap (λ c. found c []) (found-value e); stood = found-rest e }
  run_only (ranged r k) s a rest e = go (λ v s. run_only (k v) s a rest) (read_ranged r s) refl e
    where
      go : ((v : ℕ) (s : BitString) → run (k v) s ≡ found a rest → Spells (k v) s a rest)
          → (g : Found Bool ℕ) → read_ranged r s ≡ g → onward g (λ v. run (k v)) ≡ found a rest → Spells (ranged r k) s a rest
      go ih nothing i e = nothing-not e
      go ih (found v u) i e =
          let f = read_ranged_only r s v u i in
          let w = ih v u e in
          record {
            spelled = Range r v ∷ w.spelled;
            well = w.well;
            drives = simp (eq-eqb r r refl, lt-ltb v r f.0, w.drives);
            stood = f.1 ∙ ap (λ (x : BitString). bits_of (width r) v ++ x) w.stood ∙ sym (append_assoc (bits_of (width r) v) (spelled_bits w.spelled) rest);
          }
  run_only (free k) s a rest e = go (λ z s. run_only (k z) s a rest) (read_free s) refl e
    where
      go : ((z : ℤ) (s : BitString) → run (k z) s ≡ found a rest → Spells (k z) s a rest)
          → (g : Found Bool ℤ) → read_free s ≡ g → onward g (λ z. run (k z)) ≡ found a rest → Spells (free k) s a rest
      go ih nothing i e = nothing-not e
      go ih (found z u) i e =
          let f = read_free_only s z u i in
          let w = ih z u e in
          record {
            spelled = Integer f.octets z ∷ w.spelled;
            well = simp (le-leb 1 f.octets f.some, le-leb f.octets 4 f.few, f.holds, w.well);
            drives = simp (within_more f.octets 4 z f.few f.holds, w.drives);
            stood = f.stood ∙ simp (append_assoc, ← w.stood);
          }
  run_only refuse s a rest e = nothing-not e

-- ---- the encoder's own spelling: the fewest octets

unfoldable pub strict : List Field → List SpelledField
strict [] = []
strict (Ranged r v ∷ fs) = Range r v ∷ strict fs
strict (Free z ∷ fs) = Integer (fewest z) z ∷ strict fs

pub fields_strict : (fs : List Field) → spelled_fields (strict fs) ≡ fs
unfolding spelled_fields strict
fields_strict [] = refl
fields_strict (Ranged r v ∷ fs) = ap (λ gs. Ranged r v ∷ gs) (fields_strict fs)
fields_strict (Free z ∷ fs) = ap (λ gs. Free z ∷ gs) (fields_strict fs)

pub layout_strict : (fs : List Field) → layout fs ≡ spelled_bits (strict fs)
unfolding layout field_bits spelled_bits strict
layout_strict [] = refl
layout_strict (Ranged r v ∷ fs) = ap (λ (x : BitString). bits_of (width r) v ++ x) (layout_strict fs)
layout_strict (Free z ∷ fs) = simp (append_assoc, layout_strict fs)

-- Fields that drive a reading are well spelled so.
pub strict_well : {A : Type 0} (t : Reading A) (fs : List Field) (a : A) → over t fs ≡ found a [] → well_spelled (strict fs) ≡ true
unfolding over well_spelled strict
strict_well (give b) [] a e = refl
strict_well (give b) (f ∷ fs) a e = found-more e
strict_well (ranged r k) [] a e = nothing-not e
strict_well (ranged r k) (Ranged q v ∷ fs) a e =
    by_test (eqb q r)
    (λ t. by_test (ltb v r) (λ l. strict_well (k v) fs a (simp (t, l) at e)) (λ l. nothing-not (simp (t, l) at e)))
    (λ t. nothing-not (simp t at e))
strict_well (ranged r k) (Free z ∷ fs) a e = nothing-not e
strict_well (free k) [] a e = nothing-not e
strict_well (free k) (Ranged q v ∷ fs) a e = nothing-not e
strict_well (free k) (Free z ∷ fs) a e =
    by_test (within 4 z)
    (λ t.
    let f = fewest-fits z t in
    simp (le-leb 1 (fewest z) f.1, le-leb (fewest z) 4 f.2, f.0, strict_well (k z) fs a (simp t at e)))
    (λ t. nothing-not (simp t at e))
strict_well refuse fs a e = nothing-not e

-- The layout of fields that drive a reading is read so.
pub run-layout : {A : Type 0} (t : Reading A) (fs : List Field) (s : BitString) (a : A) → over t fs ≡ found a [] → run t (layout fs ++ s) ≡ found a s
run-layout t fs s a e =
    rw (layout_strict fs) (run-spelled t (strict fs) s a (strict_well t fs a e) (rw (fields_strict fs) e))

-- ---- a number that is not negative

pub natural_some : (n : ℕ) (s : BitString) → run (natural (pos n)) s ≡ found n s
unfolding natural run
natural_some n s = refl

pub negative_none : (n : ℕ) (s : BitString) → 1 ≤ n → run (natural (neg_ℤ (pos n))) s ≡ nothing
unfolding natural run
negative_none zero s h = absurd (omega arith)
negative_none (suc n) s h = refl
