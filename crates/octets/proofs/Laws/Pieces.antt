-- The pieces of a text, one at a time.
use mathlib.Core.Path.{◌≡◌, refl, ap, ◌∙◌}
use Rattle.std.specs.Prelude.{Option, Some, None, nat_eq, unwrap_or}
use Rattle.std.specs.List.{position_or_len}
use mathlib.Core.Bool.{Bool, true, false, not, cond}
use mathlib.Core.List.{List, [], ◌∷◌}
use Prim.Native.Nat.{ℕ, suc, ◌+◌, ◌-◌, ◌<◌, ◌≤◌}
use native.Mathlib.Nat.{suc-add}
use native.Mathlib.Numerals.{add-one}
use native.Mathlib.Omega.{arith}
use lib.Dec.{eqb, ltb}
use lib.ListN.{length, get_or, take, drop, drop_of_length-le, length-drop}
use lib.Seq.{drop-cons}
use borrow.Author.Tests.{eq-eqb, ne_eqb, ltb-false}
use Rattle.octets.specs.Pieces.{split_on, span_to}
use Rattle.octets.proofs.Laws.Cases.{cond-le}

module _ (c : ℕ) (s : List ℕ) (i : ℕ) where
  -- Nothing stands before the octet c where it is the next one.
  pub span_hit : i < length s → get_or s i 0 ≡ c → span_to c (drop i s) ≡ 0
  unfolding span_to
  span_hit h e = rw (drop-cons s i 0 h, eq-eqb _ _ e)

  -- One octet more stands before the octet c where another is the next one.
  pub span_miss : i < length s → (get_or s i 0 ≡ c → ⊥) → span_to c (drop i s) ≡ suc (span_to c (drop (i + 1) s))
  unfolding span_to
  span_miss h e = rw (add-one, drop-cons s i 0 h, ne_eqb _ _ e)

  -- Nothing stands before the octet c at the end of the text.
  pub span_end : length s ≤ i → span_to c (drop i s) ≡ 0
  unfolding span_to
  span_end h = rw (drop_of_length-le s h)

-- Four octets more stand before the octet c where none of the next four is it.
pub span_four : (c : ℕ) (s : List ℕ) (i : ℕ) → i + 3 < length s → (get_or s i 0 ≡ c → ⊥) → (get_or s (i + 1) 0 ≡ c → ⊥) →
    (get_or s (i + 2) 0 ≡ c → ⊥) →
    (get_or s (i + 3) 0 ≡ c → ⊥) →
    span_to c (drop i s) ≡ 4 + span_to c (drop (i + 4) s)
span_four c s i h e f g k =
    let l = span_miss c s i (omega arith) e in
    let m = next (i + 1) (i + 2) (omega arith) (omega arith) f in
    let n = next (i + 2) (i + 3) (omega arith) (omega arith) g in
    omega (arith, l, m, n, next (i + 3) (i + 4) (omega arith) h k)
  where
    next : (m n : ℕ) → m + 1 ≡ n → m < length s → (get_or s m 0 ≡ c → ⊥) → span_to c (drop m s) ≡ suc (span_to c (drop n s))
    next m n e h f = span_miss c s m h f ∙ ap (λ (o : ℕ). suc (span_to c (drop o s))) e

-- No more octets stand before the octet c than there are.
pub span_le : (c : ℕ) (l : List ℕ) → span_to c l ≤ length l
unfolding span_to
span_le c [] = omega arith
span_le c (x ∷ l) = cond-le (eqb x c) 0 (suc (span_to c l)) (suc (length l)) (omega arith) (omega (arith, span_le c l))

-- Before the first c stand as many octets as a search passes over.
span_is : (c : ℕ) (l : List ℕ) → position_or_len (λ x. nat_eq x c) l ≡ span_to c l
unfolding span_to
span_is c [] = refl
span_is c (x ∷ l) = rw (span_is c l) (turned (eqb x c)) where
  turned : (b : Bool) → cond (not b) (1 + span_to c l) 0 ≡ cond b 0 (suc (span_to c l))
  turned true = refl
  turned false = omega arith

-- The place that a search finds, or the end.
pub place_found : (c : ℕ) (l : List ℕ) (r : Option ℕ) → (let n = position_or_len (λ x. nat_eq x c) l in r ≡ cond (ltb n (length l)) (Some n) None) → unwrap_or r (length l) ≡ span_to c l
place_found c l r e = go (ltb (span_to c l) (length l)) refl (rw (span_is c l) at e) where
  go : (b : Bool) → ltb (span_to c l) (length l) ≡ b → r ≡ cond b (Some (span_to c l)) None → unwrap_or r (length l) ≡ span_to c l
  go true h e = rw e
  go false h e = rw e (omega (arith, ltb-false _ _ h, span_le c l))

one_case : (c x : ℕ) (l : List ℕ) (t : Bool) → eqb x c ≡ t → (span_to c l ≡ length l → split_on c l ≡ l ∷ []) →
    span_to c (x ∷ l) ≡ suc (length l) →
    split_on c (x ∷ l) ≡ (x ∷ l) ∷ []
unfolding span_to split_on
one_case c x l true e i h = let z : 0 ≡ suc (length l) = rw e at h in absurd (omega arith)
one_case c x l false e i h =
    let z : suc (span_to c l) ≡ suc (length l) = rw e at h in
    rw (e, i (omega arith))

-- A text without the octet is one piece.
pub split_one : (c : ℕ) (l : List ℕ) → span_to c l ≡ length l → split_on c l ≡ l ∷ []
unfolding split_on
split_one c [] h = refl
split_one c (x ∷ l) h = one_case c x l (eqb x c) refl (split_one c l) h

more_case : (c x : ℕ) (l : List ℕ) (t : Bool) → eqb x c ≡ t →
    (span_to c l < length l → split_on c l ≡ take (span_to c l) l ∷ split_on c (drop (span_to c l + 1) l)) →
    span_to c (x ∷ l) < suc (length l) →
    split_on c (x ∷ l) ≡ take (span_to c (x ∷ l)) (x ∷ l) ∷ split_on c (drop (span_to c (x ∷ l) + 1) (x ∷ l))
unfolding span_to split_on
more_case c x l true e i h = rw e
more_case c x l false e i h =
    let k : suc (span_to c l) < suc (length l) = rw e at h in
    let j : split_on c l ≡ take (span_to c l) l ∷ split_on c (drop (span_to c l + 1) l) = i (omega arith) in
    rw (e, suc-add, j)

-- The first piece stands before the first such octet.
pub split_more : (c : ℕ) (l : List ℕ) → span_to c l < length l →
    split_on c l ≡ take (span_to c l) l ∷ split_on c (drop (span_to c l + 1) l)
split_more c [] h = absurd (omega arith)
split_more c (x ∷ l) h = more_case c x l (eqb x c) refl (split_more c l) h

-- The octet that is looked for stands within the text, or its end is found.
pub found_within : (c : ℕ) (s : List ℕ) (p e : ℕ) → e ≡ p + span_to c (drop p s) → p ≤ length s → e ≤ length s
found_within c s p e h k =
    let l : length (drop p s) ≡ length s - p = length-drop p s in
    omega (arith, span_le c (drop p s))
