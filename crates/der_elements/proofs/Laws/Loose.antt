-- A value is read exactly where an element of it stands in front, in some spelling and whatever follows.
use Rattle.std.specs.Prelude.{Option, Some, None}
use mathlib.Core.Path.{◌≡◌, refl, ap, sym, ◌∙◌}
use mathlib.Core.Bool.{Bool, true, false, ◌&&◌, cond}
use mathlib.Core.List.{List, [], ◌∷◌, ◌++◌, append_assoc}
use Prim.Native.Nat.{ℕ, ◌≤◌}
use native.Mathlib.Omega.{arith}
use lib.Dec.{eqb, leb}
use lib.ListN.{length, length-append, take, drop, take-append-drop}
use lib.Seq.{length-take-le, take-append_seam, drop-append_seam}
use borrow.Author.Tests.{le-leb, leb-true}
use Rattle.octets.specs.Octets.{eq_list}
use Rattle.octets.proofs.Laws.Cases.{both}
use Rattle.octets.proofs.Laws.Octets.{equal, equal_test}
use Rattle.texts.specs.Octets.{colon, hyphen, is_digit, letter_t}
use Rattle.texts.specs.Texts.{read_of, render}
use Rattle.texts.specs.Years.{longest_year}
use Rattle.texts.specs.declared.forms.Form.{Form}
use Rattle.texts.specs.declared.values.Spelling.{Spelling}
use Rattle.texts.specs.declared.values.Value.{Value}
use Rattle.texts.proofs.Laws.Digits.{is_digit_back}
use Rattle.texts.proofs.Laws.Texts.{render_read}
use Rattle.types.specs.declared.types.Name.{Name}
use Rattle.held_values.specs.Encodings.{of_text}
use Rattle.der_elements.specs.Elements.{contents_of, element, omits, tag_of, without}
use Rattle.der_elements.specs.Loose.{ReadableElement, StandsFor}
use Rattle.der_elements.specs.Readings.{all_digits, dated, digits_only, read_contents, read_element, separated, timed, under_tag, within_length}
use Rattle.der_elements.proofs.Laws.Contents.{digit_kept, without_none}

-- A test that lets something through held.
let_through : {A : Type 0} (b : Bool) (o : Option A) (a : A) → cond b o None ≡ Some a → (b ≡ true) × (o ≡ Some a)
let_through true o a e = (refl, e)
let_through false o a e = absurd (let z : ◌≡◌ {A = ℕ} 0 1 = cc in omega arith)

-- ---- the contents that stand for a text are the text's

kept_all : (name : Name) (l : List ℕ) → all_digits l ≡ true → without (omits name) l ≡ l
unfolding without all_digits
kept_all name [] a = refl
kept_all name (c ∷ l) a =
    let p = both (is_digit c) (all_digits l) a in
    let d = is_digit_back c p.0 in
    rw (digit_kept name c d.0 d.1) (ap (λ (r : List ℕ). c ∷ r) (kept_all name l p.1))

without-append : (p : ℕ → Bool) (a b : List ℕ) → without p (a ++ b) ≡ without p a ++ without p b
unfolding without
without-append p [] b = refl
without-append p (c ∷ a) b = go (p c) (without-append p a b)
  where
    go : (t : Bool) → without p (a ++ b) ≡ without p a ++ without p b
        → cond t (without p (a ++ b)) (c ∷ without p (a ++ b)) ≡ cond t (without p a) (c ∷ without p a) ++ without p b
    go true e = e
    go false e = ap (λ (r : List ℕ). c ∷ r) e

digits_both : (a b : List ℕ) → all_digits (a ++ b) ≡ true → (all_digits a ≡ true) × (all_digits b ≡ true)
unfolding all_digits
digits_both [] b e = (refl, e)
digits_both (c ∷ a) b e =
    let p = both (is_digit c) (all_digits (a ++ b)) e in
    let q = digits_both a b p.1 in
    (rw p.0 q.0, q.1)

separated-kept : (name : Name) (c w : ℕ) (l : List ℕ) → omits name c ≡ true → all_digits l ≡ true → without (omits name) (separated c w l) ≡ l
unfolding separated without
separated-kept name c w l o a =
    without-append (omits name) (take w l) (c ∷ (take 2 (drop w l) ++ c ∷ drop 2 (drop w l)))
    ∙ rw (o, without-append (omits name) (take 2 (drop w l)) (c ∷ drop 2 (drop w l)), o)
    (ap (λ (r : List ℕ). without (omits name) (take w l) ++ r) (sym (without-append (omits name) (take 2 (drop w l)) (drop 2 (drop w l))))
    ∙ sym (without-append (omits name) (take w l) (take 2 (drop w l) ++ drop 2 (drop w l)))
    ∙ ap (without (omits name)) (ap (λ (r : List ℕ). take w l ++ r) (take-append-drop 2 (drop w l)) ∙ take-append-drop w l)
    ∙ kept_all name l a)

digits_in_lem : (n : ℕ) (l : List ℕ) → digits_only n l ≡ true → all_digits l ≡ true
unfolding digits_only
digits_in_lem n l e = (both (eqb (length l) n) (all_digits l) e).1

-- Under every name they are the text without its separators.
pub stands_for : (name : Name) (l text : List ℕ) → StandsFor name l text → contents_of name text ≡ l
unfolding contents_of without
stands_for Name.Listed l text e = without_none text ∙ e
stands_for Name.Date l text e = ap (without (omits Name.Date)) e.1 ∙ separated-kept Name.Date hyphen 4 l refl (digits_in_lem 8 l e.0)
stands_for Name.TimeOfDay l text e = ap (without (omits Name.TimeOfDay)) e.1 ∙ separated-kept Name.TimeOfDay colon 2 l refl (digits_in_lem 6 l e.0)
stands_for Name.Duration l text e = absurd e
stands_for Name.DateTime l text e =
    let d = digits_both (take 8 l) (drop 8 l) (rw (take-append-drop 8 l) (digits_in_lem 14 l e.0)) in
    ap (without (omits Name.DateTime)) e.1
    ∙ without-append (omits Name.DateTime) (dated (take 8 l)) (letter_t ∷ timed (drop 8 l))
    ∙ rw (separated-kept Name.DateTime hyphen 4 (take 8 l) refl d.0, separated-kept Name.DateTime colon 2 (drop 8 l) refl d.1)
    (take-append-drop 8 l)

-- ---- tag and length

module _ {A : Type 0} (contents : List ℕ → Option A) (a : A) where
  length_only : (l : List ℕ) → within_length contents l ≡ Some a
      → (c : List ℕ) × (rest : List ℕ) × (length c ≤ 127) × (l ≡ length c ∷ (c ++ rest)) × (contents c ≡ Some a)
  length_only [] e = absurd (let z : ◌≡◌ {A = ℕ} 0 1 = cc in omega arith)
  length_only (n ∷ l) e =
      let p = let_through (leb n 127 && leb n (length l)) _ a e in
      let b = both (leb n 127) (leb n (length l)) p.0 in
      let k = length-take-le n l (leb-true n (length l) b.1) in (
        take n l,
        drop n l,
        rw k (leb-true n 127 b.0),
        rw (k, take-append-drop n l),
        p.1,
      )

  length_all : (c rest : List ℕ) → length c ≤ 127 → contents c ≡ Some a → within_length contents (length c ∷ (c ++ rest)) ≡ Some a
  length_all c rest h e =
      let l = length-append c rest in
      rw (le-leb (length c) 127 h, le-leb (length c) (length (c ++ rest)) (omega arith), take-append_seam c rest) e

  -- What is read is in an element, and something after it.
  pub tag_only : (name : Name) (octets : List ℕ) → under_tag name contents octets ≡ Some a
      → (c : List ℕ) × (rest : List ℕ) × (length c ≤ 127) × (octets ≡ element name c ++ rest) × (contents c ≡ Some a)
  unfolding element
  tag_only name octets e =
      let p = let_through (eq_list (take (length (tag_of name)) octets) (tag_of name)) _ a e in
      let q = length_only (drop (length (tag_of name)) octets) p.1 in (
        q.0,
        q.1,
        q.2,
        sym (take-append-drop (length (tag_of name)) octets)
            ∙ ap (λ (l : List ℕ). l ++ drop (length (tag_of name)) octets) (equal _ (tag_of name) p.0)
            ∙ ap (λ (l : List ℕ). tag_of name ++ l) q.3
            ∙ sym (append_assoc (tag_of name) (length q.0 ∷ q.0) q.1),
        q.4,
      )

  -- What is in an element is read, whatever is after it.
  pub tag_all : (name : Name) (octets c rest : List ℕ) → length c ≤ 127 → octets ≡ element name c ++ rest → contents c ≡ Some a
      → under_tag name contents octets ≡ Some a
  unfolding element
  tag_all name octets c rest h s e =
      let t : octets ≡ tag_of name ++ length c ∷ (c ++ rest) = s ∙ append_assoc (tag_of name) (length c ∷ c) rest in
      let n = length (tag_of name) in
      let f : take n octets ≡ tag_of name = ap (take n) t ∙ take-append_seam (tag_of name) _ in
      let g : drop n octets ≡ length c ∷ (c ++ rest) = ap (drop n) t ∙ drop-append_seam (tag_of name) _ in
      rw (f, g, equal_test (tag_of name) (tag_of name) refl) (length_all c rest h e)

-- ---- what is read

module _ (form : Form) (v : Value) where
  -- What a text gives is a text of it, in the spelling that was read.
  text_only : (text : List ℕ) → of_text (read_of form text) ≡ Some v
      → (s : Spelling) × (render s v ≡ text) × (read_of form (render s v) ≡ Some (v, s))
  text_only text e = go (read_of form text) refl e
    where
      go : (r : Option (Value × Spelling)) → read_of form text ≡ r → of_text r ≡ Some v
          → (s : Spelling) × (render s v ≡ text) × (read_of form (render s v) ≡ Some (v, s))
      go (Some (w, s)) r e =
          let q : w ≡ v = cc in
          let p : read_of form text ≡ Some (v, s) = r ∙ ap (λ (x : Value). Some (x, s)) q in
          let l : text ≡ render s v = (render_read longest_year (omega arith) (omega arith) form text v s p).0 in
          (s, sym l, ap (read_of form) (sym l) ∙ p)
      go None r e = absurd (let z : ◌≡◌ {A = ℕ} 0 1 = cc in omega arith)

  -- Contents that give the value stand for a text of it, and all such contents give it.
  contents_only : (name : Name) (l : List ℕ) → read_contents name form l ≡ Some v
      → (s : Spelling) × StandsFor name l (render s v) × (read_of form (render s v) ≡ Some (v, s))
  contents_only Name.Listed l e = text_only l e
  contents_only Name.Date l e = let p = let_through (digits_only 8 l) _ v e in let t = text_only _ p.1 in (t.0, (p.0, t.1), t.2)
  contents_only Name.TimeOfDay l e = let p = let_through (digits_only 6 l) _ v e in let t = text_only _ p.1 in (t.0, (p.0, t.1), t.2)
  contents_only Name.DateTime l e = let p = let_through (digits_only 14 l) _ v e in let t = text_only _ p.1 in (t.0, (p.0, t.1), t.2)
  contents_only Name.Duration l e = absurd (let z : ◌≡◌ {A = ℕ} 0 1 = cc in omega arith)

  contents_all : (name : Name) (l : List ℕ) (s : Spelling) → StandsFor name l (render s v) → read_of form (render s v) ≡ Some (v, s)
      → read_contents name form l ≡ Some v
  contents_all Name.Listed l s t f = ap of_text (ap (read_of form) (sym t) ∙ f)
  contents_all Name.Date l s t f = rw t.0 (ap of_text (ap (read_of form) (sym t.1) ∙ f))
  contents_all Name.TimeOfDay l s t f = rw t.0 (ap of_text (ap (read_of form) (sym t.1) ∙ f))
  contents_all Name.DateTime l s t f = rw t.0 (ap of_text (ap (read_of form) (sym t.1) ∙ f))
  contents_all Name.Duration l s t f = absurd t

  -- What is read is an element of the value, and something after it.
  pub der-reads : (name : Name) (octets : List ℕ) → read_element name form octets ≡ Some v → (rest : List ℕ) × ReadableElement name form v octets rest
  unfolding read_element
  der-reads name octets e =
      let q = tag_only (read_contents name form) v name octets e in
      let c = contents_only name q.0 q.4 in
      (q.1, record { contents = q.0; spelling = c.0; short = q.2; text = c.1; formed = c.2; stood = q.3 })

  -- Every such element is read.
  pub der-reads_all : (name : Name) (octets rest : List ℕ) → ReadableElement name form v octets rest → read_element name form octets ≡ Some v
  unfolding read_element
  der-reads_all name octets rest r =
      tag_all (read_contents name form) v name octets r.contents rest r.short r.stood
      (contents_all name r.contents r.spelling r.text r.formed)
