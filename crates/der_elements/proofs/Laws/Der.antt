-- DER meets what is asked of a kind.
use Rattle.std.specs.Prelude.{Option, Some}
use Rattle.calendar.specs.declared.years.Year.{Year}
use mathlib.Core.Path.{◌≡◌, refl, ap, sym, ◌∙◌}
use mathlib.Core.Bool.{true, cond}
use mathlib.Core.List.{List, [], ◌∷◌, ◌++◌, append-nil}
use Prim.Native.Nat.{ℕ, ◌+◌, ◌≤◌}
use native.Mathlib.Omega.{arith}
use lib.Dec.{eqb}
use lib.ListN.{length, take, drop, get_or, length-append}
use lib.Seq.{take_all, take_at, drop_at}
use borrow.Author.Tests.{eq-eqb, le-leb}
use Rattle.octets.specs.Octets.{eq_list}
use Rattle.octets.proofs.Laws.Cases.{both}
use Rattle.answers.specs.Outcomes.{Answer, done, outcome_of, room_of}
use Rattle.answers.specs.declared.counts.Bits.{Bits}
use Rattle.answers.specs.declared.outcomes.Outcome.{Outcome}
use Rattle.answers.proofs.Laws.Outcomes.{enough, in-front}
use Rattle.calendar.specs.declared.dates.Date.{Date}
use Rattle.printing.proofs.Laws.Canonical.{text-length}
use Rattle.texts.specs.Dates.{put_date}
use Rattle.texts.specs.Forms.{date_form, time_form, value_form}
use Rattle.texts.specs.Octets.{hyphen, colon, letter_t}
use Rattle.texts.specs.Texts.{read_of, render, text_of}
use Rattle.texts.specs.Times.{canonical, put_time}
use Rattle.texts.specs.declared.forms.DateForm.{DateForm}
use Rattle.texts.specs.declared.forms.Form.{Form}
use Rattle.texts.specs.declared.values.Time.{Time}
use Rattle.texts.specs.declared.values.Value.{Value}
use Rattle.types.specs.Types.{form_of, hms_local, name_of, parts_of, with_window, ymd_basic}
use Rattle.types.specs.declared.types.Name.{Name}
use Rattle.types.specs.declared.types.«Type».{«Type» as Ty}
use Rattle.held_values.specs.Admission.{admitted, judged}
use Rattle.held_values.specs.Existence.{exists_value}
use Rattle.held_values.specs.Holding.{admits, admits_date}
use Rattle.held_values.proofs.Laws.Existing.{exists-digits}
use Rattle.held_values.proofs.Laws.Holding.{in-type}
use Rattle.kinds.specs.Coding.{judged_as}
use Rattle.kinds.specs.Lawful.{Accepted, Holds, Lawful}
use Rattle.kinds.proofs.Laws.Coding as Coding
use Rattle.held_values.specs.Encodings.{of_text}
use Rattle.held_values.proofs.Laws.Encodings.{admission_answer, answer_with, decoded-short, encoded-admitted, judged-as, text-read}
use Rattle.der_elements.specs.Der.{der, der_decoded, der_encoded, in_der, no_bits}
use Rattle.der_elements.specs.Elements.{contents_of, element, element_of, omits, tag_of, without}
use Rattle.der_elements.specs.Readings.{all_digits, digits_only, read_contents, read_element, under_tag}
use Rattle.der_elements.proofs.Laws.Contents.{date-fields, element_size, fields_digits, time-fields, without_most, without_none}
use Rattle.der_elements.proofs.Laws.Contents.{fields_all, fields_back, fields-kept, fields-length}

-- ---- the tag

abbrev name_at : List ℕ → Name
name_at tag = cond (eqb (length tag) 1) Name.Listed (cond (eqb (get_or tag 1 0) 31) Name.Date
    (cond (eqb (get_or tag 1 0) 32) Name.TimeOfDay (cond (eqb (get_or tag 1 0) 33) Name.DateTime Name.Duration)))

name_back : (name : Name) → name_at (tag_of name) ≡ name
name_back Name.Listed = refl
name_back Name.Date = refl
name_back Name.TimeOfDay = refl
name_back Name.DateTime = refl
name_back Name.Duration = refl

-- Types of one tag have one name, or none.
pub one_tag : (a b : Name) → tag_of a ≡ tag_of b → a ≡ b
one_tag a b e = sym (name_back a) ∙ ap name_at e ∙ name_back b

-- ---- the length

-- "one octet of length (0 to 127)": the contents of every value have fewer.
pub length_most : (name : Name) (v : Value) → exists_value v ≡ true → length (contents_of name (text_of v)) ≤ 52
unfolding contents_of
length_most name v e = let a = without_most (omits name) (text_of v) in let b = text-length v (exists-digits v e) in omega arith

-- The element of a value is short: the tag, the length and the contents.
pub element_most : (name : Name) (v : Value) → exists_value v ≡ true → length (element_of name v) ≤ 55
unfolding element_of
element_most name v e = let s = element_size name (contents_of name (text_of v)) in let m = length_most name v e in omega arith

-- ---- what is written is read

-- An element gives what its contents give.
pub under-tag : {A : Type 0} (name : Name) (contents : List ℕ → Option A) (l : List ℕ) → length l ≤ 127 → under_tag name contents (element name l) ≡ contents l
unfolding element eq_list
under-tag Name.Listed contents l h = simp (le-leb (length l) 127 h, le-leb (length l) (length l) (omega arith), take_all (length l) l (omega arith))
under-tag Name.Date contents l h = simp (le-leb (length l) 127 h, le-leb (length l) (length l) (omega arith), take_all (length l) l (omega arith))
under-tag Name.TimeOfDay contents l h = simp (le-leb (length l) 127 h, le-leb (length l) (length l) (omega arith), take_all (length l) l (omega arith))
under-tag Name.DateTime contents l h = simp (le-leb (length l) 127 h, le-leb (length l) (length l) (omega arith), take_all (length l) l (omega arith))
under-tag Name.Duration contents l h = simp (le-leb (length l) 127 h, le-leb (length l) (length l) (omega arith), take_all (length l) l (omega arith))

-- Octets that are all digits are so many digits.
digits-only : (n : ℕ) (l : List ℕ) → length l ≡ n → all_digits l ≡ true → digits_only n l ≡ true
unfolding digits_only
digits-only n l e a = simp (eq-eqb (length l) n e, a)

fields_only : (w a b d : ℕ) → digits_only (w + 4) (fields_digits w a b d) ≡ true
unfolding all_digits
fields_only w a b d =
    digits-only (w + 4) (fields_digits w a b d) (fields-length 0 w a b d) (rw (← append-nil (fields_digits w a b d)) (fields_all 0 w a b d []))

-- The text of a date-time is its date, `T`, and its time.
abbrev date_time_text : Date → Time → List ℕ
date_time_text d e = put_date d ++ letter_t ∷ put_time canonical e

-- The contents of a value that a type holds give what its text does.
module _ (form : Form) where
  date_contents : (w : Option (Year × Year)) (d : Date) → date_form d ≡ DateForm.YMD → admits_date (with_window w ymd_basic) d ≡ true
      → read_contents Name.Date form (contents_of Name.Date (put_date d)) ≡ of_text (read_of form (put_date d))
  unfolding contents_of without
  date_contents w d f e =
      let q = date-fields w d f e in
      let k : contents_of Name.Date (put_date d) ≡ fields_digits 4 q.0 q.1 q.2 =
      ap (contents_of Name.Date) (q.3 ∙ sym (append-nil _)) ∙ fields-kept hyphen 4 q.0 q.1 q.2 Name.Date [] refl ∙ append-nil _ in
      rw (k, fields_only 4 q.0 q.1 q.2, fields_back hyphen 4 q.0 q.1 q.2, q.3)

  time_contents : (u : Time) → time_form u ≡ hms_local.form
      → read_contents Name.TimeOfDay form (contents_of Name.TimeOfDay (put_time canonical u)) ≡ of_text (read_of form (put_time canonical u))
  unfolding contents_of without
  time_contents u f =
      let q = time-fields u f in
      let k : contents_of Name.TimeOfDay (put_time canonical u) ≡ fields_digits 2 q.0 q.1 q.2 =
      ap (contents_of Name.TimeOfDay) (q.3 ∙ sym (append-nil _)) ∙ fields-kept colon 2 q.0 q.1 q.2 Name.TimeOfDay [] refl ∙ append-nil _ in
      rw (k, fields_only 2 q.0 q.1 q.2, fields_back colon 2 q.0 q.1 q.2, q.3)

  date_time_contents : (w : Option (Year × Year)) (d : Date) (e : Time)
      → date_form d ≡ DateForm.YMD → time_form e ≡ hms_local.form → admits_date (with_window w ymd_basic) d ≡ true
      → read_contents Name.DateTime form (contents_of Name.DateTime (date_time_text d e)) ≡ of_text (read_of form (date_time_text d e))
  unfolding contents_of without all_digits
  date_time_contents w d e f h a =
      let q = date-fields w d f a in
      let r = time-fields e h in
      let x = fields_digits 4 q.0 q.1 q.2 in
      let y = fields_digits 2 r.0 r.1 r.2 in
      let y_kept : contents_of Name.DateTime (put_time canonical e) ≡ y =
      ap (contents_of Name.DateTime) (r.3 ∙ sym (append-nil _)) ∙ fields-kept colon 2 r.0 r.1 r.2 Name.DateTime [] refl ∙ append-nil _ in
      let k : contents_of Name.DateTime (date_time_text d e) ≡ x ++ y =
      ap (λ (l : List ℕ). contents_of Name.DateTime (l ++ letter_t ∷ put_time canonical e)) q.3
      ∙ fields-kept hyphen 4 q.0 q.1 q.2 Name.DateTime (letter_t ∷ put_time canonical e) refl
      ∙ ap (λ (l : List ℕ). x ++ l) y_kept in
      let n : length (x ++ y) ≡ 14 = length-append x y ∙ rw (fields-length 0 4 q.0 q.1 q.2, fields-length 0 2 r.0 r.1 r.2) in
      let o : digits_only 14 (x ++ y) ≡ true =
      digits-only 14 (x ++ y) n
      (fields_all 0 4 q.0 q.1 q.2 y ∙ rw (← append-nil y) (fields_all 0 2 r.0 r.1 r.2 [])) in
      let front : take 8 (x ++ y) ≡ x = take_at x y 8 (fields-length 0 4 q.0 q.1 q.2) in
      let back : drop 8 (x ++ y) ≡ y = drop_at x y 8 (fields-length 0 4 q.0 q.1 q.2) in
      rw (k, o, front, back, fields_back hyphen 4 q.0 q.1 q.2, fields_back colon 2 r.0 r.1 r.2, q.3, r.3)

own_contents : (form : Form) (t : Ty) (v : Value) → value_form v ≡ form_of t → admits (parts_of t) v ≡ true
    → read_contents (name_of t) form (contents_of (name_of t) (text_of v)) ≡ of_text (read_of form (text_of v))
unfolding contents_of render
own_contents form (Ty.Listed p) v f a = rw (without_none (text_of v))
own_contents form (Ty.Date w) (Value.Date d) f a = date_contents form w d (let g : date_form d ≡ DateForm.YMD = cc in g) a
own_contents form (Ty.TimeOfDay h) (Value.Time u) f a = time_contents form u (let g : time_form u ≡ hms_local.form = cc in g)
own_contents form (Ty.DateTime w h) (Value.DateTime d e) f a =
    date_time_contents form w d e (let g : date_form d ≡ DateForm.YMD = cc in g) (let g : time_form e ≡ hms_local.form = cc in g)
    (both (admits_date (with_window w ymd_basic) d) _ a).0
own_contents form (Ty.Date w) (Value.Time u) f a = absurd (let z : ◌≡◌ {A = ℕ} 0 1 = cc in omega arith)
own_contents form (Ty.Date w) (Value.DateTime d u) f a = absurd (let z : ◌≡◌ {A = ℕ} 0 1 = cc in omega arith)
own_contents form (Ty.TimeOfDay h) (Value.Date d) f a = absurd (let z : ◌≡◌ {A = ℕ} 0 1 = cc in omega arith)
own_contents form (Ty.TimeOfDay h) (Value.DateTime d u) f a = absurd (let z : ◌≡◌ {A = ℕ} 0 1 = cc in omega arith)
own_contents form (Ty.DateTime w h) (Value.Date d) f a = absurd (let z : ◌≡◌ {A = ℕ} 0 1 = cc in omega arith)
own_contents form (Ty.DateTime w h) (Value.Time e) f a = absurd (let z : ◌≡◌ {A = ℕ} 0 1 = cc in omega arith)

-- The element of a value that a type holds gives at every form, also at another than the type's, what the canonical text gives.
pub element_gives : (t : Ty) (v : Value) → Holds der t v → (form : Form)
    → read_element (name_of t) form (element_of (name_of t) v) ≡ of_text (read_of form (text_of v))
unfolding element_of read_element
element_gives t v h form =
    let i = in-type t v h.inside in
    under-tag (name_of t) (read_contents (name_of t) form) (contents_of (name_of t) (text_of v)) (let m = length_most (name_of t) v h.real in omega arith)
    ∙ own_contents form t v i.0 i.1

octets_read : (t : Ty) (v : Value) → Holds der t v → read_element (name_of t) (form_of t) (element_of (name_of t) v) ≡ Some v
octets_read t v h = element_gives t v h (form_of t) ∙ text-read in_der t v h canonical

pub der_lawful : Lawful der
der_lawful = record { text_own = λ t v h. text-read in_der t v h canonical; octets_own = octets_read }

-- Whatever is accepted is the element of the value returned.
pub der_accepted : (t : Ty) (octets text : List ℕ) {bits : Bits} → der_decoded t octets ≡ done text bits → Accepted der t octets text
der_accepted t octets text {bits} e = Coding.decoded_only der t octets text bits e

-- Two values of one type never share an encoding.
pub der-one-encoding : (t : Ty) (a b : Value) → Holds der t a → Holds der t b → element_of (name_of t) a ≡ element_of (name_of t) b → a ≡ b
der-one-encoding t a b h k e = Coding.one-encoding der der_lawful t a b h k e

-- ---- how long results are

-- A result is short.
pub der-encoded-short : (t : Ty) (text result : List ℕ) (bits : Bits) → der_encoded t text ≡ done result bits → length result ≤ 55
der-encoded-short t text result bits e =
    let x = Coding.encoded_only der t text result bits e in
    let q : element_of (name_of t) x.0 ≡ result = let r = x.3 in cc in
    rw (← q) (element_most (name_of t) x.0 x.1.real)

pub der-decoded-short : (t : Ty) (octets result : List ℕ) (bits : Bits) → der_decoded t octets ≡ done result bits → length result ≤ 52
der-decoded-short = decoded-short in_der

-- ---- the encoder's answer is that of an admission

pub der-admitted : (t : Ty) (text : List ℕ) → der_encoded t text ≡ admission_answer in_der (name_of t) (admitted t text)
der-admitted = encoded-admitted in_der

-- What is judged of a value, as the code has it.
pub der-judged_as : (t : Ty) (v : Value) (answer : Answer) → judged_as der t v answer ≡ answer_with answer (judged t v)
der-judged_as = judged-as in_der

-- What is written into a buffer, to be compared with, is the element of a text.
pub own_written : (name : Name) (text room own : List ℕ) (r : Outcome) → length (element name (contents_of name text)) ≤ length room
    → r ≡ outcome_of (done (element name (contents_of name text)) no_bits) room → own ≡ room_of (done (element name (contents_of name text)) no_bits) room
    → (r.length.count ≡ length (element name (contents_of name text))) × (take r.length.count own ≡ element name (contents_of name text))
own_written name text room own r f o m =
    let n : r.length.count ≡ length (element name (contents_of name text)) = ap (λ (p : Outcome). p.length.count) (o ∙ (enough _ room no_bits f).0) in
    (n, rw n (ap (take (length (element name (contents_of name text)))) m ∙ in-front (element name (contents_of name text)) room no_bits f))

-- So of a value: it is the value's element.
pub own_element : (name : Name) (v : Value) (text room own : List ℕ) (r : Outcome) → exists_value v ≡ true → text ≡ text_of v → 55 ≤ length room
    → r ≡ outcome_of (done (element name (contents_of name text)) no_bits) room → own ≡ room_of (done (element name (contents_of name text)) no_bits) room
    → (r.length.count ≤ 55) × (take r.length.count own ≡ element_of name v)
unfolding element_of
own_element name v text room own r x q h o m =
    let l : length (element name (contents_of name (text_of v))) ≤ 55 = element_most name v x in
    let w = own_written name text room own r (rw q (omega arith)) o m in
    (rw (w.0, q) l, w.1 ∙ rw q)
