-- What holds of dates and times in any encoding.
use Rattle.std.specs.Prelude.{None, Some, Option, Result, Ok, Err}
use mathlib.Core.Path.{◌≡◌, refl, ap, sym, ◌∙◌}
use mathlib.Core.Bool.{Bool, true, false, cond, false≢true}
use mathlib.Core.List.{List}
use Prim.Native.Nat.{ℕ, ◌≤◌}
use native.Mathlib.Omega.{arith}
use lib.ListN.{length}
use Rattle.answers.specs.Outcomes.{Answer, done, refused}
use Rattle.answers.specs.declared.counts.Bits.{Bits}
use Rattle.answers.specs.declared.refusals.Refusal.{Refusal}
use Rattle.texts.specs.Texts.{read_of, render, text_of}
use Rattle.texts.specs.Forms.{value_form}
use Rattle.texts.specs.Times.{canonical}
use Rattle.texts.specs.Years.{longest_year}
use Rattle.texts.proofs.Laws.Forms.{other-form}
use Rattle.texts.proofs.Laws.Texts.{render_read}
use Rattle.texts.specs.declared.forms.Form.{Form}
use Rattle.texts.specs.declared.values.Spelling.{Spelling}
use Rattle.texts.specs.declared.values.Value.{Value}
use Rattle.types.specs.Types.{form_of, well_formed}
use Rattle.types.specs.declared.types.«Type».{«Type» as Ty}
use Rattle.printing.proofs.Laws.Canonical.{text-length}
use Rattle.held_values.specs.Admission.{admitted, given_as, judged, judged_read, text_number}
use Rattle.held_values.specs.Existence.{exists_value}
use Rattle.held_values.specs.Forms.{same_form}
use Rattle.held_values.specs.Holding.{holds_of, in_type}
use Rattle.held_values.proofs.Laws.Existing.{exists-digits, held_fits, held_read}
use Rattle.held_values.proofs.Laws.Holding.{form_same, held, holds_both, in-type, same-form}
use Rattle.kinds.specs.Coding.{encoded, decoded, judged_text, judged_as}
use Rattle.kinds.specs.Kinds.{Encoding, holds}
use Rattle.kinds.specs.Lawful.{Holds, Notation}
use Rattle.kinds.proofs.Laws.Coding as Coding
use Rattle.held_values.specs.Encodings.{of_text, encoded_by}

-- What an admission answers: the encoding of the value, or the refusal.
abbrev pub admission_answer : {R : Type 0} → Encoding Ty Form R Value → R → Result Value Refusal → Answer
admission_answer E row (Ok v) = done (E.encoding row v) (E.count row v)
admission_answer E row (Err why) = refused why

-- What is answered where a type holds a value, or the refusal.
abbrev pub answer_with : Answer → Result (Unit {0}) Refusal → Answer
answer_with answer (Ok tt) = answer
answer_with answer (Err why) = refused why

-- The number of what a text gives is 3 where nothing is read.
pub text-number : (r : Option (Value × Spelling)) → of_text r ≡ None → text_number r ≡ 3
text-number (Some (v, s)) e = absurd (let z : ◌≡◌ {A = ℕ} 0 1 = cc in omega arith)
text-number None e = refl

-- The number of what a text gives is 0 where a value is read.
pub number_read_lem : (r : Option (Value × Spelling)) (v : Value) → of_text r ≡ Some v → text_number r ≡ 0
number_read_lem (Some (w, s)) v e = refl
number_read_lem None v e = absurd (let z : ◌≡◌ {A = ℕ} 0 1 = cc in omega arith)

-- A text that gives a value is one of the value's texts.
pub text-of : (f : Form) (l : List ℕ) (v : Value) (r : Option (Value × Spelling)) → read_of f l ≡ r → of_text r ≡ Some v → (s : Spelling) × (l ≡ render s v)
text-of f l v (Some (w, s)) r q =
    let p : w ≡ v = cc in
    (s, (render_read longest_year (omega arith) (omega arith) f l w s r).0 ∙ ap (render s) p)
text-of f l v None r q = absurd (let z : ◌≡◌ {A = ℕ} 0 1 = cc in omega arith)

-- The canonical text of a value that a type holds is of no other form than the type's.
pub held-form : (t : Ty) (v : Value) → holds_of t v ≡ true → (f : Form) (w : Value) → of_text (read_of f (text_of v)) ≡ Some w → form_of t ≡ f
held-form t v h f w e = go (same_form (value_form v) f) refl
  where
    go : (b : Bool) → same_form (value_form v) f ≡ b → form_of t ≡ f
    go true b = sym (in-type t v (held t v h).1).0 ∙ same-form (value_form v) f b
    go false b =
        let n : read_of f (text_of v) ≡ None =
        other-form longest_year (omega arith) longest_year (omega arith) (omega arith) (omega arith) canonical v f (held_fits t v h)
        (λ q. false≢true (sym b ∙ form_same (value_form v) f q)) in
        absurd (let o = sym (ap of_text n) ∙ e in let z : ◌≡◌ {A = ℕ} 0 1 = cc in omega arith)

module _ {R : Type 0} (E : Encoding Ty Form R Value) where
  pub held_by : (t : Ty) (v : Value) → Holds (encoded_by E) t v → holds_of t v ≡ true
  held_by t v h = holds_both t v h.real h.inside

  -- what the kind holds is what the type does
  pub holds-is : (t : Ty) (v : Value) → holds (encoded_by E) t v ≡ holds_of t v
  unfolding holds_of
  holds-is t v = refl

  -- any text of a value that a type holds is read as it
  pub text-read : (t : Ty) (v : Value) → Holds (encoded_by E) t v → (s : Spelling) → of_text (read_of (form_of t) (render s v)) ≡ Some v
  text-read t v h s = ap of_text (held_read t v (held_by t v h) s)

  -- what the decoder returns is a short text
  pub decoded-short : (t : Ty) (octets result : List ℕ) (bits : Bits)
      → decoded (encoded_by E) t octets ≡ done result bits → length result ≤ 52
  decoded-short t octets result bits e =
      let a = Coding.decoded_only (encoded_by E) t octets result bits e in
      rw a.text-is (text-length a.value (exists-digits a.value a.held.real))

  -- the encoder's answer, as the code has it
  pub encoded-admitted : (t : Ty) (text : List ℕ) → encoded (encoded_by E) t text ≡ admission_answer E (E.row t) (admitted t text)
  unfolding encoded judged_text judged_as admitted judged
  encoded-admitted t text = formed (well_formed t) (read_of (form_of t) text)
    where
      formed : (b : Bool) (r : Option (Value × Spelling)) → cond b (judged_text (encoded_by E) t (of_text r)) (refused Refusal.Settings)
          ≡ admission_answer E (E.row t) (cond b (judged_read t r) (Err Refusal.Settings))
      formed false r = refl
      formed true None = refl
      formed true (Some (v, s)) = real (exists_value v) (in_type t v)
        where
          real : (a b : Bool) → cond a (cond b (done (E.encoding (E.row t) v) (E.count (E.row t) v)) (refused Refusal.Membership))
              (refused Refusal.Existence)
              ≡ admission_answer E (E.row t) (given_as v (cond a (cond b (Ok tt) (Err Refusal.Membership))
              (Err Refusal.Existence)))
          real false b = refl
          real true false = refl
          real true true = refl

  -- what is judged of a value, as the code has it
  pub judged-as : (t : Ty) (v : Value) (answer : Answer) → judged_as (encoded_by E) t v answer ≡ answer_with answer (judged t v)
  unfolding judged_as judged
  judged-as t v answer = go (exists_value v) (in_type t v)
    where
      go : (a b : Bool) → cond a (cond b answer (refused Refusal.Membership)) (refused Refusal.Existence)
          ≡ answer_with answer (cond a (cond b (Ok tt) (Err Refusal.Membership)) (Err Refusal.Existence))
      go false b = refl
      go true false = refl
      go true true = refl

  -- The texts of dates and times, in any encoding.
  pub noted : Notation (encoded_by E) Spelling render
  noted = record {
    text-read = text-read;
    text_only = λ f l v e. text-of f l v (read_of f l) refl e;
    one_form = λ t v h f w e. held-form t v (held_by t v h) f w e;
  }
