-- What holds of points and durations in any encoding.
use Rattle.std.specs.Prelude.{Option, Some, None}
use mathlib.Core.Path.{◌≡◌, refl, ap, sym, ◌∙◌}
use mathlib.Core.Bool.{true, false≢true}
use mathlib.Core.List.{List}
use Prim.Native.Nat.{ℕ, ◌≤◌}
use native.Mathlib.Omega.{arith}
use lib.ListN.{length}
use Rattle.answers.specs.Outcomes.{done}
use Rattle.answers.specs.declared.counts.Bits.{Bits}
use Rattle.texts.specs.Texts as Texts
use Rattle.texts.specs.Texts.{read_of}
use Rattle.texts.specs.declared.values.Value.{Value}
use Rattle.types.specs.declared.types.AnyType.{AnyType}
use Rattle.durations.specs.Durations.{exists_duration}
use Rattle.durations.specs.Texts as Durations
use Rattle.durations.specs.Texts.{duration_text, read_duration}
use Rattle.durations.specs.declared.Duration.{Duration}
use Rattle.durations.proofs.Laws.Sizes.{duration-length}
use Rattle.durations.proofs.Laws.Texts.{read-duration}
use Rattle.durations.proofs.Laws.Values.{read_only}
use Rattle.held_values.specs.Encodings.{of_text}
use Rattle.held_values.proofs.Laws.Encodings as Points
use Rattle.held_values.proofs.Laws.Encodings.{held-form}
use Rattle.held_values.proofs.Laws.Existing.{exists-digits, held_read}
use Rattle.held_values.proofs.Laws.Holding.{holds_both}
use Rattle.kinds.specs.Coding.{decoded}
use Rattle.kinds.specs.Lawful.{Holds, Notation}
use Rattle.kinds.proofs.Laws.Coding as Coding
use Rattle.printing.proofs.Laws.Canonical.{text-length}
use Rattle.kinds.specs.Kinds.{Encoding}
use Rattle.any_values.specs.Encodings.{encoded_by}
use Rattle.any_values.specs.Holding.{exists_value, in_type}
use Rattle.any_values.specs.Texts.{AnySpelling, as_duration, as_point, canonical, form_of, read_text, render, text_of}
use Rattle.any_values.specs.declared.AnyForm.{AnyForm}
use Rattle.any_values.specs.declared.AnyValue.{AnyValue}
use Rattle.any_values.proofs.Laws.Texts.{duration_head, no-duration, no_point, point_head}

-- ---- what is given

pub point_given : (o : Option Value) (v : AnyValue) → as_point o ≡ Some v → (w : Value) × (o ≡ Some w) × (v ≡ AnyValue.Point w)
point_given (Some w) v e = (w, refl, let q : v ≡ AnyValue.Point w = cc in q)
point_given None v e = absurd (let z : ◌≡◌ {A = ℕ} 0 1 = cc in omega arith)

pub duration_given : (o : Option Duration) (v : AnyValue) → as_duration o ≡ Some v → (d : Duration) × (o ≡ Some d) × (v ≡ AnyValue.Duration d)
duration_given (Some d) v e = (d, refl, let q : v ≡ AnyValue.Duration d = cc in q)
duration_given None v e = absurd (let z : ◌≡◌ {A = ℕ} 0 1 = cc in omega arith)

-- ---- the texts

-- A text that gives a value is one of the value's texts.
text-of : (f : AnyForm) (l : List ℕ) (v : AnyValue) → read_text f l ≡ Some v → (s : AnySpelling) × (l ≡ render s v)
text-of (AnyForm.Point f) l v e =
    let p = point_given (of_text (read_of f l)) v e in
    let x = Points.text-of f l p.0 (read_of f l) refl p.1 in
    let s : AnySpelling = record { point = x.0; duration = Durations.canonical } in
    (s, x.1 ∙ ap (render s) (sym p.2))
text-of AnyForm.Duration l v e =
    let p = duration_given (read_duration l) v e in
    let x = read_only l p.0 p.1 in
    let s : AnySpelling = record { point = canonical.point; duration = x.spelling } in
    (s, x.is ∙ ap (render s) (sym p.2))

-- The text of a point gives no duration, and that of a duration no point.
point_only : (v : Value) → read_text AnyForm.Duration (Texts.text_of v) ≡ None
point_only v = ap as_duration (no-duration (Texts.text_of v) (point_head canonical.point v))

-- A text has at most 72 octets.
text_most : (v : AnyValue) → exists_value v ≡ true → length (text_of v) ≤ 72
text_most (AnyValue.Point v) h = let l = text-length v (exists-digits v h) in omega arith
text_most (AnyValue.Duration d) h = duration-length Durations.canonical d h

module _ {R : Type 0} (E : Encoding AnyType AnyForm R AnyValue) where
  -- Any text of a value that a type holds is read as it.
  pub text-read : (t : AnyType) (v : AnyValue) → Holds (encoded_by E) t v → (s : AnySpelling) → read_text (form_of t) (render s v) ≡ Some v
  text-read (AnyType.Point t) (AnyValue.Point v) h s = ap (λ x. as_point (of_text x)) (held_read t v (holds_both t v h.real h.inside) s.point)
  text-read (AnyType.Point t) (AnyValue.Duration d) h s = absurd (false≢true h.inside)
  text-read AnyType.Duration (AnyValue.Point v) h s = absurd (false≢true h.inside)
  text-read AnyType.Duration (AnyValue.Duration d) h s = ap as_duration (read-duration s.duration d h.real)
  text-read AnyType.ListedDuration (AnyValue.Point v) h s = absurd (false≢true h.inside)
  text-read AnyType.ListedDuration (AnyValue.Duration d) h s = ap as_duration (read-duration s.duration d h.real)

  -- No point has a text of a duration.
  other_than_point : {C : Type 0} (f : AnyForm) (d : Duration) (w : AnyValue) → (f ≡ AnyForm.Duration → C) → read_text f (duration_text d) ≡ Some w → C
  other_than_point AnyForm.Duration d w g e = g refl
  other_than_point (AnyForm.Point f) d w g e =
      absurd (let n = sym (ap as_point (no_point f (duration_text d) (duration_head Durations.canonical d))) ∙ e in
      let z : ◌≡◌ {A = ℕ} 0 1 = cc in omega arith)

  -- The canonical text of a value that a type holds is of no other form than the type's.
  one_form : (t : AnyType) (v : AnyValue) → Holds (encoded_by E) t v → (f : AnyForm) (w : AnyValue) → read_text f (text_of v) ≡ Some w → form_of t ≡ f
  one_form (AnyType.Point t) (AnyValue.Point v) h (AnyForm.Point f) w e =
      let p = point_given (of_text (read_of f (Texts.text_of v))) w e in
      ap AnyForm.Point (held-form t v (holds_both t v h.real h.inside) f p.0 p.1)
  one_form (AnyType.Point t) (AnyValue.Point v) h AnyForm.Duration w e =
      absurd (let n = sym (point_only v) ∙ e in let z : ◌≡◌ {A = ℕ} 0 1 = cc in omega arith)
  one_form (AnyType.Point t) (AnyValue.Duration d) h f w e = absurd (false≢true h.inside)
  one_form AnyType.Duration (AnyValue.Point v) h f w e = absurd (false≢true h.inside)
  one_form AnyType.Duration (AnyValue.Duration d) h f w e = other_than_point f d w sym e
  one_form AnyType.ListedDuration (AnyValue.Point v) h f w e = absurd (false≢true h.inside)
  one_form AnyType.ListedDuration (AnyValue.Duration d) h f w e = other_than_point f d w sym e

  -- The texts of points and durations, in any encoding.
  pub noted : Notation (encoded_by E) AnySpelling render
  noted = record { text-read = text-read; text_only = text-of; one_form = one_form }

  -- What the decoder returns is a short text.
  pub decoded-short : (t : AnyType) (octets result : List ℕ) (bits : Bits) → decoded (encoded_by E) t octets ≡ done result bits → length result ≤ 72
  decoded-short t octets result bits e =
      let a = Coding.decoded_only (encoded_by E) t octets result bits e in
      rw a.text-is (text_most a.value a.held.real)

-- A type of durations holds every duration that exists, and its canonical text is the duration's.
pub durations_held : (d : Duration) → exists_duration d ≡ true
    → (exists_value (AnyValue.Duration d) ≡ true) × (in_type AnyType.Duration (AnyValue.Duration d) ≡ true)
    × (in_type AnyType.ListedDuration (AnyValue.Duration d) ≡ true) × (text_of (AnyValue.Duration d) ≡ duration_text d)
durations_held d e = (e, refl, refl, refl)
