-- DER of points and durations meets what is asked of a kind.
use Rattle.std.specs.Prelude.{Option, Some, None}
use mathlib.Core.Path.{◌≡◌, refl, ap, sym, ◌∙◌}
use mathlib.Core.Bool.{true, false≢true}
use mathlib.Core.List.{List}
use Prim.Native.Nat.{ℕ, ◌≤◌}
use native.Mathlib.Omega.{arith}
use lib.ListN.{length}
use Rattle.answers.specs.Outcomes.{done}
use Rattle.answers.specs.declared.counts.Bits.{Bits}
use Rattle.texts.specs.Texts as Texts
use Rattle.texts.specs.Texts.{read_of}
use Rattle.texts.specs.declared.forms.Form.{Form}
use Rattle.texts.specs.declared.values.Value.{Value}
use Rattle.types.specs.AnyTypes.{name_of}
use Rattle.types.specs.Types as Types
use Rattle.types.specs.declared.types.AnyType.{AnyType}
use Rattle.types.specs.declared.types.Name.{Name}
use Rattle.types.specs.declared.types.«Type».{«Type» as Ty}
use Rattle.types.proofs.Laws.Durations as TypeLaws
use Rattle.types.proofs.Laws.Durations.{OfDurations}
use Rattle.durations.specs.Durations.{exists_duration}
use Rattle.durations.specs.Texts as Durations
use Rattle.durations.specs.Texts.{duration_text, read_duration}
use Rattle.durations.specs.declared.Duration.{Duration}
use Rattle.durations.proofs.Laws.Texts.{read-duration}
use Rattle.durations.proofs.Laws.Values.{read_only}
use Rattle.held_values.specs.Encodings.{of_text}
use Rattle.held_values.specs.Existence.{exists_value}
use Rattle.kinds.specs.Coding.{compared, decoded, encoded, judged_as, judged_octets, judged_text}
use Rattle.kinds.specs.Lawful.{Holds, Lawful}
use Rattle.kinds.proofs.Laws.Coding as Coding
use Rattle.any_values.specs.Texts.{as_duration, as_point, canonical, form_of, read_text, text_of}
use Rattle.any_values.specs.declared.AnyForm.{AnyForm}
use Rattle.any_values.specs.declared.AnyValue.{AnyValue}
use Rattle.any_values.proofs.Laws.Encodings.{decoded-short, text-read}
use Rattle.any_values.proofs.Laws.Points.{Extends, point-decoded, point-encoded}
use Rattle.any_values.proofs.Laws.Texts.{duration_head, no-duration, no_point, point_head}
use Rattle.der_elements.specs.AnyDer.{decoded_duration, der, der_decoded, der_encoded, element_of, encoded_duration, in_der, read_element}
use Rattle.der_elements.specs.Der as Points
use Rattle.der_elements.specs.Elements as Elements
use Rattle.der_elements.specs.Elements.{contents_of, element}
use Rattle.der_elements.specs.Readings as Readings
use Rattle.der_elements.specs.Readings.{read_contents, read_duration_contents, read_duration_element}
use Rattle.der_elements.proofs.Laws.Contents.{without_none}
use Rattle.der_elements.proofs.Laws.Der as PointLaws
use Rattle.der_elements.proofs.Laws.Der.{under-tag}
use Rattle.der_elements.proofs.Laws.Durations.{DurationName, as_listed, duration-element, duration-reads, element_most, length_most, named}

-- ---- points

-- A point is encoded and read as DER of points has it.
points_in : Extends in_der Points.in_der
unfolding element_of Elements.element_of
points_in = record { row_is = λ t. refl; encoding-is = λ name v. refl; count-is = λ name v. refl; octets_are = λ name f octets. refl }

-- Under a point's type everything answers exactly as before.
pub point-encodes : (t : Ty) (text : List ℕ) → der_encoded (AnyType.Point t) text ≡ Points.der_encoded t text
point-encodes t text = point-encoded in_der Points.in_der points_in t text

pub point-decodes : (t : Ty) (octets : List ℕ) → der_decoded (AnyType.Point t) octets ≡ Points.der_decoded t octets
point-decodes t octets = point-decoded in_der Points.in_der points_in t octets

-- ---- what an element gives

-- Under 0E the contents are the text.
listed-contents : (l : List ℕ) → contents_of Name.Listed l ≡ l
unfolding contents_of
listed-contents l = without_none l

-- The contents of a point's text give no duration.
point-contents : (t : Ty) (v : Value) → read_duration_contents (Types.name_of t) (contents_of (Types.name_of t) (Texts.text_of v)) ≡ None
point-contents (Ty.Listed p) v =
    ap read_duration (listed-contents (Texts.text_of v)) ∙ no-duration (Texts.text_of v) (point_head canonical.point v)
point-contents (Ty.Date w) v = refl
point-contents (Ty.TimeOfDay h) v = refl
point-contents (Ty.DateTime w h) v = refl

-- The element of a duration gives at every form what the canonical text gives, under both names.
module _ (d : Duration) (e : exists_duration d ≡ true) where
  own_given : (name : Name) → DurationName name → as_duration (read_duration_element name (element name (contents_of name (duration_text d))))
      ≡ as_duration (read_duration (duration_text d))
  own_given name n = ap as_duration (duration-element name n d e ∙ sym (read-duration Durations.canonical d e))

  no_contents : (name : Name) (f : Form) → Readings.read_element name f (element name (contents_of name (duration_text d)))
      ≡ read_contents name f (contents_of name (duration_text d))
  unfolding Readings.read_element
  no_contents name f = under-tag name (read_contents name f) (contents_of name (duration_text d)) (let m = length_most name d e in omega arith)

  named_gives : (f : AnyForm) → read_element Name.Duration f (element Name.Duration (contents_of Name.Duration (duration_text d))) ≡ read_text f (duration_text d)
  named_gives AnyForm.Duration = own_given Name.Duration named
  named_gives (AnyForm.Point f) = ap as_point (no_contents Name.Duration f ∙ sym (no_point f (duration_text d) (duration_head Durations.canonical d)))

  listed_gives : (f : AnyForm) → read_element Name.Listed f (element Name.Listed (contents_of Name.Listed (duration_text d))) ≡ read_text f (duration_text d)
  listed_gives AnyForm.Duration = own_given Name.Listed as_listed
  listed_gives (AnyForm.Point f) =
      ap as_point (no_contents Name.Listed f ∙ ap (λ (l : List ℕ). of_text (read_of f l)) (listed-contents (duration_text d)))

-- The element of a point gives no duration.
point-element : (t : Ty) (v : Value) → exists_value v ≡ true
    → read_duration_element (Types.name_of t) (element (Types.name_of t) (contents_of (Types.name_of t) (Texts.text_of v))) ≡ None
unfolding read_duration_element
point-element t v e =
    under-tag (Types.name_of t) (read_duration_contents (Types.name_of t)) (contents_of (Types.name_of t) (Texts.text_of v))
    (let m = PointLaws.length_most (Types.name_of t) v e in omega arith)
    ∙ point-contents t v

-- The element of a value that a type holds gives at every form, also at another than the type's, what the canonical text gives.
pub element_gives : (t : AnyType) (v : AnyValue) → Holds der t v → (form : AnyForm)
    → read_element (name_of t) form (element_of (name_of t) v) ≡ read_text form (text_of v)
unfolding element_of Elements.element_of
element_gives (AnyType.Point t) (AnyValue.Point v) h (AnyForm.Point f) =
    ap as_point (PointLaws.element_gives t v (record { formed = h.formed; real = h.real; inside = h.inside }) f)
element_gives (AnyType.Point t) (AnyValue.Point v) h AnyForm.Duration =
    ap as_duration (point-element t v h.real ∙ sym (no-duration (Texts.text_of v) (point_head canonical.point v)))
element_gives (AnyType.Point t) (AnyValue.Duration d) h f = absurd (false≢true h.inside)
element_gives AnyType.Duration (AnyValue.Point v) h f = absurd (false≢true h.inside)
element_gives AnyType.Duration (AnyValue.Duration d) h f = named_gives d h.real f
element_gives AnyType.ListedDuration (AnyValue.Point v) h f = absurd (false≢true h.inside)
element_gives AnyType.ListedDuration (AnyValue.Duration d) h f = listed_gives d h.real f

-- ---- a lawful kind

octets_read : (t : AnyType) (v : AnyValue) → Holds der t v → read_element (name_of t) (form_of t) (element_of (name_of t) v) ≡ Some v
octets_read t v h = element_gives t v h (form_of t) ∙ text-read in_der t v h canonical

pub der_lawful : Lawful der
der_lawful = record { text_own = λ t v h. text-read in_der t v h canonical; octets_own = octets_read }

-- ---- how long results are

value_most : (v : AnyValue) (t : AnyType) → Holds der t v → length (element_of (name_of t) v) ≤ 75
unfolding element_of
value_most (AnyValue.Point v) t h =
    let l = PointLaws.element_most (name_of t) v h.real in
    let q : element (name_of t) (contents_of (name_of t) (Texts.text_of v)) ≡ Elements.element_of (name_of t) v = unfold Elements.element_of in refl in
    rw q (omega arith)
value_most (AnyValue.Duration d) t h = element_most (name_of t) d h.real

pub der-encoded-short : (t : AnyType) (text result : List ℕ) (bits : Bits) → der_encoded t text ≡ done result bits → length result ≤ 75
der-encoded-short t text result bits e =
    let x = Coding.encoded_only der t text result bits e in
    let q : element_of (name_of t) x.0 ≡ result = let r = x.3 in cc in
    rw (← q) (value_most x.0 t x.1)

pub der-decoded-short : (t : AnyType) (octets result : List ℕ) (bits : Bits) → der_decoded t octets ≡ done result bits → length result ≤ 72
der-decoded-short = decoded-short in_der

-- ---- durations, as the code has it

-- Of a duration that is read there is no refusal 4 and none 5.
module _ (text : List ℕ) where
  encodes : (t : AnyType) → OfDurations t → (o : Option Duration) → read_duration text ≡ o → judged_text der t (as_duration o) ≡ encoded_duration (name_of t) o
  unfolding judged_text judged_as element_of
  encodes t TypeLaws.named None r = refl
  encodes t TypeLaws.as_listed None r = refl
  encodes t TypeLaws.named (Some d) r = rw (read_only text d r).exists
  encodes t TypeLaws.as_listed (Some d) r = rw (read_only text d r).exists

  pub duration-encodes : (t : AnyType) → OfDurations t → der_encoded t text ≡ encoded_duration (name_of t) (read_duration text)
  unfolding encoded
  duration-encodes t TypeLaws.named = encodes AnyType.Duration TypeLaws.named (read_duration text) refl
  duration-encodes t TypeLaws.as_listed = encodes AnyType.ListedDuration TypeLaws.as_listed (read_duration text) refl

module _ (octets : List ℕ) where
  decodes : (t : AnyType) → OfDurations t → (o : Option Duration) → read_duration_element (name_of t) octets ≡ o
      → judged_octets der t octets (as_duration o) ≡ decoded_duration (name_of t) octets o
  unfolding judged_octets judged_as compared element_of
  decodes t TypeLaws.named None r = refl
  decodes t TypeLaws.as_listed None r = refl
  decodes t TypeLaws.named (Some d) r = rw (duration-reads Name.Duration d octets r).1.exists
  decodes t TypeLaws.as_listed (Some d) r = rw (duration-reads Name.Listed d octets r).1.exists

  pub duration-decodes : (t : AnyType) → OfDurations t → der_decoded t octets ≡ decoded_duration (name_of t) octets (read_duration_element (name_of t) octets)
  unfolding decoded
  duration-decodes t TypeLaws.named = decodes AnyType.Duration TypeLaws.named (read_duration_element Name.Duration octets) refl
  duration-decodes t TypeLaws.as_listed = decodes AnyType.ListedDuration TypeLaws.as_listed (read_duration_element Name.Listed octets) refl
