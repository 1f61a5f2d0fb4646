-- The theorems: each claim of specs/Demands.antt is proved under its name. What they rest on stands in Laws/Exchanges and Laws/Causes, for any kind.
use Rattle.std.specs.Prelude.{Option, Some, None, Result, Ok, Err}
use mathlib.Core.Logic.{◌≢◌}
use mathlib.Core.Path.{◌≡◌, refl, ap, sym, ◌∙◌}
use mathlib.Core.Bool.{Bool, true}
use mathlib.Core.List.{List}
use Prim.Native.Nat.{ℕ}
use native.Mathlib.Omega.{arith}
use lib.Dec.{eqb}
use borrow.Author.Tests.{eq-eqb, ne_eqb}
use Rattle.octets.specs.Found.{Found, found, nothing, of_found}
use Rattle.octets.proofs.Laws.Cases.{both}
use Rattle.answers.specs.Outcomes.{Answer, outcome_of, refused}
use Rattle.answers.specs.declared.refusals.Refusal.{Refusal}
use Rattle.texts.specs.declared.forms.Form.{Form}
use Rattle.texts.specs.declared.values.Value.{Value}
use Rattle.types.specs.AnyTypes.{name_of, well_formed}
use Rattle.types.specs.Types as Points
use Rattle.types.specs.Types.{type_number}
use Rattle.types.specs.declared.types.AnyType.{AnyType}
use Rattle.types.specs.declared.types.«Type».{«Type» as Ty}
use Rattle.types.specs.declared.types.Limits.{Limits}
use Rattle.types.specs.declared.types.TypeRead.{TypeRead}
use Rattle.types.proofs.Laws.Durations.{OfDurations, as_listed, named}
use Rattle.type_texts.specs.TypeTexts.{type_of}
use Rattle.type_texts.proofs.Laws.WellFormed.{read_well-formed}
use Rattle.held_values.specs.Admission.{admission_number, admitted, judged, judgement_number}
use Rattle.rows.specs.Fields.{year_row_of}
use Rattle.rows.specs.Readings.{read_octets}
use Rattle.rows.proofs.Laws.SameRows.{same-rows}
use Rattle.unpacking.specs.Unpacked.{value_number}
use Rattle.kinds.specs.Kinds.{Encoding, holds}
use Rattle.kinds.specs.Lawful.{Holds}
use Rattle.kinds.proofs.Laws.Coding as Coding
use Rattle.held_values.proofs.Laws.Encodings.{admission_answer, answer_with, encoded-admitted, judged-as}
use Rattle.durations.specs.Answers.{duration_number}
use Rattle.durations.specs.Readings.{duration_in_octets}
use Rattle.durations.specs.Texts.{read_duration}
use Rattle.durations.specs.declared.Duration.{Duration}
use Rattle.durations.proofs.Laws.Values.{canonical_again}
use Rattle.any_values.specs.Encodings.{encoded_by}
use Rattle.any_values.specs.Texts.{as_point, form_of, read_text, render, text_of}
use Rattle.any_values.specs.declared.AnyForm.{AnyForm}
use Rattle.any_values.specs.declared.AnyValue.{AnyValue}
use Rattle.any_values.proofs.Laws.Encodings.{noted}
use Rattle.per.specs.AnyPer.{count_of, encoding_of, in_per, per}
use Rattle.per.specs.Per as PointsInPer
use Rattle.per.proofs.Laws.AnyPer as InPer
use Rattle.per.proofs.Laws.AnyPer.{per_lawful, same-form}
use Rattle.der_elements.specs.AnyDer.{decoded_duration, der, element_of, encoded_duration, in_der}
use Rattle.der_elements.specs.Der as PointsInDer
use Rattle.der_elements.specs.Elements.{element}
use Rattle.der_elements.specs.Readings.{read_duration_element}
use Rattle.der_elements.proofs.Laws.AnyDer as InDer
use Rattle.der_elements.proofs.Laws.AnyDer.{der_lawful, element_gives}
use Rattle.der_elements.proofs.Laws.Der.{one_tag}
use Rattle.exchanges.specs.Coding.{answer_of, answer_under, der_decode, der_encode, per_decode, per_encode, under_type}
use Rattle.exchanges.specs.Limits.{limits_given, window_given}
use Rattle.exchanges.specs.Demands.{answer_in_c, encodes, decodes, BitsTold, Demand1, Demand1InC, Demand2InDer, Demand2InPer, Demand3InDer, Demand3InPer}
use Rattle.exchanges.specs.Demands.{CanonicalTwice, DurationsTold, LimitsFromC, LimitsTold, PointsAsBefore, SevenNumbers, TextsTold, TypesTold}
use Rattle.exchanges.specs.Demands.{ValuesTold}
use Rattle.exchanges.specs.declared.entries.Entry.{Entry}
use Rattle.exchanges.proofs.Laws.Causes.{number-given}
use Rattle.exchanges.proofs.Laws.Exchanges.{comes_back, meets_2, meets_3, no_answer, written}

-- ---- demand 1

pub demand_1 : Demand1
demand_1 e settings limits input room = comes_back (answer_of e settings limits input) room

pub demand_1_c : Demand1InC
demand_1_c e settings limits input room = comes_back (answer_in_c e settings limits input) room

pub limits_from_c : LimitsFromC
unfolding limits_given window_given
limits_from_c given = record {
  limits_are = λ z.
      let g : limits_given given ≡ Some (record { window = window_given given; hour24 = eqb given.no24 0 }) =
      simp (eq-eqb given.counts 0 z) in (
        record { window = window_given given; hour24 = eqb given.no24 0 },
        record {
          every-year = λ y. simp (eq-eqb given.years 0 y);
          window_is = λ y. simp (ne_eqb given.years 0 y);
          hour_24 = eq-eqb given.no24 0;
          no_hour_24 = ne_eqb given.no24 0;
        },
        λ e settings input. rw g,
      );
  no_count = λ z e settings input room. no_answer (answer_in_c e settings given input) room Refusal.Settings (rw (ne_eqb given.counts 0 z));
}

-- ---- demand 2

pub demand_2_per : Demand2InPer
unfolding answer_of encoding_of count_of
demand_2_per settings limits t e =
    meets_2 per per_lawful render (noted in_per) t (read_well-formed limits settings t e) (per_encode settings limits) (per_decode settings limits)
    (λ l. rw e) (λ l. rw e)

pub demand_2_der : Demand2InDer
unfolding answer_of element_of element
demand_2_der settings limits t e =
    meets_2 der der_lawful render (noted in_der) t (read_well-formed limits settings t e) (der_encode settings limits) (der_decode settings limits)
    (λ l. rw e) (λ l. rw e)

-- ---- demand 3

-- a type that is read, and a value that it holds
held : {R : Type 0} (E : Encoding AnyType AnyForm R AnyValue) (t : AnyType) (v : AnyValue) → well_formed t ≡ true → holds (encoded_by E) t v ≡ true →
    Holds (encoded_by E) t v
held E t v f h = let b = both _ _ h in record { formed = f; real = b.0; inside = b.1 }

pub demand_3_per : Demand3InPer
unfolding answer_of
demand_3_per settings₁ limits₁ w e₁ settings₂ limits₂ r e₂ v h s room ok q n =
    let k = read_well-formed limits₁ settings₁ w e₁ in
    let f = same-form w r q n in
    let o : read_text (form_of r) (text_of v) ≡ Some v = rw (← f) (per_lawful.text_own w v (held in_per w v k h)) in (
      o,
      meets_3 per per_lawful render (noted in_per) w r k (read_well-formed limits₂ settings₂ r e₂) (same-rows w r q) v h
          (λ z. absurd (let y : ◌≡◌ {A = ℕ} 0 1 = cc in omega arith))
          (per_encode settings₁ limits₁ (render s v)) room
          (written per per_lawful render (noted in_per) w k (per_encode settings₁ limits₁) (per_decode settings₁ limits₁) (λ l. rw e₁) (λ l. rw e₁) v h s) ok
          (per_decode settings₂ limits₂) (λ l. rw e₂),
    )

pub demand_3_der : Demand3InDer
unfolding answer_of
demand_3_der settings₁ limits₁ w e₁ settings₂ limits₂ r e₂ v h s room ok q =
    let k = read_well-formed limits₁ settings₁ w e₁ in
    let n : name_of w ≡ name_of r = one_tag (name_of w) (name_of r) q in
    meets_3 der der_lawful render (noted in_der) w r k (read_well-formed limits₂ settings₂ r e₂) n v h
    (λ z. rw (← n) (element_gives w v (held in_der w v k h) (form_of r) ∙ z))
    (der_encode settings₁ limits₁ (render s v)) room
    (written der der_lawful render (noted in_der) w k (der_encode settings₁ limits₁) (der_decode settings₁ limits₁) (λ l. rw e₁) (λ l. rw e₁) v h s) ok
    (der_decode settings₂ limits₂) (λ l. rw e₂)

-- ---- the seven numbers

pub seven-numbers : SevenNumbers
unfolding answer_of
seven-numbers Entry.PerEncode settings limits input room =
    number-given per encodes settings limits input room (per_encode settings limits input) refl (λ t q. read_well-formed limits settings t q)
seven-numbers Entry.PerDecode settings limits input room =
    number-given per decodes settings limits input room (per_decode settings limits input) refl (λ t q. read_well-formed limits settings t q)
seven-numbers Entry.DerEncode settings limits input room =
    number-given der encodes settings limits input room (der_encode settings limits input) refl (λ t q. read_well-formed limits settings t q)
seven-numbers Entry.DerDecode settings limits input room =
    number-given der decodes settings limits input room (der_decode settings limits input) refl (λ t q. read_well-formed limits settings t q)

-- ---- the answers that are enums

pub types_told : TypesTold
unfolding outcome_of answer_of
types_told e settings limits input room n = go (type_of limits settings) n
  where
    go : (r : TypeRead) → type_number r ≢ 0 → (outcome_of (under_type r λ t. answer_under e t input) room).number ≡ type_number r
    go (TypeRead.«Type» t) n = absurd (n refl)
    go TypeRead.Unreadable n = refl
    go TypeRead.NoRow n = refl

-- What is answered under the type that is read.
module _ (settings : List ℕ) (limits : Limits) (t : AnyType) (q : type_of limits settings ≡ TypeRead.«Type» t) (input room : List ℕ) where
  under_read : (e : Entry) (a : Answer) → answer_under e t input ≡ a → (outcome_of (answer_of e settings limits input) room).number ≡ (outcome_of a room).number
  unfolding answer_of
  under_read e a c = rw (q, c)

-- Under a point's type everything is answered as the kinds of points have it.
pub points_as_before : PointsAsBefore
unfolding answer_of
points_as_before settings limits t q input =
    (rw q (InPer.point-encodes t input), rw q (InPer.point-decodes t input), rw q (InDer.point-encodes t input), rw q (InDer.point-decodes t input))

admission_told : {R : Type 0} (E : Encoding Ty Form R Value) (row : R) (a : Result Value Refusal) (room : List ℕ) → admission_number a ≢ 0
    → (outcome_of (admission_answer E row a) room).number ≡ admission_number a
unfolding outcome_of
admission_told E row (Ok v) room n = absurd (n refl)
admission_told E row (Err why) room n = refl

-- The number of an answer that is known.
number_is : {a b : Answer} (room : List ℕ) → a ≡ b → (outcome_of a room).number ≡ (outcome_of b room).number
number_is room e = ap (λ (x : Answer). (outcome_of x room).number) e

pub texts_told : TextsTold
texts_told settings limits t q text room n =
    let p = points_as_before settings limits t q text in (
      number_is room (p.0 ∙ encoded-admitted PointsInPer.in_per t text) ∙ admission_told PointsInPer.in_per ((PointsInPer.in_per).row t) (admitted t text) room n,
      number_is room (p.2 ∙ encoded-admitted PointsInDer.in_der t text) ∙ admission_told PointsInDer.in_der ((PointsInDer.in_der).row t) (admitted t text) room n,
    )

pub bits_told : BitsTold
unfolding outcome_of
bits_told settings limits t q octets room n = go (read_octets (year_row_of t) (Points.form_of t) octets) refl n
  where
    go : (g : Found Bool Value) → read_octets (year_row_of t) (Points.form_of t) octets ≡ g → value_number (of_found g) ≢ 0
        → (outcome_of (per_decode settings limits octets) room).number ≡ value_number (of_found (read_octets (year_row_of t) (Points.form_of t) octets))
    go (found v rest) r n = absurd (n refl)
    go nothing r n =
        number_is room ((points_as_before settings limits t q octets).1
        ∙ Coding.decoded_none PointsInPer.per t octets (read_well-formed limits settings (AnyType.Point t) q) (rw r))
        ∙ sym (ap (λ (g : Found Bool Value). value_number (of_found g)) r)

judgement_told : (c : Answer) (j : Result (Unit {0}) Refusal) (room : List ℕ) → judgement_number j ≢ 0 → (outcome_of (answer_with c j) room).number ≡ judgement_number j
unfolding outcome_of
judgement_told c (Ok tt) room n = absurd (n refl)
judgement_told c (Err why) room n = refl

-- What is given as a point was given.
given_point : (o : Option Value) (v : Value) → as_point o ≡ Some (AnyValue.Point v) → o ≡ Some v
given_point (Some w) v e = let q : w ≡ v = cc in ap Some q
given_point None v e = absurd (let z : ◌≡◌ {A = ℕ} 0 1 = cc in omega arith)

pub values_told : ValuesTold
values_told settings limits t q octets room v n = (
  λ r.
      number_is room (p.1 ∙ Coding.decoded-judged PointsInPer.per t octets k v (given_point _ v r) ∙ judged-as PointsInPer.in_per t v _)
      ∙ judgement_told _ (judged t v) room n,
  λ r.
      number_is room (p.3 ∙ Coding.decoded-judged PointsInDer.der t octets k v (given_point _ v r) ∙ judged-as PointsInDer.in_der t v _)
      ∙ judgement_told _ (judged t v) room n,
)
  where
    k : Points.well_formed t ≡ true
    k = read_well-formed limits settings (AnyType.Point t) q

    p : (per_encode settings limits octets ≡ PointsInPer.per_encoded t octets)
        × (per_decode settings limits octets ≡ PointsInPer.per_decoded t octets)
        × (der_encode settings limits octets ≡ PointsInDer.der_encoded t octets)
        × (der_decode settings limits octets ≡ PointsInDer.der_decoded t octets)
    p = points_as_before settings limits t q octets

-- ---- durations

of_durations : (t : AnyType) → form_of t ≡ AnyForm.Duration → OfDurations t
of_durations (AnyType.Point t) e = absurd (let z : ◌≡◌ {A = ℕ} 0 1 = cc in omega arith)
of_durations AnyType.Duration e = named
of_durations AnyType.ListedDuration e = as_listed

-- Where nothing is read as a duration, what is answered has its number.
none_told : (answer : Option Duration → Answer) (room : List ℕ) → answer None ≡ refused Refusal.Form
    → (o : Option Duration) → duration_number o ≢ 0 → (outcome_of (answer o) room).number ≡ duration_number o
unfolding outcome_of
none_told answer room e (Some d) n = absurd (n refl)
none_told answer room e None n = number_is room e

pub durations_told : DurationsTold
durations_told settings limits t q f input room =
    let d = of_durations t f in (
      λ n. (
        under_read settings limits t q input room Entry.PerEncode _ (InPer.duration-encodes t d input)
            ∙ none_told InPer.encoded_duration room refl (read_duration input) n,
        under_read settings limits t q input room Entry.DerEncode _ (InDer.duration-encodes input t d)
            ∙ none_told (encoded_duration (name_of t)) room refl (read_duration input) n,
      ),
      λ n.
          under_read settings limits t q input room Entry.PerDecode _ (InPer.duration-decodes t d input)
          ∙ none_told (InPer.decoded_duration input) room refl (duration_in_octets input) n,
      λ n.
          under_read settings limits t q input room Entry.DerDecode _ (InDer.duration-decodes input t d)
          ∙ none_told (decoded_duration (name_of t) input) room refl (read_duration_element (name_of t) input) n,
    )

pub canonical_twice : CanonicalTwice
canonical_twice text once e = canonical_again text once e

-- ---- limits

pub limits_told : LimitsTold
unfolding limits_given outcome_of
limits_told e settings given input room = (
  λ z. simp (eq-eqb given.counts 0 z),
  λ z. let c = ne_eqb given.counts 0 z in (rw c refl, rw c refl),
)
