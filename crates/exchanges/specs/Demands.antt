-- What is claimed of the entry points: the maintainer's three demands, and the causes of the seven numbers. Here are the claims and no proof;
-- proofs/Demands.antt has a theorem for each. docs/PROMISES.md says how to read them.
use Rattle.std.specs.Prelude.{◌≢◌, ◌≡◌, true, false, List, ◌∷◌, ◌++◌, ℕ, ◌≤◌, ◌<◌, length, take, drop, Option, Some, None}
use Rattle.answers.specs.Outcomes.{Answer, outcome_of, room_of}
use Rattle.calendar.specs.Years.{year_at}
use Rattle.texts.specs.declared.values.Value.{Value}
use Rattle.types.specs.AnyTypes.{fraction_digits, name_of}
use Rattle.types.specs.Rows.{same_rows}
use Rattle.types.specs.Types as Points
use Rattle.types.specs.Types.{type_number}
use Rattle.types.specs.declared.types.AnyType.{AnyType}
use Rattle.types.specs.declared.types.Limits.{Limits}
use Rattle.types.specs.declared.types.TypeRead.{TypeRead}
use Rattle.types.specs.declared.types.«Type».{«Type» as Ty}
use Rattle.type_texts.specs.TypeTexts.{type_of}
use Rattle.held_values.specs.Admission.{admission_number, admitted, judged, judgement_number}
use Rattle.fields.specs.Bits.{octets_of}
use Rattle.fields.specs.Fields.{bit_count, layout}
use Rattle.rows.specs.Fields.{year_row_of, year_row_of_type}
use Rattle.rows.specs.Readings.{read_octets}
use Rattle.octets.specs.Found.{of_found}
use Rattle.unpacking.specs.Unpacked.{value_number}
use Rattle.kinds.specs.Kinds.{Kind, holds}
use Rattle.durations.specs.Answers.{duration_number}
use Rattle.durations.specs.Readings.{duration_in_octets}
use Rattle.durations.specs.Texts.{made_canonical, read_duration}
use Rattle.any_values.specs.Texts.{AnySpelling, form_of, render, text_of}
use Rattle.any_values.specs.declared.AnyForm.{AnyForm}
use Rattle.any_values.specs.declared.AnyValue.{AnyValue}
use Rattle.per.specs.AnyPer.{fields_of, per}
use Rattle.per.specs.Per as PointsInPer
use Rattle.der_elements.specs.AnyDer.{der}
use Rattle.der_elements.specs.Der as PointsInDer
use Rattle.der_elements.specs.Readings.{read_duration_element}
use Rattle.der_elements.specs.Elements.{contents_of, tag_of}
use Rattle.exchanges.specs.Coding.{answer_of, der_decode, der_encode, per_decode, per_encode}
use Rattle.exchanges.specs.Limits.{limits_given, limits_number, under_limits}
use Rattle.exchanges.specs.declared.entries.Entry.{Entry}
use Rattle.exchanges.specs.declared.limits.GivenLimits.{GivenLimits}

-- ---- what is said of a call

-- An entry point's contract says that it returns `outcome_of answer room` and leaves `room_of answer room` in the room that was lent, where
-- `answer` is per_encode, per_decode, der_encode or der_decode of its arguments. So a call is its answer and its room.

-- "Success is 0: result at the front of the room, the rest of it unchanged, its length, and the bit count"
pub record Returned (answer : Answer) (room result : List ℕ) (bits : ℕ) : Type 0 where
  pub number_is : (outcome_of answer room).number ≡ 0
  pub length-is : (outcome_of answer room).length.count ≡ length result
  pub bits_are : (outcome_of answer room).bits.count ≡ bits
  pub front : take (length result) (room_of answer room) ≡ result
  pub rest : drop (length result) (room_of answer room) ≡ drop (length result) room

-- "A refusal: number, length 0, bit count 0, room untouched."
pub record Refused (answer : Answer) (room : List ℕ) (number : ℕ) : Type 0 where
  pub number_is : (outcome_of answer room).number ≡ number
  pub length-is : (outcome_of answer room).length.count ≡ 0
  pub bits_are : (outcome_of answer room).bits.count ≡ 0
  pub untouched : room_of answer room ≡ room

-- What a writer sent: its room after the call, cut at the length that it reported.
abbrev pub sent : Answer → List ℕ → List ℕ
sent answer room = take (outcome_of answer room).length.count (room_of answer room)

-- What an entry point answers from C, with the limits of the header's struct.
abbrev pub answer_in_c : Entry → List ℕ → GivenLimits → List ℕ → Answer
answer_in_c e settings limits input = under_limits (limits_given limits) λ l. answer_of e settings l input

-- ---- demand 1

-- An entry point "comes back with a result or with one of seven numbered refusals. A refusal returns its number with length 0, and the lent
-- room then holds the octets it held before."
pub data ComesBack (answer : Answer) (room : List ℕ) : Type 0 where
  a_result : (result : List ℕ) (bits : ℕ) → length result ≤ length room → Returned answer room result bits → ComesBack answer room
  a_refusal : (number : ℕ) → 1 ≤ number → number ≤ 7 → Refused answer room number → ComesBack answer room

-- "Every entry point takes any type settings, any text, any octets and any lent room, and comes back ..": this is said of a call from Rattle.
abbrev pub Demand1 : Type 0
Demand1 = (e : Entry) (settings : List ℕ) (limits : Limits) (input room : List ℕ) → ComesBack (answer_of e settings limits input) room

-- "Every entry point takes any type settings, any text, any octets and any lent room, and comes back ..": this is said of a call from C.
abbrev pub Demand1InC : Type 0
Demand1InC = (e : Entry) (settings : List ℕ) (limits : GivenLimits) (input room : List ℕ) → ComesBack (answer_in_c e settings limits input) room

-- The limits of the header's struct: "a lowest and a highest year" where `years` is not 0, "no hour 24" where `no24` is not 0.
pub record LimitsStand (given : GivenLimits) (l : Limits) : Type 0 where
  pub every-year : given.years ≡ 0 → l.window ≡ None
  pub window_is : given.years ≢ 0 → l.window ≡ Some ((year_at given.lowest), (year_at given.highest))
  pub hour_24 : given.no24 ≡ 0 → l.hour24 ≡ true
  pub no_hour_24 : given.no24 ≢ 0 → l.hour24 ≡ false

-- What an entry point answers from C: what it answers from Rattle under the limits that C gives, so that all that is claimed is of both; or 1
-- where there is a count, which has no place.
pub record FromC (given : GivenLimits) : Type 0 where
  pub limits_are : given.counts ≡ 0
      → (l : Limits) × LimitsStand given l × ((e : Entry) (settings input : List ℕ) → answer_in_c e settings given input ≡ answer_of e settings l input)
  pub no_count : given.counts ≢ 0 → (e : Entry) (settings input room : List ℕ) → Refused (answer_in_c e settings given input) room 1

abbrev pub LimitsFromC : Type 0
LimitsFromC = (given : GivenLimits) → FromC given

-- ---- demand 2

-- Of any kind of value with the texts `render` in spellings S: for a writer and a reader under the type t, and the octets and the bit count that
-- the standard has for a value.
pub record Demand2 {T F R A : Type 0} (K : Kind T F R A) {S : Type 0} (render : S → A → List ℕ) (write read : List ℕ → Answer) (t : T)
    (octets : A → List ℕ) (bits : A → ℕ) : Type 0 where
  -- "the text of a value becomes exactly the unaligned PER bits of X.691 Amendment 2, or the DER octets of X.690 Amendment 2": in any spelling,
  -- in any room that suffices.
  pub writes : (v : A) → holds K t v ≡ true → (s : S) (room : List ℕ) → length (octets v) ≤ length room
      → Returned (write (render s v)) room (octets v) (bits v)
  -- Where the room is shorter than the octets, the number is 7.
  pub no_room : (v : A) → holds K t v ≡ true → (s : S) (room : List ℕ) → length room < length (octets v) → Refused (write (render s v)) room 7
  -- nothing else is a text of the type
  pub texts_only : (text room : List ℕ) → (outcome_of (write text) room).number ≡ 0 → (v : A) × (holds K t v ≡ true) × (s : S) × (text ≡ render s v)
  -- "and either one comes back as the value's canonical text": in any room that suffices, with the same bit count.
  pub reads : (v : A) → holds K t v ≡ true → (room : List ℕ) → length (K.text_of v) ≤ length room → Returned (read (octets v)) room (K.text_of v) (bits v)
  -- Where the room is shorter than the text, the number is 7.
  pub no_room_back : (v : A) → holds K t v ≡ true → (room : List ℕ) → length room < length (K.text_of v) → Refused (read (octets v)) room 7
  -- "The decoder takes what the encoder writes for that type and nothing more."
  pub nothing-more : (input room : List ℕ) → (outcome_of (read input) room).number ≡ 0
      → (v : A) × (holds K t v ≡ true) × (input ≡ octets v) × Returned (read input) room (K.text_of v) (bits v)
  -- "Two values of one type never share an encoding."
  pub never_shared : (a b : A) → holds K t a ≡ true → holds K t b ≡ true → octets a ≡ octets b → a ≡ b

-- "For each type in document 01": in PER the octets are those of the layout of the value's fields, and the bit count is the plain sum of their widths.
abbrev pub Demand2InPer : Type 0
Demand2InPer = (settings : List ℕ) (limits : Limits) (t : AnyType) → type_of limits settings ≡ TypeRead.«Type» t
    → Demand2 per render (per_encode settings limits) (per_decode settings limits) t
    (λ v. octets_of (layout (fields_of (year_row_of_type t) v))) (λ v. bit_count (fields_of (year_row_of_type t) v))

-- In DER they are the tag, the length and the contents, and the bit count is 0.
abbrev pub Demand2InDer : Type 0
Demand2InDer = (settings : List ℕ) (limits : Limits) (t : AnyType) → type_of limits settings ≡ TypeRead.«Type» t
    → Demand2 der render (der_encode settings limits) (der_decode settings limits) t
    (λ v. tag_of (name_of t) ++ length (contents_of (name_of t) (text_of v)) ∷ contents_of (name_of t) (text_of v)) (λ v. 0)

-- ---- demand 3

-- "The reader is handed the octets that the writer got for it, no more and no fewer": for a writer's answer and room, a reader with the type r, and
-- the writer's value v, of any kind.
pub record Demand3 {T F R A : Type 0} (K : Kind T F R A) (written : Answer) (lent : List ℕ) (read : List ℕ → Answer) (r : T) (v : A) : Type 0 where
  -- "Then the reader returns precisely the writer's value, as its canonical text with the writer's bit count, exactly when its own type holds that
  -- value": where it "has room for the value's text".
  pub returns : holds K r v ≡ true → (room : List ℕ) → length (K.text_of v) ≤ length room
      → Returned (read (sent written lent)) room (K.text_of v) (outcome_of written lent).bits.count
  -- Where the room is shorter than the text, the number is 7.
  pub no_room : holds K r v ≡ true → (room : List ℕ) → length room < length (K.text_of v) → Refused (read (sent written lent)) room 7
  -- "Otherwise it refuses, with the number that document 01 gives", whatever the room: 5 where the value's canonical text is of the form of the
  -- reader's type.
  pub refuses_5 : holds K r v ≡ false → (a : A) → K.read_text (K.form r) (K.text_of v) ≡ Some a → (room : List ℕ) → Refused (read (sent written lent)) room 5
  -- Where the value's canonical text isn't of the form of the reader's type, the number is 3, whatever the room.
  pub refuses_3 : K.read_text (K.form r) (K.text_of v) ≡ None → (room : List ℕ) → Refused (read (sent written lent)) room 3

-- "Take any two types, one for a writer and one for a reader, whatever years and limits each sets, and any value that the writer's type holds.": in
-- any spelling, in any room that was enough. "In PER, let both types select the same rows of the standard's Table 2, for the date and for the time,
-- and the same number of fraction digits." The text is then always of the form of the reader's type.
abbrev pub Demand3InPer : Type 0
Demand3InPer = (settings₁ : List ℕ) (limits₁ : Limits) (w : AnyType) → type_of limits₁ settings₁ ≡ TypeRead.«Type» w
    → (settings₂ : List ℕ) (limits₂ : Limits) (r : AnyType) → type_of limits₂ settings₂ ≡ TypeRead.«Type» r
    → (v : AnyValue) → holds per w v ≡ true → (s : AnySpelling) (room : List ℕ) → (outcome_of (per_encode settings₁ limits₁ (render s v)) room).number ≡ 0
    → same_rows w r ≡ true → fraction_digits w ≡ fraction_digits r
    → (per.read_text (form_of r) (text_of v) ≡ Some v) × Demand3 per (per_encode settings₁ limits₁ (render s v)) room (per_decode settings₂ limits₂) r v

-- "In DER the same is true of any two types with one tag."
abbrev pub Demand3InDer : Type 0
Demand3InDer = (settings₁ : List ℕ) (limits₁ : Limits) (w : AnyType) → type_of limits₁ settings₁ ≡ TypeRead.«Type» w
    → (settings₂ : List ℕ) (limits₂ : Limits) (r : AnyType) → type_of limits₂ settings₂ ≡ TypeRead.«Type» r
    → (v : AnyValue) → holds der w v ≡ true → (s : AnySpelling) (room : List ℕ) → (outcome_of (der_encode settings₁ limits₁ (render s v)) room).number ≡ 0
    → tag_of (name_of w) ≡ tag_of (name_of r) → Demand3 der (der_encode settings₁ limits₁ (render s v)) room (der_decode settings₂ limits₂) r v

-- ---- the seven numbers

pub data Direction : Type 0 where
  encodes : Direction
  decodes : Direction

-- The value that a text, or that octets give under a type, whether it exists or not; nothing where they are "not of the type's form".
abbrev pub read_as : {T F R A : Type 0} → Kind T F R A → Direction → T → List ℕ → Option A
read_as K encodes t text = K.read_text (K.form t) text
read_as K decodes t octets = K.read_octets (K.row t) (K.form t) octets

-- "the result": what the encoder writes, or the canonical text.
abbrev pub result_as : {T F R A : Type 0} → Kind T F R A → Direction → T → A → List ℕ
result_as K encodes t v = K.encoding (K.row t) v
result_as K decodes t v = K.text_of v

-- That settings, limits and an input give a type and a value.
pub record Gives {F R A : Type 0} (K : Kind AnyType F R A) (d : Direction) (settings : List ℕ) (limits : Limits) (input : List ℕ) (t : AnyType)
    (v : A) : Type 0 where
  pub type_is : type_of limits settings ≡ TypeRead.«Type» t
  pub value-is : read_as K d t input ≡ Some v

-- What each number is "given when", whatever else holds, in any kind of value; 0 is success.
pub data Cause {F R A : Type 0} (K : Kind AnyType F R A) (d : Direction) (settings : List ℕ) (limits : Limits) (input room : List ℕ) : ℕ → Type 0 where
  -- "settings unreadable, unknown, missing, repeated or not in the base; a restriction where it has no place"
  one : type_of limits settings ≡ TypeRead.Unreadable → Cause K d settings limits input room 1
  -- "two lists that don't make one row"
  two : type_of limits settings ≡ TypeRead.NoRow → Cause K d settings limits input room 2
  -- "the text or the DER contents are not of the type's form; tag wrong; .. a fraction negative or of more than n digits"
  three : (t : AnyType) → type_of limits settings ≡ TypeRead.«Type» t → read_as K d t input ≡ None → Cause K d settings limits input room 3
  -- "no such date, time or difference"
  four : (t : AnyType) (v : A) → Gives K d settings limits input t v → K.exists v ≡ false → Cause K d settings limits input room 4
  -- "not in the type: a year of no Year setting that the type names, year window, hour 24"
  five : (t : AnyType) (v : A) → Gives K d settings limits input t v → K.in_type t v ≡ false → Cause K d settings limits input room 5
  -- "decoding only: not what the encoder writes"
  six : (t : AnyType) (v : A) → Gives K d settings limits input t v → d ≡ decodes → input ≢ K.encoding (K.row t) v → Cause K d settings limits input room 6
  -- "the lent room is shorter than the result"
  seven : (t : AnyType) (v : A) → Gives K d settings limits input t v → length room < length (result_as K d t v) → Cause K d settings limits input room 7
  -- a value that the type holds, from what the encoder writes where it is octets, and room for the result
  zero : (t : AnyType) (v : A) → Gives K d settings limits input t v → holds K t v ≡ true → (d ≡ decodes → input ≡ K.encoding (K.row t) v)
      → length (result_as K d t v) ≤ length room → Cause K d settings limits input room 0

-- That a number is given exactly where its cause holds, and none of a lower number.
pub record Given (Why : ℕ → Type 0) (number : ℕ) : Type 0 where
  pub caused : Why number
  pub lowest : (m : ℕ) → 1 ≤ m → m < number → Why m → ⊥
  -- after success no cause holds
  pub none_after_0 : number ≡ 0 → (m : ℕ) → 1 ≤ m → Why m → ⊥
  pub exactly : (n : ℕ) → Why n → ((m : ℕ) → 1 ≤ m → m < n → Why m → ⊥) → number ≡ n

abbrev pub CauseAt : Entry → List ℕ → Limits → List ℕ → List ℕ → ℕ → Type 0
CauseAt Entry.PerEncode settings limits input room n = Cause per encodes settings limits input room n
CauseAt Entry.PerDecode settings limits input room n = Cause per decodes settings limits input room n
CauseAt Entry.DerEncode settings limits input room n = Cause der encodes settings limits input room n
CauseAt Entry.DerDecode settings limits input room n = Cause der decodes settings limits input room n

-- "Each is given exactly then. When several hold, the lowest number is given."
abbrev pub SevenNumbers : Type 0
SevenNumbers = (e : Entry) (settings : List ℕ) (limits : Limits) (input room : List ℕ)
    → Given (λ n. CauseAt e settings limits input room n) (outcome_of (answer_of e settings limits input) room).number

-- ---- the answers that are enums

-- "For each answer that is an enum, a definition gives this paper's number and values for each of the enum's cases, and the promises use that
-- definition": where the number of what a type's text gives is not 0, it is the entry point's.
abbrev pub TypesTold : Type 0
TypesTold = (e : Entry) (settings : List ℕ) (limits : Limits) (input room : List ℕ) → type_number (type_of limits settings) ≢ 0
    → (outcome_of (answer_of e settings limits input) room).number ≡ type_number (type_of limits settings)

-- Where the number of what a text gives under a point's type is not 0, it is the encoder's, in PER and in DER.
abbrev pub TextsTold : Type 0
TextsTold = (settings : List ℕ) (limits : Limits) (t : Ty) → type_of limits settings ≡ TypeRead.«Type» (AnyType.Point t) → (text room : List ℕ)
    → admission_number (admitted t text) ≢ 0
    → ((outcome_of (per_encode settings limits text) room).number ≡ admission_number (admitted t text))
    × ((outcome_of (der_encode settings limits text) room).number ≡ admission_number (admitted t text))

-- Where the number of what is read from bits under a point's type is not 0, it is the decoder's.
abbrev pub BitsTold : Type 0
BitsTold = (settings : List ℕ) (limits : Limits) (t : Ty) → type_of limits settings ≡ TypeRead.«Type» (AnyType.Point t) → (octets room : List ℕ)
    → value_number (of_found (read_octets (year_row_of t) (Points.form_of t) octets)) ≢ 0
    → (outcome_of (per_decode settings limits octets) room).number ≡ value_number (of_found (read_octets (year_row_of t) (Points.form_of t) octets))

-- Where the number of what is judged of a point that octets give is not 0, it is the decoder's, in PER and in DER.
abbrev pub ValuesTold : Type 0
ValuesTold = (settings : List ℕ) (limits : Limits) (t : Ty) → type_of limits settings ≡ TypeRead.«Type» (AnyType.Point t) → (octets room : List ℕ) (v : Value)
    → judgement_number (judged t v) ≢ 0
    → (read_as per decodes (AnyType.Point t) octets ≡ Some (AnyValue.Point v)
    → (outcome_of (per_decode settings limits octets) room).number ≡ judgement_number (judged t v))
    × (read_as der decodes (AnyType.Point t) octets ≡ Some (AnyValue.Point v)
    → (outcome_of (der_decode settings limits octets) room).number ≡ judgement_number (judged t v))

-- Where the number of what is read as a duration, from a text, from bits or from an element, is not 0, it is the entry point's.
abbrev pub DurationsTold : Type 0
DurationsTold = (settings : List ℕ) (limits : Limits) (t : AnyType) → type_of limits settings ≡ TypeRead.«Type» t → form_of t ≡ AnyForm.Duration
    → (input room : List ℕ)
    → (duration_number (read_duration input) ≢ 0
    → ((outcome_of (per_encode settings limits input) room).number ≡ duration_number (read_duration input))
    × ((outcome_of (der_encode settings limits input) room).number ≡ duration_number (read_duration input)))
    × (duration_number (duration_in_octets input) ≢ 0
    → (outcome_of (per_decode settings limits input) room).number ≡ duration_number (duration_in_octets input))
    × (duration_number (read_duration_element (name_of t) input) ≢ 0
    → (outcome_of (der_decode settings limits input) room).number ≡ duration_number (read_duration_element (name_of t) input))

-- The number of limits that C gives is 0; where a count is among them, which has no place, it is 1, and so is the entry point's.
abbrev pub LimitsTold : Type 0
LimitsTold = (e : Entry) (settings : List ℕ) (given : GivenLimits) (input room : List ℕ)
    → (given.counts ≡ 0 → limits_number (limits_given given) ≡ 0)
    × (given.counts ≢ 0 → (limits_number (limits_given given) ≡ 1)
    × ((outcome_of (answer_in_c e settings given input) room).number ≡ limits_number (limits_given given)))

-- ---- durations (#101)

-- "Show that making canonical twice changes nothing more."
abbrev pub CanonicalTwice : Type 0
CanonicalTwice = (text once : List ℕ) → made_canonical text ≡ Some once → made_canonical once ≡ Some once

-- What the entry points answer under a point's type, they answer as before: what the kinds of points say, which do not know durations.
abbrev pub PointsAsBefore : Type 0
PointsAsBefore = (settings : List ℕ) (limits : Limits) (t : Ty) → type_of limits settings ≡ TypeRead.«Type» (AnyType.Point t) → (input : List ℕ)
    → (per_encode settings limits input ≡ PointsInPer.per_encoded t input)
    × (per_decode settings limits input ≡ PointsInPer.per_decoded t input)
    × (der_encode settings limits input ≡ PointsInDer.der_encoded t input)
    × (der_decode settings limits input ≡ PointsInDer.der_decoded t input)
