-- Unaligned PER of points and durations meets what is asked of a kind.
use Rattle.std.specs.Prelude.{Option, Some, None}
use mathlib.Core.Path.{◌≡◌, refl, ap, sym, ◌∙◌}
use mathlib.Core.Bool.{Bool, true, cond, false≢true}
use mathlib.Core.List.{List}
use Prim.Native.Nat.{ℕ, ◌≤◌}
use native.Mathlib.Omega.{arith}
use lib.ListN.{length}
use Rattle.octets.specs.Octets.{eq_list}
use Rattle.answers.specs.Counts.{octets_for}
use Rattle.answers.specs.Outcomes.{Answer, done, refused}
use Rattle.answers.specs.declared.counts.Bits.{Bits}
use Rattle.answers.specs.declared.refusals.Refusal.{Refusal}
use Rattle.types.specs.AnyTypes.{duration_type, fraction_digits}
use Rattle.types.specs.Rows.{same_rows}
use Rattle.types.specs.declared.types.AnyType.{AnyType}
use Rattle.types.specs.declared.types.«Type».{«Type» as Ty}
use Rattle.types.proofs.Laws.Durations.{OfDurations, as_listed, duration-type, named}
use Rattle.types.proofs.Laws.Rows.{SameTypes, durations, points, types_same}
use Rattle.fields.specs.Fields.{layout}
use Rattle.fields.proofs.Laws.Bits.{length_octets}
use Rattle.fields.proofs.Laws.Fields.{length-layout}
use Rattle.rows.specs.Fields.{year_row_of_type}
use Rattle.types.specs.declared.years.YearRow.{YearRow}
use Rattle.rows.proofs.Laws.SameRows as Rows
use Rattle.rows.proofs.Laws.Widths.{most_bits}
use Rattle.durations.specs.Durations.{exists_duration}
use Rattle.durations.specs.Readings.{duration_in_octets}
use Rattle.durations.specs.Texts.{duration_text, read_duration}
use Rattle.durations.specs.declared.Duration.{Duration}
use Rattle.durations.proofs.Laws.Octets.{octets_back, octets_exist}
use Rattle.durations.proofs.Laws.Values.{read_only}
use Rattle.durations.proofs.Laws.Widths.{existing_most}
use Rattle.kinds.specs.Coding.{compared, decoded, encoded, judged_as, judged_octets, judged_text}
use Rattle.kinds.specs.Lawful.{Holds, Lawful}
use Rattle.kinds.proofs.Laws.Coding as Coding
use Rattle.packing.specs.Durations.{packed_duration}
use Rattle.packing.proofs.Laws.Durations.{duration-count, duration-front, duration-short as buffer_most}
use Rattle.any_values.specs.Texts.{as_duration, as_point, canonical, form_of}
use Rattle.any_values.specs.declared.AnyForm.{AnyForm}
use Rattle.any_values.specs.declared.AnyValue.{AnyValue}
use Rattle.any_values.proofs.Laws.Encodings.{decoded-short, text-read}
use Rattle.any_values.proofs.Laws.Points.{Extends, point-decoded, point-encoded}
use Rattle.per.specs.AnyPer.{count_of, encoding_of, fields_of, in_per, per, per_decoded, per_encoded, read_octets}
use Rattle.per.specs.Packed.{front_of}
use Rattle.per.specs.Per as Points
use Rattle.per.proofs.Laws.Per as PointLaws

-- ---- points

-- A point is encoded and read as unaligned PER of points has it.
points_in : Extends in_per Points.in_per
unfolding encoding_of count_of Points.encoding_of Points.count_of
points_in = record { row_is = λ t. refl; encoding-is = λ row v. refl; count-is = λ row v. refl; octets_are = λ row f octets. refl }

-- Under a point's type everything answers exactly as before.
pub point-encodes : (t : Ty) (text : List ℕ) → per_encoded (AnyType.Point t) text ≡ Points.per_encoded t text
point-encodes t text = point-encoded in_per Points.in_per points_in t text

pub point-decodes : (t : Ty) (octets : List ℕ) → per_decoded (AnyType.Point t) octets ≡ Points.per_decoded t octets
point-decodes t octets = point-decoded in_per Points.in_per points_in t octets

-- ---- a lawful kind

octets_read : (t : AnyType) (v : AnyValue) → Holds per t v → read_octets (year_row_of_type t) (form_of t) (encoding_of (year_row_of_type t) v) ≡ Some v
unfolding encoding_of Points.encoding_of
octets_read (AnyType.Point t) (AnyValue.Point v) h =
    ap as_point ((PointLaws.per_lawful).octets_own t v (record { formed = h.formed; real = h.real; inside = h.inside }))
octets_read (AnyType.Point t) (AnyValue.Duration d) h = absurd (false≢true h.inside)
octets_read AnyType.Duration (AnyValue.Point v) h = absurd (false≢true h.inside)
octets_read AnyType.Duration (AnyValue.Duration d) h = ap as_duration (octets_back d h.real)
octets_read AnyType.ListedDuration (AnyValue.Point v) h = absurd (false≢true h.inside)
octets_read AnyType.ListedDuration (AnyValue.Duration d) h = ap as_duration (octets_back d h.real)

pub per_lawful : Lawful per
per_lawful = record { text_own = λ t v h. text-read in_per t v h canonical; octets_own = octets_read }

-- ---- rows

types_form : (a b : AnyType) → SameTypes a b → fraction_digits a ≡ fraction_digits b → form_of a ≡ form_of b
types_form a b (points {a = x} {b = y} s) n = ap AnyForm.Point (Rows.same-form x y s n)
types_form a b (durations x y) n = duration-form a x ∙ sym (duration-form b y)
  where
    duration-form : (t : AnyType) → OfDurations t → form_of t ≡ AnyForm.Duration
    duration-form t named = refl
    duration-form t as_listed = refl

-- Types that select the same rows, with the same number of fraction digits, have one form.
pub same-form : (a b : AnyType) → same_rows a b ≡ true → fraction_digits a ≡ fraction_digits b → form_of a ≡ form_of b
same-form a b e n = types_form a b (types_same a b e) n

-- ---- how long results are

length-encoding : (row : YearRow) (v : AnyValue) → length (encoding_of row v) ≡ (octets_for (count_of row v)).count
unfolding encoding_of count_of
length-encoding row v = length_octets (layout (fields_of row v)) ∙ ap (λ (n : ℕ). (octets_for (record { count = n })).count) (length-layout (fields_of row v))

-- A duration takes at most 39 octets.
pub duration-short : (row : YearRow) (d : Duration) → exists_duration d ≡ true → length (encoding_of row (AnyValue.Duration d)) ≤ 39
unfolding octets_for count_of
duration-short row d e = let l = existing_most d e in rw (length-encoding row (AnyValue.Duration d)) (omega arith)

value-short : (t : AnyType) (v : AnyValue) → Holds per t v → length (encoding_of (year_row_of_type t) v) ≤ 39
unfolding octets_for count_of
value-short t (AnyValue.Point v) h = let l = most_bits (year_row_of_type t) v in rw (length-encoding (year_row_of_type t) (AnyValue.Point v)) (omega arith)
value-short t (AnyValue.Duration d) h = duration-short (year_row_of_type t) d h.real

pub per-encoded-short : (t : AnyType) (text result : List ℕ) (bits : Bits) → per_encoded t text ≡ done result bits → length result ≤ 39
per-encoded-short t text result bits e =
    let x = Coding.encoded_only per t text result bits e in
    let q : encoding_of (year_row_of_type t) x.0 ≡ result = let r = x.3 in cc in
    rw (← q) (value-short t x.0 x.1)

pub per-decoded-short : (t : AnyType) (octets result : List ℕ) (bits : Bits) → per_decoded t octets ≡ done result bits → length result ≤ 72
per-decoded-short = decoded-short in_per

-- ---- durations, as the code has it

-- What encoding the text of a duration answers, by what is read.
abbrev pub encoded_duration : Option Duration → Answer
encoded_duration (Some d) = done (encoding_of YearRow.Year (AnyValue.Duration d)) (count_of YearRow.Year (AnyValue.Duration d))
encoded_duration None = refused Refusal.Form

-- What decoding the octets of a duration answers, by what is read.
abbrev pub decoded_duration : List ℕ → Option Duration → Answer
decoded_duration octets (Some d) =
    cond (eq_list octets (encoding_of YearRow.Year (AnyValue.Duration d))) (done (duration_text d) (count_of YearRow.Year (AnyValue.Duration d)))
    (refused Refusal.Encoding)
decoded_duration octets None = refused Refusal.Form

-- Of a duration that is read there is no refusal 4 and none 5.
pub duration-encodes : (t : AnyType) → OfDurations t → (text : List ℕ) → per_encoded t text ≡ encoded_duration (read_duration text)
unfolding encoded judged_text judged_as
duration-encodes t named text = go (read_duration text) refl
  where
    go : (o : Option Duration) → read_duration text ≡ o → judged_text per AnyType.Duration (as_duration o) ≡ encoded_duration o
    go None r = refl
    go (Some d) r = rw (read_only text d r).exists
duration-encodes t as_listed text = go (read_duration text) refl
  where
    go : (o : Option Duration) → read_duration text ≡ o → judged_text per AnyType.ListedDuration (as_duration o) ≡ encoded_duration o
    go None r = refl
    go (Some d) r = rw (read_only text d r).exists

pub duration-decodes : (t : AnyType) → OfDurations t → (octets : List ℕ) → per_decoded t octets ≡ decoded_duration octets (duration_in_octets octets)
unfolding decoded judged_octets judged_as compared
duration-decodes t named octets = go (duration_in_octets octets) refl
  where
    go : (o : Option Duration) → duration_in_octets octets ≡ o → judged_octets per AnyType.Duration octets (as_duration o) ≡ decoded_duration octets o
    go None r = refl
    go (Some d) r = rw (octets_exist octets d r)
duration-decodes t as_listed octets = go (duration_in_octets octets) refl
  where
    go : (o : Option Duration) → duration_in_octets octets ≡ o → judged_octets per AnyType.ListedDuration octets (as_duration o) ≡ decoded_duration octets o
    go None r = refl
    go (Some d) r = rw (octets_exist octets d r)

-- The list of durations is encoded and decoded as DURATION is.
pub either_encodes : (listed : Bool) (text : List ℕ) → per_encoded (duration_type listed) text ≡ per_encoded AnyType.Duration text
either_encodes listed text = duration-encodes (duration_type listed) (duration-type listed) text ∙ sym (duration-encodes AnyType.Duration named text)

pub either_decodes : (listed : Bool) (octets : List ℕ) → per_decoded (duration_type listed) octets ≡ per_decoded AnyType.Duration octets
either_decodes listed octets = duration-decodes (duration_type listed) (duration-type listed) octets ∙ sym (duration-decodes AnyType.Duration named octets)

-- ---- the octets of a duration in the buffer of `packing`

module _ (d : Duration) where
  -- The bit count of a packed duration is that of its encoding.
  pub duration-bits : (packed_duration d).bits ≡ count_of YearRow.Year (AnyValue.Duration d)
  unfolding count_of
  duration-bits = duration-count d refl

  -- The octets that carry its bits lie in the buffer.
  pub duration_carried : (octets_for (packed_duration d).bits).count ≤ 48
  duration_carried = buffer_most d refl refl

  -- The octets that carry its bits are its encoding.
  pub duration_octets : front_of (packed_duration d) ≡ encoding_of YearRow.Year (AnyValue.Duration d)
  unfolding encoding_of
  duration_octets = duration-front d refl refl

-- What encoding and decoding a duration answer.
pub encodes : (text : List ℕ) → per_encoded AnyType.Duration text ≡ encoded_duration (read_duration text)
encodes = duration-encodes AnyType.Duration named

pub decodes : (octets : List ℕ) → per_decoded AnyType.Duration octets ≡ decoded_duration octets (duration_in_octets octets)
decodes = duration-decodes AnyType.Duration named

-- What encoding and decoding answer, for the goals of the code.
pub ruleset coding = (encodes, decodes, octets_exist, duration-bits, duration_carried, duration_octets)
