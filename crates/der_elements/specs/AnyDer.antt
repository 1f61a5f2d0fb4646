-- DER of points and durations. A type's tag goes by its name.
use Rattle.std.specs.Prelude.{ℕ, cond, List, Option, Some, None}
use Rattle.octets.specs.Octets.{eq_list}
use Rattle.answers.specs.Outcomes.{Answer, done, refused}
use Rattle.answers.specs.declared.refusals.Refusal.{Refusal}
use Rattle.types.specs.AnyTypes.{name_of}
use Rattle.types.specs.declared.types.AnyType.{AnyType}
use Rattle.types.specs.declared.types.Name.{Name}
use Rattle.durations.specs.Texts.{duration_text}
use Rattle.durations.specs.declared.Duration.{Duration}
use Rattle.kinds.specs.Coding.{decoded, encoded}
use Rattle.kinds.specs.Kinds.{Encoding, Kind}
use Rattle.any_values.specs.Encodings.{encoded_by}
use Rattle.any_values.specs.Texts.{as_duration, as_point, text_of}
use Rattle.any_values.specs.declared.AnyForm.{AnyForm}
use Rattle.any_values.specs.declared.AnyValue.{AnyValue}
use Rattle.der_elements.specs.Der.{no_bits}
use Rattle.der_elements.specs.Elements.{contents_of, element}
use Rattle.der_elements.specs.Readings as Readings
use Rattle.der_elements.specs.Readings.{read_duration_element}

-- The element of a value.
unfoldable pub element_of : Name → AnyValue → List ℕ
element_of name v = element name (contents_of name (text_of v))

-- What an element gives at a form, however it should have been written.
abbrev pub read_element : Name → AnyForm → List ℕ → Option AnyValue
read_element name (AnyForm.Point f) octets = as_point (Readings.read_element name f octets)
read_element name AnyForm.Duration octets = as_duration (read_duration_element name octets)

-- DER goes by a type's name; "the bit count: .. in DER 0".
abbrev pub in_der : Encoding AnyType AnyForm Name AnyValue
in_der = record { row = name_of; encoding = element_of; count = λ name v. no_bits; read_octets = read_element }

-- Points and durations in DER.
abbrev pub der : Kind AnyType AnyForm Name AnyValue
der = encoded_by in_der

-- What encoding a text answers.
abbrev pub der_encoded : AnyType → List ℕ → Answer
der_encoded t text = encoded der t text

-- What decoding octets answers.
abbrev pub der_decoded : AnyType → List ℕ → Answer
der_decoded t octets = decoded der t octets

-- What encoding the text of a duration answers under a name, by what is read.
abbrev pub encoded_duration : Name → Option Duration → Answer
encoded_duration name (Some d) = done (element name (contents_of name (duration_text d))) no_bits
encoded_duration name None = refused Refusal.Form

-- What decoding the octets of a duration answers under a name, by what is read.
abbrev pub decoded_duration : Name → List ℕ → Option Duration → Answer
decoded_duration name octets (Some d) =
    cond (eq_list octets (element name (contents_of name (duration_text d)))) (done (duration_text d) no_bits) (refused Refusal.Encoding)
decoded_duration name octets None = refused Refusal.Form
