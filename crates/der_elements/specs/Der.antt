-- DER of dates and times as a kind of value with an encoding. A type's tag goes by its name.
use Rattle.std.specs.Prelude.{ℕ, List}
use Rattle.answers.specs.Outcomes.{Answer}
use Rattle.answers.specs.declared.counts.Bits.{Bits}
use Rattle.texts.specs.declared.forms.Form.{Form}
use Rattle.texts.specs.declared.values.Value.{Value}
use Rattle.types.specs.Types.{name_of}
use Rattle.types.specs.declared.types.Name.{Name}
use Rattle.types.specs.declared.types.«Type».{«Type» as Ty}
use Rattle.kinds.specs.Kinds.{Encoding, Kind}
use Rattle.kinds.specs.Coding.{encoded, decoded}
use Rattle.held_values.specs.Encodings.{encoded_by}
use Rattle.der_elements.specs.Elements.{element_of}
use Rattle.der_elements.specs.Readings.{read_element}

-- "the bit count: .. in DER 0"
abbrev pub no_bits : Bits
no_bits = record { count = 0 }

-- DER goes by a type's name.
abbrev pub in_der : Encoding Ty Form Name Value
in_der = record { row = name_of; encoding = element_of; count = λ name v. no_bits; read_octets = read_element }

-- Dates and times are a kind of value in it.
abbrev pub der : Kind Ty Form Name Value
der = encoded_by in_der

-- What encoding a text answers.
abbrev pub der_encoded : Ty → List ℕ → Answer
der_encoded t text = encoded der t text

-- What decoding octets answers.
abbrev pub der_decoded : Ty → List ℕ → Answer
der_decoded t octets = decoded der t octets
