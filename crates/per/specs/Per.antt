-- Unaligned PER of dates and times as a kind of value with an encoding.
use Rattle.std.specs.Prelude.{ℕ, List}
use Rattle.octets.specs.Found.{of_found}
use Rattle.answers.specs.Outcomes.{Answer}
use Rattle.answers.specs.declared.counts.Bits.{Bits}
use Rattle.texts.specs.declared.forms.Form.{Form}
use Rattle.texts.specs.declared.values.Value.{Value}
use Rattle.types.specs.declared.types.«Type».{«Type» as Ty}
use Rattle.fields.specs.Bits.{octets_of}
use Rattle.fields.specs.Fields.{layout, bit_count}
use Rattle.rows.specs.Fields.{year_row_of, fields_of}
use Rattle.rows.specs.Readings.{read_octets}
use Rattle.types.specs.declared.years.YearRow.{YearRow}
use Rattle.kinds.specs.Kinds.{Encoding, Kind}
use Rattle.kinds.specs.Coding.{encoded, decoded}
use Rattle.held_values.specs.Encodings.{encoded_by}

-- "Bits": the octets of the layout of a value's fields, and the plain sum of their widths.
unfoldable pub encoding_of : YearRow → Value → List ℕ
encoding_of row v = octets_of (layout (fields_of row v))

unfoldable pub count_of : YearRow → Value → Bits
count_of row v = record { count = bit_count (fields_of row v) }

-- Unaligned PER goes by the row of a type's years.
abbrev pub in_per : Encoding Ty Form YearRow Value
in_per = record {
  row = year_row_of;
  encoding = encoding_of;
  count = count_of;
  read_octets = λ row form octets. of_found (read_octets row form octets);
}

-- Dates and times in unaligned PER.
abbrev pub per : Kind Ty Form YearRow Value
per = encoded_by in_per

-- What encoding a text in unaligned PER answers.
abbrev pub per_encoded : Ty → List ℕ → Answer
per_encoded t text = encoded per t text

-- What decoding octets of unaligned PER answers.
abbrev pub per_decoded : Ty → List ℕ → Answer
per_decoded t octets = decoded per t octets
