-- Unaligned PER of points and durations.
use Rattle.std.specs.Prelude.{ℕ, List, Option}
use Rattle.octets.specs.Found.{of_found}
use Rattle.answers.specs.Outcomes.{Answer}
use Rattle.answers.specs.declared.counts.Bits.{Bits}
use Rattle.types.specs.declared.types.AnyType.{AnyType}
use Rattle.fields.specs.Bits.{octets_of}
use Rattle.fields.specs.Fields.{Field, bit_count, layout}
use Rattle.durations.specs.Fields.{duration_fields}
use Rattle.durations.specs.Readings.{duration_in_octets}
use Rattle.rows.specs.Fields as Rows
use Rattle.rows.specs.Fields.{year_row_of_type}
use Rattle.rows.specs.Readings as RowReadings
use Rattle.types.specs.declared.years.YearRow.{YearRow}
use Rattle.kinds.specs.Coding.{decoded, encoded}
use Rattle.kinds.specs.Kinds.{Encoding, Kind}
use Rattle.any_values.specs.Encodings.{encoded_by}
use Rattle.any_values.specs.Texts.{as_duration, as_point}
use Rattle.any_values.specs.declared.AnyForm.{AnyForm}
use Rattle.any_values.specs.declared.AnyValue.{AnyValue}

-- The fields of a value: those of a point, or "PER encodes the canonical value by 28 bis.6.1" (#101).
abbrev pub fields_of : YearRow → AnyValue → List Field
fields_of row (AnyValue.Point v) = Rows.fields_of row v
fields_of row (AnyValue.Duration d) = duration_fields d

-- What octets give at a form, whatever is left after a value's bits.
abbrev pub read_octets : YearRow → AnyForm → List ℕ → Option AnyValue
read_octets row (AnyForm.Point f) octets = as_point (of_found (RowReadings.read_octets row f octets))
read_octets row AnyForm.Duration octets = as_duration (duration_in_octets octets)

-- "Bits": the octets of the layout of a value's fields, and the plain sum of their widths.
unfoldable pub encoding_of : YearRow → AnyValue → List ℕ
encoding_of row v = octets_of (layout (fields_of row v))

unfoldable pub count_of : YearRow → AnyValue → Bits
count_of row v = record { count = bit_count (fields_of row v) }

-- Unaligned PER goes by the row of a type's years.
abbrev pub in_per : Encoding AnyType AnyForm YearRow AnyValue
in_per = record { row = year_row_of_type; encoding = encoding_of; count = count_of; read_octets = read_octets }

-- Points and durations in unaligned PER.
abbrev pub per : Kind AnyType AnyForm YearRow AnyValue
per = encoded_by in_per

-- What encoding a text in unaligned PER answers.
abbrev pub per_encoded : AnyType → List ℕ → Answer
per_encoded t text = encoded per t text

-- What decoding octets of unaligned PER answers.
abbrev pub per_decoded : AnyType → List ℕ → Answer
per_decoded t octets = decoded per t octets
