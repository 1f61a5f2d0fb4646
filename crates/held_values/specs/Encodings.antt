-- Dates and times as a kind of value, whatever their encoding.
use Rattle.std.specs.Prelude.{Option, Some, None}
use Rattle.texts.specs.declared.values.Spelling.{Spelling}
use Rattle.texts.specs.Texts.{read_of, text_of}
use Rattle.texts.specs.declared.forms.Form.{Form}
use Rattle.texts.specs.declared.values.Value.{Value}
use Rattle.types.specs.Types.{form_of, well_formed}
use Rattle.types.specs.declared.types.«Type».{«Type» as Ty}
use Rattle.held_values.specs.Existence.{exists_value}
use Rattle.held_values.specs.Holding.{in_type}
use Rattle.kinds.specs.Kinds.{Encoding, Kind}

-- What a text gives, however it is spelled.
abbrev pub of_text : Option (Value × Spelling) → Option Value
of_text (Some (v, s)) = Some v
of_text None = None

-- Dates and times in an encoding.
abbrev pub encoded_by : {R : Type 0} → Encoding Ty Form R Value → Kind Ty Form R Value
encoded_by E = record {
  well_formed = well_formed;
  form = form_of;
  row = E.row;
  exists = exists_value;
  in_type = in_type;
  text_of = text_of;
  read_text = λ form text. of_text (read_of form text);
  encoding = E.encoding;
  count = E.count;
  read_octets = E.read_octets;
}
