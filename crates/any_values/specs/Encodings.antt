-- Points and durations as a kind of value, whatever their encoding.
use Rattle.types.specs.AnyTypes.{well_formed}
use Rattle.types.specs.declared.types.AnyType.{AnyType}
use Rattle.kinds.specs.Kinds.{Encoding, Kind}
use Rattle.any_values.specs.Holding.{exists_value, in_type}
use Rattle.any_values.specs.Texts.{form_of, read_text, text_of}
use Rattle.any_values.specs.declared.AnyForm.{AnyForm}
use Rattle.any_values.specs.declared.AnyValue.{AnyValue}

-- Points and durations in an encoding.
abbrev pub encoded_by : {R : Type 0} → Encoding AnyType AnyForm R AnyValue → Kind AnyType AnyForm R AnyValue
encoded_by E = record {
  well_formed = well_formed;
  form = form_of;
  row = E.row;
  exists = exists_value;
  in_type = in_type;
  text_of = text_of;
  read_text = read_text;
  encoding = E.encoding;
  count = E.count;
  read_octets = E.read_octets;
}
