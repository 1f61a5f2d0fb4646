use native.Mathlib.Omega.{arith}
use lib.ListN.{length-set}
use Rattle.octets.proofs.Laws.Stores.{put_octet}
use Rattle.printing.proofs.parts.put_week.Goals as goal

pub put_field-requires : goal.put_field-requires
put_field-requires c = simp length-set (omega arith)

pub returns : goal.returns
returns c = record {
  stored_text = put_octet c.put_field.ensures.stored_text;
  value = omega arith;
}
