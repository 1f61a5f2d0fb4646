use native.Mathlib.Omega.{arith}
use lib.ListN.{length-set}
use Rattle.octets.proofs.Laws.Stores.{put_octet}
use Rattle.printing.proofs.parts.put_field.Goals as goal

pub put_digits-requires : goal.put_digits-requires
put_digits-requires c = simp length-set (omega arith)

pub returns : goal.returns
returns c = record {
  stored_text = put_octet c.put_digits.ensures.stored_text;
  value = omega arith;
}
