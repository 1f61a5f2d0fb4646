use native.Mathlib.Omega.{arith}
use Rattle.octets.proofs.Laws.Stores.{put_then}
use Rattle.texts.specs.Times.{put_zone}
use Rattle.printing.proofs.parts.put_difference.Goals as goal

pub returns : goal.returns
unfolding put_zone
returns c = record {
  stored_text = rw (← c.sign.ensures) (put_then c.put_field-p.ensures.stored_text c.put_minutes.ensures.stored_text);
  upper_bound = omega arith;
}
