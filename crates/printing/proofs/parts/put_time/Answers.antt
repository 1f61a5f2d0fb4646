use native.Mathlib.Omega.{arith}
use Rattle.octets.proofs.Laws.Stores.{put_then}
use Rattle.texts.specs.Times.{put_time}
use Rattle.printing.proofs.parts.put_time.Goals as goal

pub returns : goal.returns
unfolding put_time
returns c = let after = put_then c.put_fraction-q.ensures.stored_text c.put_zone.ensures.stored_text in record {
  stored_text = put_then c.put_clock-p.ensures.stored_text after;
  upper_bound = omega arith;
}
