use native.Mathlib.Omega.{arith}
use Rattle.octets.proofs.Laws.Stores.{put_none, put_octet, put_then}
use Rattle.durations.specs.Texts.{put_number, put_part}
use Rattle.printing.proofs.duration.put_last.Goals as goal

pub returns : goal.returns
unfolding put_number put_part
returns c = let after = put_then c.put_fraction-q.ensures.stored_text (put_octet (put_none _ _)) in record {
  stored_text = rw (← c.number_digits-width.ensures.value) (put_then c.put_digits-p.ensures.stored_text after);
  upper_bound = omega arith;
}
