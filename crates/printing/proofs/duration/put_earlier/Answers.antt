use native.Mathlib.Omega.{arith}
use Rattle.octets.proofs.Laws.Stores.{put_none, put_octet, put_then}
use Rattle.durations.specs.Texts.{put_number}
use Rattle.printing.proofs.Laws.Durations.{earlier_none, earlier_there}
use Rattle.printing.proofs.duration.put_earlier.Goals as goal

pub returns-then-number-eq0 : goal.returns-then-number-eq0
returns-then-number-eq0 c = record {
  stored_text = rw (earlier_none _ _ c.if-number-eq0.true) (put_none _ _);
  upper_bound = omega arith;
}

pub returns : goal.returns
unfolding put_number
returns c = let text = put_then c.put_digits-p.ensures.stored_text (put_octet (put_none _ _)) in record {
  stored_text = rw (earlier_there _ _ c.if-number-eq0.false, ← c.number_digits-width.ensures.value) text;
  upper_bound = omega arith;
}
