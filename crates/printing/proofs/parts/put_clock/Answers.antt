use native.Mathlib.Omega.{arith}
use Rattle.octets.proofs.Laws.Stores.{put_then}
use Rattle.texts.specs.Times.{put_clock}
use Rattle.printing.proofs.parts.put_clock.Goals as goal

pub returns-in-H : goal.returns-in-H
unfolding put_clock
returns-in-H c = record {
  stored_text = rw c.in-H.is c.put_digits.ensures.stored_text;
  upper_bound = omega arith;
}

pub returns-in-HM : goal.returns-in-HM
unfolding put_clock
returns-in-HM c = record {
  stored_text = rw c.in-HM.is (put_then c.put_digits-p.ensures.stored_text c.put_field.ensures.stored_text);
  upper_bound = omega arith;
}

pub returns-in-HMS : goal.returns-in-HMS
unfolding put_clock
returns-in-HMS c = let after = put_then c.put_field-q.ensures.stored_text c.put_field-in-HMS.ensures.stored_text in record {
  stored_text = rw c.in-HMS.is (put_then c.put_digits-p-in-HMS.ensures.stored_text after);
  upper_bound = omega arith;
}
