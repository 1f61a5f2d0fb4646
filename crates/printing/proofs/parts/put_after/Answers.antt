use native.Mathlib.Omega.{arith}
use Rattle.octets.proofs.Laws.Stores.{put_none, put_then}
use Rattle.texts.specs.Dates.{put_after}
use Rattle.printing.proofs.parts.put_after.Goals as goal

pub returns-in-Y : goal.returns-in-Y
unfolding put_after
returns-in-Y c = record {
  stored_text = rw c.in-Y.is (put_none _ _);
  upper_bound = omega arith;
}

pub returns-in-YM : goal.returns-in-YM
unfolding put_after
returns-in-YM c = record {
  stored_text = rw c.in-YM.is c.put_field.ensures.stored_text;
  upper_bound = omega arith;
}

pub returns-in-YMD : goal.returns-in-YMD
unfolding put_after
returns-in-YMD c = record {
  stored_text = rw c.in-YMD.is (put_then c.put_field-p.ensures.stored_text c.put_field-in-YMD.ensures.stored_text);
  upper_bound = omega arith;
}

pub returns-in-YD : goal.returns-in-YD
unfolding put_after
returns-in-YD c = record {
  stored_text = rw c.in-YD.is c.put_field-in-YD.ensures.stored_text;
  upper_bound = omega arith;
}

pub returns-in-YW : goal.returns-in-YW
unfolding put_after
returns-in-YW c = record {
  stored_text = rw c.in-YW.is c.put_week.ensures.stored_text;
  upper_bound = omega arith;
}

pub returns-in-YWD : goal.returns-in-YWD
unfolding put_after
returns-in-YWD c = record {
  stored_text = rw c.in-YWD.is (put_then c.put_week-p.ensures.stored_text c.put_field-in-YWD.ensures.stored_text);
  upper_bound = omega arith;
}
