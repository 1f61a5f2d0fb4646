use native.Mathlib.Omega.{arith}
use Rattle.octets.proofs.Laws.Stores.{put_none, put_octet}
use Rattle.texts.specs.Times.{put_zone}
use Rattle.printing.proofs.parts.put_zone.Goals as goal

pub returns-in-L : goal.returns-in-L
unfolding put_zone
returns-in-L c = record {
  stored_text = rw c.in-L.is (put_none _ _);
  upper_bound = omega arith;
}

pub returns-in-Z : goal.returns-in-Z
unfolding put_zone
returns-in-Z c = record {
  stored_text = rw c.in-Z.is (put_octet (put_none _ _));
  upper_bound = omega arith;
}

pub returns-in-LD : goal.returns-in-LD
unfolding put_zone
returns-in-LD c = record {
  stored_text = rw c.in-LD.is c.put_difference.ensures.stored_text;
  upper_bound = omega arith;
}
