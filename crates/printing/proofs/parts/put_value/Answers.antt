use native.Mathlib.Omega.{arith}
use lib.ListN.{length-set}
use Rattle.octets.proofs.Laws.Stores.{put_octet, put_then}
use Rattle.texts.specs.Texts.{render}
use Rattle.printing.proofs.parts.put_value.Goals as goal

pub put_time-requires : goal.put_time-requires
put_time-requires c = ((rw c.in-Time.is at c.requires.0), omega arith)

pub put_time-requires-in-DateTime : goal.put_time-requires-in-DateTime
put_time-requires-in-DateTime c =
    ((rw c.in-DateTime.is at c.requires.0), simp length-set (omega arith))

pub returns-in-Date : goal.returns-in-Date
unfolding render
returns-in-Date c = record {
  stored_text = rw c.in-Date.is c.put_date.ensures.stored_text;
  upper_bound = omega arith;
}

pub returns-in-Time : goal.returns-in-Time
unfolding render
returns-in-Time c = record {
  stored_text = rw c.in-Time.is c.put_time.ensures.stored_text;
  upper_bound = omega arith;
}

pub returns-in-DateTime : goal.returns-in-DateTime
unfolding render
returns-in-DateTime c = let after = put_octet c.put_time-in-DateTime.ensures.stored_text in record {
  stored_text = rw c.in-DateTime.is (put_then c.put_date-p.ensures.stored_text after);
  upper_bound = omega arith;
}
