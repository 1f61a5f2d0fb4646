use native.Mathlib.Omega.{arith}
use lib.ListN.{length-set}
use borrow.Author.Tests.{lt-ltb, le-ltb}
use Rattle.octets.proofs.Laws.Stores.{put_octet, put_then}
use Rattle.printing.specs.Durations.{put_all_earlier}
use Rattle.printing.proofs.duration.put_all_earlier.Goals as goal

pub returns-then-last-lt4 : goal.returns-then-last-lt4
unfolding put_all_earlier
returns-then-last-lt4 c = let a = c.args in record {
  stored_text = rw (lt-ltb a.last 4 (omega arith)) c.put_several.ensures.stored_text;
  upper_bound = omega arith;
}

pub put_several-requires-2 : goal.put_several-requires-2
put_several-requires-2 c = (omega arith, omega arith, simp length-set (omega arith))

pub returns : goal.returns
unfolding put_all_earlier
returns c = let text = put_then c.put_several-p.ensures.stored_text (put_octet c.put_several-2.ensures.stored_text) in record {
  stored_text = rw (le-ltb c.args.last 4 (omega arith)) text;
  upper_bound = omega arith;
}
