use native.Mathlib.Omega.{arith}
use lib.ListN.{length-set}
use Rattle.octets.proofs.Laws.Stores.{put_octet, put_then}
use Rattle.printing.proofs.Laws.Durations.{duration_parts}
use Rattle.printing.proofs.duration.put_duration.Goals as goal

pub put_all_earlier-p-requires : goal.put_all_earlier-p-requires
put_all_earlier-p-requires c = (omega arith, simp length-set (omega arith))

pub put_last-requires : goal.put_last-requires
put_last-requires c = let k = simp length-set at c.put_all_earlier-p.auto.b in (omega arith, omega arith)

pub returns : goal.returns
returns c = record {
  stored_text = rw (duration_parts c.args.duration (omega arith))
      (put_octet (put_then c.put_all_earlier-p.ensures.stored_text c.put_last.ensures.stored_text));
  upper_bound = omega arith;
}
