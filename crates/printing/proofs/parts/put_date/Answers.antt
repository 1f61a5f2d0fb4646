use native.Mathlib.Omega.{arith}
use Rattle.octets.proofs.Laws.Stores.{put_then}
use Rattle.texts.specs.Dates.{put_date}
use Rattle.printing.proofs.parts.put_date.Goals as goal

pub returns : goal.returns
unfolding put_date
returns c = record {
  stored_text = rw c.year_of.ensures at (put_then c.put_year-p.ensures.stored_text c.put_after.ensures.stored_text);
  upper_bound = omega arith;
}
