use native.Mathlib.Omega.{arith}
use borrow.Author.Tests.{eq-eqb, ne_eqb}
use Rattle.octets.proofs.Laws.Stores.{put_none}
use Rattle.printing.proofs.parts.put_minutes.Goals as goal

pub returns-then-minutes-eq0 : goal.returns-then-minutes-eq0
returns-then-minutes-eq0 c = record {
  stored_text = rw (eq-eqb _ _ c.if-minutes-eq0.true) (put_none _ _);
  upper_bound = omega arith;
}

pub returns : goal.returns
returns c = record {
  stored_text = rw (ne_eqb _ _ c.if-minutes-eq0.false) c.put_field.ensures.stored_text;
  upper_bound = omega arith;
}
