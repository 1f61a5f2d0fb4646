use native.Mathlib.Omega.{arith}
use borrow.Author.Tests.{eq-eqb, ne_eqb}
use Rattle.octets.proofs.Laws.Stores.{put_none}
use Rattle.texts.specs.Times.{put_fraction}
use Rattle.printing.proofs.parts.put_fraction.Goals as goal

pub returns-then-digits-eq0 : goal.returns-then-digits-eq0
unfolding put_fraction
returns-then-digits-eq0 c = record {
  stored_text = rw (eq-eqb _ _ c.if-digits-eq0.true) (put_none _ _);
  upper_bound = omega arith;
}

pub returns : goal.returns
unfolding put_fraction
returns c = record {
  stored_text = rw (ne_eqb _ _ c.if-digits-eq0.false) c.put_field.ensures.stored_text;
  upper_bound = omega arith;
}
