use borrow.Author.Tests.{eq-eqb, ne_eqb}
use Rattle.packing.specs.Waiting.{none_written}
use Rattle.packing.proofs.waiting.Waiting.none_written.Goals as goal

pub returns-then-self-eq0 : goal.returns-then-self-eq0
unfolding none_written
returns-then-self-eq0 c = rw (eq-eqb _ _ c.if-self-eq0.true)

pub returns-else-self-eq0 : goal.returns-else-self-eq0
unfolding none_written
returns-else-self-eq0 c = rw (ne_eqb _ _ c.if-self-eq0.false)
