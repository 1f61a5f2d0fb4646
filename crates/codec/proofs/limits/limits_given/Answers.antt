use borrow.Author.Tests.{eq-eqb, ne_eqb}
use Rattle.exchanges.specs.Limits.{limits_given}
use Rattle.codec.proofs.limits.limits_given.Goals as goal

pub returns-then-given-ne0 : goal.returns-then-given-ne0
unfolding limits_given
returns-then-given-ne0 c = simp (ne_eqb _ _ c.if-given-ne0.true)

pub returns : goal.returns
unfolding limits_given
returns c = rw (eq-eqb _ _ c.if-given-ne0.false, ← c.window_given.ensures)
