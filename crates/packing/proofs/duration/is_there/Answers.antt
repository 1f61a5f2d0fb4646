use borrow.Author.Tests.{eq-eqb, ne_eqb, lt-ltb, le-ltb}
use Rattle.packing.specs.Durations.{is_there}
use Rattle.packing.proofs.duration.is_there.Goals as goal

pub returns-then-place-last : goal.returns-then-place-last
unfolding is_there
returns-then-place-last c = simp (eq-eqb _ _ c.if-place-last.true)

pub returns-then-place-last-2 : goal.returns-then-place-last-2
unfolding is_there
returns-then-place-last-2 c = simp (ne_eqb _ _ c.if-place-last.false, lt-ltb _ _ c.if-place-last-2.true)

pub returns-else-place-last-2 : goal.returns-else-place-last-2
unfolding is_there
returns-else-place-last-2 c = simp (ne_eqb _ _ c.if-place-last.false, le-ltb _ _ c.if-place-last-2.false)
