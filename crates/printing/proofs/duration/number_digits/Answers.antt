use Rattle.printing.proofs.Laws.Durations.{digits-first, digits_next, digits_none, digits_all}
use native.Mathlib.Omega.{arith}
use Rattle.printing.proofs.duration.number_digits.Goals as goal

pub loop-width-init : goal.loop-width-init
loop-width-init c = digits-first _

pub returns-then-left-eq0-clause-value : goal.returns-then-left-eq0-clause-value
returns-then-left-eq0-clause-value c = digits_none _ _ _ c.if-left-eq0.true c.loop-width.invariant

pub loop-width-preserved : goal.loop-width-preserved
loop-width-preserved c = digits_next _ _ _ c.loop-width-test.true c.if-left-eq0.false c.loop-width.invariant

pub returns-clause-value : goal.returns-clause-value
returns-clause-value c = digits_all _ _ _ (omega arith) c.loop-width.invariant
