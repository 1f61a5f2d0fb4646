use borrow.Author.Tests.{eq-eqb, ne_eqb}
use Rattle.unpacking.proofs.Laws.Presences.{made_told}
use Rattle.unpacking.proofs.duration.well_made.Goals as goal

pub returns-then-components-eq0 : goal.returns-then-components-eq0
returns-then-components-eq0 c = rw (made_told _ c.requires, eq-eqb _ _ c.if-components-eq0.true)

pub returns-then-components-eq16 : goal.returns-then-components-eq16
returns-then-components-eq16 c = rw (made_told _ c.requires, ne_eqb _ _ c.if-components-eq0.false, eq-eqb _ _ c.if-components-eq16.true)

pub returns-else-components-eq16 : goal.returns-else-components-eq16
returns-else-components-eq16 c = rw (made_told _ c.requires, ne_eqb _ _ c.if-components-eq0.false, ne_eqb _ _ c.if-components-eq16.false)
