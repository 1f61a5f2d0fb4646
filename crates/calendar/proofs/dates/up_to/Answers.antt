use borrow.Author.Tests.{le-leb, lt-leb}
use Rattle.calendar.specs.Dates.{up_to}
use Rattle.calendar.proofs.dates.up_to.Goals as goal

pub returns-then-x-ge1 : goal.returns-then-x-ge1
unfolding up_to
returns-then-x-ge1 c = simp (le-leb _ _ c.if-x-ge1.true)

pub returns-else-x-ge1 : goal.returns-else-x-ge1
unfolding up_to
returns-else-x-ge1 c = simp (lt-leb _ _ c.if-x-ge1.false)
