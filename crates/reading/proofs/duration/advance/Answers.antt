use native.Mathlib.Numerals.{add-one}
use borrow.Author.Tests.{ne_eqb}
use Rattle.reading.proofs.Laws.Tallies.{added_there, added_other, designator_pos}
use Rattle.reading.proofs.duration.advance.Goals as goal

pub returns-in_default-clause-advanced : goal.returns-in_default-clause-advanced
returns-in_default-clause-advanced c =
    λ cs. rw add-one (added_other _ _ c.requires.2 _ (designator_pos _ c.requires.0) cs _ _ (rw c.in_default.is))

pub returns-then-next-place-clause-advanced : goal.returns-then-next-place-clause-advanced
returns-then-next-place-clause-advanced c =
    λ cs. rw add-one (added_other _ _ c.requires.2 _ (designator_pos _ c.requires.0) cs _ _ (rw (c.in-Some.is, ne_eqb _ _ c.if-next-place.true)))

pub returns-clause-advanced : goal.returns-clause-advanced
returns-clause-advanced c =
    λ cs. rw (add-one, c.add.ensures)
    (added_there _ _ c.requires.2 _ (designator_pos _ c.requires.0) cs _ _ _ c.in-Some.is c.if-next-place.false)
