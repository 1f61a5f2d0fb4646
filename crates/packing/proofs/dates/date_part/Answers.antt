use mathlib.Core.Logic.{inl, inr}
use Rattle.fields.specs.Fields.{layout}
use Rattle.packing.specs.Parts.{date_of}
use Rattle.packing.proofs.dates.date_part.Goals as goal

pub returns-in-Date-clause-bits : goal.returns-in-Date-clause-bits
unfolding date_of
returns-in-Date-clause-bits c = elim c.in-Date.is [
  | inl e ↦ rw e c.date_group.ensures.bits
  | inr w ↦ rw w.1 c.date_group.ensures.bits
]

pub returns-in-Time-clause-bits : goal.returns-in-Time-clause-bits
unfolding date_of layout
returns-in-Time-clause-bits c = rw c.in-Time.is c.nothing.ensures.bits
