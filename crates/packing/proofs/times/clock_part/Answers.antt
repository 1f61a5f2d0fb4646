use mathlib.Core.Logic.{inl, inr}
use Rattle.fields.specs.Fields.{layout}
use Rattle.packing.specs.Parts.{clock_of}
use Rattle.packing.proofs.times.clock_part.Goals as goal

pub returns-in-Date-clause-bits : goal.returns-in-Date-clause-bits
unfolding clock_of layout
returns-in-Date-clause-bits c = rw c.in-Date.is c.nothing.ensures.bits

pub returns-in-Time-clause-bits : goal.returns-in-Time-clause-bits
unfolding clock_of
returns-in-Time-clause-bits c = elim c.in-Time.is [
  | inl e ↦ rw e c.clock_group.ensures.bits
  | inr w ↦ rw w.1 c.clock_group.ensures.bits
]
