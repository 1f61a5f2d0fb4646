use mathlib.Core.Logic.{inl, inr}
use Rattle.fields.specs.Fields.{layout}
use Rattle.rows.specs.Fields.{zone_fields}
use Rattle.packing.proofs.times.zone_group.Goals as goal

pub returns-in-L-clause-bits : goal.returns-in-L-clause-bits
unfolding zone_fields layout
returns-in-L-clause-bits c = elim c.in-L.is [
  | inl e ↦ rw e c.nothing.ensures.bits
  | inr e ↦ rw e c.nothing.ensures.bits
]

pub returns-in-LD-clause-bits : goal.returns-in-LD-clause-bits
unfolding zone_fields
returns-in-LD-clause-bits c = rw (c.in-LD.is, ← c.hours_field-hours.ensures) c.difference_group.ensures.bits
