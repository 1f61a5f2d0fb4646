use mathlib.Core.Path.{ap}
use Rattle.fields.specs.Fields.{width, binary_digits, field_bits}
use Rattle.rows.specs.Fields.{day_fields}
use Rattle.fields.specs.Fields.{layout}
use Rattle.packing.proofs.Laws.Groups.{one_field, two_fields}
use Rattle.packing.proofs.dates.day_group.Goals as goal

pub returns-in-Y-clause-bits : goal.returns-in-Y-clause-bits
unfolding day_fields layout
returns-in-Y-clause-bits c = rw c.in-Y.is c.nothing.ensures.bits

pub returns-in-YM-clause-bits : goal.returns-in-YM-clause-bits
unfolding day_fields field_bits width binary_digits
returns-in-YM-clause-bits c = one_field (ap day_fields c.in-YM.is) c.from_one.ensures.bits

pub returns-in-YMD-clause-bits : goal.returns-in-YMD-clause-bits
unfolding day_fields field_bits width binary_digits
returns-in-YMD-clause-bits c = let e = ap day_fields c.in-YMD.is in two_fields e c.join.ensures.bits c.from_one-in-YMD.ensures.bits c.from_one-in-YMD-2.ensures.bits

pub returns-in-YD-clause-bits : goal.returns-in-YD-clause-bits
unfolding day_fields field_bits width binary_digits
returns-in-YD-clause-bits c = one_field (ap day_fields c.in-YD.is) c.from_one-in-YD.ensures.bits

pub returns-in-YW-clause-bits : goal.returns-in-YW-clause-bits
unfolding day_fields field_bits width binary_digits
returns-in-YW-clause-bits c = one_field (ap day_fields c.in-YW.is) c.from_one-in-YW.ensures.bits

pub returns-in-YWD-clause-bits : goal.returns-in-YWD-clause-bits
unfolding day_fields field_bits width binary_digits
returns-in-YWD-clause-bits c = let e = ap day_fields c.in-YWD.is in two_fields e c.join-in-YWD.ensures.bits c.from_one-in-YWD.ensures.bits c.from_one-in-YWD-2.ensures.bits
