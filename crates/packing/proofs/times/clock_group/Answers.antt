use mathlib.Core.Path.{ap}
use Rattle.fields.specs.Fields.{width, binary_digits, field_bits}
use Rattle.rows.specs.Fields.{clock_fields}
use Rattle.packing.proofs.Laws.Groups.{one_field, two_fields, three-fields}
use Rattle.packing.proofs.times.clock_group.Goals as goal

pub returns-in-H-clause-bits : goal.returns-in-H-clause-bits
unfolding clock_fields field_bits width binary_digits
returns-in-H-clause-bits c = one_field (ap clock_fields c.in-H.is) c.field.ensures.bits

pub returns-in-HM-clause-bits : goal.returns-in-HM-clause-bits
unfolding clock_fields field_bits width binary_digits
returns-in-HM-clause-bits c = let e = ap clock_fields c.in-HM.is in two_fields e c.join.ensures.bits c.field-hour.ensures.bits c.field-in-HM.ensures.bits

pub returns-in-HMS-clause-bits : goal.returns-in-HMS-clause-bits
unfolding clock_fields field_bits width binary_digits
returns-in-HMS-clause-bits c = let e = ap clock_fields c.in-HMS.is in three-fields e c.join-in-HMS-2.ensures.bits c.field-hour-in-HMS.ensures.bits
    c.join-in-HMS.ensures.bits c.field-minute.ensures.bits c.field-second.ensures.bits
