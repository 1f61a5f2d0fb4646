use Rattle.fields.specs.Fields.{width, binary_digits, field_bits}
use Rattle.packing.proofs.Laws.Groups.{no_minutes, some_minutes, two_fields, three-fields}
use Rattle.packing.proofs.times.difference_group.Goals as goal

pub returns-then-minutes-eq0-clause-bits : goal.returns-then-minutes-eq0-clause-bits
unfolding field_bits width binary_digits
returns-then-minutes-eq0-clause-bits c = two_fields (no_minutes _ _ c.if-minutes-eq0.true) c.join.ensures.bits c.field.ensures.bits c.field-hour.ensures.bits

pub returns-clause-bits : goal.returns-clause-bits
unfolding field_bits width binary_digits
returns-clause-bits c = three-fields (some_minutes _ _ c.if-minutes-eq0.false) c.join-3.ensures.bits c.field-2.ensures.bits
    c.join-2.ensures.bits c.field-hour.ensures.bits c.field-minute.ensures.bits
