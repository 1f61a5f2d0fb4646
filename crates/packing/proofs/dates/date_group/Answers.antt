use Rattle.fields.proofs.Laws.Fields.{layout-append}
use Rattle.rows.specs.Fields.{date_fields}
use Rattle.packing.proofs.dates.date_group.Goals as goal

pub returns-clause-bits : goal.returns-clause-bits
unfolding date_fields
returns-clause-bits c = rw (c.join.ensures.bits, c.year_group.ensures.bits, c.day_group.ensures.bits, c.year_of.ensures, layout-append)
