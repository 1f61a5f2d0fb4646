use Rattle.rows.specs.Fields.{year_fields}
use Rattle.packing.proofs.dates.year_group.Goals as goal

pub returns-in-Year-clause-bits : goal.returns-in-Year-clause-bits
unfolding year_fields
returns-in-Year-clause-bits c = rw c.in-Year.is c.choice_of_year.ensures.bits

pub returns-in-AnyYear-clause-bits : goal.returns-in-AnyYear-clause-bits
returns-in-AnyYear-clause-bits c = rw c.in-AnyYear.is c.any_year.ensures.bits
