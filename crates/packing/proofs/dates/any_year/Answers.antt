use mathlib.Core.Path.{ap}
use Rattle.calendar.specs.Years.{astronomical_of}
use Rattle.types.specs.declared.years.YearRow.{YearRow}
use Rattle.rows.specs.Fields.{year_fields}
use Rattle.packing.proofs.Laws.Groups.{is_since, is_before, one_field}
use Rattle.packing.proofs.dates.any_year.Goals as goal

pub returns-in-Since-clause-bits : goal.returns-in-Since-clause-bits
unfolding year_fields
returns-in-Since-clause-bits c = let e = is_since (astronomical_of c.args.year) c.distance.ensures c.in-Since.is in one_field (ap (year_fields YearRow.AnyYear) e) c.integer.ensures.bits

pub returns-in-Before-clause-bits : goal.returns-in-Before-clause-bits
unfolding year_fields
returns-in-Before-clause-bits c = let e = is_before (astronomical_of c.args.year) c.distance.ensures c.in-Before.is c.saturating_sub.ensures in one_field (ap (year_fields YearRow.AnyYear) e) c.negative.ensures.bits
