use mathlib.Core.Path.{ap}
use Rattle.fields.specs.Fields.{width, binary_digits, field_bits}
use Rattle.calendar.specs.Years.{astronomical_of}
use Rattle.rows.specs.Fields.{other_year, choice_of_year}
use Rattle.packing.proofs.Laws.Groups.{is_since, is_before, two_fields}
use Rattle.packing.proofs.dates.choice_of_year.Goals as goal

pub returns-in-Since-clause-bits : goal.returns-in-Since-clause-bits
returns-in-Since-clause-bits c = let e = is_since (astronomical_of c.args.year) c.distance.ensures c.in-Since.is in rw e c.near_year.ensures.bits

pub returns-in-Before-clause-bits : goal.returns-in-Before-clause-bits
unfolding choice_of_year other_year field_bits width binary_digits
returns-in-Before-clause-bits c = let e = is_before (astronomical_of c.args.year) c.distance.ensures c.in-Before.is c.saturating_sub.ensures in two_fields (ap choice_of_year e) c.join.ensures.bits c.field-choice.ensures.bits c.negative.ensures.bits
