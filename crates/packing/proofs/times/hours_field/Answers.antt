use Rattle.rows.specs.Fields.{hours_field}
use Rattle.packing.proofs.times.hours_field.Goals as goal

pub returns-then-behind : goal.returns-then-behind
unfolding hours_field
returns-then-behind c = rw c.if-behind.true c.saturating_sub.ensures

pub returns : goal.returns
unfolding hours_field
returns c = rw c.if-behind.false
