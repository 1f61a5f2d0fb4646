use mathlib.Core.Path.{◌∙◌, sym}
use Rattle.held_values.proofs.Laws.Existence.{clock_range}
use Rattle.values.proofs.existence.time_exists.Goals as goal

pub zone_allows-requires-clause-hours_bound : goal.zone_allows-requires-clause-hours_bound
zone_allows-requires-clause-hours_bound c = (clock_range _ _ _ _ (sym c.clock_exists.ensures ∙ c.if-not-clock_exists.false)).0

pub zone_allows-requires-clause-minutes_bound : goal.zone_allows-requires-clause-minutes_bound
zone_allows-requires-clause-minutes_bound c = (clock_range _ _ _ _ (sym c.clock_exists.ensures ∙ c.if-not-clock_exists.false)).1
