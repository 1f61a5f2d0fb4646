use mathlib.Core.Path.{◌∙◌, sym}
use Rattle.held_values.proofs.Laws.Existence.{difference_range}
use Rattle.values.proofs.existence.difference_allows.Goals as goal

pub less_difference-requires-clause-hours_bound : goal.less_difference-requires-clause-hours_bound
less_difference-requires-clause-hours_bound c = (difference_range _ (sym c.difference_exists.ensures ∙ c.if-difference_exists.true)).hours

pub less_difference-requires-clause-minutes_bound : goal.less_difference-requires-clause-minutes_bound
less_difference-requires-clause-minutes_bound c = (difference_range _ (sym c.difference_exists.ensures ∙ c.if-difference_exists.true)).minutes
