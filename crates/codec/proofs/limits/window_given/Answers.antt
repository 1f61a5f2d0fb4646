use Rattle.std.specs.Prelude.{Some}
use mathlib.Core.Path.{◌∙◌}
use borrow.Author.Rules.{rules}
use borrow.Author.Tests.{eq-eqb, ne_eqb}
use Rattle.calendar.proofs.Laws.Years.{year_is}
use Rattle.exchanges.specs.Limits.{window_given}
use Rattle.codec.proofs.limits.window_given.Goals as goal

pub returns-then-given-eq0 : goal.returns-then-given-eq0
unfolding window_given
returns-then-given-eq0 c = simp (eq-eqb _ _ c.if-given-eq0.true)

pub returns : goal.returns
unfolding window_given
returns c =
    let lowest = year_is c.from.result c.args.given.lowest (c.from.ensures ∙ search rules) in
    let highest = year_is c.from-2.result c.args.given.highest (c.from-2.ensures ∙ search rules) in
    simp (ne_eqb _ _ c.if-given-eq0.false) (λ i. Some ((lowest i), (highest i)))
