use mathlib.Core.Path.{sym, ◌∙◌}
use Rattle.type_texts.specs.TypeTexts.{distinct}
use Rattle.type_texts.proofs.Laws.Walks.{none_twice}
use Rattle.settings.proofs.joining.all_differ.Goals as goal

pub returns-then-not-differs : goal.returns-then-not-differs
unfolding distinct
returns-then-not-differs c = rw (c.loop-list.invariant, c.in-Some.ensures.cases.0, sym c.differs.ensures ∙ c.if-not-differs.true)

pub loop-list-preserved : goal.loop-list-preserved
unfolding distinct
loop-list-preserved c = c.loop-list.invariant ∙ rw (c.in-Some.ensures.cases.0, sym c.differs.ensures ∙ c.if-not-differs.false)

pub returns : goal.returns
returns c = none_twice _ c.in_default.ensures.cases ∙ sym c.loop-list.invariant
