use mathlib.Core.Path.{sym, ◌∙◌}
use Rattle.type_texts.specs.TypeTexts.{type_of}
use Rattle.settings.proofs.type_text.read_type.Goals as goal

pub returns-then-same : goal.returns-then-same
unfolding type_of
returns-then-same c = rw (sym c.same.ensures ∙ c.if-same.true) c.limited.ensures

pub returns-then-same-2 : goal.returns-then-same-2
unfolding type_of
returns-then-same-2 c =
    rw (
      sym c.same.ensures ∙ c.if-same.false,
      sym c.same-2.ensures ∙ c.if-same-2.true,
    )
    c.limited-then-same-2.ensures

pub returns-then-same-3 : goal.returns-then-same-3
unfolding type_of
returns-then-same-3 c =
    rw (
      sym c.same.ensures
          ∙ c.if-same.false,
      sym c.same-2.ensures ∙ c.if-same-2.false,
      sym c.same-3.ensures ∙ c.if-same-3.true,
    )
    c.limited-then-same-3.ensures

pub returns : goal.returns
unfolding type_of
returns c =
    rw (
      sym c.same.ensures
          ∙ c.if-same.false,
      sym c.same-2.ensures ∙ c.if-same-2.false,
      sym c.same-3.ensures ∙ c.if-same-3.false,
    )
    c.read_other.ensures
