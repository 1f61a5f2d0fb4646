use mathlib.Core.Path.{◌∙◌, refl, sym}
use Rattle.line_replies.specs.Lines.{entry_named}
use Rattle.lines.proofs.replies.named.Goals as goal

pub returns-then-same : goal.returns-then-same
unfolding entry_named
returns-then-same c =
    rw
    (sym c.same.ensures ∙ c.if-same.true)
    refl

pub returns-then-same-2 : goal.returns-then-same-2
unfolding entry_named
returns-then-same-2 c =
    rw (
      sym c.same.ensures ∙ c.if-same.false,
      sym c.same-2.ensures ∙ c.if-same-2.true,
    )
    refl

pub returns-then-same-3 : goal.returns-then-same-3
unfolding entry_named
returns-then-same-3 c =
    rw (
      sym c.same.ensures ∙ c.if-same.false,
      sym c.same-2.ensures ∙ c.if-same-2.false,
      sym c.same-3.ensures ∙ c.if-same-3.true,
    )
    refl

pub returns-then-same-4 : goal.returns-then-same-4
unfolding entry_named
returns-then-same-4 c =
    rw (
      sym c.same.ensures
          ∙ c.if-same.false,
      sym c.same-2.ensures ∙ c.if-same-2.false,
      sym c.same-3.ensures ∙ c.if-same-3.false,
      sym c.same-4.ensures ∙ c.if-same-4.true,
    )
    refl

pub returns : goal.returns
unfolding entry_named
returns c =
    rw (
      sym c.same.ensures
          ∙ c.if-same.false,
      sym c.same-2.ensures ∙ c.if-same-2.false,
      sym c.same-3.ensures ∙ c.if-same-3.false,
      sym c.same-4.ensures ∙ c.if-same-4.false,
    )
    refl
