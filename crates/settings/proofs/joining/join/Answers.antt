use mathlib.Core.Path.{ap, sym, ◌∙◌}
use mathlib.Core.Bool.{true, false}
use Rattle.types.specs.AnyTypes.{found_type}
use Rattle.type_texts.proofs.Laws.Walks.{none_joined, row-joined, twice_joined, unusable_joined}
use Rattle.settings.proofs.joining.join.Goals as goal

pub returns-in_default : goal.returns-in_default
returns-in_default c = sym (ap found_type (none_joined c.args.limits _ c.in_default.ensures.cases))

pub returns-then-not-all_usable : goal.returns-then-not-all_usable
returns-then-not-all_usable c = sym (ap found_type (unusable_joined c.args.limits _ (sym c.all_usable.ensures ∙ c.if-not-all_usable.true)))

pub returns-then-not-all_differ : goal.returns-then-not-all_differ
returns-then-not-all_differ c = sym (ap found_type (twice_joined c.args.limits _ (sym c.all_differ.ensures ∙ c.if-not-all_differ.true)))

pub returns-then-not-in_row : goal.returns-then-not-in_row
returns-then-not-in_row c =
    let e = c.in-Some.ensures.cases.0 in
    sym
    (ap found_type
    (row-joined c.args.limits _ _ _ e c.requires
    (sym c.all_usable.ensures ∙ c.if-not-all_usable.false) (sym c.all_differ.ensures ∙ c.if-not-all_differ.false) false
    (sym c.in_row.ensures ∙ c.if-not-in_row.true)))

pub returns : goal.returns
returns c =
    rw (
      row-joined c.args.limits _ _ _ c.in-Some.ensures.cases.0 c.requires
          (sym c.all_usable.ensures ∙ c.if-not-all_usable.false) (sym c.all_differ.ensures ∙ c.if-not-all_differ.false) true
          (sym c.in_row.ensures ∙ c.if-not-in_row.false),
      ← c.list_row.ensures,
      ← c.years_of.ensures,
    )
