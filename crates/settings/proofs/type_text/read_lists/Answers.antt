use mathlib.Core.Path.{refl, sym, ap, ◌∙◌}
use mathlib.Core.List.{[], ◌∷◌}
use Rattle.types.specs.AnyTypes.{found_type}
use Rattle.type_texts.proofs.Laws.TypeTexts.{few-kept, few-refused, one_list, one_unread, two-lists}
use Rattle.settings.proofs.type_text.read_lists.Goals as goal

pub returns-in_default : goal.returns-in_default
returns-in_default c =
    rw (one_list _ _ c.find-bar.ensures c.if-end-bar.true, sym c.read_list.ensures ∙ c.in_default.is)
    (sym (ap found_type (few-refused c.args.limits _ (one_unread [] _ _ refl))))

pub returns-then-end-bar : goal.returns-then-end-bar
returns-then-end-bar c =
    rw (one_list _ _ c.find-bar.ensures c.if-end-bar.true, sym c.read_list.ensures ∙ c.in-Some.is) c.join.ensures

pub returns-in_default-read_list : goal.returns-in_default-read_list
returns-in_default-read_list c =
    rw (
      two-lists _ _ _ c.find-bar.ensures c.if-end-bar.false c.find.ensures c.if-end-find.true,
      sym c.read_list-then-end-find.ensures ∙ c.in_default-read_list.is,
    )
    (sym (ap found_type (few-refused c.args.limits _ (one_unread [] _ _ refl))))

pub returns-in_default-read_list-2 : goal.returns-in_default-read_list-2
returns-in_default-read_list-2 c =
    rw (
      two-lists _ _ _ c.find-bar.ensures c.if-end-bar.false c.find.ensures c.if-end-find.true,
      sym c.read_list-then-end-find.ensures ∙ c.in-Some-read_list.is,
      sym c.read_list-then-end-find-2.ensures ∙ c.in_default-read_list-2.is,
    )
    (sym (ap found_type (few-refused c.args.limits _ (one_unread (c.in-Some-read_list.list ∷ []) _ _ refl))))

pub returns-then-end-find : goal.returns-then-end-find
returns-then-end-find c =
    rw (
      two-lists _ _ _ c.find-bar.ensures c.if-end-bar.false c.find.ensures c.if-end-find.true,
      sym c.read_list-then-end-find.ensures ∙ c.in-Some-read_list.is,
      sym c.read_list-then-end-find-2.ensures ∙ c.in-Some-read_list-2.is,
    )
    c.join-then-end-find.ensures

pub returns-in_default-read_all : goal.returns-in_default-read_all
returns-in_default-read_all c = sym (ap found_type (few-refused c.args.limits _ (sym c.in_default-read_all.ensures)))

pub returns : goal.returns
returns c = rw (← (few-kept _ _ (sym c.in-Some-read_all.ensures)).0, ← c.deref.ensures.0) c.join-2.ensures
