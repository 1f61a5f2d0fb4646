use mathlib.Core.Path.{sym, ◌∙◌}
use borrow.Author.Rules.{rules}
use borrow.Author.Tests.{tests}
use Rattle.std.proofs.lemmas.Iterator.{YieldsList-from_slice}
use Rattle.std.proofs.lemmas.Iterator.Search.{position_from_yields_List}
use Rattle.lists.proofs.Laws.Words.{is_it, place-position}
use Rattle.lists.proofs.words.place_in.Goals as goal

pub returns-in_err-place : goal.returns-in_err-place
returns-in_err-place c =
    let p = position_from_yields_List (is_it c.args.s.now) _ _ c.position.result c.position.ensures.ran (YieldsList-from_slice c.args.words.now cc)
    (λ x b q k. search (rules, tests)) in
    c.from_residual.ensures ∙ sym (place-position c.args.s.now c.args.words.now c.position.result p ∙ rw c.in_err-place.was)

pub returns : goal.returns
returns c =
    let p = position_from_yields_List (is_it c.args.s.now) _ _ c.position.result c.position.ensures.ran (YieldsList-from_slice c.args.words.now cc)
    (λ x b q k. search (rules, tests)) in
    sym (place-position c.args.s.now c.args.words.now c.position.result p ∙ rw c.in_ok-place.was)
