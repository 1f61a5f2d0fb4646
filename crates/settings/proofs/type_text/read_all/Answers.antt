use mathlib.Core.Path.{sym, ◌∙◌}
use native.Mathlib.Omega.{arith}
use borrow.Author.Tests.{eqb-true, eqb-false}
use Rattle.octets.proofs.Laws.Pieces.{found_within}
use Rattle.type_texts.proofs.Laws.TypeTexts.{all_kept, last_list, next_list, one_more, one_unread, read_more, some_list, too_many}
use Rattle.settings.proofs.type_text.read_all.Goals as goal

pub returns-then-is_full : goal.returns-then-is_full
returns-then-is_full c =
    sym (too_many _ _ _ (eqb-true _ _ (sym c.is_full.ensures.value ∙ c.if-is_full.true)) (c.loop-from.invariant.1 c.loop-from-test.true))

pub slice_bounds-read_list-end : goal.slice_bounds-read_list-end
slice_bounds-read_list-end c = found_within _ _ _ _ c.find-end.ensures c.loop-from-test.true

pub returns : goal.returns
returns c = sym (all_kept _ _ c.loop-from.invariant.0 (c.loop-from.invariant.2 c.loop-from-test.false))

pub returns-in_err-read_list : goal.returns-in_err-read_list
returns-in_err-read_list c =
    let h = some_list _ _ _ _ _ c.find-end.ensures (sym c.in_err-read_list.was ∙ c.read_list.ensures) c.loop-from-test.true in
    rw c.from_residual.ensures (sym (one_unread _ _ h.0 (c.loop-from.invariant.1 c.loop-from-test.true ∙ h.1)))

pub push-requires : goal.push-requires
push-requires c = let n = eqb-false _ _ (sym c.is_full.ensures.value ∙ c.if-is_full.false) in omega (arith, c.loop-from.invariant.0)

pub loop-from-preserved : goal.loop-from-preserved
loop-from-preserved c =
    let inv = c.loop-from.invariant in
    let p = c.push.ensures.items in
    let a = sym c.in_ok-read_list.was ∙ c.read_list.ensures in
    let n = eqb-false _ _ (sym c.is_full.ensures.value ∙ c.if-is_full.false) in (
      omega (arith, c.push.ensures.len, inv.0),
      λ h. inv.1 c.loop-from-test.true ∙ next_list _ _ _ _ _ c.find-end.ensures a (omega arith) ∙ rw p (one_more _ _ _),
      λ h. inv.1 c.loop-from-test.true ∙ last_list _ _ _ _ _ c.find-end.ensures a c.loop-from-test.true (omega arith) ∙ rw p (read_more _ _),
    )
