use mathlib.Core.Path.{sym, ◌∙◌}
use native.Mathlib.Omega.{arith}
use Rattle.octets.proofs.Laws.Pieces.{found_within}
use Rattle.lists.proofs.Laws.Lists.{add_nothing, last_pair, next_pair, refused_pair, six_properties}
use Rattle.lists.proofs.lists.read_pairs.Goals as goal

pub slice_bounds-read_pair-end : goal.slice_bounds-read_pair-end
slice_bounds-read_pair-end c = found_within _ _ _ _ c.find-end.ensures c.loop-from-test.true

pub returns-in_err-read_pair : goal.returns-in_err-read_pair
returns-in_err-read_pair c =
    c.from_residual.ensures ∙ sym (c.loop-from.invariant.0 c.loop-from-test.true
    ∙ refused_pair _ _ _ _ _ c.find-end.ensures c.read_pair.ensures c.loop-from-test.true (rw c.in_err-read_pair.was (add_nothing _)))

pub add-requires : goal.add-requires
add-requires c = six_properties _ _ (sym c.read_pair.ensures ∙ c.in_ok-read_pair.was)

pub returns-in_err-list : goal.returns-in_err-list
returns-in_err-list c =
    c.from_residual-in_err-list.ensures ∙ sym (c.loop-from.invariant.0 c.loop-from-test.true
    ∙ refused_pair _ _ _ _ _ c.find-end.ensures c.read_pair.ensures c.loop-from-test.true
    (rw c.in_ok-read_pair.was (sym c.add.ensures ∙ c.in_err-list.was)))

pub loop-from-preserved : goal.loop-from-preserved
loop-from-preserved c =
    let inv = c.loop-from.invariant.0 c.loop-from-test.true in
    let m = sym c.in_ok-list.was ∙ c.add.ensures ∙ rw c.in_ok-read_pair.was in (
      λ h. inv ∙ next_pair _ _ _ _ _ _ c.find-end.ensures c.read_pair.ensures m (omega arith),
      λ h. inv ∙ last_pair _ _ _ _ _ _ c.find-end.ensures c.read_pair.ensures m c.loop-from-test.true (omega arith),
    )
