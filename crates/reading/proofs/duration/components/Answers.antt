use mathlib.Core.Path.{sym, ◌∙◌}
use native.Mathlib.Omega.{arith}
use Rattle.reading.proofs.Laws.Tallies.{designators-first, added_none}
use Rattle.reading.proofs.duration.components.Goals as goal

pub advance-requires : goal.advance-requires
advance-requires c = (omega arith, c.loop-place.invariant.count_le, c.loop-place.invariant.component)

pub loop-place-preserved : goal.loop-place-preserved
loop-place-preserved c =
    let e = c.advance.ensures in record {
      count_le = e.count_bound.0;
      component = e.count_bound.1;
      added = c.loop-place.invariant.added ∙ rw (designators-first c.loop-place.place _ c.loop-place-test.true c.requires.1) (e.advanced _);
    }

pub returns : goal.returns
returns c =
    let l = c.loop-place in record {
      text_value = sym (l.invariant.added ∙ added_none _ _ _ _ c.loop-place-test.false);
      count_le_end = omega (arith, l.invariant.count_le);
    }
