use mathlib.Core.Path.{◌≡◌}
use native.Mathlib.Omega.{arith}
use lib.ListN.{length}
use Rattle.octets.proofs.Laws.Stores.{put_none, put_then}
use Rattle.printing.proofs.Laws.Durations.{several_first, several_none}
use borrow.Author.Rules.{rules}
use Rattle.printing.proofs.duration.put_several.Goals as goal

pub loop-place-init : goal.loop-place-init
loop-place-init c = record { place = omega arith; text = λ m r h. h }

pub put_earlier-p-requires : goal.put_earlier-p-requires
put_earlier-p-requires c = omega (arith, c.loop-place.invariant.place)

pub loop-place-preserved : goal.loop-place-preserved
loop-place-preserved c =
    let l = c.loop-place in
    let e = c.put_earlier-p.ensures in
    let n : length c.args.numbers ≡ 7 = search rules in
    let s = several_first c.args.numbers l.place c.args.end c.loop-place-test.true (omega arith) n in record {
      place = omega (arith, e.upper_bound, l.invariant.place);
      text = λ m r h. l.invariant.text m r (rw s (put_then e.stored_text h));
    }

pub returns : goal.returns
returns c = let l = c.loop-place in record {
  stored_text = l.invariant.text _ _ (rw (several_none _ _ _ c.loop-place-test.false) (put_none _ _));
  upper_bound = omega (arith, l.invariant.place);
}
