use mathlib.Core.Path.{◌≡◌, sym}
use Prim.Native.Nat.{◌≤◌}
use native.Mathlib.Omega.{arith}
use lib.ListN.{length, take}
use lib.Seq.{length-take-le}
use Rattle.printing.specs.Canonical.{text_capacity}
use Rattle.printing.proofs.Laws.Durations.{duration_taken}
use Rattle.durations.specs.Texts.{duration_text}
use borrow.Author.Rules.{rules}
use Rattle.der.proofs.duration.compare_duration.Goals as goal
use Rattle.der.proofs.duration.compare_duration.Goals.{After-duration_into-length}

-- The text is the duration's, and within its buffer.
printed : (k : After-duration_into-length)
    → (take k.duration_into-length.result k.duration_into-length.new.buffer ≡ duration_text k.args.duration)
    × (k.duration_into-length.result ≤ 72)
    × (k.duration_into-length.result ≤ length k.duration_into-length.new.buffer)
printed k =
    let w : length k.duration_into-length.new.buffer ≡ text_capacity = search rules in
    let t = duration_taken _ _ k.requires (omega arith) k.duration_into-length.ensures.value k.duration_into-length.ensures.buffer_after in
    (t.2, t.1, omega (arith, t.1))

pub slice_bounds-text-end : goal.slice_bounds-text-end
slice_bounds-text-end c = (printed (goal.at.slice_bounds-text-end c).After-duration_into-length).2

pub slice_bounds-compare_text-end : goal.slice_bounds-compare_text-end
slice_bounds-compare_text-end c = sym (length-take-le _ _ (printed (goal.at.slice_bounds-compare_text-end c).After-duration_into-length).2)

pub compare_text-requires : goal.compare_text-requires
compare_text-requires c =
    let e = length-take-le c.duration_into-length.result c.duration_into-length.new.buffer (printed (goal.at.compare_text-requires c).After-duration_into-length).2 in
    omega (arith, (printed (goal.at.compare_text-requires c).After-duration_into-length).1)

pub returns : goal.returns
returns c = rw (← (printed (goal.at.returns c).After-duration_into-length).0) (c.compare_text.ensures)
