use mathlib.Core.Path.{◌≡◌, sym}
use native.Mathlib.Omega.{arith}
use lib.ListN.{length}
use lib.Seq.{length-take-le}
use Rattle.printing.specs.Canonical.{text_capacity}
use Rattle.held_values.proofs.Laws.Existing.{text-short, text_taken}
use borrow.Author.Rules.{rules}
use Rattle.values.proofs.written.deliver_text.Goals as goal

pub slice_bounds-buffer-end : goal.slice_bounds-buffer-end
slice_bounds-buffer-end c =
    let w : length c.text_into-length.new.buffer ≡ text_capacity = search rules in
    omega (arith, text-short _ _ (omega arith) c.text_into-length.ensures.value)

pub slice_bounds-deliver-end : goal.slice_bounds-deliver-end
slice_bounds-deliver-end c =
    sym (length-take-le _ _ (let w : length c.text_into-length.new.buffer ≡ text_capacity = search rules in omega (
      arith,
      text-short _ _ (omega
          arith) c.text_into-length.ensures.value,
    )))

pub returns : goal.returns
returns c = let text-into = c.text_into-length in rw (← text_taken _ _ (omega arith) text-into.ensures.value text-into.ensures.buffer_after) (c.deliver.ensures)
