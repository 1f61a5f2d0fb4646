use mathlib.Core.Path.{◌≡◌, sym}
use Prim.Native.Nat.{◌≤◌}
use native.Mathlib.Omega.{arith}
use lib.ListN.{length}
use lib.Seq.{length-take-le}
use Rattle.kinds.specs.Coding.{compared}
use Rattle.printing.specs.Canonical.{text_capacity}
use Rattle.held_values.proofs.Laws.Existing.{printed-text, text-short, text_taken}
use Rattle.der_elements.specs.Elements.{element_of}
use borrow.Author.Rules.{rules}
use Rattle.der.proofs.decoding.compare.Goals as goal
use Rattle.der.proofs.decoding.compare.Goals.{After-text_into-length}

-- The text is short, and within its buffer.
short : (k : After-text_into-length) → (k.text_into-length.result ≤ 52) × (k.text_into-length.result ≤ length k.text_into-length.new.buffer)
short k =
    let w : length k.text_into-length.new.buffer ≡ text_capacity = search rules in
    let s = text-short _ _ (omega arith) k.text_into-length.ensures.value in
    (s, omega arith)

pub slice_bounds-text-end : goal.slice_bounds-text-end
slice_bounds-text-end c = (short (goal.at.slice_bounds-text-end c).After-text_into-length).1

pub slice_bounds-compare_text-end : goal.slice_bounds-compare_text-end
slice_bounds-compare_text-end c = sym (length-take-le _ _ (short (goal.at.slice_bounds-compare_text-end c).After-text_into-length).1)

pub compare_text-requires : goal.compare_text-requires
compare_text-requires c =
    let e = length-take-le c.text_into-length.result c.text_into-length.new.buffer (short (goal.at.compare_text-requires c).After-text_into-length).1 in
    omega (arith, (short (goal.at.compare_text-requires c).After-text_into-length).0)

pub returns : goal.returns
unfolding compared element_of
returns c = rw (
  ← printed-text _ c.requires,
  ← text_taken _ _ (omega arith) c.text_into-length.ensures.value c.text_into-length.ensures.buffer_after,
  ← c.name.ensures,
) (c.compare_text.ensures)
