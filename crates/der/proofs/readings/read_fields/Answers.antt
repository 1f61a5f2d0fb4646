use mathlib.Core.Path.{◌≡◌, ap, sym, ◌∙◌}
use mathlib.Core.Bool.{true}
use mathlib.Core.List.{List}
use Prim.Native.Nat.{ℕ, ◌+◌, ◌≤◌}
use native.Mathlib.Omega.{arith}
use lib.ListN.{length}
use lib.Seq.{length-take-le}
use Rattle.der_elements.specs.Readings.{digits_only, separated}
use Rattle.der_elements.proofs.Laws.Readings.{digits-count, front_stored, separated_size}
use Rattle.texts.specs.Texts.{read_of}
use Rattle.held_values.specs.Encodings.{of_text}
use borrow.Author.Rules.{rules}
use Rattle.der.proofs.readings.read_fields.Goals as goal
use Rattle.der.proofs.readings.read_fields.Goals.{After-put_fields-end, After-text-1}

pub returns-then-not-digits_only : goal.returns-then-not-digits_only
returns-then-not-digits_only c = rw (sym c.digits_only.ensures ∙ c.if-not-digits_only.true)

-- The contents are so many digits.
passed : (k : After-text-1) → let a = k.args in digits_only (a.width + 4) a.contents.now ≡ true
passed k = sym k.digits_only.ensures ∙ k.if-not-digits_only.false

-- The text with its separators has its place in the buffer.
sized : (k : After-text-1)
    → let a = k.args in
    (length a.contents.now ≡ a.width + 4) × (length (separated a.separator a.width a.contents.now) ≤ 10)
sized k =
    let a = k.args in
    let n = digits-count (a.width + 4) a.contents.now (passed k) in
    let e = separated_size a.separator a.width a.contents.now (omega arith) in
    (n, omega (arith, k.requires))

within : (k : After-put_fields-end) → k.put_fields-end.result ≤ length k.put_fields-end.new.room
within k =
    let a = k.args in
    let n = digits-count (a.width + 4) a.contents.now (sym k.digits_only.ensures ∙ k.if-not-digits_only.false) in
    let e = separated_size a.separator a.width a.contents.now (omega arith) in
    let w : length k.put_fields-end.new.room ≡ 10 = search rules in
    omega (arith, k.requires, k.put_fields-end.ensures.end)

pub put_fields-end-requires : goal.put_fields-end-requires
put_fields-end-requires c = let e = sized (goal.at.put_fields-end-requires c).After-text-1 in (omega arith, omega (arith, c.requires))

pub slice_bounds-text-end : goal.slice_bounds-text-end
slice_bounds-text-end c = within (goal.at.slice_bounds-text-end c).After-put_fields-end

pub slice_bounds-read_value-end : goal.slice_bounds-read_value-end
slice_bounds-read_value-end c = sym (length-take-le _ _ (within (goal.at.slice_bounds-read_value-end c).After-put_fields-end))

pub returns : goal.returns
returns c =
    let a = c.args in
    let t = front_stored c.put_fields-end.ensures (let e = (sized (goal.at.returns c).After-text-1).1 in omega arith) in
    rw (passed (goal.at.returns c).After-text-1) (c.read_value.ensures ∙ ap (λ (l : List ℕ). of_text (read_of a.form l)) t)
