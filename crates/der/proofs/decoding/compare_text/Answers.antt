use mathlib.Core.Path.{◌≡◌, refl, sym, ◌∙◌}
use mathlib.Core.List.{List}
use Prim.Native.Nat.{ℕ, ◌≤◌}
use native.Mathlib.Omega.{arith}
use lib.ListN.{length, take}
use lib.Seq.{length-take-le}
use Rattle.answers.specs.Outcomes.{outcome_of, room_of}
use Rattle.printing.specs.Canonical.{text_capacity}
use Rattle.types.specs.declared.types.Name.{Name}
use Rattle.der_elements.specs.Elements.{contents_of, element, omits}
use Rattle.der_elements.proofs.Laws.Contents.{element_size, without_most}
use Rattle.der_elements.proofs.Laws.Der.{own_written}
use borrow.Author.Rules.{rules}
use Rattle.der.proofs.decoding.compare_text.Goals as goal
use Rattle.der.proofs.decoding.compare_text.Goals.{After-write_element-written}

contents_most : (name : Name) (text : List ℕ) → length (contents_of name text) ≤ length text
unfolding contents_of
contents_most name text = without_most (omits name) text

-- What is written is the text's element, within its buffer.
written : (k : After-write_element-written)
    → let r = k.write_element-written in
    (take r.result.length.count r.new.room ≡ element k.args.name (contents_of k.args.name k.args.text.now))
    × (r.result.length.count ≤ length r.new.room)
written k =
    let a = k.args in
    let r = k.write_element-written in
    let w : length r.new.room ≡ text_capacity = search rules in
    let s = element_size a.name (contents_of a.name a.text.now) in
    let m = contents_most a.name a.text.now in
    let o = own_written a.name a.text.now _ r.new.room r.result (omega (arith, k.requires)) r.ensures.value r.ensures.room_after in
    (o.1, omega (arith, k.requires))

pub slice_bounds-own-end : goal.slice_bounds-own-end
slice_bounds-own-end c = (written (goal.at.slice_bounds-own-end c).After-write_element-written).1

pub slice_bounds-same-end : goal.slice_bounds-same-end
slice_bounds-same-end c = sym (length-take-le _ _ (written (goal.at.slice_bounds-same-end c).After-write_element-written).1)

pub returns-then-not-same : goal.returns-then-not-same
unfolding outcome_of room_of
returns-then-not-same c = rw (← (written (goal.at.returns-then-not-same c).After-write_element-written).0, sym c.same.ensures ∙ c.if-not-same.true) (record {
  value = c.refused.ensures;
  room_after = refl;
})

pub returns : goal.returns
returns c = rw (← (written (goal.at.returns c).After-write_element-written).0, sym c.same.ensures ∙ c.if-not-same.false) (c.deliver.ensures)
