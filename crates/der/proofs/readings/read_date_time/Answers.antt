use mathlib.Core.Path.{◌≡◌, refl, ap, sym, ◌∙◌}
use mathlib.Core.Bool.{true}
use mathlib.Core.List.{List}
use Prim.Native.Nat.{ℕ}
use native.Mathlib.Omega.{arith}
use lib.ListN.{length, length-set}
use lib.Seq.{length-take-le}
use Rattle.der_elements.specs.Readings.{digits_only}
use Rattle.der_elements.proofs.Laws.Readings.{date_size, date_time_stored, digits-count, time_digits}
use Rattle.texts.specs.Texts.{read_of}
use Rattle.held_values.specs.Encodings.{of_text}
use borrow.Author.Rules.{rules}
use Rattle.der.proofs.readings.read_date_time.Goals as goal
use Rattle.der.proofs.readings.read_date_time.Goals.{After-put_fields-place, Else-not-digits_only}

pub returns-then-not-digits_only : goal.returns-then-not-digits_only
returns-then-not-digits_only c = rw (sym c.digits_only.ensures ∙ c.if-not-digits_only.true)

-- The contents are fourteen digits.
passed : (k : Else-not-digits_only) → digits_only 14 k.args.contents.now ≡ true
passed k = sym k.digits_only.ensures ∙ k.if-not-digits_only.false

fourteen : (k : Else-not-digits_only) → length k.args.contents.now ≡ 14
fourteen k = digits-count 14 k.args.contents.now (passed k)

-- The text of the date has ten octets.
ten : (k : After-put_fields-place) → k.put_fields-place.result ≡ 10
ten k =
    let e = date_size k.args.contents.now (digits-count 14 k.args.contents.now (sym k.digits_only.ensures ∙ k.if-not-digits_only.false)) in
    omega (arith, k.put_fields-place.ensures.end)

pub slice_bounds-put_fields-end-2 : goal.slice_bounds-put_fields-end-2
slice_bounds-put_fields-end-2 c =
    let n = fourteen (goal.at.slice_bounds-put_fields-end-2 c).Else-not-digits_only in
    sym (length-take-le 8 c.args.contents.now (omega arith))

pub put_fields-place-requires : goal.put_fields-place-requires
put_fields-place-requires c =
    let n = fourteen (goal.at.put_fields-place-requires c).Else-not-digits_only in
    let e = length-take-le 8 c.args.contents.now (omega arith) in
    (omega arith, omega arith)

pub bounds-text-place : goal.bounds-text-place
bounds-text-place c = let e = ten (goal.at.bounds-text-place c).After-put_fields-place in omega arith

pub overflow_add-place : goal.overflow_add-place
overflow_add-place c = let e = ten (goal.at.overflow_add-place c).After-put_fields-place in omega arith

pub slice_bounds-put_fields-count : goal.slice_bounds-put_fields-count
slice_bounds-put_fields-count c = let n = fourteen (goal.at.slice_bounds-put_fields-count c).Else-not-digits_only in omega arith

pub slice_bounds-put_fields-start : goal.slice_bounds-put_fields-start
slice_bounds-put_fields-start c = let n = fourteen (goal.at.slice_bounds-put_fields-start c).Else-not-digits_only in omega arith

pub put_fields-requires : goal.put_fields-requires
put_fields-requires c =
    let e = ten (goal.at.put_fields-requires c).After-put_fields-place in
    let d = time_digits c.args.contents.now (fourteen (goal.at.put_fields-requires c).Else-not-digits_only) in
    let w : length c.put_fields-place.new.room ≡ 19 = search rules in
    (omega arith, simp length-set (omega arith))

pub returns : goal.returns
returns c =
    let a = c.args in
    let e = date_time_stored a.contents.now (fourteen (goal.at.returns c).Else-not-digits_only) refl c.put_fields-place.ensures c.put_fields.ensures in
    rw (passed (goal.at.returns c).Else-not-digits_only) (c.read_value.ensures ∙ ap (λ (l : List ℕ). of_text (read_of a.form l)) e)
