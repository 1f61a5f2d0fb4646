use mathlib.Core.Path.{◌≡◌, refl, ap, ◌∙◌}
use mathlib.Core.List.{List}
use Prim.Native.Nat.{ℕ, ◌+◌, ◌≤◌}
use native.Mathlib.Omega.{arith}
use lib.ListN.{length}
use Rattle.octets.proofs.Laws.Stores.{sets-front}
use Rattle.answers.proofs.Laws.Outcomes.{left_out, put_in}
use Rattle.der_elements.specs.Elements.{contents_of, element}
use Rattle.der_elements.proofs.Laws.Contents.{element-counted}
use Rattle.der.proofs.elements.write_element.Goals as goal
use Rattle.der.proofs.elements.write_element.Goals.{After-tag_of}

abbrev contents : After-tag_of → List ℕ
contents k = let a = k.args in contents_of a.name a.text.now

-- What is counted is the length of the element.
counted : (k : After-tag_of)
    → (length k.tag_of.result.now + 1 + k.count_contents-count.result ≡ length (element k.args.name (contents k)))
    × (length k.tag_of.result.now ≤ 2)
counted k =
    element-counted k.args.name (contents k) (ap length k.tag_of.ensures) k.count_contents-count.ensures.value

pub overflow_add-length : goal.overflow_add-length
overflow_add-length c = let e = counted (goal.at.overflow_add-length c).After-tag_of in omega arith

pub overflow_add-length-2 : goal.overflow_add-length-2
overflow_add-length-2 c = let e = counted (goal.at.overflow_add-length-2 c).After-tag_of in omega (arith, c.count_contents-count.ensures.upper_bound)

pub returns-then-room-length : goal.returns-then-room-length
returns-then-room-length c = left_out _ _ _ (let e = counted (goal.at.returns-then-room-length c).After-tag_of in omega arith) c.refused.ensures refl

pub overflow_cast-count : goal.overflow_cast-count
overflow_cast-count c = omega (arith, c.count_contents-count.ensures.upper_bound, c.requires)

pub put_element-requires : goal.put_element-requires
put_element-requires c = (c.count_contents-count.ensures.value, let e = counted (goal.at.put_element-requires c).After-tag_of in omega arith)

pub returns : goal.returns
returns c = let a = c.args in
    let e = (counted (goal.at.returns c).After-tag_of).0 in
    let h : length (element a.name (contents (goal.at.returns c).After-tag_of)) ≤ length a.room.now = omega arith in
    put_in _ _ _ h (λ i. record { number = 0; bits = record { count = 0 }; length = record { count = e i } })
    (c.put_element.ensures.text ∙ sets-front a.room.now (element a.name (contents (goal.at.returns c).After-tag_of)) h)
