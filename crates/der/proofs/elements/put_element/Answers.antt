use native.Mathlib.Omega.{arith}
use lib.ListN.{length-set}
use Rattle.octets.specs.Stores.{StoredText}
use Rattle.octets.proofs.Laws.Stores.{put_octet, put_then, put_there}
use Rattle.der_elements.specs.Elements.{contents_of, element, tag_of}
use Rattle.der_elements.proofs.Laws.Contents.{element_size}
use Rattle.der.proofs.elements.put_element.Goals as goal
use Rattle.der.proofs.elements.put_element.Goals.{After-put_octets-at}

-- The tag stands at the front.
tag_put : (k : After-put_octets-at) → StoredText k.args.room.now k.put_octets-at.new.room 0 (tag_of k.args.name) k.put_octets-at.result
tag_put k =
    let e = element_size k.args.name (contents_of k.args.name k.args.text.now) in
    rw (← k.tag_of.ensures) (put_there (k.put_octets-at.ensures.value, k.put_octets-at.ensures.room_after) (rw k.tag_of.ensures (omega (arith, k.requires.1))))

pub bounds-room-at : goal.bounds-room-at
bounds-room-at c =
    let e = element_size c.args.name (contents_of c.args.name c.args.text.now) in
    let t = tag_put (goal.at.bounds-room-at c).After-put_octets-at in
    omega (arith, c.requires.1, t.end, c.put_octets-at.auto.room)

pub overflow_add-at : goal.overflow_add-at
overflow_add-at c =
    let e = element_size c.args.name (contents_of c.args.name c.args.text.now) in
    let t = tag_put (goal.at.overflow_add-at c).After-put_octets-at in
    omega (arith, t.end)

pub put_contents-requires : goal.put_contents-requires
put_contents-requires c =
    let e = element_size c.args.name (contents_of c.args.name c.args.text.now) in
    let t = tag_put (goal.at.put_contents-requires c).After-put_octets-at in
    simp length-set (omega (arith, c.requires.1, t.end, c.put_octets-at.auto.room))

pub returns : goal.returns
unfolding element
returns c =
    rw (← c.requires.0)
    (put_then (tag_put (goal.at.returns c).After-put_octets-at) (put_octet c.put_contents.ensures))
