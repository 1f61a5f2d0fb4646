use mathlib.Core.Path.{sym, ◌∙◌}
use native.Mathlib.Omega.{arith}
use lib.ListN.{length-set}
use Rattle.der_elements.proofs.Laws.Readings.{first_put, first_size, put_separated, second_put, second_size, third_put}
use Rattle.der.proofs.readings.put_fields.Goals as goal

pub slice_bounds-put_octets-end : goal.slice_bounds-put_octets-end
slice_bounds-put_octets-end c = sym (first_size _ _ c.requires.0)

pub bounds-room-first : goal.bounds-room-first
bounds-room-first c =
    let a = c.args in
    let f = first_put a.width a.digits.now c.requires.0 c.requires.1 (c.put_octets-first.ensures.value, c.put_octets-first.ensures.room_after) in
    let z = first_size a.width a.digits.now c.requires.0 in
    omega (arith, c.requires.1, f.end, c.put_octets-first.auto.room)

pub overflow_add-first : goal.overflow_add-first
overflow_add-first c =
    let a = c.args in
    let f = first_put a.width a.digits.now c.requires.0 c.requires.1 (c.put_octets-first.ensures.value, c.put_octets-first.ensures.room_after) in
    let z = first_size a.width a.digits.now c.requires.0 in
    omega (arith, c.requires.1, f.end, c.put_octets-first.auto.room)

pub bounds-room-second : goal.bounds-room-second
bounds-room-second c =
    let a = c.args in
    let f = first_put a.width a.digits.now c.requires.0 c.requires.1 (c.put_octets-first.ensures.value, c.put_octets-first.ensures.room_after) in
    let z = first_size a.width a.digits.now c.requires.0 in
    let g = second_put a.width a.digits.now c.requires.0 c.requires.1 a.separator f c.put_octets-first.auto.room (c.put_octets-second.ensures.value, c.put_octets-second.ensures.room_after) in
    let y = second_size a.width a.digits.now c.requires.0 in
    let j = simp length-set at c.put_octets-second.auto.room in
    omega (arith, c.requires.1, f.end, g.end, c.put_octets-first.auto.room)

pub overflow_add-second : goal.overflow_add-second
overflow_add-second c =
    let a = c.args in
    let f = first_put a.width a.digits.now c.requires.0 c.requires.1 (c.put_octets-first.ensures.value, c.put_octets-first.ensures.room_after) in
    let z = first_size a.width a.digits.now c.requires.0 in
    let g = second_put a.width a.digits.now c.requires.0 c.requires.1 a.separator f c.put_octets-first.auto.room (c.put_octets-second.ensures.value, c.put_octets-second.ensures.room_after) in
    let y = second_size a.width a.digits.now c.requires.0 in
    let j = simp length-set at c.put_octets-second.auto.room in
    omega (arith, c.requires.1, f.end, g.end, c.put_octets-first.auto.room)

pub shape_of-room : goal.shape_of-room
shape_of-room c =
    (simp length-set at c.put_octets.auto.room) ∙ (simp length-set at c.put_octets-second.auto.room) ∙ c.put_octets-first.auto.room

pub returns : goal.returns
returns c =
    let a = c.args in
    let f = first_put a.width a.digits.now c.requires.0 c.requires.1 (c.put_octets-first.ensures.value, c.put_octets-first.ensures.room_after) in
    let g = second_put a.width a.digits.now c.requires.0 c.requires.1 a.separator f c.put_octets-first.auto.room (c.put_octets-second.ensures.value, c.put_octets-second.ensures.room_after) in
    put_separated a.width a.digits.now c.requires.0 a.separator f g
    (third_put a.width a.digits.now c.requires.0 c.requires.1 a.separator f c.put_octets-first.auto.room g c.put_octets-second.auto.room
    (c.put_octets.ensures.value, c.put_octets.ensures.room_after))
