-- Groups that are joined while they wait, and then written.
use mathlib.Core.Path.{◌≡◌, refl, sym, ap, ap₂, ◌∙◌}
use mathlib.Core.Bool.{true}
use mathlib.Core.List.{List, [], ◌++◌, append_assoc, append-nil}
use Prim.Native.Nat.{ℕ, ◌+◌, ◌*◌, ◌≤◌}
use native.Mathlib.Nat.{le_refl, le_trans}
use native.Mathlib.Omega.{arith}
use lib.Dec.{eqb}
use lib.ListN.{length-append, length, take, drop}
use lib.Seq.{length-take-le}
use borrow.Author.Tests.{eqb-true}
use Rattle.octets.proofs.Laws.Cases.{both}
use Rattle.fields.specs.Bits.{BitString, octets_of}
use Rattle.fields.proofs.Laws.Bits.{length-bits, length-unpacked, length_octets}
use Rattle.packing.specs.declared.groups.Group.{Group}
use Rattle.packing.specs.declared.waiting.Waiting.{Waiting}
use Rattle.packing.specs.declared.pens.Pen.{Pen}
use Rattle.packing.specs.Groups.{group_bits}
use Rattle.packing.specs.Writing.{Put, written_bits, finished}
use Rattle.packing.specs.Waiting.{Added, waiting_bits, waiting_count, none_written, closed}
use Rattle.packing.proofs.Laws.Writing.{Wrote, kept, long, wrote_finish, length_group, front-bits}

-- A group that is joined to the one that waits.
pub added_joined : (out : List ℕ) (w r : Waiting) {bs : BitString} → r.pen ≡ w.pen → group_bits r.group ≡ group_bits w.group ++ bs → Added out w bs out r
added_joined out w r {bs} p e =
    let l : length (group_bits r.group) ≡ length (group_bits w.group) + length bs = ap length e ∙ length-append (group_bits w.group) bs in
    let n : ◌≡◌ {A = ℕ} r.pen.octets.count w.pen.octets.count = ap (λ (q : Pen). q.octets.count) p in
    let h : ◌≡◌ {A = ℕ} r.pen.held.count w.pen.held.count = ap (λ (q : Pen). q.held.count) p in
    record {
      bits = ap₂ ◌++◌ (ap (written_bits out) p) e ∙ sym (append_assoc (written_bits out w.pen) (group_bits w.group) bs);
      place = omega (arith, l, length_group r.group, length_group w.group);
      on = omega arith;
      rest = refl;
      len = refl;
    }

-- A group that waits after the one before it is written.
pub added_put : {before after : List ℕ} (w r : Waiting) {p : Pen} {g : Group} → Put before w.pen (group_bits w.group) after p → r.pen ≡ p → r.group ≡ g
    → Added before w (group_bits g) after r
added_put {before} {after} w r {p} {g} e q f =
    let n : ◌≡◌ {A = ℕ} r.pen.octets.count p.octets.count = ap (λ (q : Pen). q.octets.count) q in
    let h : ◌≡◌ {A = ℕ} r.pen.held.count p.held.count = ap (λ (q : Pen). q.held.count) q in
    let k : ◌≡◌ {A = ℕ} r.group.width.count g.width.count = ap (λ (q : Group). q.width.count) f in
    record {
      bits = ap₂ ◌++◌ (ap (written_bits after) q ∙ e.bits) (ap group_bits f);
      place = omega (arith, e.place, length_group g, length_group w.group);
      on = omega (arith, e.place, p.few);
      rest = rw n e.rest;
      len = e.len;
    }

-- Nothing is appended.
pub added_none : (out : List ℕ) (w : Waiting) → Added out w [] out w
added_none out w = record {
  bits = sym (append-nil (waiting_bits out w));
  place = omega arith;
  on = le_refl w.pen.octets.count;
  rest = refl;
  len = refl;
}

-- Bits are appended, and more after them.
pub added_twice : {out mid after : List ℕ} {w v r : Waiting} {bs cs : BitString} → Added out w bs mid v → Added mid v cs after r
    → Added out w (bs ++ cs) after r
added_twice {out} {mid} {after} {w} {v} {r} {bs} {cs} e f = record {
  bits = f.bits ∙ ap (◌++ cs) e.bits ∙ append_assoc (waiting_bits out w) bs cs;
  place = f.place ∙ ap (λ (n : ℕ). n + length cs) e.place ∙ omega (arith, length-append bs cs);
  on = le_trans e.on f.on;
  rest = f.rest ∙ kept mid out v.pen.octets.count r.pen.octets.count f.on e.rest;
  len = f.len ∙ e.len;
}

-- How many bits are written or wait, where they fit the buffer.
length_waiting : (out : List ℕ) (w : Waiting) → waiting_count w ≤ 8 * length out → length (waiting_bits out w) ≡ waiting_count w
length_waiting out w h =
    let l : length (take w.pen.octets.count out) ≡ w.pen.octets.count = length-take-le w.pen.octets.count out (omega arith) in
    simp (length-append, length-unpacked, length-bits, length_group, l)

-- All is written, and the last octet filled.
pub closed_put : {before after : List ℕ} (w : Waiting) (p : Pen) → waiting_count w ≤ 8 * length before
    → Put before w.pen (group_bits w.group) after p → finished after p ≡ closed before w
unfolding closed
closed_put {before} {after} w p h e =
    let n : 8 * p.octets.count + p.held.count ≡ length (waiting_bits before w) =
    omega (arith, e.place, length_waiting before w h, length_group w.group) in
    let all : Wrote before (waiting_bits before w) after p = record { bits = e.bits; place = n; rest = e.rest; len = e.len } in
    wrote_finish all

-- A buffer that was room, with the bits that were appended from the beginning.
pub closed_added : {room out : List ℕ} {w r : Waiting} {bs : BitString} → Added room w bs out r → waiting_count r ≤ 8 * length out
    → {cs : BitString} → waiting_bits room w ++ bs ≡ cs → closed out r ≡ octets_of cs ++ drop (length (octets_of cs)) room
unfolding closed
closed_added {room} {out} {w} {r} e h {cs} k =
    let b : waiting_bits out r ≡ cs = e.bits ∙ k in
    let n = length_waiting out r h in
    let l : r.pen.octets.count ≤ length (octets_of cs) =
    rw (length_octets cs) (long r.pen.octets.count (r.pen.held.count + r.group.width.count) (length cs) (omega (arith, n, ap length b))) in
    ap (λ (b : BitString). octets_of b ++ drop (length (octets_of b)) out) b
    ∙ ap (octets_of cs ++◌) (kept out room r.pen.octets.count (length (octets_of cs)) l e.rest)

-- Where none is written, all bits wait.
pub none_written_lem : (out : List ℕ) (w : Waiting) → none_written w ≡ true → waiting_bits out w ≡ group_bits w.group
unfolding none_written
none_written_lem out w h =
    let p = both (eqb w.pen.octets.count 0) (eqb w.pen.held.count 0) h in
    ap (◌++ group_bits w.group) (front-bits out w.pen (eqb-true w.pen.octets.count 0 p.0) (eqb-true w.pen.held.count 0 p.1))
