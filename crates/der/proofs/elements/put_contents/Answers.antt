use mathlib.Core.Path.{ap, refl, sym, ◌∙◌}
use native.Mathlib.Omega.{arith}
use lib.ListN.{length, length-set}
use Rattle.octets.proofs.Laws.Stores.{put_none, put_octet, put_rest}
use Rattle.der_elements.proofs.Laws.Contents.{contents-counted, contents-end, contents_step, octet_kept, octet_omitted}
use Rattle.der.proofs.elements.put_contents.Goals as goal
use Rattle.der.proofs.elements.put_contents.Goals.{then-not-omits, else-not-omits}

pub bounds-room-place : goal.bounds-room-place
bounds-room-place c =
    let a = c.args in
    let o = octet_kept a.name _ (sym c.omits.ensures ∙ c.if-not-omits.true) in
    let e = contents-counted a.name a.text.now c.loop-octet.octet-index c.loop-octet-test.true refl in
    omega (arith, ap length o, c.loop-octet.invariant.1.end)

pub loop-octet-preserved : goal.loop-octet-preserved
loop-octet-preserved c =
    let a = c.args in
    let s = contents_step a.name a.text.now c.loop-octet.octet-index c.loop-octet-test.true in
    elim c.if-not-omits.branch [
      | then-not-omits w ↦ rw (w.room-is, w.place-is) (
        length-set _ _ _ ∙ c.loop-octet.invariant.0,
        put_rest (put_octet (put_none _ _)) (rw (s, octet_kept a.name _ (sym c.omits.ensures ∙ w.if-not-omits.true)) at c.loop-octet.invariant.1),
      )
      | else-not-omits w ↦ rw (w.room-is, w.place-is) (
        c.loop-octet.invariant.0,
        rw (s, octet_omitted a.name _ (sym c.omits.ensures ∙ w.if-not-omits.false)) at c.loop-octet.invariant.1,
      )
    ]

pub returns : goal.returns
returns c =
    let a = c.args in
    let l = c.loop-octet in
    let q = rw (contents-end a.name a.text.now l.octet-index (omega arith)) at l.invariant.1 in
    record { text = sym q.text; end = omega (arith, q.end) }
