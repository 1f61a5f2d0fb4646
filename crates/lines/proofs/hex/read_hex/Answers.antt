use mathlib.Core.Path.{refl, sym, ◌∙◌}
use Prim.Native.Nat.{◌-◌}
use native.Mathlib.Omega.{arith}
use lib.ListN.{drop, length, length-drop, length-set}
use lib.Seq.{take_all}
use Rattle.lines.proofs.Laws.Hex.{pair_read, first_bad, second_bad, half_left, none_left}
use Rattle.lines.proofs.hex.read_hex.Goals as goal

pub returns-in_err-hex_number-clause-buffer_after : goal.returns-in_err-hex_number-clause-buffer_after
returns-in_err-hex_number-clause-buffer_after c = rw (c.from_residual.ensures, first_bad _ _ _ _ c.loop-rest.invariant.2 c.in-len2-up.len_at_least (rw c.in_err-hex_number.was at c.hex_number.ensures)) refl

pub returns-in_err-buffer-clause-buffer_after : goal.returns-in_err-buffer-clause-buffer_after
returns-in_err-buffer-clause-buffer_after c = rw (c.from_residual-in_err-buffer.ensures, second_bad _ _ _ _ c.loop-rest.invariant.2 c.in-len2-up.len_at_least (rw c.in_err-buffer.was at c.hex_number-in-len2-up.ensures)) refl

pub loop-rest-preserved : goal.loop-rest-preserved
loop-rest-preserved c =
    let l = c.loop-rest in
    let h = rw c.in_ok-hex_number.was at c.hex_number.ensures in
    let k = rw c.in_ok-buffer.was at c.hex_number-in-len2-up.ensures in
    let d = length-drop 2 l.rest.now in
    rw (take_all (length l.rest.now - 2) (drop 2 l.rest.now) (omega (arith, d))) (
      omega (arith, d, l.invariant.0, c.in-len2-up.len_at_least),
      simp length-set l.invariant.1,
      pair_read _ _ _ _ l.invariant.2 _ _ c.in-len2-up.len_at_least (omega arith) h.1 k.1 (omega (arith, h.0, h.1)) (omega (arith, k.0, k.1)),
    )

pub returns-then-is_empty-clause-buffer_after : goal.returns-then-is_empty-clause-buffer_after
returns-then-is_empty-clause-buffer_after c = sym (none_left _ _ _ _ c.loop-rest.invariant.2 (sym c.is_empty.ensures ∙ c.if-is_empty.true))

pub returns-else-is_empty-clause-buffer_after : goal.returns-else-is_empty-clause-buffer_after
returns-else-is_empty-clause-buffer_after c = sym (half_left _ _ _ _ c.loop-rest.invariant.2 (sym c.is_empty.ensures ∙ c.if-is_empty.false) c.in_default.len_below)
