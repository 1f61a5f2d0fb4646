use mathlib.Core.Path.{sym}
use native.Mathlib.Omega.{arith}
use Rattle.std.proofs.lemmas.List.{get_or-take}
use Rattle.reading.proofs.Laws.Digits.{digits-small, digits-stop, digits_length, drop_at}
use Rattle.reading.proofs.text_fields.digits.Goals as goal

pub returns-in_err-front : goal.returns-in_err-front
returns-in_err-front c = rw (c.from_residual.ensures, digits_length _ _ c.in_err-front.ensures.cases)

pub returns-then-not-is_ascii_digit : goal.returns-then-not-is_ascii_digit
returns-then-not-is_ascii_digit c =
    let s = c.in_ok-front.ensures.cases in
    let at = drop_at c.args.text.now c.loop-c.c-index (omega (arith, s.0, s.3)) in
    let octet = get_or-take c.args.width c.args.text.now c.loop-c.c-index 0 (omega (arith, s.3)) in
    sym (digits-stop _ _ _ _ _ c.loop-c.invariant (rw (at, ← octet, ← s.1, ← c.if-not-is_ascii_digit.ensures.value)) (omega (arith, s.3)))

pub overflow_mul-number : goal.overflow_mul-number
overflow_mul-number c =
    let s = c.in_ok-front.ensures.cases in
    omega (arith, digits-small c.loop-c.c-index _ _ _ c.loop-c.invariant (omega (arith, s.3)))

pub overflow_add-number : goal.overflow_add-number
overflow_add-number c =
    let s = c.in_ok-front.ensures.cases in
    omega (arith, digits-small c.loop-c.c-index _ _ _ c.loop-c.invariant (omega (arith, s.3)), c.if-not-is_ascii_digit.ensures.bound)
