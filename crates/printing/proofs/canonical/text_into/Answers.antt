use native.Mathlib.Omega.{arith}
use Rattle.printing.proofs.Laws.Canonical.{many_digits, short_buffer, not-printed, printed}
use Rattle.printing.proofs.canonical.text_into.Goals as goal

pub returns-then-fraction_digits-gt9 : goal.returns-then-fraction_digits-gt9
returns-then-fraction_digits-gt9 c = record {
  value = (not-printed _ _ (many_digits _ _ (omega (arith, c.fraction_digits.ensures)))).0;
  buffer_after = (not-printed _ _ (many_digits _ _ (omega (arith, c.fraction_digits.ensures)))).1;
}

pub returns-then-buffer-lt-TEXT_CAPACITY : goal.returns-then-buffer-lt-TEXT_CAPACITY
returns-then-buffer-lt-TEXT_CAPACITY c = record {
  value = (not-printed _ _ (short_buffer _ _ c.if-buffer-lt-TEXT_CAPACITY.true)).0;
  buffer_after = (not-printed _ _ (short_buffer _ _ c.if-buffer-lt-TEXT_CAPACITY.true)).1;
}

pub returns : goal.returns
returns c = record {
  value = (printed _ _ (omega (arith, c.fraction_digits.ensures)) c.if-buffer-lt-TEXT_CAPACITY.false c.put_value.ensures.stored_text).0;
  buffer_after = (printed _ _ (omega (arith, c.fraction_digits.ensures)) c.if-buffer-lt-TEXT_CAPACITY.false c.put_value.ensures.stored_text).1;
}
