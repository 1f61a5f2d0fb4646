use native.Mathlib.Omega.{arith}
use Rattle.printing.proofs.Laws.Durations.{can_print_duration, far_last, many_fraction-digits, short-room, duration-not-printed, duration-printed}
use Rattle.printing.proofs.duration.duration_into.Goals as goal

pub returns-then-duration-gt6 : goal.returns-then-duration-gt6
returns-then-duration-gt6 c = record {
  value = (duration-not-printed _ _ (far_last _ _ c.if-duration-gt6.true)).0;
  buffer_after = (duration-not-printed _ _ (far_last _ _ c.if-duration-gt6.true)).1;
}

pub returns-then-duration-gt9 : goal.returns-then-duration-gt9
returns-then-duration-gt9 c = record {
  value = (duration-not-printed _ _ (many_fraction-digits _ _ c.if-duration-gt9.true)).0;
  buffer_after = (duration-not-printed _ _ (many_fraction-digits _ _ c.if-duration-gt9.true)).1;
}

pub returns-then-buffer-lt-TEXT_CAPACITY : goal.returns-then-buffer-lt-TEXT_CAPACITY
returns-then-buffer-lt-TEXT_CAPACITY c = record {
  value = (duration-not-printed _ _ (short-room _ _ (omega arith))).0;
  buffer_after = (duration-not-printed _ _ (short-room _ _ (omega arith))).1;
}

pub returns : goal.returns
returns c = let p = c.put_duration in
    let q = can_print_duration _ _ c.if-duration-gt6.false c.if-duration-gt9.false c.if-buffer-lt-TEXT_CAPACITY.false in record {
      value = (duration-printed _ _ q (omega (arith, p.ensures.upper_bound, c.if-buffer-lt-TEXT_CAPACITY.false)) p.ensures.stored_text).0;
      buffer_after = (duration-printed _ _ q (omega (arith, p.ensures.upper_bound, c.if-buffer-lt-TEXT_CAPACITY.false)) p.ensures.stored_text).1;
    }
