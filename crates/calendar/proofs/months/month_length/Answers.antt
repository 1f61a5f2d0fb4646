use mathlib.Core.Path.{sym}
use Prim.Native.Nat.{◌-◌}
use native.Mathlib.Omega.{arith}
use Rattle.calendar.specs.Years.{astronomical_of}
use Rattle.calendar.proofs.Laws.Months.{month_at, row_there, no_month_0, no_month_above}
use Rattle.calendar.proofs.months.month_length.Goals as goal

pub returns-then-month-eq0 : goal.returns-then-month-eq0
returns-then-month-eq0 c = sym (no_month_0 _ _ c.if-month-eq0.true)

pub returns-then-month-gt12 : goal.returns-then-month-gt12
returns-then-month-gt12 c = sym (no_month_above _ _ c.if-month-gt12.true)

pub returns : goal.returns
returns c = rw (month_at (astronomical_of c.args.year) c.args.month (omega arith), ← c.leap_year.ensures, c.from-row.ensures) (row_there c.leap_year.result (c.args.month - 1))
