use native.Mathlib.Omega.{arith}
use borrow.Author.Tests.{lt-ltb, le-ltb}
use Rattle.calendar.specs.Years.{astronomical_of}
use Rattle.printing.proofs.Laws.Canonical.{text_before, text_since}
use Rattle.printing.proofs.parts.put_year.Goals as goal

pub returns-then-n-lt10000 : goal.returns-then-n-lt10000
returns-then-n-lt10000 c = let e = text_since (astronomical_of c.args.year) c.distance.ensures c.in-Since.is in record {
  stored_text = rw (e, lt-ltb _ _ c.if-n-lt10000.true) c.put_digits.ensures.stored_text;
  upper_bound = omega arith;
}

pub returns-in-Before : goal.returns-in-Before
returns-in-Before c = let e = text_before (astronomical_of c.args.year) c.distance.ensures c.in-Before.is in record {
  stored_text = rw (e, ← c.year_digits.ensures.value) c.put_field.ensures.stored_text;
  upper_bound = omega arith;
}

pub returns-else-n-lt10000 : goal.returns-else-n-lt10000
returns-else-n-lt10000 c = let e = text_since (astronomical_of c.args.year) c.distance.ensures c.in-Since.is in record {
  stored_text = rw (e, le-ltb _ _ c.if-n-lt10000.false, ← c.year_digits-in-Since.ensures.value) c.put_field-in-Since.ensures.stored_text;
  upper_bound = omega arith;
}
