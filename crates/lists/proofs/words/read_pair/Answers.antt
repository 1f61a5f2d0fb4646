use mathlib.Core.Path.{sym, ◌∙◌}
use native.Mathlib.Omega.{arith}
use lib.ListN.{get_or}
use borrow.Author.Tests.{eqb-true, ne_eqb}
use Rattle.lists.proofs.Laws.Words.{interval_first, no_pair, only_table, or_none}
use Rattle.lists.proofs.words.read_pair.Goals as goal

pub returns-then-is_empty : goal.returns-then-is_empty
returns-then-is_empty c = no_pair _ (eqb-true _ _ (sym c.is_empty.ensures ∙ c.if-is_empty.true))

pub returns-in-66 : goal.returns-in-66
returns-in-66 c = c.found.ensures ∙ rw (c.place_in.ensures, only_table, c.in-66.is, or_none)

pub returns-in-68 : goal.returns-in-68
returns-in-68 c = c.found-in-68.ensures ∙ rw (c.place_in-in-68.ensures, only_table, c.in-68.is, or_none)

pub returns-in-89 : goal.returns-in-89
returns-in-89 c = c.found-in-89.ensures ∙ rw (c.place_in-in-89.ensures, only_table, c.in-89.is, or_none)

pub returns-in-84 : goal.returns-in-84
returns-in-84 c = c.found-in-84.ensures ∙ rw (c.time_word.ensures, only_table, c.in-84.is, or_none)

pub returns-in-76 : goal.returns-in-76
returns-in-76 c = c.found-in-76.ensures ∙ rw (c.place_in-in-76.ensures, only_table, c.in-76.is, or_none)

pub returns-in_default : goal.returns-in_default
returns-in_default c = c.found-in_default.ensures ∙ rw (
  c.place_in-in_default.ensures,
  only_table,
  ne_eqb (get_or c.args.s.now 0 0) 66 (omega arith),
  ne_eqb (get_or c.args.s.now 0 0) 68 (omega arith),
  ne_eqb (get_or c.args.s.now 0 0) 89 (omega arith),
  ne_eqb (get_or c.args.s.now 0 0) 84 (omega arith),
  ne_eqb (get_or c.args.s.now 0 0) 76 (omega arith),
  interval_first,
)
