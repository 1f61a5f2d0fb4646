use borrow.Author.Tests.{tests}
use mathlib.Core.Path.{◌∙◌}
use native.Mathlib.Omega.{arith}
use Rattle.std.proofs.Common.{rules}
use Rattle.std.proofs.lemmas.Iterator.{YieldsList-from_slice}
use Rattle.std.proofs.lemmas.Iterator.Search.{position_from_yields_List}
use Rattle.std.specs.Prelude.{◌==◌}
use Rattle.octets.proofs.Laws.Pieces.{place_found, span_le}
use Rattle.octets.proofs.span_to.Goals as goal

pub returns : goal.returns
returns c =
    let octet = c.args.octet in
    let left = c.skip_fours-left in
    let found = position_from_yields_List (λ x. x == octet) _ _ c.position.result c.position.ensures.ran
    (YieldsList-from_slice left.result.now cc) (λ x b q k. search (rules, tests)) in
    let value = c.unwrap_or.ensures ∙ place_found octet left.result.now c.position.result found in
    record {
      value = omega (arith, value, left.ensures.value);
      within = omega (arith, value, span_le octet left.result.now, left.ensures.within);
    }
