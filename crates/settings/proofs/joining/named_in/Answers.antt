use mathlib.Core.Path.{◌∙◌}
use lib.Dec.{eqb}
use borrow.Author.Rules.{rules}
use borrow.Author.Tests.{tests}
use Rattle.std.proofs.lemmas.Iterator.{YieldsList-from_slice}
use Rattle.std.proofs.lemmas.Iterator.Search.{any_from_yields_List}
use Rattle.std.specs.Prelude.{Some}
use Rattle.lists.specs.Lists.{year_in}
use Rattle.type_texts.proofs.Laws.Walks.{member-is}
use Rattle.settings.proofs.joining.named_in.Goals as goal

pub returns : goal.returns
returns c =
    any_from_yields_List (λ s. eqb (year_in (Some s)) c.args.number) _ _ _ c.any.ensures.ran (YieldsList-from_slice c.args.lists.now cc)
    (λ x b q k. search (rules, tests))
    ∙ member-is c.args.number c.args.lists.now
