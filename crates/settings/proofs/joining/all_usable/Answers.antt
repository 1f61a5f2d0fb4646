use mathlib.Core.Path.{◌∙◌}
use borrow.Author.Rules.{rules}
use borrow.Author.Tests.{tests}
use Rattle.std.specs.Prelude.{Some}
use Rattle.std.proofs.lemmas.Iterator.{YieldsList-from_slice}
use Rattle.std.proofs.lemmas.Iterator.Search.{all_from_yields_List}
use Rattle.type_texts.specs.TypeTexts.{usable}
use Rattle.type_texts.proofs.Laws.Walks.{all_of-is}
use Rattle.settings.proofs.joining.all_usable.Goals as goal

pub returns : goal.returns
returns c =
    all_from_yields_List (λ s. usable c.args.limits (Some s)) _ _ _ c.all.ensures.ran (YieldsList-from_slice c.args.lists.now cc)
    (λ x b q k. search (rules, tests))
    ∙ all_of-is (usable c.args.limits) c.args.lists.now
