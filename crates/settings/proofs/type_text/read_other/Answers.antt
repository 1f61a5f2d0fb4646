use mathlib.Core.Path.{sym, ◌∙◌}
use mathlib.Core.Bool.{false}
use Rattle.type_texts.proofs.Laws.TypeTexts.{duration-found}
use Rattle.settings.proofs.type_text.read_other.Goals as goal

pub returns-then-same : goal.returns-then-same
returns-then-same c = rw (sym c.same.ensures ∙ c.if-same.true) (c.unlimited.ensures ∙ duration-found _ false)
