use mathlib.Core.Path.{sym, ◌∙◌}
use Rattle.lists.proofs.words.time_word.Goals as goal

pub returns-in-Some : goal.returns-in-Some
returns-in-Some c = rw (sym c.place_in.ensures ∙ c.in-Some.is)

pub returns-in-None : goal.returns-in-None
returns-in-None c = rw (sym c.place_in.ensures ∙ c.in-None.is) c.fraction.ensures
