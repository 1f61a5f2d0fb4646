use mathlib.Core.Path.{◌∙◌, sym}
use Rattle.held_values.proofs.Laws.Existing.{printed-text}
use Rattle.held_values.specs.Written.{written}
use Rattle.values.proofs.written.write_text.Goals as goal

pub returns : goal.returns
unfolding written
returns c =
    let exists = sym c.value_exists.ensures ∙ c.if-not-value_exists.false in
    rw (exists, ← printed-text _ exists) c.deliver_text.ensures
