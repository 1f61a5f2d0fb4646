use mathlib.Core.Path.{◌∙◌, refl, sym}
use Rattle.answers.specs.Outcomes.{outcome_of, room_of}
use Rattle.held_values.proofs.Laws.Existing.{admitted-held}
use Rattle.held_values.proofs.Laws.Holding.{held}
use Rattle.der_elements.proofs.Laws.Der.{der-admitted}
use Rattle.der.proofs.elements.encode.Goals as goal

pub write_value-requires : goal.write_value-requires
write_value-requires c =
    (held _ _ (admitted-held _ _ _ (sym c.admit.ensures ∙ c.in-Ok.is)).1).0

pub returns-in-Ok : goal.returns-in-Ok
returns-in-Ok c = rw (
  der-admitted c.args.t c.args.text.now,
  sym c.admit.ensures ∙ c.in-Ok.is,
  ← c.name.ensures,
) (c.write_value.ensures)

pub returns-in-Err : goal.returns-in-Err
unfolding outcome_of room_of
returns-in-Err c = rw (der-admitted c.args.t c.args.text.now, sym c.admit.ensures ∙ c.in-Err.is) (record {
  value = c.refused.ensures;
  room_after = refl;
})
