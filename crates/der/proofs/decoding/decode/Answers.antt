use mathlib.Core.Path.{refl, sym, ◌∙◌}
use Rattle.answers.specs.Outcomes.{outcome_of, room_of}
use Rattle.kinds.specs.Coding.{decoded, judged_octets}
use Rattle.held_values.proofs.Laws.Existing.{judged-held}
use Rattle.held_values.proofs.Laws.Holding.{held}
use Rattle.der_elements.proofs.Laws.Der.{der-judged_as}
use Rattle.der.proofs.decoding.decode.Goals as goal

pub returns-then-not-well_formed : goal.returns-then-not-well_formed
unfolding decoded outcome_of room_of
returns-then-not-well_formed c = rw (sym c.well_formed-2.ensures ∙ c.if-not-well_formed.true) (record {
  value = c.refused.ensures;
  room_after = refl;
})

pub returns-in_default : goal.returns-in_default
unfolding decoded judged_octets outcome_of room_of
returns-in_default c = rw (
  sym c.well_formed-2.ensures ∙ c.if-not-well_formed.false,
  ← c.name.ensures,
  ← c.form.ensures,
  sym c.read_element.ensures ∙ c.in_default.is,
) (record {
  value = c.refused-in_default.ensures;
  room_after = refl;
})

pub compare-requires : goal.compare-requires
compare-requires c = (held _ _ (judged-held _ _ (sym c.judge.ensures ∙ c.in-Ok.is))).0

pub returns-in-Ok : goal.returns-in-Ok
unfolding decoded judged_octets
returns-in-Ok c = rw (
  sym c.well_formed-2.ensures ∙ c.if-not-well_formed.false,
  ← c.name.ensures,
  ← c.form.ensures,
  sym c.read_element.ensures ∙ c.in-Some.is,
  der-judged_as _ _ _,
  sym c.judge.ensures ∙ c.in-Ok.is,
) (c.compare.ensures)

pub returns-in-Err : goal.returns-in-Err
unfolding decoded judged_octets outcome_of room_of
returns-in-Err c = rw (
  sym c.well_formed-2.ensures ∙ c.if-not-well_formed.false,
  ← c.name.ensures,
  ← c.form.ensures,
  sym c.read_element.ensures ∙ c.in-Some.is,
  der-judged_as _ _ _,
  sym c.judge.ensures ∙ c.in-Err.is,
) (record {
  value = c.refused-in-Err.ensures;
  room_after = refl;
})
