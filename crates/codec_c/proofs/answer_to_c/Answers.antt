use mathlib.Core.Path.{◌∙◌, refl, sym}
use Rattle.answers.specs.Outcomes.{outcome_of, room_of}
use Rattle.codec_c.proofs.answer_to_c.Goals as goal

pub returns-in-Some : goal.returns-in-Some
returns-in-Some c = rw (sym c.limits_given.ensures ∙ c.in-Some.is) (c.answer.ensures)

pub returns-in-None : goal.returns-in-None
unfolding outcome_of room_of
returns-in-None c = rw (sym c.limits_given.ensures ∙ c.in-None.is) (record {
  value = c.refused.ensures;
  room_after = refl;
})
