use mathlib.Core.Path.{◌∙◌, refl, sym}
use Rattle.answers.specs.Outcomes.{outcome_of, room_of}
use Rattle.der_elements.proofs.Laws.Durations.{duration-reads}
use Rattle.der.proofs.duration.decode_duration.Goals as goal

pub returns-in_default : goal.returns-in_default
unfolding outcome_of room_of
returns-in_default c = rw (sym c.read_element.ensures ∙ c.in_default.is) (record {
  value = c.refused.ensures;
  room_after = refl;
})

pub compare_duration-requires : goal.compare_duration-requires
compare_duration-requires c = (duration-reads _ _ _ (sym c.read_element.ensures ∙ c.in-Some.is)).1.exists

pub returns : goal.returns
returns c = rw (sym c.read_element.ensures ∙ c.in-Some.is) (c.compare_duration.ensures)
