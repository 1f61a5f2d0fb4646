use mathlib.Core.Path.{◌∙◌, refl, sym}
use Rattle.answers.specs.Outcomes.{outcome_of, room_of}
use Rattle.durations.proofs.Laws.Values.{read_only}
use Rattle.der.proofs.duration.encode_duration.Goals as goal

pub returns-in_default : goal.returns-in_default
unfolding outcome_of room_of
returns-in_default c = rw (sym c.read_duration.ensures ∙ c.in_default.is) (record {
  value = c.refused.ensures;
  room_after = refl;
})

pub write_duration-requires : goal.write_duration-requires
write_duration-requires c = (read_only _ _ (sym c.read_duration.ensures ∙ c.in-Some.is)).exists

pub returns : goal.returns
returns c = rw (sym c.read_duration.ensures ∙ c.in-Some.is) (c.write_duration.ensures)
