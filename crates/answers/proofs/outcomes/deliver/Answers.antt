use mathlib.Core.Path.{refl}
use native.Mathlib.Omega.{arith}
use Rattle.octets.proofs.Laws.Stores.{put_front}
use Rattle.answers.proofs.Laws.Outcomes.{left_out, put_in}
use Rattle.answers.proofs.outcomes.deliver.Goals as goal

pub returns-then-room-count : goal.returns-then-room-count
returns-then-room-count c = left_out _ _ _ (omega arith) c.refused.ensures refl

pub returns : goal.returns
returns c = put_in _ _ _ (omega arith) refl (put_front _ _ (omega arith) c.put_octets.ensures.room_after)
