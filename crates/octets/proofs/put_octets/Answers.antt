use native.Mathlib.Omega.{arith}
use Rattle.octets.proofs.Laws.Stores.{put_all, put_nothing, copied}
use Rattle.octets.proofs.put_octets.Goals.{then-room-at-via-then-room-at, then-room-at-via-else-room-at+then-room-at-2}
use Rattle.octets.proofs.put_octets.Goals as goal

pub returns-then-room-at : goal.returns-then-room-at
returns-then-room-at c = put_nothing _ _ _
    (elim c.then-room-at.branch [ then-room-at-via-then-room-at w ↦ omega arith | then-room-at-via-else-room-at+then-room-at-2 w ↦ omega arith ])

pub returns : goal.returns
returns c = rw (c.copy_from_slice.ensures.after) (put_all (omega arith) (copied _ _ _ (omega arith)))
