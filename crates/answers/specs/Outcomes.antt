-- What an entry point answers, and what it leaves in the lent room.
use Rattle.std.specs.Prelude.{ℕ, Bool, cond, List, ◌++◌, leb, length, drop}
use Rattle.answers.specs.declared.counts.Bits.{Bits}
use Rattle.answers.specs.declared.outcomes.Outcome.{Outcome}
use Rattle.answers.specs.declared.refusals.Refusal.{Refusal}
use Rattle.answers.specs.Refusals.{number_of}

-- The octets of a result with their bit count, or a refusal.
pub data Answer : Type 0 where
  done : List ℕ → Bits → Answer
  refused : Refusal → Answer

-- "A refusal: number, length 0, bit count 0, .."
abbrev pub refusal : Refusal → Outcome
refusal why = record { number = number_of why; bits = record { count = 0 }; length = record { count = 0 } }

-- "Success is 0: .. its length, and the bit count"
abbrev pub success : List ℕ → Bits → Outcome
success result bits = record { number = 0; bits = bits; length = record { count = length result } }

-- Whether a result has its place in the room; 7 is given where "the lent room is shorter than the result".
unfoldable pub fits : List ℕ → List ℕ → Bool
fits result room = leb (length result) (length room)

-- What is returned for an answer and the room that was lent.
unfoldable pub outcome_of : Answer → List ℕ → Outcome
outcome_of (done result bits) room = cond (fits result room) (success result bits) (refusal Refusal.Room)
outcome_of (refused why) room = refusal why

-- What the room then holds: "result at the front of the room, the rest of it unchanged"; after a refusal "room untouched".
unfoldable pub room_of : Answer → List ℕ → List ℕ
room_of (done result bits) room = cond (fits result room) (result ++ drop (length result) room) room
room_of (refused why) room = room
