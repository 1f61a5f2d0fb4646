-- The reply at the front of a lent room.
use Rattle.std.specs.Prelude.{ℕ, cond, List, ◌++◌, leb, length, drop}
use Rattle.line_replies.specs.Lines.{reply_of}

-- How many octets a room for replies has: the longest reply, and slack.
abbrev pub reply_capacity : ℕ
reply_capacity = 288

-- The length of the reply that is put there, 0 where the room is shorter.
unfoldable pub reply_length : List ℕ → List ℕ → ℕ
reply_length line room = cond (leb reply_capacity (length room)) (length (reply_of line)) 0

-- The room with the reply at its front and the rest kept, or untouched where it is shorter.
unfoldable pub room_with : List ℕ → List ℕ → List ℕ
room_with line room = cond (leb reply_capacity (length room)) (reply_of line ++ drop (length (reply_of line)) room) room
