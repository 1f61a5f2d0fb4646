-- What is written where a group waits at a pen.
use Rattle.std.specs.Prelude.{ℕ, ◌+◌, ◌*◌, ◌≤◌, ◌≡◌, Bool, ◌&&◌, List, ◌++◌, eqb, length, drop}
use Rattle.answers.specs.declared.counts.Bits.{Bits}
use Rattle.fields.specs.Bits.{BitString, octets_of}
use Rattle.packing.specs.declared.waiting.Waiting.{Waiting}
use Rattle.packing.specs.Groups.{group_bits}
use Rattle.packing.specs.Writing.{written_bits}

-- The bits written so far, and after them those that wait.
abbrev pub waiting_bits : List ℕ → Waiting → BitString
waiting_bits out w = written_bits out w.pen ++ group_bits w.group

-- How many they are.
abbrev pub waiting_count : Waiting → ℕ
waiting_count w = 8 * w.pen.octets.count + w.pen.held.count + w.group.width.count

abbrev pub waiting_total : Waiting → Bits
waiting_total w = record { count = waiting_count w }

-- Whether all bits wait.
unfoldable pub none_written : Waiting → Bool
none_written w = eqb w.pen.octets.count 0 && eqb w.pen.held.count 0

-- From before and w, bits bs were appended, which left after and r; what follows them in the buffer is as it was.
pub record Added (before : List ℕ) (w : Waiting) (bs : BitString) (after : List ℕ) (r : Waiting) : Type 0 where
  pub bits : waiting_bits after r ≡ waiting_bits before w ++ bs
  pub place : waiting_count r ≡ waiting_count w + length bs
  pub on : w.pen.octets.count ≤ r.pen.octets.count
  pub rest : drop r.pen.octets.count after ≡ drop r.pen.octets.count before
  pub len : length after ≡ length before

-- The buffer with all these bits, filled with zeros to whole octets; what follows these is as it was.
unfoldable pub closed : List ℕ → Waiting → List ℕ
closed out w = octets_of (waiting_bits out w) ++ drop (length (octets_of (waiting_bits out w))) out
