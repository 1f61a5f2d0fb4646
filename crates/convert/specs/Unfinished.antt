-- A line whose end has not been read.
use Rattle.std.specs.Prelude.{ℕ}
use Rattle.convert.specs.declared.unfinished.Unfinished.{Unfinished}

-- How many octets of it are kept.
abbrev pub held_of : Unfinished → ℕ
held_of (Unfinished.Held count) = count
held_of Unfinished.Skipped = 0
