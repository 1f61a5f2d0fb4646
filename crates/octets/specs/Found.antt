-- What a reader answers, and how readers follow one another.
use Rattle.std.specs.Prelude.{List, Option, Some, None}

-- What was read, with what is left after it; or nothing.
pub data Found (X A : Type 0) : Type 0 where
  found : A → List X → Found X A
  nothing : Found X A

-- What was read, whatever is left after it.
abbrev pub of_found : {X A : Type 0} → Found X A → Option A
of_found (found a s) = Some a
of_found nothing = None

module _ {X A B : Type 0} where
  -- What was read is handed on with what is left.
  abbrev pub onward : Found X A → (A → List X → Found X B) → Found X B
  onward (found a s) k = k a s
  onward nothing k = nothing
