-- What stands in a room after octets were stored there.
use Rattle.std.specs.Prelude.{ℕ, ◌+◌, ◌≡◌, cond, List, leb, length}
use Rattle.std.proofs.lemmas.List.Edits.{sets}

-- That m is l with the text t stored from place at on, and r is the place after it.
pub record StoredText (l m : List ℕ) (at : ℕ) (t : List ℕ) (r : ℕ) : Type 0 where
  pub text : m ≡ sets l at t
  pub end : r ≡ at + length t

-- The room with octets stored from a place on, or as it was where it ends before them.
unfoldable pub room_after : List ℕ → ℕ → List ℕ → List ℕ
room_after room at octets = cond (leb (at + length octets) (length room)) (sets room at octets) room

-- The place after octets that are stored from a place on, or the place itself where the room ends before them.
unfoldable pub place_after : List ℕ → ℕ → List ℕ → ℕ
place_after room at octets = cond (leb (at + length octets) (length room)) (at + length octets) at
