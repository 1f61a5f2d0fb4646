-- The replies that are to be written.
use Rattle.std.specs.Prelude.{ℕ, ◌+◌, ◌≡◌, List, length, take, drop}

-- That of so many octets of replies at the front of a buffer the last ones are this reply.
pub record EndsIn (reply buffer : List ℕ) (count : ℕ) : Type 0 where
  pub before : ℕ
  pub all : count ≡ before + length reply
  pub last : take (length reply) (drop before buffer) ≡ reply
