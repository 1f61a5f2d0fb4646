-- The octets that carry a count of bits, the bits that fill them, and those of one that is begun.
use mathlib.Core.Path.{◌≡◌}
use Prim.Native.Nat.{ℕ, ◌+◌, ◌*◌, ◌-◌, ◌≤◌, ◌<◌}
use native.Mathlib.Omega.{arith}
use Rattle.answers.specs.declared.counts.Bits.{Bits}
use Rattle.answers.specs.Counts.{octets_for, filling_for, begun_by}

module _ (bits : Bits) where
  -- 8 times the octets are the bits and fewer than 8 more.
  pub carries : (bits.count ≤ 8 * (octets_for bits).count) × (8 * (octets_for bits).count < bits.count + 8)
  unfolding octets_for
  carries = omega arith

  -- No fewer octets carry the bits.
  pub fewest : (n : ℕ) → bits.count ≤ 8 * n → (octets_for bits).count ≤ n
  fewest n h = let k = carries in omega arith

  -- The bits and the filling, fewer than 8, are whole octets.
  pub filled : (bits.count + (filling_for bits).count ≡ 8 * (octets_for bits).count) × ((filling_for bits).count < 8)
  unfolding filling_for
  filled = let k = carries in omega arith

  -- Without those of an octet that is begun, fewer than 8, the bits are whole octets.
  pub begun : (bits.count ≡ 8 * (octets_for (record { count = bits.count - (begun_by bits).count })).count + (begun_by bits).count) × ((begun_by bits).count < 8)
  unfolding octets_for begun_by
  begun = omega arith
