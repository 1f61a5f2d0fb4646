-- Counts of bits and of octets.
use Rattle.std.specs.Prelude.{◌+◌, ◌*◌, ◌-◌, ◌/◌, ◌%◌}
use Rattle.answers.specs.declared.counts.Bits.{Bits}
use Rattle.answers.specs.declared.counts.Octets.{Octets}

-- "a place in bits becomes a place in octets only by the factor 8": the fewest octets that carry the bits, since "the
-- last octet is filled with zero bits" (laws carries, fewest).
unfoldable pub octets_for : Bits → Octets
octets_for bits = record { count = (bits.count + 7) / 8 }

-- "the last octet is filled with zero bits": so many, what 8 times the octets are more than the bits (law filled).
unfoldable pub filling_for : Bits → Bits
filling_for bits = record { count = 8 * (octets_for bits).count - bits.count }

-- "Fields follow one another without gaps": the bits of an octet that is begun and not full (law begun).
unfoldable pub begun_by : Bits → Bits
begun_by bits = record { count = bits.count % 8 }
