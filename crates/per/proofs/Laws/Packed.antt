-- The octets of an encoding in the buffer of `packing`.
use mathlib.Core.Path.{◌≡◌, refl, ap, ◌∙◌}
use Prim.Native.Nat.{ℕ, ◌≤◌}
use native.Mathlib.Omega.{arith}
use lib.ListN.{length, drop, replicate}
use lib.Seq.{take_at}
use Rattle.answers.specs.Counts.{octets_for}
use Rattle.texts.specs.declared.values.Value.{Value}
use Rattle.fields.specs.Bits.{octets_of}
use Rattle.fields.specs.Fields.{layout}
use Rattle.fields.proofs.Laws.Bits.{length_octets}
use Rattle.fields.proofs.Laws.Fields.{length-layout}
use Rattle.rows.specs.Fields.{fields_of}
use Rattle.types.specs.declared.years.YearRow.{YearRow}
use Rattle.rows.proofs.Laws.Widths.{most_bits}
use Rattle.packing.specs.Packed.{in_buffer, packed_of}
use Rattle.per.specs.Packed.{front_of}
use Rattle.per.specs.Per.{encoding_of, count_of}

length-encoding : (row : YearRow) (v : Value) → length (encoding_of row v) ≡ (octets_for (count_of row v)).count
unfolding encoding_of count_of
length-encoding row v = length_octets (layout (fields_of row v)) ∙ ap (λ (n : ℕ). (octets_for (record { count = n })).count) (length-layout (fields_of row v))

pub encoding-short : (row : YearRow) (v : Value) → length (encoding_of row v) ≤ 16
unfolding octets_for count_of
encoding-short row v = let l = most_bits row v in rw (length-encoding row v) (omega arith)

module _ (row : YearRow) (v : Value) where
  -- The bit count of a packed value is that of its encoding.
  pub packed-bits : (packed_of row v).bits ≡ count_of row v
  unfolding packed_of count_of
  packed-bits = refl

  -- The octets that carry a packed value's bits lie in the buffer.
  pub packed-short : (octets_for (packed_of row v).bits).count ≤ 16
  unfolding packed_of octets_for count_of
  packed-short = let l = most_bits row v in omega arith

  -- The octets that carry a packed value's bits are its encoding.
  pub packed-front : front_of (packed_of row v) ≡ encoding_of row v
  unfolding packed_of in_buffer encoding_of count_of
  packed-front =
      take_at (octets_of (layout (fields_of row v))) (drop (length (octets_of (layout (fields_of row v)))) (replicate 16 0)) (octets_for (count_of row v)).count
      (length-encoding row v)
