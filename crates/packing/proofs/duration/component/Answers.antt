use mathlib.Core.Path.{◌≡◌, refl, sym, ◌∙◌}
use Prim.Native.Nat.{ℕ, zero, suc, ◌≤◌, ◌<◌}
use native.Mathlib.Omega.{arith}
use lib.ListN.{get_or}
use Rattle.fields.specs.Fields.{width, binary_digits, layout}
use Rattle.durations.specs.Fields.{roots}
use Rattle.packing.specs.declared.duration.Range.{Range}
use Rattle.packing.specs.declared.duration.TheConstants.{ROOTS}
use Rattle.packing.specs.Durations.{component_fields}
use Rattle.packing.proofs.duration.component.Goals as goal

-- What the code has of the range of the component at a place.
record RootAt (i : ℕ) (r : Range) : Type 0 where
  lowest : r.lowest ≡ 0
  count : r.count ≡ get_or roots i 0
  most : r.width.count ≤ 10
  wide : r.width.count ≡ width r.count

-- What stands beyond the last place.
abbrev beyond : Range
beyond = record { lowest = 0; count = 0; width = record { count = 0 } }

root_at : (i : ℕ) → i < 7 → RootAt i (get_or ROOTS i beyond)
unfolding width binary_digits
root_at zero h = record { lowest = refl; count = refl; most = omega arith; wide = refl }
root_at (suc zero) h = record { lowest = refl; count = refl; most = omega arith; wide = refl }
root_at (suc (suc zero)) h = record { lowest = refl; count = refl; most = omega arith; wide = refl }
root_at (suc (suc (suc zero))) h = record { lowest = refl; count = refl; most = omega arith; wide = refl }
root_at (suc (suc (suc (suc zero)))) h = record { lowest = refl; count = refl; most = omega arith; wide = refl }
root_at (suc (suc (suc (suc (suc zero))))) h = record { lowest = refl; count = refl; most = omega arith; wide = refl }
root_at (suc (suc (suc (suc (suc (suc zero)))))) h = record { lowest = refl; count = refl; most = omega arith; wide = refl }
root_at (suc (suc (suc (suc (suc (suc (suc i))))))) h = absurd (omega arith)

pub extended-requires : goal.extended-requires
extended-requires c = let r = root_at c.args.place c.requires in record { most = r.most; width = r.wide }

pub returns-then-is_there-clause-bits : goal.returns-then-is_there-clause-bits
unfolding component_fields
returns-then-is_there-clause-bits c =
    let r = root_at c.args.place c.requires in
    rw (sym c.is_there.ensures ∙ c.if-is_there.true) (rw (r.lowest, r.count) at c.extended.ensures.bits)

pub returns-clause-bits : goal.returns-clause-bits
unfolding component_fields layout
returns-clause-bits c = rw (sym c.is_there.ensures ∙ c.if-is_there.false) c.nothing.ensures.bits
