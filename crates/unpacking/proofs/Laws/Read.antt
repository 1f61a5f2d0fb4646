-- What was read, by its number.
use mathlib.Core.Path.{◌≡◌, refl}
use mathlib.Core.Bool.{Bool}
use Rattle.octets.specs.Found.{found, nothing, of_found}
use Rattle.texts.specs.declared.values.Value.{Value}
use Rattle.fields.specs.Bits.{BitString}
use Rattle.unpacking.specs.Unpacked.{value_number}

-- A value has 0, and "octets end inside a field; a field's bits above its range; .." is 3.
pub value_told : (v : Value) (rest : BitString) → (value_number (of_found {X = Bool} (found v rest)) ≡ 0) × (value_number (of_found {X = Bool} nothing) ≡ 3)
value_told v rest = (refl, refl)
