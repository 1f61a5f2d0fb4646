-- The octets of a duration in a buffer, and the fields that are written each as a group.
use Rattle.std.specs.Prelude.{ℕ, Bool, ◌&&◌, ◌||◌, not, cond, List, [], ◌∷◌, ◌++◌, eqb, ltb, get_or}
use Rattle.fields.specs.Fields.{Field}
use Rattle.durations.specs.declared.Duration.{Duration}
use Rattle.durations.specs.Durations.{parts_of}
use Rattle.durations.specs.Fields.{extended, roots, presence, presences, duration_fields}
use Rattle.packing.specs.declared.writing.Packed.{Packed}
use Rattle.packing.specs.Packed.{packed_fields}

-- The octets of a duration's fields, and the fields' bit count.
unfoldable pub packed_duration : Duration → Packed 48
packed_duration d = packed_fields 48 (duration_fields d)

-- Whether the component at a place is there: the last one is, and before it those that are not 0.
unfoldable pub is_there : ℕ → ℕ → ℕ → Bool
is_there place last n = eqb place last || (ltb place last && not (eqb n 0))

-- Its fields, none where it is not there.
unfoldable pub component_fields : ℕ → ℕ → ℕ → List Field
component_fields place last n = cond (is_there place last n) (extended 0 (get_or roots place 0) n) []

-- "8 bits for optionality"
unfoldable pub optionality : Duration → List Field
optionality d = presences (parts_of d) ++ (presence (ltb 0 d.digits) ∷ [])
