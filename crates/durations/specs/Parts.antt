-- The components of a duration, in the order of 28 bis.6.1: years, months, weeks, days, hours, minutes, seconds.
use Rattle.std.specs.Prelude.{ℕ, zero, suc, Bool, true, false, ◌&&◌, ◌||◌, not, cond, List, [], ◌∷◌, eqb}
use Rattle.texts.specs.Times.{fraction}
use Rattle.texts.specs.declared.parts.Fraction.{Fraction}

-- A component that is not there; or its number, with so many fraction digits and what they give.
pub data Part : Type 0 where
  absent : Part
  present : ℕ → ℕ → Fraction → Part

-- No fraction.
abbrev pub no_fraction : Fraction
no_fraction = fraction false 0

abbrev pub is_present : Part → Bool
is_present absent = false
is_present (present n d f) = true

-- The number of a component, 0 where it is not there, and its fraction.
abbrev pub number_in : Part → ℕ
number_in absent = 0
number_in (present n d f) = n

abbrev pub digits_in : Part → ℕ
digits_in absent = 0
digits_in (present n d f) = d

abbrev pub fraction_in : Part → ℕ
fraction_in absent = 0
fraction_in (present n d f) = f.number

-- A component without its fraction.
abbrev pub bare : Part → Part
bare absent = absent
bare (present n d f) = present n 0 no_fraction

-- All components without their fractions.
unfoldable pub bares : List Part → List Part
bares [] = []
bares (p ∷ ps) = bare p ∷ bares ps

-- How many components are there.
unfoldable pub count : List Part → ℕ
count [] = 0
count (p ∷ ps) = cond (is_present p) (suc (count ps)) (count ps)

-- Whether one is there.
unfoldable pub any_present : List Part → Bool
any_present [] = false
any_present (p ∷ ps) = is_present p || any_present ps

-- 11.9 d: "remove all zero time components except the least significant time component that is present".
unfoldable pub canonical_parts : List Part → List Part
canonical_parts [] = []
canonical_parts (p ∷ ps) = cond (eqb (number_in p) 0 && any_present ps) absent p ∷ canonical_parts ps

-- 11.9: "full stop for comma".
abbrev pub stopped : Part → Part
stopped absent = absent
stopped (present n d f) = present n d (fraction false f.number)

-- The place of the last component that is there, ..
unfoldable pub last_in : List Part → ℕ
last_in [] = 0
last_in (p ∷ ps) = cond (any_present ps) (suc (last_in ps)) 0

-- .. and what it has.
unfoldable pub of_last : (Part → ℕ) → List Part → ℕ
of_last g [] = 0
of_last g (p ∷ ps) = cond (any_present ps) (of_last g ps) (g p)

-- The numbers of all.
unfoldable pub numbers : List Part → List ℕ
numbers [] = []
numbers (p ∷ ps) = number_in p ∷ numbers ps

-- The component at a place.
unfoldable pub part_at : ℕ → List Part → Part
part_at i [] = absent
part_at zero (p ∷ ps) = p
part_at (suc i) (p ∷ ps) = part_at i ps

-- "no component at all, or weeks beside another one" is 3. Weeks have the place 2.
unfoldable pub well_made : List Part → Bool
well_made ps = any_present ps && (eqb (count ps) 1 || not (is_present (part_at 2 ps)))
