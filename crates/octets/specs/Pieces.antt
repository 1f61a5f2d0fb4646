-- The pieces of a text.
use Rattle.std.specs.Prelude.{ℕ, suc, cond, List, [], ◌∷◌, eqb}

-- An octet before the first piece.
abbrev pub with_first : ℕ → List (List ℕ) → List (List ℕ)
with_first x [] = (x ∷ []) ∷ []
with_first x (w ∷ ws) = (x ∷ w) ∷ ws

-- The pieces of a text between the octets c: always one more than there are such octets.
unfoldable pub split_on : ℕ → List ℕ → List (List ℕ)
split_on c [] = [] ∷ []
split_on c (x ∷ l) = cond (eqb x c) ([] ∷ split_on c l) (with_first x (split_on c l))

-- How many octets stand before the first c.
unfoldable pub span_to : ℕ → List ℕ → ℕ
span_to c [] = 0
span_to c (x ∷ l) = cond (eqb x c) 0 (suc (span_to c l))
