-- Octets that tables quote in hex.
use Prim.Native.Nat.{ℕ, ◌+◌, ◌-◌, ◌*◌}
use Prim.Native.Char.{code}
use Prim.Native.String as S
use Prim.Native.String.{String}
use mathlib.Core.Bool.{cond}
use mathlib.Core.List.{List, [], ◌∷◌}
use lib.Dec.{ltb}

unfoldable pub digit : ℕ → ℕ
digit c = cond (ltb c 65) (c - 48) (c - 55)

unfoldable pub hex : String → List ℕ
unfolding digit
hex S.[] = []
hex (S.◌∷◌ c S.[]) = []
hex (S.◌∷◌ c (S.◌∷◌ d s)) = (digit (code c) * 16 + digit (code d)) ∷ hex s
