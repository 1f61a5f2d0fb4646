-- Division of an integer, of either sign, rounded down. `negsuc k` is -(k + 1).
use Rattle.std.specs.Prelude.{ℕ, ◌-◌, ◌/◌, ◌%◌, Bool, eqb, ℤ, pos, negsuc}

-- The quotient of y by d, rounded down: -1 by 4 is -1.
unfoldable pub quotient : ℤ → ℕ → ℤ
quotient (pos k) d = pos (k / d)
quotient (negsuc k) d = negsuc (k / d)

-- The remainder of y by d, where the quotient is rounded down, 0 to d - 1: of -1 by 4 it is 3.
unfoldable pub remainder : ℤ → ℕ → ℕ
remainder (pos k) d = k % d
remainder (negsuc k) d = d - 1 - k % d

-- Whether y is divisible by d.
unfoldable pub divisible : ℤ → ℕ → Bool
divisible y d = eqb (remainder y d) 0
