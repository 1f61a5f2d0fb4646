-- How many digits a number has, by the power of ten that is not above it.
use mathlib.Core.Path.{◌≡◌}
use Prim.Native.Nat.{ℕ, zero, suc, ◌+◌, ◌*◌, ◌/◌, ◌^◌, ◌<◌, ◌≤◌, min, max}
use native.Mathlib.Nat.{pow-succ'}
use native.Mathlib.Omega.{arith}
use borrow.Author.Tests.{ne_eqb}
use Rattle.texts.specs.Years.{size_in, year_digits}
use Rattle.texts.proofs.Laws.Sizes.{ten_pos}

-- A number has k digits, of which at most f are counted.
size_min : (f k n : ℕ) → 10 ^ k ≤ 10 * n + 9 → n < 10 ^ k → size_in f n ≡ min k f
unfolding size_in
size_min zero k n l u = omega arith
size_min (suc f) zero n l u = let z : n ≡ 0 = omega arith in rw z (omega arith)
size_min (suc f) (suc k) n l u =
    let p = ten_pos k in
    let a : 10 * 10 ^ k ≤ 10 * n + 9 = rw pow-succ' at l in
    let b : n < 10 * 10 ^ k = rw pow-succ' at u in
    rw (ne_eqb n 0 (λ z. omega arith)) (omega (arith, size_min f k (n / 10) (omega arith) (omega arith)))

pub year_size : (n k : ℕ) → 10 ^ k ≤ max n 1000 → max n 1000 < 10 * 10 ^ k → k < 20 → k + 1 ≡ year_digits n
unfolding year_digits
year_size n zero l u h = absurd (omega arith)
year_size n (suc zero) l u h = absurd (omega arith)
year_size n (suc (suc zero)) l u h = absurd (omega arith)
year_size n (suc (suc (suc k))) l u h =
    let p : 10 ^ suc (suc (suc k)) ≡ 1000 * 10 ^ k = omega (arith, pow-succ' 10 (suc (suc k)), pow-succ' 10 (suc k), pow-succ' 10 k) in
    let a : 1000 * 10 ^ k ≤ max n 1000 = rw p at l in
    let b : max n 1000 < 10 * (1000 * 10 ^ k) = rw p at u in
    omega (arith, size_min 16 k (n / 10000) (omega arith) (omega arith))
