-- A number's text and its reader.
use mathlib.Core.Path.{◌≡◌, refl}
use mathlib.Core.Bool.{Bool, true, false, ◌&&◌, and-false}
use mathlib.Core.List.{List, ◌++◌}
use Prim.Native.Nat.{ℕ, suc, ◌-◌, ◌*◌, ◌/◌, ◌^◌, ◌<◌, ◌≤◌}
use native.Mathlib.Nat.{pow-succ'}
use native.Mathlib.Omega.{arith}
use lib.Dec.{eqb, ltb}
use borrow.Author.Tests.{eqb-true, eqb-false, le-leb, le-ltb}
use Rattle.texts.specs.Octets.{is_digit, first_octet}
use Rattle.octets.specs.Found.{found}
use Rattle.texts.specs.Digits.{put_digits, leading}
use Rattle.texts.specs.Years.{size_in}
use Rattle.texts.proofs.Laws.Digits.{get_put, leading_put, leading_none}
use Rattle.texts.proofs.Laws.Sizes.{size_zero, size_lt, size_low, size_le}
use Rattle.durations.specs.Texts.{number_digits, put_number, needless, get_number}

-- ---- numbers of at most nine digits

number_lt : (n : ℕ) → n < 10 ^ 9 → n < 10 ^ number_digits n
unfolding number_digits
number_lt n h = let s : n / 10 < 10 ^ size_in 8 (n / 10) = size_lt 8 (n / 10) (omega arith) in rw pow-succ' (omega arith)

pub number_few : (n : ℕ) → n < 10 ^ 9 → number_digits n ≤ 9
unfolding number_digits
number_few n h = let s : size_in 8 (n / 10) ≤ 8 = size_le 8 (n / 10) 8 (omega arith) in omega arith

not-needless : (n : ℕ) → needless (number_digits n) n ≡ false
unfolding needless number_digits
not-needless n = go (eqb (n / 10) 0) refl
  where
    go : (t : Bool) → eqb (n / 10) 0 ≡ t → (ltb 1 (suc (size_in 8 (n / 10))) && ltb n (10 ^ (suc (size_in 8 (n / 10)) - 1))) ≡ false
    go true e = rw (eqb-true (n / 10) 0 e, size_zero 8)
    go false e =
        let z : n / 10 ≡ 0 → ⊥ = eqb-false (n / 10) 0 e in
        let s : 10 ^ size_in 8 (n / 10) ≤ 10 * (n / 10) = size_low 8 (n / 10) (omega arith) in
        let q : suc (size_in 8 (n / 10)) - 1 ≡ size_in 8 (n / 10) = omega arith in
        rw (q, le-ltb n (10 ^ size_in 8 (n / 10)) (omega arith)) (and-false (ltb 1 (suc (size_in 8 (n / 10)))))

-- A number in front, anything but a digit behind.
pub number_there : (n : ℕ) (r : List ℕ) → n < 10 ^ 9 → is_digit (first_octet r) ≡ false → get_number (put_number n ++ r) ≡ found n r
unfolding get_number put_number
number_there n r h g =
    let l : leading (put_digits (number_digits n) n ++ r) ≡ number_digits n = rw (leading_put (number_digits n) n r, leading_none r g) (omega arith) in
    let few = number_few n h in
    let one : 1 ≤ number_digits n = unfold number_digits in omega arith in
    rw (l, le-leb 1 (number_digits n) one, le-leb (number_digits n) 9 few, get_put (number_digits n) n r (number_lt n h), not-needless n)
