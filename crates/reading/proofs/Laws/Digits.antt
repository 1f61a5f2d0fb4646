-- Digits at the front of a text.
use mathlib.Core.Path.{◌≡◌, refl, ap}
use mathlib.Core.List.{List, [], ◌∷◌}
use Prim.Native.Nat.{ℕ, zero, suc, ◌+◌, ◌-◌, ◌^◌, ◌<◌, ◌≤◌}
use native.Mathlib.Nat.{add-suc, add-zero}
use native.Mathlib.Numerals.{one-add}
use native.Mathlib.Omega.{arith}
use Rattle.std.specs.Char.{is_ascii_digit}
use Rattle.std.specs.List.{prefix_len}
use Rattle.octets.specs.Found.{Found, found, nothing}
use lib.ListN.{length, length-append, get_or, drop}
use lib.Seq.{drop-cons}
use native.Mathlib.Numerals.{add-one}
use Rattle.texts.specs.Digits.{put_digits, get_digit, get_digits, leading}
use Rattle.texts.proofs.Laws.Digits.{get_back, length_put, ten_le}

-- where one digit is missing, so is the number
pub digits-short : (i k : ℕ) (l : List ℕ) → get_digits i l ≡ nothing → get_digits (i + k) l ≡ nothing
unfolding get_digits
digits-short i zero l e = rw add-zero e
digits-short i (suc k) l e = rw (add-suc, digits-short i k l e)

pub digits-stop : (i w : ℕ) (l : List ℕ) (n : ℕ) (r : List ℕ) → get_digits i l ≡ found n r → get_digit n r ≡ nothing → i < w → get_digits w l ≡ nothing
unfolding get_digits
digits-stop i w l n r e d h =
    let q : suc i + (w - suc i) ≡ w = omega arith in
    rw (← q) (digits-short (suc i) (w - suc i) l (rw e d))

-- a text has as many octets as digits are read of it
pub digits_length : (w : ℕ) (l : List ℕ) → length l < w → get_digits w l ≡ nothing
digits_length w l h = go (get_digits w l) refl
  where
    go : (m : Found ℕ ℕ) → get_digits w l ≡ m → m ≡ nothing
    go nothing e = refl
    go (found n r) e =
        let b = (get_back w l n r e).0 in
        absurd (omega (arith, length_put w n, length-append (put_digits w n) r, ap (λ (x : List ℕ). length x) b))

-- the octet at a place, and the rest after it
pub drop_at : (l : List ℕ) (i : ℕ) → i < length l → drop i l ≡ get_or l i 0 ∷ drop (i + 1) l
drop_at l i h = rw (add-one, drop-cons l i 0)

-- fewer than nine digits leave room for one more
pub digits-small : (i : ℕ) (l : List ℕ) (n : ℕ) (r : List ℕ) → get_digits i l ≡ found n r → i < 9 → n < 100000000
digits-small i l n r e h =
    let p : 10 ^ i ≤ 10 ^ 8 = ten_le i 8 (omega arith) in
    omega (arith, (get_back i l n r e).1)

-- the digits that a text begins with
pub prefix_leading : (l : List ℕ) → prefix_len is_ascii_digit l ≡ leading l
unfolding leading
prefix_leading [] = refl
prefix_leading (c ∷ l) = rw (prefix_leading l, one-add) refl
