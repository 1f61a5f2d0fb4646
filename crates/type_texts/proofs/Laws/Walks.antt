-- Tests of all lists in turn, and what lists make by them.
use Rattle.std.specs.Prelude.{Option, Some}
use mathlib.Core.Path.{◌≡◌, refl, ap₂}
use mathlib.Core.Bool.{Bool, true, false, ◌&&◌, ◌||◌, cond, and-false}
use mathlib.Core.List.{List, [], ◌∷◌, map}
use Prim.Native.Nat.{ℕ, ◌≤◌}
use native.Mathlib.Omega.{arith}
use lib.Dec.{eqb}
use lib.ListN.{length, length-map}
use borrow.Author.Tests.{le-leb}
use Rattle.std.specs.List.{list_all, list_any}
use Rattle.lists.specs.Lists.{most_lists, year_in}
use Rattle.lists.specs.declared.lists.Settings.{Settings}
use Rattle.types.specs.AnyTypes.{limited_to}
use Rattle.types.specs.declared.types.Limits.{Limits}
use Rattle.types.specs.declared.types.TypeRead.{TypeRead}
use Rattle.type_texts.specs.TypeTexts.{all_of, distinct, joined, list_type, member, one_row, row_in, usable, years_of}

-- Whether all lists pass is what the library's own test of them says.
pub all_of-is : (p : Option Settings → Bool) (l : List Settings) → list_all (λ s. p (Some s)) l ≡ all_of p (map Some l)
unfolding all_of
all_of-is p [] = refl
all_of-is p (x ∷ l) = ap₂ (λ (a b : Bool). a && b) refl (all_of-is p l)

-- Whether a Year is among those of lists.
pub member-is : (n : ℕ) (l : List Settings) → list_any (λ s. eqb (year_in (Some s)) n) l ≡ member n (map year_in (map Some l))
unfolding member
member-is n [] = refl
member-is n (s ∷ l) = ap₂ (λ (a b : Bool). a || b) refl (member-is n l)

-- Where there is no list, none comes twice.
pub none_twice : (l : List Settings) → length l ≡ 0 → true ≡ distinct (map Some l)
unfolding distinct
none_twice [] e = refl
none_twice (x ∷ l) e = absurd (omega arith)

-- What lists make, by the tests in turn.
module _ (limits : Limits) where
  pub none_joined : (l : List Settings) → length l ≡ 0 → joined limits (map Some l) ≡ TypeRead.Unreadable
  unfolding joined
  none_joined [] e = refl
  none_joined (x ∷ l) e = absurd (omega arith)

  pub unusable_joined : (l : List (Option Settings)) → all_of (usable limits) l ≡ false → joined limits l ≡ TypeRead.Unreadable
  unfolding joined
  unusable_joined [] e = refl
  unusable_joined (x ∷ r) e = simp (e, and-false)

  pub twice_joined : (l : List (Option Settings)) → distinct l ≡ false → joined limits l ≡ TypeRead.Unreadable
  unfolding joined
  twice_joined [] e = refl
  twice_joined (x ∷ r) e = simp (e, and-false)

  pub row-joined : (l : List Settings) (x : Settings) (r : List Settings) → l ≡ x ∷ r → length l ≤ most_lists → all_of (usable limits) (map Some l) ≡ true
      → distinct (map Some l) ≡ true → (t : Bool) → all_of (one_row (Some x)) (map Some r) ≡ t
      → joined limits (map Some l) ≡ cond t (limited_to limits (list_type (Some x) (years_of (row_in (Some x)) (map year_in (map Some l))))) TypeRead.NoRow
  unfolding joined
  row-joined [] x r q h u d t e = cc
  row-joined (y ∷ l) x r q h u d t e =
      let a : all_of (one_row (Some y)) (map Some l) ≡ t = cc in
      let b : y ≡ x = cc in
      let n : length (map Some l) ≡ length l = length-map l Some in
      rw (← b, le-leb (length (Some y ∷ map Some l)) most_lists (omega arith), u, d, a)
