-- "in any order": the pairs of a list may be put in another order.
use Rattle.std.specs.Prelude.{Option, Some, None}
use Rattle.lists.specs.Lists.{numbers_in}
use mathlib.Core.Path.{◌≡◌, refl, ap, sym, ◌∙◌}
use mathlib.Core.List.{List, Permᴰ}
use mathlib.Core.Bool.{Bool, true, false, cond}
use Prim.Native.Nat.{ℕ, ◌<◌}
use native.Mathlib.Omega.{arith}
use lib.Dec.{eqb}
use lib.ListN.{length, get_or, set, length-set}
use lib.Seq.{get_or-set_same, get_or-set_other, set_comm}
use borrow.Author.Tests.{ne_eqb, eqb-true, eqb-false}
use Rattle.lists.specs.Words.{pair_of}
use Rattle.lists.specs.Lists.{settings, refused_list, add_pair, add_pairs}
use Rattle.lists.specs.declared.words.Pair.{Pair}
use Rattle.lists.specs.declared.lists.Settings.{Settings}
use Rattle.lists.proofs.Laws.Lists.{add_nothing, six_properties, some_setting}

-- Whether a property has no setting.
abbrev fresh : List ℕ → Pair → Bool
fresh ns p = eqb (get_or ns p.property 0) 0

-- The same property twice is refused.
add_twice : (s : Settings) (p q : Pair) (t : Bool) → fresh s.numbers p ≡ t → p.property ≡ q.property → p.property < length s.numbers → 0 < p.setting →
    add_pair (add_pair (Some s) (Some p)) (Some q) ≡ refused_list
unfolding add_pair
add_twice s p q false e h l c = rw e
add_twice s p q true e h l c = rw (e, ← h, get_or-set_same s.numbers p.property p.setting 0 l, ne_eqb p.setting 0 (λ z. omega arith))

-- Two properties are put in either order.
add-two : (s : Settings) (p q : Pair) (t u : Bool) → fresh s.numbers p ≡ t → fresh s.numbers q ≡ u → (p.property ≡ q.property → ⊥) →
    add_pair (add_pair (Some s) (Some p)) (Some q) ≡ add_pair (add_pair (Some s) (Some q)) (Some p)
unfolding add_pair
add-two s p q true true e g n =
    rw (
      e,
      g,
      get_or-set_other s.numbers p.property q.property p.setting 0 (λ z. n (sym z)),
      get_or-set_other s.numbers q.property p.property q.setting 0 n,
      e,
      g,
    )
    (ap settings (set_comm s.numbers p.property q.property p.setting q.setting n))
add-two s p q true false e g n = rw (e, g, get_or-set_other s.numbers p.property q.property p.setting 0 (λ z. n (sym z)), g)
add-two s p q false true e g n = rw (e, g, get_or-set_other s.numbers q.property p.property q.setting 0 n, e)
add-two s p q false false e g n = rw (e, g)

nothing_more : (p : Option Pair) → add_pair None p ≡ None
unfolding add_pair
nothing_more p = refl

-- What is known of a pair that a text is.
record Known (q : Option Pair) : Type 0 where
  some : (p : Pair) → q ≡ Some p → 0 < p.setting
  six : (p : Pair) → q ≡ Some p → p.property < 6

known : (w : List ℕ) → Known (pair_of w)
known w = record { some = some_setting w; six = six_properties w }

add_comm : (s : Option Settings) (p q : Option Pair) → length (numbers_in s) ≡ 6 → Known p → Known q →
    add_pair (add_pair s p) q ≡ add_pair (add_pair s q) p
add_comm None p q l hp hq = rw (nothing_more p, nothing_more q, nothing_more p)
add_comm (Some s) None q l hp hq = rw (add_nothing (Some s), nothing_more q, add_nothing (add_pair (Some s) q))
add_comm (Some s) (Some p) None l hp hq = rw (add_nothing (Some s), nothing_more (Some p), add_nothing (add_pair (Some s) (Some p)))
add_comm (Some s) (Some p) (Some q) l hp hq = go (eqb p.property q.property) refl where
  go : (t : Bool) → eqb p.property q.property ≡ t → add_pair (add_pair (Some s) (Some p)) (Some q) ≡ add_pair (add_pair (Some s) (Some q)) (Some p)
  go true e =
      let h : p.property ≡ q.property = eqb-true _ _ e in
      let k : p.property < 6 = hp.six p refl in
      let m : q.property < 6 = hq.six q refl in
      add_twice s p q _ refl h (omega arith) (hp.some p refl)
      ∙ sym (add_twice s q p _ refl (sym h) (omega arith) (hq.some q refl))
  go false e = add-two s p q _ _ refl refl (eqb-false _ _ e)

-- A list has six numbers, also with a pair more.
pub add-length : (s : Option Settings) (p : Option Pair) → length (numbers_in s) ≡ 6 → length (numbers_in (add_pair s p)) ≡ 6
unfolding add_pair
add-length None p e = refl
add-length (Some s) None e = refl
add-length (Some s) (Some p) e = go (fresh s.numbers p) where
  go : (t : Bool) → length (numbers_in (cond t (settings (set s.numbers p.property p.setting)) refused_list)) ≡ 6
  go true = length-set s.numbers p.property p.setting ∙ e
  go false = refl

-- Pairs in another order give the same list.
pub pairs_perm : {a b : List (List ℕ)} (s : Option Settings) → length (numbers_in s) ≡ 6 → Permᴰ a b → add_pairs s a ≡ add_pairs s b
unfolding add_pairs
pairs_perm s l Permᴰ.nil = refl
pairs_perm s l (Permᴰ.cons {b = b} e d) = rw e (pairs_perm (add_pair s (pair_of b)) (add-length s (pair_of b) l) d)
pairs_perm s l (Permᴰ.swap {a = a} {b = b} {l = r} e g) =
    rw (← e, ← g) (ap (λ (z : Option Settings). add_pairs z r) (add_comm s (pair_of a) (pair_of b) l (known a) (known b)))
pairs_perm s l (Permᴰ.trans d e) = pairs_perm s l d ∙ pairs_perm s l e
