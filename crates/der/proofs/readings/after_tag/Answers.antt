use Rattle.std.specs.Prelude.{Option, Some, None, MatchOption, nat_eq}
use Rattle.std.specs.Option.{option_map}
use Rattle.std.proofs.Common.{Bor}
use mathlib.Core.Path.{◌≡◌, refl, ◌∙◌, sym}
use mathlib.Core.Bool.{true, false, cond}
use mathlib.Core.List.{List, [], ◌∷◌}
use Prim.Native.Nat.{ℕ, ◌+◌}
use lib.ListN.{length, take, drop}
use lib.Pointwise.{pointwise}
use Rattle.octets.specs.Octets.{eq_list}
use Rattle.der.proofs.readings.after_tag.Goals as goal

-- Octets that are the same in pairs are the same.
pointwise-same : (a b : List ℕ) → pointwise nat_eq a b ≡ eq_list a b
unfolding eq_list
pointwise-same [] [] = refl
pointwise-same [] (y ∷ b) = refl
pointwise-same (x ∷ a) [] = refl
pointwise-same (x ∷ a) (y ∷ b) = rw (pointwise-same a b)

-- The rest is what follows the tag, where the octets begin with it.
stripped : (l tag : List ℕ) (r : Option (Bor (List ℕ)))
    → MatchOption r (pointwise nat_eq (take (length tag) l) tag ≡ false)
    (λ x. (pointwise nat_eq (take (length tag) l) tag ≡ true) × (x.now ≡ drop (length tag) l) × (length x.now + length tag ≡ length l))
    → option_map (λ rest. rest.now) r ≡ cond (eq_list (take (length tag) l) tag) (Some (drop (length tag) l)) None
stripped l tag None h = rw (sym (pointwise-same (take (length tag) l) tag) ∙ h)
stripped l tag (Some x) h = rw (sym (pointwise-same (take (length tag) l) tag) ∙ h.0, h.1)

pub returns : goal.returns
returns c = rw (← c.tag_of.ensures) (stripped _ _ _ c.strip_prefix.ensures.cases)
