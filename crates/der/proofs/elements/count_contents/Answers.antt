use Rattle.std.proofs.Common.{◌≡◌, refl, arith, rules, ℕ, Bool, true, false, not, cond, ◌+◌, List, ◌∷◌, length}
use Rattle.std.specs.List.{count_by}
use Rattle.std.proofs.iter.runs.Made.{chains}
use Rattle.std.proofs.lemmas.List.Recursion.{is_count_by}
use Rattle.types.specs.declared.types.Name.{Name}
use Rattle.der_elements.specs.Elements.{contents_of, omits, without}
use Rattle.der.proofs.elements.count_contents.Goals as goal

-- The contents are as many octets as are not omitted.
counted : (name : Name) (l : List ℕ) → length (contents_of name l) ≡ count_by (λ octet. not (omits name octet)) l
unfolding contents_of without
counted name l = is_count_by (λ (m : List ℕ). length (without (omits name) m)) (λ octet. not (omits name octet)) refl (λ c m. go (omits name c) c (without (omits name) m)) l
  where
    go : (b : Bool) (c : ℕ) (w : List ℕ) → length (cond b w (c ∷ w)) ≡ cond (not b) (1 + length w) (length w)
    go true c w = refl
    go false c w = omega arith

pub returns-clause-value : goal.returns-clause-value
returns-clause-value c =
    let e : c.count.result ≡ count_by (λ octet. not (omits c.args.name octet)) c.args.text.now = search (rules, chains) in
    rw (counted c.args.name c.args.text.now) e
