use mathlib.Core.Path.{◌≡◌, sym, ap, ◌∙◌}
use Rattle.std.specs.Prelude.{Some, slice_get}
use borrow.Author.Rules.{rules}
use Rattle.unpacking.specs.Durations.{bits_in}
use Rattle.unpacking.proofs.Laws.Presences.{last_bare, made-bare, made_some}
use Rattle.unpacking.proofs.Laws.Durations.{duration_empty, duration-is, duration-made, duration_unmade, duration_unnumbered, duration_untailed}
use Rattle.unpacking.proofs.duration.unpack_duration.Goals as goal
use Rattle.unpacking.proofs.duration.unpack_duration.Goals.{After-from-bits}

-- the first octet
first : (c : After-from-bits) → Some c.from-bits.result ≡ slice_get c.args.octets.now 0
first c = ap Some c.from-bits.ensures ∙ c.in_ok-first.ensures.value

pub returns-in_err-first : goal.returns-in_err-first
returns-in_err-first c = rw (c.from_residual.ensures, duration_empty c.args.octets.now c.in_err-first.ensures.value)

pub returns-in_err-values : goal.returns-in_err-values
returns-in_err-values c =
    let o = first (goal.at.returns-in_err-values c).After-from-bits in
    rw (c.from_residual-in_err-values.ensures, duration_unnumbered c.args.octets.now _ o (sym c.in_err-values.ensures.is))

pub returns-in_err-digits : goal.returns-in_err-digits
returns-in_err-digits c =
    let o = first (goal.at.returns-in_err-digits c).After-from-bits in
    rw (c.from_residual-in_err-digits.ensures, duration_untailed c.args.octets.now _ o (sym c.in_ok-values.ensures.is) (sym c.in_err-digits.ensures))

pub returns-then-not-well_made : goal.returns-then-not-well_made
returns-then-not-well_made c =
    let o = first (goal.at.returns-then-not-well_made c).After-from-bits in
    let k = sym c.in_ok-values.ensures.count in
    let w = made-bare (bits_in c.from-bits.result) c.in_ok-values.values k ∙ sym c.well_made.ensures ∙ c.if-not-well_made.true in
    rw (duration_unmade c.args.octets.now _ o (sym c.in_ok-values.ensures.is) (sym c.in_ok-digits.ensures) w)

pub last_place-requires-clause-component : goal.last_place-requires-clause-component
last_place-requires-clause-component c = made_some _ (search rules) (sym c.well_made.ensures ∙ c.if-not-well_made.false)

pub returns : goal.returns
returns c =
    let o = first (goal.at.returns c).After-from-bits in
    let k = sym c.in_ok-values.ensures.count in
    let w = made-bare (bits_in c.from-bits.result) c.in_ok-values.values k ∙ sym c.well_made.ensures ∙ c.if-not-well_made.false in
    let l = last_bare (bits_in c.from-bits.result) c.in_ok-values.values k ∙ sym c.last_place.ensures in
    rw (duration-made c.args.octets.now _ o (sym c.in_ok-values.ensures.is) (sym c.in_ok-digits.ensures) w)
    (ap Some (c.duration_of.ensures ∙ sym (duration-is _ _ _ w c.in_ok-values.ensures.values l)))
