use mathlib.Core.Path.{◌≡◌, refl, ap, ◌∙◌}
use mathlib.Core.Bool.{Bool, true, false, cond}
use Prim.Native.Nat.{ℕ}
use mir.Syntax.{w32}
use mir.Val.{bool_byte}
use mir.ValLaws.{to_z-of_z}
use Rattle.calendar.specs.Years.{leap_of}
use Rattle.calendar_c.proofs.anafzir_leap_year.Goals as goal

-- a test as a number
number : (b : Bool) → bool_byte b ≡ cond b 1 0
number true = refl
number false = refl

pub returns : goal.returns
returns c =
    let found : c.leap_year.result ≡ leap_of c.args.year = c.leap_year.ensures ∙ ap leap_of (c.from.ensures ∙ to_z-of_z w32 _ c.ranges.year) in
    rw (c.from-2.ensures, ← found) (number c.leap_year.result)
