-- #102, where second 60 can be, exactly: told from the end of UTC's day, with no wrap around it.
use mathlib.Core.Path.{◌≡◌, ◌∙◌, refl, sym}
use mathlib.Core.Bool.{Bool, true, false, cond, false≢true}
use Prim.Native.Nat.{ℕ, ◌+◌, ◌-◌, ◌*◌, ◌≤◌, ◌<◌}
use native.Mathlib.Omega.{arith}
use lib.Dec.{eqb}
use borrow.Author.Tests.{eqb-true, eqb-false, eq-eqb, ne_eqb}
use Rattle.texts.specs.declared.values.Difference.{Difference}
use Rattle.texts.specs.declared.values.Zone.{Zone}
use Rattle.held_values.specs.Existence.{exists_leap, last_minute, less_difference, minute_of}
use Rattle.held_values.proofs.Laws.Existence.{DifferenceInRange, ZoneInRange}

-- The minutes of a difference, without its sign.
abbrev pub apart : Difference → ℕ
apart difference = difference.hours * 60 + difference.minutes

-- The minutes of the day that can have a second 60. Ahead of UTC its day ends so long after local midnight, and behind it so long before.
pub data LeapExists (minute : ℕ) : Zone → Type 0 where
  local : LeapExists minute Zone.L
  utc : minute ≡ 23 * 60 + 59 → LeapExists minute Zone.Z
  level : (d : Difference) → d.behind ≡ false → apart d ≡ 0 → minute ≡ 23 * 60 + 59 → LeapExists minute (Zone.LD d)
  ahead : (d : Difference) → d.behind ≡ false → minute + 1 ≡ apart d → LeapExists minute (Zone.LD d)
  behind : (d : Difference) → d.behind ≡ true → minute + 1 + apart d ≡ 24 * 60 → LeapExists minute (Zone.LD d)

module _ (minute : ℕ) (m : minute < 24 * 60) where
  -- a difference that exists is shorter than a day
  less_last : (d : Difference) → DifferenceInRange d → less_difference minute d ≡ 23 * 60 + 59 → LeapExists minute (Zone.LD d)
  unfolding less_difference
  less_last d r e = go d.behind refl (eqb (apart d) 0) refl
    where
      go : (b : Bool) → d.behind ≡ b → (z : Bool) → eqb (apart d) 0 ≡ z → LeapExists minute (Zone.LD d)
      go true b z x = let f = rw b at e in behind d b (omega (arith, f, r.hours, r.minutes))
      go false b true x = let f = rw b at e in level d b (eqb-true (apart d) 0 x) (omega (arith, f, eqb-true (apart d) 0 x))
      go false b false x = let f = rw b at e in ahead d b (omega (arith, f, eqb-false (apart d) 0 x, r.hours, r.minutes))

  last_less : (d : Difference) → DifferenceInRange d → LeapExists minute (Zone.LD d) → less_difference minute d ≡ 23 * 60 + 59
  unfolding less_difference
  last_less d r (level f b z e) = rw b (omega (arith, z, e))
  last_less d r (ahead f b e) = rw b (omega (arith, r.hours, r.minutes))
  last_less d r (behind f b e) = rw b (omega (arith, r.hours, r.minutes))

  last_exists : (z : Zone) → ZoneInRange z → last_minute minute z ≡ true → LeapExists minute z
  last_exists Zone.L r e = local
  last_exists Zone.Z r e = utc (eqb-true minute (23 * 60 + 59) e)
  last_exists (Zone.LD d) r e = less_last d r (eqb-true (less_difference minute d) (23 * 60 + 59) e)

  exists_last : (z : Zone) → ZoneInRange z → LeapExists minute z → last_minute minute z ≡ true
  exists_last Zone.L r x = refl
  exists_last Zone.Z r (utc e) = eq-eqb minute (23 * 60 + 59) e
  exists_last (Zone.LD d) r x = eq-eqb (less_difference minute d) (23 * 60 + 59) (last_less d r x)

-- Second 60 is in these minutes alone,
pub leap_exists : (hours minutes : ℕ) (z : Zone) → hours ≤ 23 → minutes ≤ 59 → ZoneInRange z → exists_leap hours minutes 60 z ≡ true
    → LeapExists (hours * 60 + minutes) z
unfolding exists_leap
leap_exists hours minutes z h m r e = last_exists (hours * 60 + minutes) (omega arith) z r e

-- in all of them,
pub exists-leap : (hours minutes : ℕ) (z : Zone) → hours ≤ 23 → minutes ≤ 59 → ZoneInRange z → LeapExists (hours * 60 + minutes) z
    → exists_leap hours minutes 60 z ≡ true
unfolding exists_leap
exists-leap hours minutes z h m r x = exists_last (hours * 60 + minutes) (omega arith) z r x

-- which the minute and the zone decide,
pub at_60 : (hours minutes seconds : ℕ) (z : Zone) → seconds ≡ 60 → exists_leap hours minutes seconds z ≡ last_minute (minute_of hours minutes) z
unfolding exists_leap
at_60 hours minutes seconds z e = rw (eq-eqb seconds 60 e)

-- all minutes of a local time,
pub local_any : (hours minutes seconds : ℕ) → exists_leap hours minutes seconds Zone.L ≡ true
unfolding exists_leap
local_any hours minutes seconds = go (eqb seconds 60)
  where
    go : (b : Bool) → cond b true true ≡ true
    go true = refl
    go false = refl

-- and other seconds in every minute.
pub no_leap : (hours minutes seconds : ℕ) (z : Zone) → (seconds ≡ 60 → ⊥) → exists_leap hours minutes seconds z ≡ true
unfolding exists_leap
no_leap hours minutes seconds z n = rw (ne_eqb seconds 60 n)

-- ---- with `Z` or a difference that is one minute of the day

-- There is one,
pub some_minute : (z : Zone) → (z ≡ Zone.L → ⊥) → ZoneInRange z → (minute : ℕ) × (minute < 24 * 60) × LeapExists minute z
some_minute Zone.L n r = absurd (n refl)
some_minute Zone.Z n r = (23 * 60 + 59, omega arith, utc refl)
some_minute (Zone.LD d) n r = go d.behind refl (eqb (apart d) 0) refl
  where
    go : (b : Bool) → d.behind ≡ b → (z : Bool) → eqb (apart d) 0 ≡ z → (minute : ℕ) × (minute < 24 * 60) × LeapExists minute (Zone.LD d)
    go true b z x = (23 * 60 + 59 - apart d, omega (arith, r.hours, r.minutes), behind d b (omega (arith, r.hours, r.minutes)))
    go false b true x = (23 * 60 + 59, omega arith, level d b (eqb-true (apart d) 0 x) refl)
    go false b false x = (apart d - 1, omega (arith, r.hours, r.minutes), ahead d b (omega (arith, eqb-false (apart d) 0 x)))

-- and no other.
pub one_minute : (z : Zone) → (z ≡ Zone.L → ⊥) → (m n : ℕ) → LeapExists m z → LeapExists n z → m ≡ n
one_minute Zone.L n a b x y = absurd (n refl)
one_minute Zone.Z n a b (utc e) (utc f) = omega (arith, e, f)
one_minute (Zone.LD d) n a b (level x s z e) (level y t w f) = omega (arith, e, f)
one_minute (Zone.LD d) n a b (level x s z e) (ahead y t f) = omega (arith, z, f)
one_minute (Zone.LD d) n a b (ahead x s e) (level y t z f) = omega (arith, z, e)
one_minute (Zone.LD d) n a b (ahead x s e) (ahead y t f) = omega (arith, e, f)
one_minute (Zone.LD d) n a b (behind x s e) (behind y t f) = omega (arith, e, f)
one_minute (Zone.LD d) n a b (level x s z e) (behind y t f) = absurd (false≢true (sym s ∙ t))
one_minute (Zone.LD d) n a b (ahead x s e) (behind y t f) = absurd (false≢true (sym s ∙ t))
one_minute (Zone.LD d) n a b (behind x s e) (level y t z f) = absurd (false≢true (sym t ∙ s))
one_minute (Zone.LD d) n a b (behind x s e) (ahead y t f) = absurd (false≢true (sym t ∙ s))
