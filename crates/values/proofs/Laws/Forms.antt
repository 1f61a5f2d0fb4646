-- Forms are one where they compare as equal.
use mathlib.Core.Path.{◌≡◌, refl}
use mathlib.Core.Bool.{◌&&◌}
use Prim.Native.Nat.{suc}
use lib.Dec.{eqb, eqb-suc-suc}
use denote.Enum.Bare.{sameb}
use denote.Enum.Declared.{tag_of}
use Rattle.texts.specs.declared.forms.DateForm.{DateForm}
use Rattle.texts.specs.declared.forms.ClockForm.{ClockForm}
use Rattle.texts.specs.declared.forms.ZoneForm.{ZoneForm}
use Rattle.texts.specs.declared.forms.TimeForm.{TimeForm}
use Rattle.texts.specs.contracts.forms.DateForm.{the_type as date_type}
use Rattle.texts.specs.contracts.forms.ClockForm.{the_type as clock_type}
use Rattle.texts.specs.contracts.forms.ZoneForm.{the_type as zone_type}
use Rattle.types.specs.Numbers.{date_number, clock_number, zone_number}
use Rattle.held_values.specs.Forms.{same_date_form, same_time_form}

date_place : (f : DateForm) → date_number f ≡ suc (tag_of date_type f)
date_place DateForm.Y = refl
date_place DateForm.YM = refl
date_place DateForm.YMD = refl
date_place DateForm.YD = refl
date_place DateForm.YW = refl
date_place DateForm.YWD = refl

clock_place : (f : ClockForm) → clock_number f ≡ suc (tag_of clock_type f)
clock_place ClockForm.H = refl
clock_place ClockForm.HM = refl
clock_place ClockForm.HMS = refl

zone_place : (f : ZoneForm) → zone_number f ≡ suc (tag_of zone_type f)
zone_place ZoneForm.L = refl
zone_place ZoneForm.Z = refl
zone_place ZoneForm.LD = refl

pub same_date : (f g : DateForm) → same_date_form f g ≡ sameb date_type f g
unfolding same_date_form
same_date f g = rw (date_place, date_place g) (eqb-suc-suc (tag_of date_type f) (tag_of date_type g))

pub same_time : (f g : TimeForm) → same_time_form f g ≡ (sameb clock_type f.clock g.clock && eqb f.digits g.digits && sameb zone_type f.zone g.zone)
unfolding same_time_form
same_time f g = rw (clock_place f.clock, clock_place g.clock, zone_place f.zone, zone_place g.zone, eqb-suc-suc, eqb-suc-suc)
