-- Settings by their numbers, and back.
use mathlib.Core.Path.{◌≡◌, refl}
use Rattle.texts.specs.declared.forms.ClockForm.{ClockForm}
use Rattle.texts.specs.declared.forms.DateForm.{DateForm}
use Rattle.texts.specs.declared.forms.ZoneForm.{ZoneForm}
use Rattle.types.specs.Numbers.{date_number, date_at, clock_number, clock_at, zone_number, zone_at}

-- The setting of a setting's number is that setting.
pub date_back : (form : DateForm) → date_at (date_number form) ≡ form
unfolding date_at
date_back DateForm.Y = refl
date_back DateForm.YM = refl
date_back DateForm.YMD = refl
date_back DateForm.YD = refl
date_back DateForm.YW = refl
date_back DateForm.YWD = refl

pub clock_back : (form : ClockForm) → clock_at (clock_number form) ≡ form
unfolding clock_at
clock_back ClockForm.H = refl
clock_back ClockForm.HM = refl
clock_back ClockForm.HMS = refl

pub zone_back : (form : ZoneForm) → zone_at (zone_number form) ≡ form
unfolding zone_at
zone_back ZoneForm.L = refl
zone_back ZoneForm.Z = refl
zone_back ZoneForm.LD = refl
