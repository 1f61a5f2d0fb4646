-- Each setting by its place among those of its property, from 1, in the order of "Base settings".
use Rattle.std.specs.Prelude.{ℕ, cond, eqb}
use Rattle.texts.specs.declared.forms.DateForm.{DateForm}
use Rattle.texts.specs.declared.forms.ClockForm.{ClockForm}
use Rattle.texts.specs.declared.forms.ZoneForm.{ZoneForm}

-- "`Date`: Y, YM, YMD, YD, YW, YWD."
abbrev pub date_number : DateForm → ℕ
date_number DateForm.Y = 1
date_number DateForm.YM = 2
date_number DateForm.YMD = 3
date_number DateForm.YD = 4
date_number DateForm.YW = 5
date_number DateForm.YWD = 6

-- The Date setting with a number from 1 to 6.
unfoldable pub date_at : ℕ → DateForm
date_at n =
    cond (eqb n 1) DateForm.Y
    (cond (eqb n 2) DateForm.YM
    (cond (eqb n 3) DateForm.YMD
    (cond (eqb n 4) DateForm.YD
    (cond (eqb n 5) DateForm.YW DateForm.YWD))))

-- "`Time`: H, HM, HMS", with or without a fraction.
abbrev pub clock_number : ClockForm → ℕ
clock_number ClockForm.H = 1
clock_number ClockForm.HM = 2
clock_number ClockForm.HMS = 3

-- The Time setting with a number from 1 to 3, its fraction aside.
unfoldable pub clock_at : ℕ → ClockForm
clock_at n = cond (eqb n 1) ClockForm.H (cond (eqb n 2) ClockForm.HM ClockForm.HMS)

-- "`Local-or-UTC`: L, Z, LD."
abbrev pub zone_number : ZoneForm → ℕ
zone_number ZoneForm.L = 1
zone_number ZoneForm.Z = 2
zone_number ZoneForm.LD = 3

-- The Local-or-UTC setting with a number from 1 to 3.
unfoldable pub zone_at : ℕ → ZoneForm
zone_at n = cond (eqb n 1) ZoneForm.L (cond (eqb n 2) ZoneForm.Z ZoneForm.LD)
