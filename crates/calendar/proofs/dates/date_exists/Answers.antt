use Rattle.calendar.proofs.dates.date_exists.Goals as goal

pub returns-in-YM : goal.returns-in-YM
returns-in-YM c = simp (c.in-YM.is, c.up_to.ensures)

pub returns-in-YMD : goal.returns-in-YMD
returns-in-YMD c = simp (c.in-YMD.is, c.up_to-in-YMD.ensures, c.month_length.ensures)

pub returns-in-YD : goal.returns-in-YD
returns-in-YD c = simp (c.in-YD.is, c.up_to-in-YD.ensures, c.year_length.ensures)

pub returns-in-YW : goal.returns-in-YW
returns-in-YW c = simp (c.in-YW.is, c.up_to-in-YW.ensures, c.weeks_in_year.ensures)

pub returns-then-up_to : goal.returns-then-up_to
returns-then-up_to c =
    let weeks-in-year2 = c.weeks_in_year-in-YWD in
    simp (c.in-YWD.is, ← weeks-in-year2.ensures, ← c.up_to-in-YWD.ensures, c.if-up_to.true, c.up_to-then-up_to.ensures)

pub returns-else-up_to : goal.returns-else-up_to
returns-else-up_to c =
    simp (c.in-YWD.is, ← c.weeks_in_year-in-YWD.ensures, ← c.up_to-in-YWD.ensures, c.if-up_to.false)
