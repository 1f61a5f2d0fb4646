use Rattle.reading.proofs.Laws.Tallies.{read_none, read_dates, read_times}
use Rattle.reading.proofs.duration.read_duration.Goals as goal

pub returns-in_err-after_octet : goal.returns-in_err-after_octet
returns-in_err-after_octet c = rw (c.from_residual.ensures, read_none c.args.text.now c.in_err-after_octet.ensures)

pub returns-in-Some : goal.returns-in-Some
returns-in-Some c =
    let p = c.in_ok-after_octet.ensures in
    let t = c.in-Some.ensures in
    let r = c.components.result in
    rw (read_times c.args.text.now p.0 r.0 r.1.now (rw (← p.1) c.components.ensures.text_value) t.0, ← t.1) c.with_times.ensures

pub returns-in-None : goal.returns-in-None
returns-in-None c =
    let p = c.in_ok-after_octet.ensures in
    let r = c.components.result in
    rw (read_dates c.args.text.now p.0 r.0 r.1.now (rw (← p.1) c.components.ensures.text_value) c.in-None.ensures) c.whole.ensures
