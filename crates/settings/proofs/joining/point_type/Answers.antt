use borrow.Author.Tests.{eq-eqb, ne_eqb}
use Rattle.type_texts.specs.TypeTexts.{point_type}
use Rattle.settings.proofs.joining.point_type.Goals as goal

pub returns-then-basic-eq1 : goal.returns-then-basic-eq1
unfolding point_type
returns-then-basic-eq1 c = rw (eq-eqb _ _ c.if-basic-eq1.true, ← c.date_at-date.ensures) c.date.ensures

pub returns-then-basic-eq2 : goal.returns-then-basic-eq2
unfolding point_type
returns-then-basic-eq2 c =
    rw (ne_eqb _ _ c.if-basic-eq1.false, eq-eqb _ _ c.if-basic-eq2.true, ← c.time_at-time.ensures) c.time.ensures

pub returns : goal.returns
unfolding point_type
returns c =
    rw (
      ne_eqb _ _ c.if-basic-eq1.false,
      ne_eqb _ _ c.if-basic-eq2.false,
      ← c.date_at-date.ensures,
      ← c.time_at-time.ensures,
    )
    c.date_time.ensures
