use Rattle.printing.proofs.Laws.Sizes.{year_size}
use Rattle.printing.proofs.parts.year_digits.Goals as goal

pub returns-clause-value : goal.returns-clause-value
returns-clause-value c = let l = c.ilog10.ensures in
    year_size c.args.n _ (rw c.max.ensures at l.power_le) (rw c.max.ensures at l.next_power_gt) l.bound
