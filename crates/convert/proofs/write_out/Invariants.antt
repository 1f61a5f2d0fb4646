-- Each write takes at least an octet of what is left.
use Rattle.std.proofs.Common.{length}
use Rattle.convert.proofs.write_out.Given as goal

abbrev pub decreases-loop-rest : goal.decreases-loop-rest
decreases-loop-rest g l = length l.rest
