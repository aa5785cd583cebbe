use Rattle.std.proofs.Common.{length}
use Rattle.px_solver.proofs.held.+some_refuted.Given as goal

abbrev pub decreases-some_refuted : goal.decreases-some_refuted
decreases-some_refuted g l = length l.domains.now
