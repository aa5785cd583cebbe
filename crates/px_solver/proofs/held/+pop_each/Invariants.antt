use Rattle.std.proofs.Common.{length}
use Rattle.px_solver.proofs.held.+pop_each.Given as goal

abbrev pub decreases-pop_each : goal.decreases-pop_each
decreases-pop_each g l = length l.domains.now
