use Rattle.std.proofs.Common.{◌+◌, ◌*◌}
use Rattle.px_real_declaring.proofs.declarators.+declarator.Given as goal

abbrev pub decreases-declarator : goal.decreases-declarator
decreases-declarator g l = 8 * l.depth

abbrev pub decreases-opened : goal.decreases-opened
decreases-opened g l = 8 * l.depth + 3

abbrev pub decreases-pointer : goal.decreases-pointer
decreases-pointer g l = 8 * l.depth + 1

abbrev pub decreases-core : goal.decreases-core
decreases-core g l = 8 * l.depth + 2

abbrev pub decreases-inner : goal.decreases-inner
decreases-inner g l = 8 * l.depth + 1
