use Rattle.px_real_scopes.proofs.BlockLaws.{blocks_are_left}
use Rattle.px_real_scopes.proofs.laws.blocks_are_left.Goals as goal

pub returns : goal.returns
returns c = blocks_are_left
