use Rattle.std.proofs.Common.{◌≡◌, drop}
use Rattle.px_real_cutting.specs.Items.{body_behind}
use Rattle.px_real_cutting.proofs.cutting.body_behind.Given as goal

abbrev pub invariant-loop-index : goal.invariant-loop-index
invariant-loop-index l = body_behind (drop l.index l.pieces) ≡ body_behind l.pieces
