use Rattle.std.proofs.Common.{◌≡◌, map, take, length}
use Rattle.px_core.specs.CommandTree.{command_tree}
use Rattle.px_core.proofs.equal.+equal.Given as goal

abbrev pub invariant-equal_lists-loop-i : goal.invariant-equal_lists-loop-i
invariant-equal_lists-loop-i l = record {
  as_long : length l.left ≡ length l.right;
  so_far : map command_tree (take l.i l.left) ≡ map command_tree (take l.i l.right);
}
