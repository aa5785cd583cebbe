use Rattle.std.proofs.Common.{◌≡◌, ◌++◌, take}
use Rattle.px_history.proofs.history.History.add.Given as goal

-- those of before, and the items so far
abbrev pub invariant-loop-item : goal.invariant-loop-item
invariant-loop-item g l = l.self.items ≡ l.fn.self.items ++ take l.item-index l.items
