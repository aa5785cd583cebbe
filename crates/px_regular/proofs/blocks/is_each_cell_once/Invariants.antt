use Rattle.std.proofs.Common.{◌≡◌, drop}
use Rattle.px_entry.specs.Sorts.{is_cell_sort}
use Rattle.px_entry.specs.Regular.{each_once}
use Rattle.px_regular.proofs.blocks.is_each_cell_once.Given as goal

-- those that are left stand once where all do
abbrev pub invariant-loop-n : goal.invariant-loop-n
invariant-loop-n l = each_once (λ i. is_cell_sort i.sort) l.xs l.n (drop l.n l.vars) ≡ each_once (λ i. is_cell_sort i.sort) l.xs 0 l.vars
