use Rattle.std.proofs.Common.{suc, Some, None, arith}
use Rattle.px_meaning.specs.Events.{mark_of}
use Rattle.px_meaning.proofs.TreeMore.{tree_calls_wider}
use Rattle.px_meaning.proofs.laws.tree_bounds_widen.Goals as goal

pub returns : goal.returns
returns c = record {
  calls = λ bound P f arguments heap t ending end h. tree_calls_wider mark_of P (Some bound) None (λ made _. tt) f arguments heap t ending end h.0;
  next = λ bound P f arguments heap t ending end h.
      (tree_calls_wider mark_of P (Some bound) (Some (suc bound)) (λ made less. omega arith) f arguments heap t ending end h.0, h.1);
}
