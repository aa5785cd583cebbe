use Rattle.std.proofs.Common.{◌≡◌, ◌%◌, ◌^◌, take, get_or}
use Rattle.px_terms.specs.Terms.{product_at}
use Rattle.px_solver.specs.Tables.{word_under}
use Rattle.px_solver.proofs.truth.product_at.Given as goal

abbrev pub invariant-loop-i : goal.invariant-loop-i
invariant-loop-i l = l.product ≡ product_at (word_under l.table (λ k. get_or l.roots k 0)) (take l.i l.vars) % 2 ^ 32
