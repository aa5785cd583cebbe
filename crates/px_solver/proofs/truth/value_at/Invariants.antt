use Rattle.std.proofs.Common.{◌≡◌, ◌+◌, ◌%◌, ◌^◌, map, take, get_or}
use Rattle.px_terms.specs.Terms.{value_at}
use Rattle.px_terms.specs.Monomials.{term_of}
use Rattle.px_solver.specs.Tables.{word_under}
use Rattle.px_solver.proofs.truth.value_at.Given as goal

abbrev pub invariant-loop-m : goal.invariant-loop-m
invariant-loop-m l = l.sum ≡ (l.p.constant + value_at (word_under l.table (λ k. get_or l.roots k 0)) (map term_of (take l.m-index l.m-items))) % 2 ^ 32
