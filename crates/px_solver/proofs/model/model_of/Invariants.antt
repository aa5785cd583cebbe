use Rattle.std.proofs.Common.{◌≡◌, ℕ, ◌%◌, ◌^◌, ◌<◌, length, get_or}
use Rattle.px_terms.specs.Valuations.{valuation_of}
use Rattle.px_solver.specs.Finals.{final_value, own_below}
use Rattle.px_solver.specs.Tables.{word_under}
use Rattle.px_solver.proofs.model.model_of.Given as goal

abbrev pub invariant-loop-x : goal.invariant-loop-x
invariant-loop-x l = record {
  so_far : length l.values.items ≡ l.x;
  each : (x : ℕ) → x < l.x → valuation_of l.values.items x ≡ final_value (word_under l.table (λ v. get_or l.roots v 0) x % 2 ^ 32) (own_below l.model) (valuation_of l.model x);
}
