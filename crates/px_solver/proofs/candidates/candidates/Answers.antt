use Rattle.std.proofs.Common.{length, ap, arith}
use Rattle.px_solver.specs.Tables.{fixed_under, picked}
use Rattle.px_solver.proofs.CandidateLemmas.{few_candidates, words_put}
use Rattle.px_solver.proofs.candidates.candidates.Goals as goal

pub returns-clause-value : goal.returns-clause-value
returns-clause-value c =
    words_put (fixed_under c.args.table.now) (picked c.args.conjuncts.now c.args.indexes.now) c.in_ok-values.values.items c.put_all_quotients.new.values.items c.in_ok-values.ensures c.in_ok-put_all_quotients.ensures

pub returns-clause-few : goal.returns-clause-few
returns-clause-few c =
    let is = picked c.args.conjuncts.now c.args.indexes.now in
    let e = ap length (words_put (fixed_under c.args.table.now) is c.in_ok-values.values.items c.put_all_quotients.new.values.items c.in_ok-values.ensures c.in_ok-put_all_quotients.ensures) in
    let f = few_candidates (fixed_under c.args.table.now) is in
    omega arith
