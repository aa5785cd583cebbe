use Rattle.std.proofs.Common.{◌<◌, ◌+◌, length}
use Rattle.px_terms.proofs.Evaluation.{variables_at}
use Rattle.px_solver.proofs.candidates.fixed_contents.Goals as goal

pub push_product-requires-clause-inside : goal.push_product-requires-clause-inside
push_product-requires-clause-inside c =
    variables_at (λ x. x + 1 < length c.args.table.now) c.monomials-m-items.result.now c.loop-m.m-index c.m-item.result c.args.p.now.monomials c.loop-m-test.true c.m-item.is c.monomials-m-items.ensures.value c.requires.inside
