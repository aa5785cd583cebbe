use Rattle.std.proofs.Common.{false, subst, arith}
use Rattle.px_cnf.specs.declared.literal.Literal.{Literal}
use Rattle.px_sat.specs.Uses.{code, HasUse}
use Rattle.px_sat.proofs.ListLemmas.{each_more, each_at_end}
use Rattle.px_sat.proofs.clauses.put_uses.Goals as goal

pub loop-literal-preserved : goal.loop-literal-preserved
loop-literal-preserved c = record {
  keeps = λ k i h. c.put_use.ensures.keeps k i (c.loop-literal.invariant.keeps k i h);
  put = each_more (λ (l : Literal). HasUse c.put_use.new.uses.items (code l) c.args.at) c.args.clause.now c.loop-literal.literal-index (record { variable = 0; positive = false }) (let t = c.loop-literal-test.true in omega arith)
      (λ m n. c.put_use.ensures.keeps (code m) c.args.at (c.loop-literal.invariant.put m n))
      (subst (λ k. HasUse c.put_use.new.uses.items k c.args.at) c.code.ensures c.in_ok-put_use.ensures.put);
}

pub returns-clause-put : goal.returns-clause-put
returns-clause-put c = each_at_end (λ (l : Literal). HasUse c.loop-literal.uses.items (code l) c.args.at) c.args.clause.now c.loop-literal.literal-index (let t = c.loop-literal-test.false in omega arith) c.loop-literal.invariant.put
