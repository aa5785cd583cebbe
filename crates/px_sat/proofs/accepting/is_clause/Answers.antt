use Rattle.std.proofs.Common.{◌≡◌, false, true, get_or, arith}
use Rattle.px_sat.proofs.StepLemmas.{new_from_none}
use Rattle.px_sat.proofs.ClauseLemmas.{twice, same_next, clause_next}
use Rattle.px_sat.proofs.accepting.is_clause.Goals as goal

pub returns-then-has_value : goal.returns-then-has_value
returns-then-has_value c = (
  λ e. (let f : false ≡ true = e in cc),
  λ k. absurd (twice c.args.variables c.args.clause.now c.loop-literal.seen c.loop-literal.literal-index (record { variable = 0; positive = false }) (let t = c.loop-literal-test.true in omega arith) c.loop-literal.invariant.same (c.has_value.ensures.known c.if-has_value.true) k),
)

pub push-requires : goal.push-requires
push-requires c = new_from_none c.loop-literal.seen (get_or c.args.clause.now c.loop-literal.literal-index (record { variable = 0; positive = false })) (c.has_value.ensures.unknown c.if-has_value.false)

pub loop-literal-preserved : goal.loop-literal-preserved
loop-literal-preserved c =
    let t = c.loop-literal-test.true in
    record {
      same = rw c.in_ok-push.ensures (same_next c.args.variables c.args.clause.now c.loop-literal.seen c.loop-literal.literal-index (record { variable = 0; positive = false }) (omega arith) c.loop-literal.invariant.same);
      clause = clause_next c.args.variables c.args.clause.now c.loop-literal.seen c.loop-literal.literal-index (record { variable = 0; positive = false }) (omega arith) c.loop-literal.invariant.same c.loop-literal.invariant.clause (let f = c.if-literal-variables.false in omega arith) (c.has_value.ensures.unknown c.if-has_value.false);
    }
