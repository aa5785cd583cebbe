use Rattle.std.proofs.Common.{inl}
use Rattle.std.proofs.lemmas.Result.{IfOk-weaker}
use Rattle.px_solver.specs.declared.decision.Decision.{Decision}
use Rattle.px_solver.specs.Decisions.{IsOpen}
use Rattle.px_solver.proofs.DecideLemmas.{no_classes, decided}
use Rattle.px_solver.proofs.solver.found.Goals as goal

pub returns-in_default-2 : goal.returns-in_default-2
returns-in_default-2 c = record {
  answer = λ kinds unrefuted. inl (no_classes c.args.vars.now c.args.conjuncts.now (rw c.in_default-2.is at c.in_ok-table.ensures.found));
}

pub returns : goal.returns
returns c =
    let vars = c.args.vars.now in
    let cs = c.args.conjuncts.now in
    record {
      answer = IfOk-weaker c.decide_open.result (λ (d : Decision). IsOpen vars cs d) _ (λ d h kinds unrefuted. decided vars cs kinds unrefuted d h) c.decide_open.ensures;
    }
