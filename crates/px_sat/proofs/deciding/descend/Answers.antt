use Rattle.std.proofs.Common.{arith}
use Rattle.px_sat.proofs.SearchLemmas.{steps_extend, value_extends}
use Rattle.px_sat.proofs.deciding.descend.Goals as goal

pub loop-variable-init : goal.loop-variable-init
loop-variable-init c = record {
  search = steps_extend c.requires.search c.in_ok-found.ensures.extends;
  falsified = c.in_ok-found.ensures.falsified;
  closed = c.in_ok-found.ensures.closed;
  known = λ x h. value_extends c.in_ok-found.ensures.extends x (c.requires.known x h);
}

pub returns-clause-known : goal.returns-clause-known
returns-clause-known c = λ _ x h. c.loop-variable.invariant.known x (let t = c.loop-variable-test.false in omega arith)
