use Rattle.std.proofs.Common.{take, ◌⊎◌}
use Rattle.std.specs.List.{Contains}
use Rattle.px_cnf.specs.Clauses.{negated}
use Rattle.px_cnf.specs.declared.literal.Literal.{Literal}
use Rattle.px_sat.specs.Steps.{IsTrue}
use Rattle.px_sat.specs.Denials.{Denies, AreFalse}
use Rattle.px_sat.proofs.accepting.deny.Given as goal

abbrev pub invariant-loop-literal : goal.invariant-loop-literal
invariant-loop-literal l = record {
  denies : Denies l.clause l.initial.trail l.trail;
  all : AreFalse l.trail (take l.literal-index l.clause);
  only : (k : Literal) → IsTrue l.trail k → IsTrue l.initial.trail k ⊎ Contains (take l.literal-index l.clause) (negated k);
}
