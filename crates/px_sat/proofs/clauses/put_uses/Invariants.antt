use Rattle.std.proofs.Common.{ℕ, take}
use Rattle.std.specs.List.{Contains}
use Rattle.px_cnf.specs.declared.literal.Literal.{Literal}
use Rattle.px_sat.specs.Uses.{code, HasUse}
use Rattle.px_sat.proofs.clauses.put_uses.Given as goal

abbrev pub invariant-loop-literal : goal.invariant-loop-literal
invariant-loop-literal l = record {
  keeps : (c i : ℕ) → HasUse l.initial.uses.items c i → HasUse l.uses.items c i;
  put : (m : Literal) → Contains (take l.literal-index l.clause) m → HasUse l.uses.items (code m) l.at;
}
