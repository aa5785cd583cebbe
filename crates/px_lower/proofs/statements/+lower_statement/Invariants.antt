use Rattle.std.proofs.Common.{ℕ, List, Result, map, drop}
use Rattle.px_core.specs.CommandTree.{CommandTree, command_tree}
use Rattle.px_syntax.specs.TypedTree.{statements_of}
use Rattle.px_syntax.specs.TypedViews.{typed_statement}
use Rattle.px_lower.specs.declared.put.Halt.{Halt}
use Rattle.px_lower.specs.Lowering.{lowered_statements}
use Rattle.px_lower.specs.Chains.{Does}
use Rattle.px_lower.proofs.statements.+lower_statement.Given as goal

-- whatever what is left comes to, all comes to
abbrev pub invariant-statements-loop-s : goal.invariant-statements-loop-s
invariant-statements-loop-s l = (after : List CommandTree) (r : Result ℕ Halt) →
    Does (lowered_statements (statements_of (map typed_statement (drop l.s-index l.all))) l.last) (map command_tree l.out.items) after r →
    Does (lowered_statements (statements_of (map typed_statement l.all)) l.fn.next) (map command_tree l.fn.out.items) after r
