use Rattle.std.proofs.Common.{◌≡◌, ◌-◌}
use Rattle.px_syntax.specs.ExpressionTree.{expression_tree}
use Rattle.px_expressions.specs.Lexemes.{seen}
use Rattle.px_expressions.specs.Reading.{members_at, chain_limit}
use Rattle.px_expressions.proofs.expressions.members.Given as goal

abbrev pub invariant-loop : goal.invariant-loop
invariant-loop l = members_at (chain_limit - l.counter) (expression_tree l.left) (seen l.rest) ≡ members_at chain_limit (expression_tree l.fn.first) (seen l.fn.input)
