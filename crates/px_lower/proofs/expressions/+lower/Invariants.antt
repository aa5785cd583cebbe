use Rattle.std.proofs.Common.{◌≡◌, ◌++◌, ℕ, List, Result, Ok, map, drop}
use Rattle.px_core.specs.CommandTree.{CommandTree, command_tree}
use Rattle.px_syntax.specs.TypedTree.{Expression, Condition, expressions_of, arguments_of}
use Rattle.px_syntax.specs.TypedViews.{typed_expression, typed_argument, typed_condition, arithmetic_link, relation_link, calculated, compared, cells, all_of, any_of}
use Rattle.px_lower.specs.declared.put.Halt.{Halt}
use Rattle.px_lower.specs.declared.commands.Operands.{Operands}
use Rattle.px_lower.specs.Lowering.{and_then, ready, lowered_expression, lowered_arguments, lowered_passed, lowered_condition}
use Rattle.px_lower.specs.Chains.{Gives, GivesAll, Decides, Does}
use Rattle.px_lower.proofs.expressions.+lower.Given as goal

-- whatever what is left comes to, all comes to
abbrev pub invariant-arguments-loop-e : goal.invariant-arguments-loop-e
invariant-arguments-loop-e l = (after : List CommandTree) (r : Result Operands Halt) →
    GivesAll (and_then (lowered_arguments (arguments_of (map typed_argument (drop l.e-index l.es))) l.behind) (λ xs n. ready (l.operands.items ++ xs) n)) (map command_tree l.out.items) after r →
    GivesAll (lowered_arguments (arguments_of (map typed_argument l.es)) l.fn.next) (map command_tree l.fn.out.items) after r

abbrev pub invariant-effects-loop-part : goal.invariant-effects-loop-part
invariant-effects-loop-part l = (after : List CommandTree) (r : Result ℕ Halt) →
    Does (lowered_passed (expressions_of (map typed_expression (drop l.part-index l.es))) l.behind) (map command_tree l.out.items) after r →
    Does (lowered_passed (expressions_of (map typed_expression l.es)) l.fn.next) (map command_tree l.fn.out.items) after r

-- what there is, is that of some tree, and with the links that are left of the whole chain
abbrev pub invariant-calculations-loop-link : goal.invariant-calculations-loop-link
invariant-calculations-loop-link l =
    (e : Expression) (n : ℕ) (before : List CommandTree) → Gives (lowered_expression e n) before (map command_tree l.fn.out.items) (Ok l.fn.left) →
    (t : Expression) × (calculated e (map arithmetic_link l.links) ≡ calculated t (map arithmetic_link (drop l.link-index l.links))) × Gives (lowered_expression t n) before (map command_tree l.out.items) (Ok l.x)

abbrev pub invariant-cells-loop-link : goal.invariant-cells-loop-link
invariant-cells-loop-link l =
    (t : Expression) × (cells (typed_expression l.fn.pointer) l.links ≡ cells t (drop l.link-index l.links)) × Gives (lowered_expression t l.fn.next) (map command_tree l.fn.out.items) (map command_tree l.out.items) (Ok l.at)

abbrev pub invariant-comparisons-loop-link : goal.invariant-comparisons-loop-link
invariant-comparisons-loop-link l =
    (e : Expression) (n : ℕ) (before : List CommandTree) → Gives (lowered_expression e n) before (map command_tree l.fn.out.items) (Ok l.fn.left) →
    (t : Expression) × (compared e (map relation_link l.links) ≡ compared t (map relation_link (drop l.link-index l.links))) × Gives (lowered_expression t n) before (map command_tree l.out.items) (Ok l.x)

abbrev pub invariant-conjunction-loop-right : goal.invariant-conjunction-loop-right
invariant-conjunction-loop-right l =
    (c : Condition) (n : ℕ) (before : List CommandTree) → Decides (lowered_condition c n) before (map command_tree l.fn.out.items) (Ok l.fn.left) →
    (t : Condition) × (all_of c (map typed_condition l.links) ≡ all_of t (map typed_condition (drop l.right-index l.links))) × Decides (lowered_condition t n) before (map command_tree l.out.items) (Ok l.x)

abbrev pub invariant-disjunction-loop-right : goal.invariant-disjunction-loop-right
invariant-disjunction-loop-right l =
    (c : Condition) (n : ℕ) (before : List CommandTree) → Decides (lowered_condition c n) before (map command_tree l.fn.out.items) (Ok l.fn.left) →
    (t : Condition) × (any_of c (map typed_condition l.links) ≡ any_of t (map typed_condition (drop l.right-index l.links))) × Decides (lowered_condition t n) before (map command_tree l.out.items) (Ok l.x)
