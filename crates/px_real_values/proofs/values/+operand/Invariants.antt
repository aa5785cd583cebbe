use Rattle.std.proofs.Common.{◌≡◌, ◌+◌, ◌*◌, ◌++◌, map, drop}
use Rattle.px_real_reading.specs.Trees.{suffix_tree, link_tree, chained, all_suffixed}
use Rattle.px_real_values.specs.Views.{operand_seen, given_seen}
use Rattle.px_real_values.proofs.ArgumentLemmas.{given_of}
use Rattle.px_real_values.proofs.ChainLemmas.{Along}
use Rattle.px_real_values.proofs.FallLemmas.{weight, row_weight, suffix_weight, suffixes_weight, links_weight}
use Rattle.px_real_values.proofs.values.+operand.Given as goal

-- what there is, is that of some tree, and with what is left of the chain it is the whole
abbrev pub invariant-suffixes-loop-i : goal.invariant-suffixes-loop-i
invariant-suffixes-loop-i g l =
    Along (g.E.Environment.sees l.environment) (suffix_tree (g.E.Environment.tokens l.environment)) all_suffixed (operand_seen l.initial.left) l.suffixes (drop l.i l.suffixes) (operand_seen l.left)

abbrev pub invariant-links-loop-i : goal.invariant-links-loop-i
invariant-links-loop-i g l =
    Along (g.E.Environment.sees l.environment) (link_tree (g.E.Environment.tokens l.environment)) chained (operand_seen l.initial.left) l.links (drop l.i l.links) (operand_seen l.left)

-- the arguments so far, and those that are left, are all
abbrev pub invariant-given-loop-i : goal.invariant-given-loop-i
invariant-given-loop-i g l =
    let env = g.E.Environment.sees l.environment in
    let tokens = g.E.Environment.tokens l.environment in
    map given_seen l.all.items ++ given_of env tokens (drop l.i l.arguments) ≡ given_of env tokens l.arguments

-- the expressions that stand in what is evaluated, and which function comes before which
abbrev pub decreases-evaluate : goal.decreases-evaluate
decreases-evaluate g l = 8 * weight (g.E.Environment.tokens l.environment.now) l.expression.now

abbrev pub decreases-measured : goal.decreases-measured
decreases-measured g l = 8 * weight (g.E.Environment.tokens l.environment.now) l.expression.now

abbrev pub decreases-element_at : goal.decreases-element_at
decreases-element_at g l = 8 * weight (g.E.Environment.tokens l.environment.now) l.index.now + 1

abbrev pub decreases-linked : goal.decreases-linked
decreases-linked g l = 8 * weight (g.E.Environment.tokens l.environment.now) l.right.now + 1

abbrev pub decreases-given : goal.decreases-given
decreases-given g l = 8 * row_weight (g.E.Environment.tokens l.environment.now) l.arguments.now + 1

abbrev pub decreases-block_of : goal.decreases-block_of
decreases-block_of g l = 8 * row_weight (g.E.Environment.tokens l.environment.now) l.arguments.now + 1

abbrev pub decreases-call : goal.decreases-call
decreases-call g l = 8 * row_weight (g.E.Environment.tokens l.environment.now) l.arguments.now + 2

abbrev pub decreases-links : goal.decreases-links
decreases-links g l = 8 * links_weight (g.E.Environment.tokens l.environment.now) l.links.now + 2

abbrev pub decreases-suffix : goal.decreases-suffix
decreases-suffix g l = 8 * suffix_weight (g.E.Environment.tokens l.environment.now) l.suffix.now + 3

abbrev pub decreases-suffixes : goal.decreases-suffixes
decreases-suffixes g l = 8 * suffixes_weight (g.E.Environment.tokens l.environment.now) l.suffixes.now + 4
