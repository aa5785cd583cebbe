use Rattle.std.proofs.Common.{sym}
use Rattle.px_syntax.specs.ExpressionTree.{expression_tree}
use Rattle.px_bodies.proofs.ChainLemmas.{site-after}
use Rattle.px_bodies.proofs.expressions.site_after.Goals as goal

pub returns-in-Some : goal.returns-in-Some
returns-in-Some c = site-after (expression_tree c.args.first.now) c.args.links.now c.in-Some.last.now (sym c.in-Some.ensures.value)
