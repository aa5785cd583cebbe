use Rattle.px_real_declaring.specs.Trees.{specifier_tree}
use Rattle.px_real_types.proofs.StaticLemmas.{static_here, static_not_here, none_static}
use Rattle.px_real_types.proofs.linkage.says_static.Goals as goal

pub returns-then-is_static : goal.returns-then-is_static
returns-then-is_static c = λ all.
    static_here (specifier_tree all) c.args.specifiers.now c.loop-specifier.specifier-index _ (c.loop-specifier.invariant all) c.specifier-item.result c.loop-specifier-test.true c.specifier-item.is (c.if-is_static.ensures all)

pub loop-specifier-preserved : goal.loop-specifier-preserved
loop-specifier-preserved c = λ all.
    static_not_here (specifier_tree all) c.args.specifiers.now c.loop-specifier.specifier-index _ (c.loop-specifier.invariant all) c.specifier-item.result c.loop-specifier-test.true c.specifier-item.is (c.if-is_static.ensures all)

pub returns : goal.returns
returns c = λ all. none_static (specifier_tree all) c.args.specifiers.now c.loop-specifier.specifier-index _ (c.loop-specifier.invariant all) c.loop-specifier-test.false
