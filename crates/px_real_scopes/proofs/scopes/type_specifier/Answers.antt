use Rattle.std.proofs.Common.{sym}
use Rattle.px_real_declaring.specs.Trees.{specifier_tree}
use Rattle.px_real_scopes.specs.Knowing.{if_type}
use Rattle.px_real_scopes.proofs.TurnLemmas.{said_here, said_next, none_said}
use Rattle.px_real_scopes.proofs.FunctionLemmas.{if_yes, if_no}
use Rattle.px_real_scopes.proofs.scopes.type_specifier.Goals as goal

pub returns-then-says_type : goal.returns-then-says_type
returns-then-says_type c = λ all.
    let s = specifier_tree all c.specifier-item.result in
    said_here if_type (specifier_tree all) c.args.specifiers.now c.loop-specifier.specifier-index c.specifier-item.result s c.loop-specifier-test.true c.specifier-item.is (c.loop-specifier.invariant all) (if_yes s (sym (c.if-says_type.ensures all)))

pub loop-specifier-preserved : goal.loop-specifier-preserved
loop-specifier-preserved c = λ all.
    said_next if_type (specifier_tree all) c.args.specifiers.now c.loop-specifier.specifier-index c.specifier-item.result c.loop-specifier-test.true c.specifier-item.is (c.loop-specifier.invariant all)
    (if_no (specifier_tree all c.specifier-item.result) (sym (c.if-says_type.ensures all)))

pub returns : goal.returns
returns c = λ all. none_said if_type (specifier_tree all) c.args.specifiers.now c.loop-specifier.specifier-index c.loop-specifier-test.false (c.loop-specifier.invariant all)
