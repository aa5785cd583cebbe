use Rattle.px_real_declaring.specs.Trees.{declared_tree}
use Rattle.px_real_names.proofs.NameLemmas.{one_declared}
use Rattle.px_real_names.proofs.names.Names.add_all.Goals as goal

pub loop-each-preserved : goal.loop-each-preserved
loop-each-preserved c = λ all.
    one_declared (declared_tree all) c.args.declared.now c.loop-each.each-index c.each-item.result c.args.is_type c.loop-each.self c.add_declarator.new.self c.loop-each-test.true c.each-item.is
    (c.loop-each.invariant all) (c.in_ok-add_declarator.ensures all)
