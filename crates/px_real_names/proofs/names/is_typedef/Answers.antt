use Rattle.std.proofs.Common.{map, ap, sym, ◌∙◌}
use Rattle.std.proofs.lemmas.List.{drop_all}
use Rattle.px_real_declarations.specs.Names as Scopes
use Rattle.px_real_declaring.specs.Trees.{specifier_tree}
use Rattle.px_real_names.proofs.NameLemmas.{typedef_here, typedef_next}
use Rattle.px_real_names.proofs.names.is_typedef.Goals as goal

pub returns-then-is_typedef_word : goal.returns-then-is_typedef_word
returns-then-is_typedef_word c = λ all.
    typedef_here (specifier_tree all) c.args.specifiers.now c.loop-specifier.specifier-index _ (c.loop-specifier.invariant all) c.specifier-item.result c.loop-specifier-test.true c.specifier-item.is (c.if-is_typedef_word.ensures all)

pub loop-specifier-preserved : goal.loop-specifier-preserved
loop-specifier-preserved c = λ all.
    typedef_next (specifier_tree all) c.args.specifiers.now c.loop-specifier.specifier-index _ (c.loop-specifier.invariant all) c.specifier-item.result c.loop-specifier-test.true c.specifier-item.is (c.if-is_typedef_word.ensures all)

pub returns : goal.returns
returns c = λ all.
    sym (ap (λ z. Scopes.is_typedef (map (specifier_tree all) z)) (drop_all c.loop-specifier.specifier-index c.args.specifiers.now c.loop-specifier-test.false)) ∙ c.loop-specifier.invariant all
