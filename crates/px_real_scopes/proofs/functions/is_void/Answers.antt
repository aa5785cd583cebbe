use Rattle.std.proofs.Common.{◌≡◌, length, true, ◌&&◌, sym, ap, ◌∙◌, arith}
use Rattle.px_real_declaring.specs.Trees.{specifier_tree, declarator_tree, declared_tree, declaration_tree}
use Rattle.px_real_types.specs.Declarators.{is_nothing}
use Rattle.px_real_scopes.specs.Functions.{is_void_word, is_void}
use Rattle.px_real_scopes.proofs.FunctionLemmas.{void_is}
use Rattle.px_real_scopes.proofs.functions.is_void.Goals as goal

pub returns-then-is_void_word : goal.returns-then-is_void_word
returns-then-is_void_word c = λ all.
    let ss = c.in-Declaration.specifiers.items in
    let xs = c.in-Declaration.declared.items in
    let one : length ss ≡ 1 = omega (arith, c.in-Declaration.specifiers.ok.0, c.len.ensures, c.if-len-ne1.false) in
    let other : length xs ≡ 1 = omega (arith, c.in-Declaration.declared.ok.0, c.len-else-len-ne1.ensures, c.if-len-ne1-2.false) in
    let word : true ≡ is_void_word (specifier_tree all c.index.result.now) = sym c.if-is_void_word.true ∙ c.is_void_word.ensures all in
    c.is_nothing.ensures all ∙ ap (λ b. b && is_nothing (declarator_tree all c.index-then-is_void_word.result.now.declarator)) word
    ∙ sym (ap is_void (ap (declaration_tree all) c.in-Declaration.is) ∙ void_is (specifier_tree all) (declared_tree all) ss xs c.index.result.now c.index-then-is_void_word.result.now one other c.index.ensures c.index-then-is_void_word.ensures)
