use Rattle.std.proofs.Common.{◌≡◌, ◌∙◌, sym, ap, ap₂, map, length, arith}
use Rattle.px_real_declaring.specs.Trees.{specifier_tree, declared_tree}
use Rattle.px_real_types.specs.Scopes.{texts}
use Rattle.px_real_types.specs.Declarators.{declared_shape}
use Rattle.px_real_values.proofs.StarLemmas.{one_declared}
use Rattle.px_real_values.proofs.spelling.spelled_by.Goals as goal

pub returns : goal.returns
returns g c =
    let all = texts c.args.on in
    let one = c.index-declared-0.result in
    let alone : length c.args.declared.now ≡ 1 = omega arith in
    ap₂ (λ a b. record { shape = a; is_starred = b }) (c.declared_shape.ensures ∙ ap (declared_shape (declared_tree all one)) c.specified-shape.ensures) (c.is_starred.ensures all)
    ∙ sym (one_declared all (g.S.Scope.meanings c.args.scope.now) (map (specifier_tree all) c.args.specifiers.now) c.args.declared.now one alone c.index-declared-0.is)
