use Rattle.std.proofs.Common.{◌≡◌, [], map, sym, ap, ◌∙◌}
use Rattle.std.proofs.lemmas.Bool.{eqb-true}
use Rattle.std.proofs.lemmas.List.{nil_from_length}
use Rattle.px_real_declaring.specs.Trees.{specifier_tree, declared_tree}
use Rattle.px_real_types.specs.Scopes.{texts}
use Rattle.px_real_scopes.specs.Entering.{with_members}
use Rattle.px_real_scopes.specs.Steps.{MembersTree}
use Rattle.px_real_scopes.proofs.MemberLemmas.{on_ok}
use Rattle.px_real_scopes.proofs.members.MemberList.add_line.Goals as goal

pub returns-then-is_empty : goal.returns-then-is_empty
returns-then-is_empty c =
    let old : MembersTree = c.args.self.now in
    let all = texts c.args.on in
    let none : c.args.declared.now ≡ [] = nil_from_length c.args.declared.now (eqb-true _ 0 (sym c.if-is_empty.ensures)) in
    on_ok c.add_nameless.result (λ e. e all ∙ ap (λ z. record { cells = old.cells; members = with_members old.cells c.args.scopes.now (map (specifier_tree all) c.args.specifiers.now) old.members (map (declared_tree all) z) }) (sym none))
    c.add_nameless.ensures
