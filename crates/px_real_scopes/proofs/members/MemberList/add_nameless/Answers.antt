use Rattle.std.proofs.Common.{[], ◌++◌, map, sym, ap, ◌∙◌}
use Rattle.std.proofs.lemmas.List.{append-nil}
use Rattle.px_real_declaring.specs.Trees.{specifier_tree}
use Rattle.px_real_scopes.specs.Entering.{inherited, members_without_a_name}
use Rattle.px_real_scopes.specs.Steps.{MembersTree}
use Rattle.px_real_scopes.specs.Views.{member_view}
use Rattle.px_real_scopes.proofs.TurnLemmas.{or_some, or_none}
use Rattle.px_real_scopes.proofs.MemberLemmas.{on_ok}
use Rattle.px_real_scopes.proofs.members.MemberList.add_nameless.Goals as goal

pub returns-in-Some : goal.returns-in-Some
returns-in-Some c =
    let old : MembersTree = c.args.self.now in
    on_ok c.add_inherited.result (λ e all. e ∙ ap (λ z. record { cells = old.cells; members = old.members ++ z })
    (or_some (members_without_a_name c.args.scopes.now (map (specifier_tree all) c.args.specifiers.now)) (map member_view c.in-Some.members.now) (λ ms. map inherited ms) [] (c.in-Some.ensures all))) c.add_inherited.ensures

pub returns-in-None : goal.returns-in-None
returns-in-None c = λ all.
    let old : MembersTree = c.args.self.now in
    ap (λ z. record { cells = old.cells; members = z })
    (sym (append-nil old.members) ∙ ap (λ z. old.members ++ z) (or_none (members_without_a_name c.args.scopes.now (map (specifier_tree all) c.args.specifiers.now)) (λ ms. map inherited ms) [] (c.in-None.ensures all)))
