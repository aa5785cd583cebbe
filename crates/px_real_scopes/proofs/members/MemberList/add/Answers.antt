use Rattle.std.proofs.Common.{ap, ◌∙◌}
use Rattle.px_real_symbols.specs.Symbols.{held_in}
use Rattle.px_real_declaring.specs.Trees.{declared_tree}
use Rattle.px_real_types.specs.Scopes.{texts}
use Rattle.px_real_scopes.specs.Steps.{MembersTree}
use Rattle.px_real_scopes.proofs.MemberLemmas.{on_ok, some_mapped, member_is, no_member}
use Rattle.px_real_scopes.proofs.members.MemberList.add.Goals as goal

pub returns-in-Some : goal.returns-in-Some
returns-in-Some c =
    let old : MembersTree = c.args.self.now in
    let all = texts c.args.on in
    on_ok c.push.result (λ e. e ∙ ap (λ z. record { cells = old.cells; members = z })
    (member_is old.cells c.args.known old.members (declared_tree all c.args.declared.now) c.in-Some.name.now c.as_slice.result.now c.made-member.result c.is_some.result c.declared_known-known.result
    (c.in-Some.ensures all) c.as_slice.ensures (c.is_some.ensures ∙ some_mapped (held_in all) c.args.declared.now.value) c.declared_known-known.ensures c.made-member.ensures)) c.push.ensures

pub returns-in-None : goal.returns-in-None
returns-in-None c =
    let old : MembersTree = c.args.self.now in
    let all = texts c.args.on in
    ap (λ z. record { cells = old.cells; members = z }) (no_member old.cells c.args.known old.members (declared_tree all c.args.declared.now) (c.in-None.ensures all))
