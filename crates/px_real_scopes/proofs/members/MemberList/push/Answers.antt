use Rattle.std.proofs.Common.{map, sym, ap, ◌∙◌}
use Rattle.std.proofs.lemmas.List.{map_push}
use Rattle.px_real_scopes.specs.declared.meaning.NamedMember.{NamedMember}
use Rattle.px_real_scopes.specs.Views.{member_view}
use Rattle.px_real_scopes.specs.Entering.{counted, cells_among}
use Rattle.px_real_scopes.proofs.MemberLemmas.{cells_pushed}
use Rattle.px_real_scopes.proofs.members.MemberList.push.Goals as goal

pub invariant_of-self-2 : goal.invariant_of-self-2
invariant_of-self-2 c =
    let m : NamedMember = record { name = c.in_ok-name.name; member = c.args.member } in
    c.in_ok-next.ensures ∙ ap (λ n. counted n c.args.member) c.self.invariant ∙ sym (cells_pushed (map member_view c.self.inside.items.items) (member_view m))
    ∙ ap cells_among (sym (map_push member_view c.self.inside.items.items m)) ∙ sym (ap (λ z. cells_among (map member_view z)) c.in_ok-push.ensures.items)
