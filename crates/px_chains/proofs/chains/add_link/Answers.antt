use Rattle.std.proofs.Common.{◌≡◌, ◌+◌, ◌∷◌, [], ◌++◌, List, ℕ, length, set, sym, ap, subst, ◌∙◌}
use Rattle.std.proofs.lemmas.List.{get_or_default, length_push}
use Rattle.px_chains.specs.declared.chains.Link.{Link}
use Rattle.px_chains.specs.Links.{AreLinked}
use Rattle.px_chains.proofs.Linking.{linked_room, linked_more}
use Rattle.px_chains.proofs.chains.add_link.Goals as goal

pub returns-in_err-make_room-clause-linked : goal.returns-in_err-make_room-clause-linked
returns-in_err-make_room-clause-linked c =
    linked_room c.args.links.now.items c.args.ends.now.items c.make_room.new.ends.items c.make_room.ensures.grows c.make_room.ensures.same c.requires

pub returns-in_err-push-clause-linked : goal.returns-in_err-push-clause-linked
returns-in_err-push-clause-linked c =
    subst (λ ls. AreLinked ls c.make_room.new.ends.items) (sym c.in_err-push.ensures.items)
    (linked_room c.args.links.now.items c.args.ends.now.items c.make_room.new.ends.items c.make_room.ensures.grows c.make_room.ensures.same c.requires)

pub returns-clause-linked : goal.returns-clause-linked
returns-clause-linked c =
    let links : List Link = c.args.links.now.items in
    let ends : List ℕ = c.make_room.new.ends.items in
    let last : Link = record { key = c.args.key; before = c.index-before.result.now } in
    let room = c.in_ok-make_room.ensures.room in
    let known = c.index-before.ensures ∙ get_or_default ends c.args.key c.index-before.result.now 0 room in
    let more : c.push.new.self.items ≡ links ++ last ∷ [] = c.in_ok-push.ensures.items in
    let count : length links + 1 ≡ c.len.result = sym (length_push links last) ∙ ap length (sym more) ∙ sym (c.len.ensures ∙ c.push.new.self.ok.0) in
    subst (λ n. AreLinked c.push.new.self.items (set ends c.args.key n)) count
    (subst (λ ls. AreLinked ls (set ends c.args.key (length links + 1))) (sym more)
    (linked_more links last ends room known
    (linked_room links c.args.ends.now.items ends c.make_room.ensures.grows c.make_room.ensures.same c.requires)))
