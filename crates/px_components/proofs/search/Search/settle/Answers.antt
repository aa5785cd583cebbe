use Rattle.std.proofs.Common.{◌≡◌, ◌-◌, length, vec_len, sym, ap, ◌∙◌, arith}
use Rattle.std.proofs.lemmas.List.{with_items_is}
use Rattle.px_components.specs.Searches.{State, state_of, group_at}
use Rattle.px_components.specs.declared.search.Group.{Group}
use Rattle.px_components.proofs.Settling.{search_settled}
use Rattle.px_components.proofs.search.Search.settle.Goals as goal

pub overflow_add-self : goal.overflow_add-self
overflow_add-self c =
    let i = (c.requires.search.are_groups.inside (length c.args.self.now.groups.items - 1) (let s = c.requires.some in omega arith)).0 in
    let r = c.requires.search.room in let f = c.requires.search.few in omega arith

pub returns-clause-search : goal.returns-clause-search
returns-clause-search c =
    let s : State = state_of c.args.self.now in
    let n = with_items_is c.args.self.now.nodes c.mark.new.nodes (c.mark.ensures.all_nodes ∙ ap length c.deref_mut.ensures.value ∙ sym c.args.self.now.nodes.ok.0) in
    let m = with_items_is c.args.self.now.numbers c.mark.new.numbers (c.mark.ensures.all_numbers ∙ ap length c.deref_mut-2.ensures.value ∙ sym c.args.self.now.numbers.ok.0) in
    let l : vec_len c.args.self.now.groups ≡ length s.groups = c.args.self.now.groups.ok.0 in
    let g : c.args.group.node ≡ (group_at s.groups (length s.groups - 1)).node = ap (λ (h : Group). h.node) c.requires.last in
    rw (n, m, c.truncate.ensures.items, c.pop.ensures.rest, l, g)
    (search_settled c.args.graph.now s c.requires.search c.requires.some (let t = ap (λ (h : Group). h.target) c.requires.last in let d = c.requires.done in omega arith)
    c.mark.new.nodes c.mark.new.numbers (rw (c.deref.ensures.value, c.deref_mut.ensures.value, c.deref_mut-2.ensures.value, g) at c.mark.ensures))
