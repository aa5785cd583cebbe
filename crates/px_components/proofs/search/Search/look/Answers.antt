use Rattle.std.proofs.Common.{◌≡◌, ◌<◌, length, get_or, vec_len, sym, ap, subst, ◌∙◌, arith}
use Rattle.px_components.specs.Graphs.{Reaches}
use Rattle.px_components.specs.Searches.{State, state_of, node_at}
use Rattle.px_components.specs.declared.search.Group.{Group}
use Rattle.px_components.proofs.Looking.{last_read, node_read}
use Rattle.px_components.proofs.Joining.{reach_target, search_looked_open, search_looked_settled}
use Rattle.px_components.proofs.search.Search.look.Goals as goal

pub open-requires-clause-reached : goal.open-requires-clause-reached
open-requires-clause-reached c = λ p l.
    let s : State = state_of c.args.self.now in
    let some : 0 < length s.targets = let r = c.requires.left in omega arith in
    let y = last_read s.targets c.len.result c.index-target.result.now (c.len.ensures ∙ c.args.self.now.targets.ok.0) some c.index-target.ensures in
    subst (Reaches c.args.graph.now (get_or s.path p 0)) (sym y)
    (reach_target c.args.graph.now s c.requires.search c.requires.some (let t = ap (λ (g : Group). g.target) c.requires.last in let r = c.requires.left in omega arith) p l)

pub returns-in-Open-clause-search : goal.returns-in-Open-clause-search
returns-in-Open-clause-search c =
    let s : State = state_of c.args.self.now in
    let some : 0 < length s.targets = let r = c.requires.left in omega arith in
    let y = last_read s.targets c.len.result c.index-target.result.now (c.len.ensures ∙ c.args.self.now.targets.ok.0) some c.index-target.ensures in
    let n = node_read c.args.graph.now s c.requires.search c.index-target.result.now c.index.result.now some y c.index.ensures in
    let p = c.requires.search.is_path.placed c.index-target.result.now c.in-Open.place (n ∙ c.in-Open.is) in
    let l : vec_len c.args.self.now.targets ≡ length s.targets = c.args.self.now.targets.ok.0 in
    rw (c.pop.ensures.rest, l)
    (search_looked_open c.args.graph.now s c.requires.search c.in-Open.place c.join.new.groups.items c.join.ensures.joined c.requires.some
    (let t = ap (λ (g : Group). g.target) c.requires.last in let r = c.requires.left in omega arith) p.0 (sym y ∙ sym p.1) c.join.ensures.last)

pub returns-in-Settled-clause-search : goal.returns-in-Settled-clause-search
returns-in-Settled-clause-search c =
    let s : State = state_of c.args.self.now in
    let some : 0 < length s.targets = let r = c.requires.left in omega arith in
    let y = last_read s.targets c.len.result c.index-target.result.now (c.len.ensures ∙ c.args.self.now.targets.ok.0) some c.index-target.ensures in
    let n = node_read c.args.graph.now s c.requires.search c.index-target.result.now c.index.result.now some y c.index.ensures in
    let l : vec_len c.args.self.now.targets ≡ length s.targets = c.args.self.now.targets.ok.0 in
    rw (c.pop-in-Settled.ensures.rest, l)
    (search_looked_settled c.args.graph.now s c.requires.search c.requires.some
    (let t = ap (λ (g : Group). g.target) c.requires.last in let r = c.requires.left in omega arith) (ap (λ x. node_at s.nodes x) (sym y) ∙ n ∙ c.in-Settled.is))
