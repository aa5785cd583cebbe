use Rattle.std.specs.Prelude.{All}
use Rattle.std.proofs.Common.{◌≡◌, ◌<◌, ◌∙◌, subst, length}
use Rattle.px_components.specs.Searches.{state_of}
use Rattle.px_components.proofs.Opening.{search_opened, advances_opened}
use Rattle.px_components.proofs.search.Search.open.Goals as goal

pub returns-clause-search : goal.returns-clause-search
returns-clause-search c =
    let s = state_of c.args.self.now in
    let l : c.len.result ≡ length s.path = c.len.ensures ∙ c.args.self.now.path.ok.0 in
    let m : c.len-2.result ≡ length s.path = c.len-2.ensures ∙ c.args.self.now.path.ok.0 in
    let n : c.len-3.result ≡ length s.targets = c.len-3.ensures ∙ c.args.self.now.targets.ok.0 in
    rw (c.in_ok-extend_from_slice.ensures.items, c.targets.ensures.value, c.in_ok-push-2.ensures.items, c.in_ok-push.ensures.items, l, m, n)
    (search_opened c.args.graph.now s c.args.node c.requires.search c.requires.inside c.requires.fresh c.requires.reached (subst (λ ys. All (λ z. z < length c.args.graph.now) ys) c.targets.ensures.value c.targets.ensures.inside))

pub returns-clause-advances : goal.returns-clause-advances
returns-clause-advances c =
    let s = state_of c.args.self.now in
    let l : c.len.result ≡ length s.path = c.len.ensures ∙ c.args.self.now.path.ok.0 in
    let m : c.len-2.result ≡ length s.path = c.len-2.ensures ∙ c.args.self.now.path.ok.0 in
    let n : c.len-3.result ≡ length s.targets = c.len-3.ensures ∙ c.args.self.now.targets.ok.0 in
    rw (c.in_ok-extend_from_slice.ensures.items, c.targets.ensures.value, c.in_ok-push-2.ensures.items, c.in_ok-push.ensures.items, l, m, n)
    (advances_opened c.args.graph.now s c.args.node c.requires.search c.requires.inside c.requires.fresh c.requires.reached)
