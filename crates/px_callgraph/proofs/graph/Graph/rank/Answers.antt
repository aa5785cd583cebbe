use Rattle.std.proofs.Common.{◌<◌, ℕ, List, get_or, length, subst, sym, ◌∙◌, arith}
use Rattle.std.proofs.lemmas.List.{get_or_default}
use Rattle.px_callgraph.specs.CallGraphs.{IsGraphOf}
use Rattle.px_callgraph.specs.Ranks.{AreRanks}
use Rattle.px_callgraph.proofs.graph.Graph.rank.Goals as goal

pub returns : goal.returns
returns c = λ bodies is.
    let l = subst (λ (g : List (List ℕ)). c.args.proc.0 < length g) (sym c.self.view_is) c.requires in
    let r = c.self.invariant.all_ranks in
    let within : c.args.proc.0 < length c.self.inside.ranks.items = omega arith in (
      λ x. get_or c.self.inside.ranks.items x 0,
      subst (λ (g : List (List ℕ)). AreRanks bodies (length g) (λ x. get_or c.self.inside.ranks.items x 0)) c.self.view_is (c.self.invariant.are_ranks bodies (subst (IsGraphOf bodies) (sym c.self.view_is) is)),
      sym (c.index.ensures ∙ get_or_default c.self.inside.ranks.items c.args.proc.0 c.index.result.now 0 within),
    )
