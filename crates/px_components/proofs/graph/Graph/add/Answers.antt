use Rattle.std.proofs.Common.{◌<◌, List, ℕ, [], ◌∷◌, ◌++◌, length, get_or, set, subst, sym, ap, ◌∙◌}
use Rattle.px_components.proofs.Rows.{rows_of, row_at, rows_set, graph_kept, graph_more}
use Rattle.px_components.proofs.graph.Graph.add.Goals as goal

pub invariant_of-self : goal.invariant_of-self
invariant_of-self c =
    let l : c.args.from < length (rows_of c.self.inside.targets.items) = subst (λ (g : List (List ℕ)). c.args.from < length g) (sym c.self.view_is) c.requires.from in
    graph_kept c.self.inside.targets.items c.args.from c.push.new.self (c.in_err-push.ensures.items ∙ row_at c.self.inside.targets.items c.args.from c.index_mut.result.now l c.index_mut.ensures.value) c.self.invariant

pub invariant_of-self-2 : goal.invariant_of-self-2
invariant_of-self-2 c =
    let l : c.args.from < length (rows_of c.self.inside.targets.items) = subst (λ (g : List (List ℕ)). c.args.from < length g) (sym c.self.view_is) c.requires.from in
    let m : c.args.to < length (rows_of c.self.inside.targets.items) = subst (λ (g : List (List ℕ)). c.args.to < length g) (sym c.self.view_is) c.requires.to in
    graph_more c.self.inside.targets.items c.args.from c.args.to c.push.new.self l m
    (c.in_ok-push.ensures.items ∙ ap (λ z. z ++ c.args.to ∷ []) (row_at c.self.inside.targets.items c.args.from c.index_mut.result.now l c.index_mut.ensures.value)) c.self.invariant

pub returns : goal.returns
returns c =
    let l : c.args.from < length (rows_of c.self.inside.targets.items) = subst (λ (g : List (List ℕ)). c.args.from < length g) (sym c.self.view_is) c.requires.from in
    rows_set c.self.inside.targets.items c.args.from c.push.new.self (get_or (rows_of c.self.inside.targets.items) c.args.from [] ++ c.args.to ∷ [])
    (c.in_ok-push.ensures.items ∙ ap (λ z. z ++ c.args.to ∷ []) (row_at c.self.inside.targets.items c.args.from c.index_mut.result.now l c.index_mut.ensures.value))
    ∙ ap (λ (g : List (List ℕ)). set g c.args.from (get_or g c.args.from [] ++ c.args.to ∷ [])) c.self.view_is
