use Rattle.px_callgraph.proofs.edges.call_edges.Goals as goal

pub returns-clause-edges : goal.returns-clause-edges
returns-clause-edges c = λ x y.
    let a = c.in_ok-edges.ensures.edges x y in
    let b = c.in_ok-callers.ensures.edges y x in
    let d = c.in_ok-calls.ensures.edges x y in
    (λ e. d.0 (b.0 (a.0 e)), λ h. a.1 (b.1 (d.1 h)))
