use Rattle.std.proofs.Common.{[], ◌∷◌, cond, sym, subst}
use Rattle.px_callgraph.specs.Working.{Gains}
use Rattle.px_callgraph.proofs.Gaining.{gains_more, gains_nothing}
use Rattle.px_terms.proofs.Tests.{lt_true}
use Rattle.px_leak.proofs.pointers.add_within.Goals as goal

pub returns-in_ok-add : goal.returns-in_ok-add
returns-in_ok-add c =
    subst (λ b. Gains c.args.graph.now c.args.from (cond b (c.args.to ∷ []) []) c.add.new.self) (sym (lt_true c.args.to c.args.count c.if-to-count.true))
    (subst (Gains c.args.graph.now c.args.from (c.args.to ∷ [])) (sym c.in_ok-add.ensures)
    (gains_more c.args.graph.now c.args.graph.now c.args.from [] c.args.to (gains_nothing c.args.graph.now c.args.from) c.requires.from))
