use Rattle.std.proofs.Common.{◌∷◌, length, ap, sym, subst, ◌∙◌}
use Rattle.std.specs.Prelude.{All}
use Rattle.px_terms.proofs.KindLemmas.{same_length}
use Rattle.px_solver.proofs.EachDomain.{written_back}
use Rattle.px_solver.proofs.held.pop.Goals as goal

pub returns-clause-everywhere : goal.returns-clause-everywhere
returns-clause-everywhere g c = λ d cs all.
    let lent = c.deref_mut.ensures.value in
    let same = written_back c.args.domains.now.items c.pop_each.new.domains c.args.domains.now.len c.args.domains.now.ok.0 (same_length _ _ _ c.pop_each.ensures.kinds ∙ ap length lent) in
    subst (All (λ b. (goal.Domain-dyn g (b.vtable, b.value)).holds b.value cs)) (sym same)
    (c.pop_each.ensures.popped d cs (subst (All (λ b. (goal.Domain-dyn g (b.vtable, b.value)).holds b.value (d ∷ cs))) (sym lent) all))
