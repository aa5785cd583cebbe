use Rattle.std.proofs.Common.{inr, ℕ, get_or, subst, sym, ◌∙◌}
use Rattle.px_solver.specs.Tables.{Works}
use Rattle.px_solver.proofs.EndLemmas.{works_over}
use Rattle.px_solver.proofs.solving.solve.Goals as goal

pub returns-clause-no : goal.returns-clause-no
returns-clause-no c = λ e.
    let value = c.deref.ensures.value in
    let read = c.in_ok-values.ensures.value in
    let ends : ℕ → ℕ = λ v. get_or c.is_solved_by_ends.new.roots v 0 in
    let old : ℕ → ℕ = λ v. get_or c.args.roots.now v 0 in
    inr (λ places w. c.search.ensures.none e places
    (subst (λ z. Works c.args.table.now c.args.conjuncts.now c.args.indexes.now z ends c.args.members.now places) (sym (value ∙ read))
    (works_over c.args.table.now c.args.conjuncts.now c.args.indexes.now _ old ends c.args.members.now places (λ v o. sym (c.is_solved_by_ends.ensures.others v o)) w)))
