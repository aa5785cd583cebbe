use Rattle.std.proofs.Common.{◌≡◌, ℕ, get_or, below_more, subst}
use Rattle.std.specs.Prelude.{Some, slice_get}
use Rattle.px_terms.specs.declared.conjuncts.Conj.{Conj}
use Rattle.px_plain.specs.Ties.{IsTrueOf}
use Rattle.px_solver.specs.Tables.{word_under}
use Rattle.px_solver.proofs.Lists.{read_conjunct}
use Rattle.px_solver.proofs.search.are_true.Goals as goal

pub loop-i-preserved : goal.loop-i-preserved
loop-i-preserved c = λ i k.
    let w = word_under c.args.table.now (λ v. get_or c.args.roots.now v 0) in
    let cs = c.args.conjuncts.now in
    let is = c.args.indexes.now in
    let P = λ (j : ℕ). (d : Conj) → slice_get cs (get_or is j 0) ≡ Some d → IsTrueOf w d in
    λ l. below_more P c.loop-i.i (λ j b d. c.loop-i.invariant j d b)
    (λ d e. subst (IsTrueOf w) (read_conjunct cs (get_or is c.loop-i.i 0) c.index-conjuncts-indexes.result d c.index-conjuncts-indexes.is e) (c.is_true.ensures.0 c.if-not-is_true.false)) i l k
