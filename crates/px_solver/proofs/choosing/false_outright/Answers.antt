use Rattle.std.proofs.Common.{◌++◌, ◌∷◌, [], cond, sym, ap, ◌∙◌}
use Rattle.px_terms.specs.declared.conjuncts.Conj.{Conj}
use Rattle.px_solver.specs.Tables.{IsMarkedFalse}
use Rattle.px_solver.proofs.SelectLemmas.{select_next}
use Rattle.px_solver.proofs.choosing.false_outright.Goals as goal
use Rattle.px_terms.proofs.Tests.{never_both}

pub loop-i-preserved : goal.loop-i-preserved
loop-i-preserved c =
    let cs = c.args.conjuncts.now in
    let hs = c.args.homes.now in
    let keep = c.is_false_outright-keep.result in
    let e = c.is_false_outright-keep.ensures in
    let first = c.index-conjuncts-i in
    let again = c.index-conjuncts-i-in-loop-i in
    let same = again.is ∙ Rattle.std.proofs.lemmas.List.get_or_default cs c.loop-i.i again.result first.result c.loop-i-test.true ∙ sym first.is in
    select_next (IsMarkedFalse c.args.table.now c.args.roots.now c.args.marks.now) cs hs c.loop-i.i first.result c.loop-i.out c.keep_if.new.out keep c.loop-i-test.true c.requires.homes first.is
    (λ q. e.0 q) (λ q p. never_both keep (e.1 p) q) (c.in_ok-keep_if.ensures ∙ ap (λ (d : Conj). cond keep (c.loop-i.out ++ d ∷ []) c.loop-i.out) same) c.loop-i.invariant
