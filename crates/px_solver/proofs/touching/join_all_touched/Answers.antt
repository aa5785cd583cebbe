use Rattle.std.proofs.Common.{◌≡◌, ◌+◌, ◌<◌, ◌++◌, length, take, sym, ap, subst, ◌∙◌}
use Rattle.std.specs.Prelude.{All}
use Rattle.std.specs.List.{AllZip}
use Rattle.px_terms.specs.Variables.{mentioned}
use Rattle.px_terms.specs.declared.conjuncts.Conj.{Conj}
use Rattle.px_solver.specs.Tables.{touched, first_of, AreOne, HasFirst}
use Rattle.px_solver.proofs.TouchLemmas.{touched_inside, joins_more, zip_more}
use Rattle.px_solver.proofs.touching.join_all_touched.Goals as goal

pub join_roots-requires-clause-inside : goal.join_roots-requires-clause-inside
join_roots-requires-clause-inside c =
    let t = c.args.table.now in
    let k = c.conjunct-item.result in
    let list : c.deref.result.now ≡ touched t k = c.deref.ensures.value ∙ c.in_ok-push_touched.ensures ∙ ap (λ z. z ++ touched t k) c.clear.ensures.items in
    let size = c.loop-conjunct.invariant.joins.size in
    let h = subst (λ (d : Conj). All (λ x. x + 1 < length t) (mentioned d)) (sym c.conjunct-item.is) (c.requires.inside c.loop-conjunct.conjunct-index k c.loop-conjunct-test.true) in
    subst (λ n. All (λ u. u < n) c.deref.result.now) (sym size) (subst (All (λ u. u < length t)) (sym list) (touched_inside t k c.requires.forest h))

pub loop-conjunct-preserved : goal.loop-conjunct-preserved
loop-conjunct-preserved c =
    let t = c.args.table.now in
    let cs = c.args.conjuncts.now in
    let i = c.loop-conjunct.conjunct-index in
    let k = c.conjunct-item.result in
    let j = c.join_roots.ensures in
    let raw : c.push_touched.new.out.items ≡ touched t k = c.in_ok-push_touched.ensures ∙ ap (λ z. z ++ touched t k) c.clear.ensures.items in
    let list : c.deref.result.now ≡ touched t k = c.deref.ensures.value ∙ raw in
    let list_2 : c.deref-in-loop-conjunct.result.now ≡ touched t k = c.deref-in-loop-conjunct.ensures.value ∙ raw in
    record {
      joins = joins_more t cs i k c.loop-conjunct.components c.join_roots.new.components c.loop-conjunct-test.true c.conjunct-item.is c.loop-conjunct.invariant.joins
          j.forest j.bare c.join_roots.auto.components j.old
          (λ val h. subst (AreOne val) list (j.one val h))
          (λ val h o. j.new val h (subst (AreOne val) (sym list) o));
      firsts = subst (λ z. AllZip (HasFirst t) (take (i + 1) cs) z) (sym c.in_ok-push.ensures.items)
          (zip_more (HasFirst t) cs c.loop-conjunct.homes.items i k c.first_of.result c.loop-conjunct-test.true c.conjunct-item.is c.loop-conjunct.invariant.firsts
          (c.first_of.ensures ∙ ap first_of list_2));
    }
