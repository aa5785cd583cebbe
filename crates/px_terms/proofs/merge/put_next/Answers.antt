use Rattle.std.proofs.Common.{drop, map, arith, refl, sym, subst, ◌∙◌}
use Rattle.px_terms.specs.Terms.{Before, IsRising}
use Rattle.px_terms.specs.Monomials.{term_of}
use Rattle.px_terms.proofs.RowLemmas.{from_index, keeps_at, keeps_less, takes_equal, takes_first, before_greater, rising_from, none_left, appended}
use Rattle.px_terms.proofs.merge.put_next.Goals as goal
use Rattle.px_terms.proofs.merge.put_next.Goals.{else-loop-i-test, then-loop-i-test+in-Greater}

pub loop-i-init : goal.loop-i-init
loop-i-init g c = record { within = c.requires.from; rising = rising_from c.args.a.now c.args.from c.requires.rising; keeps = record { keeps = λ later b. refl } }

pub returns-in-Equal-clause-takes : goal.returns-in-Equal-clause-takes
returns-in-Equal-clause-takes g c =
    let t = c.index-a-i.result in
    let d = from_index c.args.a.now c.loop-i.i t c.loop-i-test.true c.index-a-i.is in
    takes_equal (term_of c.args.next.now) (term_of t) _ _ _ _ _ (subst IsRising d c.loop-i.invariant.rising)
    (keeps_at _ _ _ _ _ _ d c.loop-i.invariant.keeps) (sym c.order.ensures ∙ c.in-Equal.is) c.in_ok-put-in-Equal.ensures

pub loop-i-preserved : goal.loop-i-preserved
loop-i-preserved g c =
    let t = c.index-a-i.result in
    let d = from_index c.args.a.now c.loop-i.i t c.loop-i-test.true c.index-a-i.is in
    let r = subst IsRising d c.loop-i.invariant.rising in
    record {
      within = omega arith;
      rising = r.3;
      keeps = keeps_less (term_of c.args.next.now) (term_of t) _ _ _ _ _ r
          (keeps_at _ _ _ _ _ _ d c.loop-i.invariant.keeps) (sym c.order.ensures ∙ c.in-Less.is) (appended c.loop-i.out.items t _ c.in_ok-push-in-Less.ensures.items);
    }

pub returns-clause-takes : goal.returns-clause-takes
returns-clause-takes g c =
    let next = term_of c.args.next.now in
    let left : Before next.vars (map term_of (drop c.loop-i.i c.args.a.now)) =
    elim c.loop-i-test.branch [
      | else-loop-i-test w ↦ subst (Before next.vars) (sym (none_left c.args.a.now c.loop-i.i w.loop-i-test.false)) tt
      | then-loop-i-test+in-Greater w ↦
          let t = w.index-a-i.result in
          let d = from_index c.args.a.now c.loop-i.i t w.loop-i-test.true w.index-a-i.is in
          subst (Before next.vars) (sym d) (before_greater next (term_of t) _ (subst IsRising d c.loop-i.invariant.rising) (sym w.order.ensures ∙ w.in-Greater.is))
    ] in
    takes_first next _ _ _ _ _ c.loop-i.invariant.keeps left c.in_ok-put.ensures
