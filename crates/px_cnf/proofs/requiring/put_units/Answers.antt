use Rattle.std.proofs.lemmas.List.Folds.{list_all_more}
use Rattle.px_cnf.specs.Clauses.{holds}
use Rattle.px_cnf.proofs.Requires.{units_next}
use Rattle.px_cnf.proofs.requiring.put_units.Goals as goal

pub loop-i-preserved : goal.loop-i-preserved
loop-i-preserved c =
    let v = c.loop-i.invariant in
    record {
      inside = λ n h k. c.in_ok-put_unit.ensures.inside n (v.inside n h k) (k c.loop-i.i _ c.loop-i-test.true);
      value = λ a. units_next _ _ _ _ _ _ (list_all_more (holds a) c.args.literals.now c.loop-i.i _ c.loop-i-test.true) (c.in_ok-put_unit.ensures.value a) (v.value a);
    }
