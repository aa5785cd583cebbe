use Rattle.std.proofs.Common.{List, ap, subst, ◌∙◌}
use Rattle.std.specs.Prelude.{All}
use Rattle.std.specs.List.{sum_by}
use Rattle.std.proofs.lemmas.List.{take_all}
use Rattle.std.proofs.lemmas.List.Elements.{All-more}
use Rattle.px_terms.specs.declared.conjuncts.Conj.{Conj}
use Rattle.px_cnf.specs.Standing.{IsComparison, conjunct_degree}
use Rattle.px_cnf.proofs.limits.check.Goals as goal

pub loop-i-preserved : goal.loop-i-preserved
loop-i-preserved c =
    All-more IsComparison c.args.conjuncts.now c.loop-i.i c.index-conjuncts-i.result c.loop-i-test.true c.loop-i.invariant
    (subst IsComparison c.index-conjuncts-i.is (c.is_comparison-comparison.ensures.0 c.if-not-comparison.false))

pub returns-then-sum-gt-MOST_DEGREE_SUM-clause-refused :
    goal.returns-then-sum-gt-MOST_DEGREE_SUM-clause-refused
returns-then-sum-gt-MOST_DEGREE_SUM-clause-refused c = (
  subst (All IsComparison) (take_all c.loop-i.i c.args.conjuncts.now c.loop-i-test.false) c.loop-i.invariant,
  c.loop-i-2.invariant.value ∙ ap (λ (cs : List Conj). sum_by conjunct_degree cs) (take_all c.loop-i-2.i c.args.conjuncts.now c.loop-i-2-test.false),
  c.if-sum-gt-MOST_DEGREE_SUM.true,
)

pub returns-clause-words : goal.returns-clause-words
returns-clause-words c = subst (All IsComparison) (take_all c.loop-i.i c.args.conjuncts.now c.loop-i-test.false) c.loop-i.invariant
