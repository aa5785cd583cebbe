use Rattle.std.proofs.Common.{subst}
use Rattle.std.proofs.lemmas.List.Elements.{All-more}
use Rattle.px_terms.specs.Conjuncts.{IsWellSorted}
use Rattle.px_plain.proofs.Options.{checked_all}
use Rattle.part_cases.proofs.terms.sorts.are_sorted.Goals as goal

pub loop-conjunct-preserved : goal.loop-conjunct-preserved
loop-conjunct-preserved c =
    All-more (IsWellSorted c.args.vars.now) c.args.conjuncts.now c.loop-conjunct.conjunct-index c.conjunct-item.result c.loop-conjunct-test.true c.loop-conjunct.invariant
    (subst (IsWellSorted c.args.vars.now) c.conjunct-item.is (c.is_sorted.ensures c.if-not-is_sorted.false))

pub returns : goal.returns
returns c = λ e. record {
  few_variables = c.if-vars-gt-MOST.false;
  few_conjuncts = c.if-conjuncts-gt-MOST.false;
  sorted = checked_all (IsWellSorted c.args.vars.now) c.args.conjuncts.now c.loop-conjunct.conjunct-index c.loop-conjunct-test.false c.loop-conjunct.invariant;
}
