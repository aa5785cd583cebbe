use Rattle.std.proofs.Common.{refl, sym, ◌∙◌}
use Rattle.std.proofs.lemmas.Bool.{true_from_ne_false}
use Rattle.px_sat.proofs.ListLemmas.{none_of}
use Rattle.px_sat.proofs.SolveLemmas.{some_of}
use Rattle.px_sat.proofs.AcceptLemmas.{denies_first, true_follows, conflict_follows, closed_not, begins_old, closed_denied}
use Rattle.px_sat.proofs.accepting.conflicts.Goals as goal

pub returns-then-branch-clause-answer : goal.returns-then-branch-clause-answer
returns-then-branch-clause-answer c = (λ _. true_follows c.args.clauses.now c.args.clause.now c.args.trail.now c.requires.base (c.in_ok-deny.ensures.some_true c.if-branch.true), λ _. refl)

pub returns-then-branch-clause-begins : goal.returns-then-branch-clause-begins
returns-then-branch-clause-begins c = (denies_first c.in_ok-deny.ensures.denies).1

pub propagate-requires : goal.propagate-requires
propagate-requires c = closed_denied c.args.clauses.now c.args.clause.now c.args.trail.now c.requires.base c.deny.new.trail c.len-base.result c.len-base.ensures c.in_ok-deny.ensures.denies

pub returns-clause-answer : goal.returns-clause-answer
returns-clause-answer c = (
  λ t. (
      let f = some_of c.in_ok-propagate.field-0 (sym c.is_some.ensures ∙ t) c.in_ok-propagate.ensures.falsified in
      conflict_follows c.args.clauses.now c.args.clause.now c.args.trail.now c.requires.base c.deny.new.trail c.propagate.new.trail c.in_ok-deny.ensures.denies (c.in_ok-deny.ensures.all_false c.if-branch.false) c.in_ok-propagate.ensures.extends f.0 f.1),
  λ f. true_from_ne_false c.is_some.result (λ e. closed_not c.args.clauses.now c.args.clause.now c.args.trail.now c.requires.base c.deny.new.trail c.propagate.new.trail c.in_ok-deny.ensures.denies (c.in_ok-deny.ensures.all_false c.if-branch.false) c.in_ok-propagate.ensures.extends
      (c.in_ok-propagate.ensures.closed (none_of c.in_ok-propagate.field-0 (sym c.is_some.ensures ∙ e))) f),
)

pub returns-clause-begins : goal.returns-clause-begins
returns-clause-begins c = begins_old c.args.clauses.now c.args.clause.now c.args.trail.now c.requires.base c.deny.new.trail c.propagate.new.trail c.in_ok-deny.ensures.denies (c.in_ok-deny.ensures.all_false c.if-branch.false) c.in_ok-propagate.ensures.extends
