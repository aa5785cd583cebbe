use Rattle.std.proofs.Common.{sym, ◌∙◌}
use Rattle.px_sat.proofs.ListLemmas.{none_of}
use Rattle.px_sat.proofs.ForceLemmas.{extends_both}
use Rattle.px_sat.proofs.SolveLemmas.{some_of}
use Rattle.px_sat.proofs.AcceptLemmas.{grown, stands_last, refuted_now, closed_now, filled_now}
use Rattle.px_sat.proofs.accepting.take_in.Goals as goal

pub returns-then-branch-clause-refuted : goal.returns-then-branch-clause-refuted
returns-then-branch-clause-refuted c = λ _.
    refuted_now c.args.clauses.now c.add.new.self c.args.clause.now c.args.trail.now c.in_ok-add.ensures c.requires c.look.new.trail c.len-at.result c.in_ok-look.ensures.extends (c.in_ok-look.ensures.falsified c.if-branch.true)

pub propagate-requires : goal.propagate-requires
propagate-requires c =
    let s = stands_last c.args.clauses.now c.add.new.self c.args.clause.now c.args.trail.now c.in_ok-add.ensures c.requires c.len-at.result c.len-at.ensures in
    closed_now c.args.clauses.now c.add.new.self c.args.clause.now c.args.trail.now c.in_ok-add.ensures c.requires c.look.new.trail c.len-head.result c.len-head.ensures c.in_ok-look.ensures.extends
    (c.in_ok-look.ensures.within c.if-branch.false c.args.clause.now s)

pub returns-clause-base : goal.returns-clause-base
returns-clause-base c = λ f.
    let s = stands_last c.args.clauses.now c.add.new.self c.args.clause.now c.args.trail.now c.in_ok-add.ensures c.requires c.len-at.result c.len-at.ensures in
    record {
      extends = extends_both (extends_both (grown c.args.clauses.now c.add.new.self c.args.clause.now c.args.trail.now c.in_ok-add.ensures c.requires) c.in_ok-look.ensures.extends) c.in_ok-propagate.ensures.extends;
      closed = c.in_ok-propagate.ensures.closed (none_of c.in_ok-propagate.field-0 (sym c.is_some.ensures ∙ f));
      filled = filled_now c.args.clauses.now c.add.new.self c.args.clause.now c.args.trail.now c.in_ok-add.ensures c.requires (c.in_ok-look.ensures.filled c.if-branch.false c.args.clause.now s);
    }

pub returns-clause-refuted : goal.returns-clause-refuted
returns-clause-refuted c = λ t.
    let f = some_of c.in_ok-propagate.field-0 (sym c.is_some.ensures ∙ t) c.in_ok-propagate.ensures.falsified in
    refuted_now c.args.clauses.now c.add.new.self c.args.clause.now c.args.trail.now c.in_ok-add.ensures c.requires c.propagate.new.trail f.0 (extends_both c.in_ok-look.ensures.extends c.in_ok-propagate.ensures.extends) f.1
