use Rattle.std.proofs.Common.{sym, ◌∙◌}
use Rattle.std.proofs.lemmas.List.{nil_from_length}
use Rattle.px_cnf.proofs.TranslationLemmas.{joins_none, joins_next, joins_end}
use Rattle.px_cnf.proofs.cnf.joined.Goals as goal

pub loop-clause-init : goal.loop-clause-init
loop-clause-init c = joins_none c.args.clauses.items c.args.more.items

pub loop-clause-preserved : goal.loop-clause-preserved
loop-clause-preserved c =
    joins_next c.args.clauses.items c.args.more.items c.loop-clause.clauses.items c.loop-clause.more.items c.pop.new.self.items c.push.new.self.items c.in-Some.clause
    c.in-Some.ensures.items c.in_ok-push.ensures.items c.loop-clause.invariant

pub returns : goal.returns
returns c =
    joins_end c.args.clauses.items c.args.more.items c.loop-clause.clauses.items c.loop-clause.more.items
    (nil_from_length c.loop-clause.more.items (sym c.loop-clause.more.ok.0 ∙ c.in_default.ensures.cases.0)) c.loop-clause.invariant
