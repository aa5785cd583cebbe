use Rattle.px_real_scopes.proofs.GrowLemmas.{grows_on, grown, one_bound, one_declared}
use Rattle.px_real_scopes.proofs.entering.new_record.Goals as goal

pub returns-clause-grows : goal.returns-clause-grows
returns-clause-grows c =
    grows_on (grown c.args.scopes.now _ c.add_record.new.self c.in_ok-add_record.ensures.added (one_declared c.args.scopes.now c.args.naming.is_struct))
    (grown c.add_record.new.self _ c.add_binding.new.self c.in_ok-add_binding.ensures.added (one_bound c.add_record.new.self _))
