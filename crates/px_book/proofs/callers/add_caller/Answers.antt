use Rattle.px_book.proofs.CallerLemmas.{all_added}
use Rattle.px_book.proofs.callers.add_caller.Goals as goal

pub returns-clause-added : goal.returns-clause-added
returns-clause-added c = λ g h i.
    all_added c.args.callers.now c.loop-callee.callers c.args.callees.now c.args.caller c.loop-callee.callee-index g c.loop-callee-test.false c.loop-callee.invariant h i
