use Rattle.std.proofs.Common.{Some, subst, arith}
use Rattle.px_book.specs.Ready.{IsFlagged}
use Rattle.px_book.proofs.ReadyLemmas.{moved}
use Rattle.px_book.proofs.statuses.move_to.Goals as goal

pub returns-clause-ready : goal.returns-clause-ready
returns-clause-ready c =
    let h = c.put_flags.ensures in
    let g = c.args.graph.now in
    moved g c.args.statuses.now.items c.args.proc.0 (Some c.args.status) (let l = c.requires.proc in let s = c.requires.size in omega arith) c.requires.same c.args.ready.now c.put_flags.new.ready
    c.requires.ready h.sized (subst (λ z. IsFlagged g z c.put_flags.new.ready c.args.proc.0) c.deref.ensures.value h.flagged) h.passed h.others
