use Rattle.std.proofs.Common.{sym, subst}
use Rattle.px_walks.specs.Walks.{walk_of}
use Rattle.px_explore.specs.Known.{GoesThrough}
use Rattle.px_explore.proofs.known.known_block.Goals as goal

pub returns-in-None : goal.returns-in-None
returns-in-None c =
    let (leads, same) = c.in_ok-known.ensures in
    record { through = subst (GoesThrough (walk_of c.args.walk.now)) (sym same) c.in_ok-pointer.ensures; leads = leads; room = sym c.in-None.ensures.first }
