use Rattle.std.proofs.Common.{arith, length-take, length-drop}
use Rattle.px_io.proofs.TellingLemmas.{Appends-trans, take-add-take, piece_more}
use Rattle.px_io.proofs.sink.write_all.Goals as goal

pub loop-from-preserved : goal.loop-from-preserved
loop-from-preserved g c =
    let h = c.loop-from.invariant in (
      Appends-trans _ _ _ _ _ _ h.0 c.in_ok-count.ensures.bytes (take-add-take _ _ _ _ (grind (arith, length-take, length-drop))),
      grind arith,
      grind (arith, length-take, length-drop),
      (_, piece_more g.K.Sink.takes _ _ _ h.3.0 _ _ h.3.1 (grind (arith, length-take, length-drop)) c.write.ensures.taken),
    )

pub returns-in_err-count-clause-pieces : goal.returns-in_err-count-clause-pieces
returns-in_err-count-clause-pieces g c =
    let h = c.loop-from.invariant in (_, piece_more g.K.Sink.takes _ _ _ h.3.0 _ _ h.3.1 (grind (arith, length-take, length-drop)) c.write.ensures.taken)
