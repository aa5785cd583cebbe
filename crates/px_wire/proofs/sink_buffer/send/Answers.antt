use Rattle.std.proofs.Common.{[], false, sym, subst}
use Rattle.px_wire.specs.Sinks.{Took}
use Rattle.px_wire.proofs.SinkLemmas.{took_sent}
use Rattle.px_wire.proofs.sink_buffer.send.Goals as goal

pub returns : goal.returns
returns g c = λ from given h.
    let s = g.K.Sink in
    let bytes = c.args.bytes.now in
    let before = c.args.sink.now in
    let after = c.write_all.new.sink in
    let unfailed : Took s.told s.takes s.count from false bytes given before = subst (λ f. Took s.told s.takes s.count from f bytes given before) c.if-failed.false h in
    let wrote = c.write_all.ensures in
    subst (λ f. Took s.told s.takes s.count from f [] given after) (sym c.is_err.ensures.value)
    (took_sent s.told s.takes s.count from before after bytes given c.write_all.result wrote.all wrote.part wrote.pieces wrote.cause unfailed)
