use Rattle.std.proofs.Common.{true, false, take, subst, Ok, Err}
use Rattle.px_io.specs.declared.sink.Failed.{Failed}
use Rattle.px_wire.specs.Sinks.{Took, IsWritten}
use Rattle.px_wire.proofs.SinkLemmas.{all_written, part_written}
use Rattle.px_wire.proofs.sink_buffer.finish.Goals as goal

pub returns-then-buffer : goal.returns-then-buffer
returns-then-buffer g c = λ from h.
    let s = g.K.Sink in
    let b = c.flush.new.buffer in
    let after = c.flush.new.sink in
    let held = take b.used b.bytes in
    let why : Failed = record {} in
    let failed : Took s.told s.takes s.count from true held b.given.items after = subst (λ f. Took s.told s.takes s.count from f held b.given.items after) c.if-buffer.true (c.flush.ensures.took from h) in
    subst (λ z. IsWritten s.told s.takes s.count from z (Err why) after) c.flush.ensures.given
    (part_written s.told s.takes s.count from after held b.given.items why failed)

pub returns-else-buffer : goal.returns-else-buffer
returns-else-buffer g c = λ from h.
    let s = g.K.Sink in
    let b = c.flush.new.buffer in
    let after = c.flush.new.sink in
    let held = take b.used b.bytes in
    let unfailed : Took s.told s.takes s.count from false held b.given.items after = subst (λ f. Took s.told s.takes s.count from f held b.given.items after) c.if-buffer.false (c.flush.ensures.took from h) in
    subst (λ z. IsWritten s.told s.takes s.count from z (Ok tt) after) c.flush.ensures.given
    (all_written s.told s.takes s.count from after b.used b.bytes b.given.items c.flush.ensures.unused unfailed)
