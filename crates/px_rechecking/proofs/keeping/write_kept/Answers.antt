use Rattle.std.proofs.Common.{List, ℕ, subst}
use Rattle.px_lines.specs.Sinks.{Grew, WasCut, change}
use Rattle.px_rechecking.proofs.keeping.write_kept.Goals as goal

pub returns-clause-done : goal.returns-clause-done
returns-clause-done g c e =
    let k = g.K.Sink in
    (c.in_ok-bytes.bytes.items, c.in_ok-bytes.ensures.keeps, subst (λ (z : List ℕ). Grew (change k.told k.count c.args.out.now c.write_all.new.sink) z) c.deref.ensures.value c.in_ok-write_all.ensures.all)

pub returns-in_err-write_all-clause-cut : goal.returns-in_err-write_all-clause-cut
returns-in_err-write_all-clause-cut g c e =
    let k = g.K.Sink in
    let w = c.in_err-write_all in
    (c.in_ok-bytes.bytes.items, c.in_ok-bytes.ensures.keeps, subst (λ (z : List ℕ). WasCut (change k.told k.count c.args.out.now c.write_all.new.sink) z) c.deref.ensures.value (w.ensures.cause.failed, w.ensures.part))
