use Rattle.std.proofs.lemmas.Result.{IfOk-weaker}
use Rattle.px_entry.specs.Cases.{is_freed}
use Rattle.px_calls.proofs.RequiredLemmas.{ways_by}
use Rattle.px_calls.proofs.required.ways_at.Goals as goal

pub returns : goal.returns
returns c =
    let a = c.args in
    IfOk-weaker c.as_ways.result _ _
    (λ r e.
    ways_by a.state.now a.used.now a.place a.required.now.block (is_freed a.required.now.state) c.as_slice.result.now c.as_slice-2.result.now c.in_ok-marks.marks.items c.deref.result.now c.is_freed.result
    c.in_ok-found.found.items c.deref-2.result.now c.len.result r.items e c.deref-2.ensures.value c.in_ok-found.ensures c.as_slice.ensures c.as_slice-2.ensures c.deref.ensures.value c.is_freed.ensures c.len.ensures c.in_ok-marks.ensures)
    c.as_ways.ensures
