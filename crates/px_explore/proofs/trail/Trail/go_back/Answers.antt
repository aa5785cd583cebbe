use Rattle.std.proofs.Common.{refl}
use Rattle.px_explore.specs.declared.trail.Trail.{Trail}
use Rattle.px_explore.proofs.TrailLemmas.{on_same, at_back}
use Rattle.px_explore.proofs.trail.Trail.go_back.Goals as goal

pub returns-clause-at : goal.returns-clause-at
returns-clause-at g c = λ above items on e of.
    let t = c.take_off.new.self in
    let new : Trail = record { stack = t.stack; holders = t.holders; vars = c.len-self.result; pure = c.len-self-2.result; atoms = c.len-self-3.result } in
    at_back new _ c.args.state.now items (on_same t new _ items refl refl (c.take_off.ensures.off above items on e)) of c.len-self.ensures c.len-self-2.ensures c.len-self-3.ensures c.requires.places

pub returns-clause-kept : goal.returns-clause-kept
returns-clause-kept g c =
    let (above, items, on, e, of) = c.requires.held in
    let t = c.take_off.new.self in
    let new : Trail = record { stack = t.stack; holders = t.holders; vars = c.len-self.result; pure = c.len-self-2.result; atoms = c.len-self-3.result } in
    (items, on_same t new _ items refl refl (c.take_off.ensures.off above items on e))
