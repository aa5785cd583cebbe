use Rattle.std.proofs.Common.{◌-◌, length, sym, subst}
use Rattle.std.specs.Prelude.{slice_index}
use Rattle.px_chains.specs.Ends.{IsEndOfKey}
use Rattle.px_real_scopes.specs.Keys.{keys_of}
use Rattle.px_real_scopes.proofs.KeyLemmas.{first_reached, next_reached}
use Rattle.px_real_scopes.proofs.bindings.last_bound.Goals as goal

pub loop-end-init : goal.loop-end-init
loop-end-init c =
    let xs = c.args.items.now in
    let n = c.end_of-end.result in
    first_reached xs c.args.wanted n (subst (λ k. IsEndOfKey (keys_of xs) k (length (keys_of xs)) n) c.wanted_key.ensures (subst (λ ks. IsEndOfKey ks c.wanted_key.result (length ks) n) c.requires c.end_of-end.ensures))

pub loop-end-preserved : goal.loop-end-preserved
loop-end-preserved c =
    let xs = c.args.items.now in
    let n = c.loop-end.end in
    next_reached xs c.args.wanted n c.end_before-end.result c.index-items-end.result c.loop-end-test.true c.loop-end.invariant c.index-items-end.is (sym c.if-binds.ensures)
    (subst (λ ks. IsEndOfKey ks (slice_index ks (n - 1)) (n - 1) c.end_before-end.result) c.requires c.end_before-end.ensures)
