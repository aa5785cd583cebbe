use Rattle.std.proofs.Common.{subst, inr}
use Rattle.std.specs.Prelude.{Contains}
use Rattle.px_explore.specs.Known.{same_places}
use Rattle.px_explore.proofs.SaidLemmas.{some_weaker}
use Rattle.px_explore.proofs.known.assumed_block.Goals as goal

pub returns : goal.returns
returns c =
    some_weaker _ _ c.block_in.result (λ k h. (record { met = h.0.met; same = inr (subst (λ z. Contains z (same_places k.pointer k.place)) c.as_slice.ensures h.0.same) }, h.1)) c.block_in.ensures
