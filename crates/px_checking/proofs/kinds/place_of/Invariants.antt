use Rattle.std.proofs.Common.{◌≡◌, ◌+◌, drop, map}
use Rattle.std.specs.List.{prefix_len}
use Rattle.px_checking.specs.Kinds.{place_of}
use Rattle.px_checking.proofs.KindPlaces.{differs}
use Rattle.px_checking.proofs.kinds.place_of.Given as goal

abbrev pub invariant-loop-place : goal.invariant-loop-place
invariant-loop-place g l =
    let kinds = map (λ b. (goal.Domain-dyn g (b.vtable, b.value)).number b.value) l.domains in
    place_of kinds l.kind ≡ l.place + prefix_len (differs l.kind) (drop l.place kinds)
