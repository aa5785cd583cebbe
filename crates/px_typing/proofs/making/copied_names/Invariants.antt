use Rattle.std.proofs.Common.{◌≡◌, map, take}
use Rattle.px_typing.proofs.making.copied_names.Given as goal

abbrev pub invariant-loop-i : goal.invariant-loop-i
invariant-loop-i l = l.all ≡ map (λ n. n.now) (take l.i l.names)
