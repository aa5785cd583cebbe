use Rattle.std.proofs.Common.{◌-◌, length, refl, sym, ◌∙◌, arith}
use Rattle.px_keep.proofs.ReadLemmas.{stops, ends, some_left}
use Rattle.px_keep.proofs.kept.Kept.read.Goals as goal

pub returns-in_default-2 : goal.returns-in_default-2
returns-in_default-2 c =
    stops c.args.bytes.now c.loop-rest.rest.now c.loop-rest.items.items (length c.args.bytes.now - length c.loop-rest.rest.now) c.loop-rest.invariant
    (some_left c.loop-rest.rest.now c.is_empty.result c.is_empty.ensures c.loop-rest-test.true) (rw c.in_default-2.is at c.in_ok-item.ensures.none) refl

pub returns : goal.returns
returns c =
    let empty = sym c.is_empty.ensures ∙ c.loop-rest-test.false in
    ends c.args.bytes.now c.loop-rest.rest.now c.loop-rest.items.items c.loop-rest.invariant (grind (arith, empty))
