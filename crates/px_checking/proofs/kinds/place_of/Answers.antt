use Rattle.std.proofs.Common.{◌∙◌, sym}
use Rattle.px_checking.proofs.KindPlaces.{stands, goes_on}
use Rattle.px_checking.proofs.kinds.place_of.Goals as goal

pub returns-then-kind_of-kind : goal.returns-then-kind_of-kind
returns-then-kind_of-kind g c =
    sym (stands (λ b. (goal.Domain-dyn g (b.vtable, b.value)).number b.value) c.args.kind c.args.domains.now c.loop-place.place c.index-domains-place.result
    c.loop-place-test.true c.index-domains-place.is (sym c.kind_of.ensures ∙ c.if-kind_of-kind.true) c.loop-place.invariant)

pub loop-place-preserved : goal.loop-place-preserved
loop-place-preserved g c =
    goes_on (λ b. (goal.Domain-dyn g (b.vtable, b.value)).number b.value) c.args.kind c.args.domains.now c.loop-place.place c.index-domains-place.result
    c.loop-place-test.true c.index-domains-place.is (λ e. c.if-kind_of-kind.false (c.kind_of.ensures ∙ e)) c.loop-place.invariant
