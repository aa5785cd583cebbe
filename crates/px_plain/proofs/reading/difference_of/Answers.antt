use Rattle.std.proofs.Common.{◌<◌, arith}
use Rattle.std.specs.Prelude.{All}
use Rattle.px_terms.specs.Terms.{Term}
use Rattle.px_plain.proofs.ReadingLemmas.{of_each}
use Rattle.px_plain.proofs.reading.difference_of.Goals as goal

pub signed_of-requires : goal.signed_of-requires
signed_of-requires c = of_each (λ (t : Term). All (λ x. x < 65536) t.vars) c.monomials.result.now c.args.p.now.monomials 0 c.s-item.result c.monomials.ensures.value c.requires (omega arith) c.s-item.is

pub signed_of-requires-in-len2 : goal.signed_of-requires-in-len2
signed_of-requires-in-len2 c = of_each (λ (t : Term). All (λ x. x < 65536) t.vars) c.monomials.result.now c.args.p.now.monomials 0 c.s-item-then-this-lt3.result c.monomials.ensures.value c.requires (omega arith) c.s-item-then-this-lt3.is

pub signed_of-requires-in-len2-2 : goal.signed_of-requires-in-len2-2
signed_of-requires-in-len2-2 c = of_each (λ (t : Term). All (λ x. x < 65536) t.vars) c.monomials.result.now c.args.p.now.monomials 1 c.t-item.result c.monomials.ensures.value c.requires (omega arith) c.t-item.is
