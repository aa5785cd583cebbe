use Rattle.std.proofs.Common.{refl}
use Rattle.std.proofs.Common.{arith}
use Rattle.px_terms.specs.Monomials.{term_of}
use Rattle.px_terms.proofs.PartLemmas.{same_all}
use Rattle.px_terms.proofs.parts.same_monomials.Goals as goal

pub returns : goal.returns
returns g c =
    let end = c.loop-i-test.false in
    (λ e. same_all term_of c.args.a.now c.args.b.now c.if-a-b.false (λ k l. c.loop-i.invariant k (omega arith)), λ e. refl)
