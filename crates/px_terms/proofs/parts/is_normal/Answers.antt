use Rattle.std.proofs.Common.{◌∙◌, refl, sym, arith}
use Rattle.px_terms.specs.Monomials.{term_of}
use Rattle.px_terms.proofs.PartLemmas.{normal_all, normal_one}
use Rattle.px_terms.proofs.parts.is_normal.Goals as goal

pub returns-then-not-is_normal_at : goal.returns-then-not-is_normal_at
returns-then-not-is_normal_at g c = (
  λ e. cc,
  λ n. sym c.if-not-is_normal_at.true ∙ c.is_normal_at.ensures.1 (normal_one term_of c.args.monomials.now n c.loop-i.i c.loop-i-test.true),
)

pub returns : goal.returns
returns g c =
    let end = c.loop-i-test.false in
    (λ e. normal_all term_of c.args.monomials.now (λ k l. c.loop-i.invariant k (omega arith)), λ e. refl)
