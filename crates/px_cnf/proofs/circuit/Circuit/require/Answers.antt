use Rattle.std.proofs.Common.{◌≡◌, ℕ, subst}
use Rattle.std.specs.Prelude.{Any}
use Rattle.px_terms.specs.Variables.{variables_of, mentioned}
use Rattle.px_terms.specs.declared.conjuncts.Conj.{Conj}
use Rattle.px_terms.proofs.Evaluation.{All-left, All-right}
use Rattle.px_cnf.specs.Bases.{AreKnown}
use Rattle.px_cnf.proofs.circuit.Circuit.require.Goals as goal

pub zero-requires-clause-known : goal.zero-requires-clause-known
zero-requires-clause-known c =
    subst (λ (k : Conj). AreKnown c.args.base.bits.now (mentioned k)) c.in-Equal.is c.requires.known

pub zero-requires-in-Unequal-clause-known : goal.zero-requires-in-Unequal-clause-known
zero-requires-in-Unequal-clause-known c =
    subst (λ (k : Conj). AreKnown c.args.base.bits.now (mentioned k)) c.in-Unequal.is c.requires.known

pub order-requires-clause-left : goal.order-requires-clause-left
order-requires-clause-left c =
    All-left (λ (x : ℕ). Any (λ b. b.0.0 ≡ x) c.args.base.bits.now) (variables_of c.in-Less.p) (variables_of c.in-Less.q) (subst (λ (k : Conj). AreKnown c.args.base.bits.now (mentioned k)) c.in-Less.is c.requires.known)

pub order-requires-clause-right : goal.order-requires-clause-right
order-requires-clause-right c =
    All-right (λ (x : ℕ). Any (λ b. b.0.0 ≡ x) c.args.base.bits.now) (variables_of c.in-Less.p) (variables_of c.in-Less.q) (subst (λ (k : Conj). AreKnown c.args.base.bits.now (mentioned k)) c.in-Less.is c.requires.known)

pub order-requires-in-AtMost-clause-left : goal.order-requires-in-AtMost-clause-left
order-requires-in-AtMost-clause-left c =
    All-left (λ (x : ℕ). Any (λ b. b.0.0 ≡ x) c.args.base.bits.now) (variables_of c.in-AtMost.p) (variables_of c.in-AtMost.q) (subst (λ (k : Conj). AreKnown c.args.base.bits.now (mentioned k)) c.in-AtMost.is c.requires.known)

pub order-requires-in-AtMost-clause-right : goal.order-requires-in-AtMost-clause-right
order-requires-in-AtMost-clause-right c =
    All-right (λ (x : ℕ). Any (λ b. b.0.0 ≡ x) c.args.base.bits.now) (variables_of c.in-AtMost.p) (variables_of c.in-AtMost.q) (subst (λ (k : Conj). AreKnown c.args.base.bits.now (mentioned k)) c.in-AtMost.is c.requires.known)
