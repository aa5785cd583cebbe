use Rattle.std.proofs.Common.{◌≡◌, false}
use Rattle.std.proofs.lemmas.Result.{IfOk-weaker}
use Rattle.px_terms.specs.Rules.{HoldsModuloTwo}
use Rattle.px_parity.specs.declared.elimination.Mark.{Mark}
use Rattle.px_parity.specs.Bits.{parity}
use Rattle.px_parity.specs.Equations.{columns, IsLinear, AddsEquation}
use Rattle.px_parity.proofs.Rule.{adds_conjunct}
use Rattle.px_parity.proofs.parity.add_conjunct.Goals as goal

pub returns-clause-adds : goal.returns-clause-adds
returns-clause-adds c =
    let linear : IsLinear c.in-Equal.p.monomials = c.is_linear.ensures.0 c.if-not-is_linear.false in
    let new = c.insert.new.pivots.items in
    let old = c.args.pivots.now.items in
    IfOk-weaker c.insert.result
    (λ (mark : Mark). AddsEquation mark old new (λ v. parity (columns v) c.in_ok-row.row ≡ false))
    (λ mark. AddsEquation mark old new (λ v. HoldsModuloTwo v c.args.conjunct.now))
    (λ mark h. adds_conjunct mark old new c.in-Equal.p c.args.conjunct.now c.in_ok-row.row c.in-Equal.is linear c.in_ok-row.ensures h)
    c.insert.ensures.adds
