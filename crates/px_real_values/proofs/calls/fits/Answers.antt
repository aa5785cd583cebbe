use Rattle.std.proofs.Common.{◌≡◌, ◌<◌, ◌≤◌, ◌∙◌, length, sym, ap, eqb, arith}
use Rattle.std.proofs.lemmas.Bool.{eqb-true, eqb-false}
use Rattle.px_real_values.specs.Calls.{fits}
use Rattle.px_real_values.proofs.CallLemmas.{too_few, enough, as_tested}
use Rattle.px_real_values.proofs.calls.fits.Goals as goal

pub returns-then-count-wanted : goal.returns-then-count-wanted
returns-then-count-wanted c xs l =
    let few : length xs < length c.args.signature.parameters.now = omega arith in
    sym (too_few c.args.signature.parameters.now c.args.signature.takes_more xs few)

pub returns-then-signature : goal.returns-then-signature
returns-then-signature c xs l =
    let ps = c.args.signature.parameters.now in
    let most : length ps ≤ length xs = omega arith in
    c.if-signature.true ∙ sym (ap (λ z. fits ps z xs) c.if-signature.true ∙ enough ps xs most)

pub returns-else-signature : goal.returns-else-signature
returns-else-signature c xs l =
    let ps = c.args.signature.parameters.now in
    as_tested (eqb c.args.count (length ps)) ps xs (λ h. let e : c.args.count ≡ length ps = eqb-true c.args.count (length ps) h in omega arith) (λ h e. eqb-false c.args.count (length ps) h (omega arith))
    ∙ ap (λ z. fits ps z xs) (sym c.if-signature.false)
