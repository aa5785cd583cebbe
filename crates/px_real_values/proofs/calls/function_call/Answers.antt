use Rattle.std.proofs.Common.{◌≡◌, ◌∙◌, sym, subst, map, length, true, false, arith}
use Rattle.std.specs.Prelude.{IfOk}
use Rattle.px_real_values.specs.Operators.{stopped_at}
use Rattle.std.proofs.lemmas.List.{length-map}
use Rattle.px_syntax.specs.TypedViews.{typed_argument}
use Rattle.px_real_values.specs.Calls.{fits, all_parts}
use Rattle.px_real_values.specs.Views.{operand_seen, signature_seen, given_seen}
use Rattle.px_real_values.proofs.CallLemmas.{fitting, not_fitting}
use Rattle.px_real_values.proofs.OperandLemmas.{given_as}
use Rattle.px_real_values.proofs.calls.function_call.Goals as goal

pub returns-in_ok-all : goal.returns-in_ok-all
returns-in_ok-all g c =
    let env = g.E.Environment.sees c.args.environment.now in
    let s = signature_seen c.args.signature in
    let xs = map given_seen c.args.given.items in
    let count : length xs ≡ c.len-count.result = omega (arith, c.args.given.ok.0, length-map c.args.given.items given_seen) in
    let fit : fits s.parameters s.takes_more xs ≡ true = sym (c.fits.ensures xs count) ∙ c.if-fits.true in
    given_as operand_seen c.gives.result _ _ (fitting env s c.args.at xs (map typed_argument c.in_ok-all.all.items) fit c.in_ok-all.ensures) c.gives.ensures

pub returns-else-fits : goal.returns-else-fits
returns-else-fits g c =
    let env = g.E.Environment.sees c.args.environment.now in
    let s = signature_seen c.args.signature in
    let xs = map given_seen c.args.given.items in
    let count : length xs ≡ c.len-count.result = omega (arith, c.args.given.ok.0, length-map c.args.given.items given_seen) in
    let fit : fits s.parameters s.takes_more xs ≡ false = sym (c.fits.ensures xs count) ∙ c.if-fits.false in
    given_as operand_seen c.not_called.result _ _ (not_fitting env s c.args.at xs fit) (subst (λ w. IfOk c.not_called.result (λ a. operand_seen a ≡ stopped_at env w c.args.at (all_parts env xs))) c.as_slice.ensures c.not_called.ensures)
