use Rattle.std.proofs.Common.{◌≡◌, ◌↔◌, ◌∷◌, [], ◌++◌, Bool, true, false, sym, subst, ◌∙◌}
use Rattle.px_terms.specs.Rules.{RulesOut}
use Rattle.px_parity.specs.Held.{IsHeld}
use Rattle.px_parity.proofs.Rule.{mentioned_in_columns}
use Rattle.px_parity.proofs.Holding.{represents_held, pushed, pushed_refuted}
use Rattle.px_parity.proofs.parity.ParityDomain.push.Goals as goal

never : (answer : Bool) (P : Type 0) → answer ≡ false → (answer ≡ true) ↔ P → ¬ P
never answer P e exactly h = (let f = sym e ∙ exactly.1 h in cc)

pub returns-then-refuted-clause-pushed : goal.returns-then-refuted-clause-pushed
returns-then-refuted-clause-pushed c = λ cs h.
    let ps = c.args.self.now.pivots.items in
    subst (λ z. IsHeld ps z (c.args.conjunct.now ∷ cs)) (sym c.in_ok-push.ensures.items)
    (pushed_refuted ps c.args.self.now.marks.items c.args.conjunct.now cs ((c.refuted.ensures cs h).0 c.if-refuted.true) h)

pub add_conjunct-requires-clause-triangular : goal.add_conjunct-requires-clause-triangular
add_conjunct-requires-clause-triangular c =
    let (cs, h, few) = c.requires.few in
    let unrefuted = never c.refuted.result (RulesOut 2 cs) c.if-refuted.false (c.refuted.ensures cs h) in
    (represents_held c.args.self.now.pivots.items c.args.self.now.marks.items cs h unrefuted).triangular

pub add_conjunct-requires-clause-inside : goal.add_conjunct-requires-clause-inside
add_conjunct-requires-clause-inside c = mentioned_in_columns c.args.conjunct.now c.requires.variables

pub returns-clause-pushed : goal.returns-clause-pushed
returns-clause-pushed c = λ cs h.
    let ps = c.args.self.now.pivots.items in
    let ms = c.args.self.now.marks.items in
    let unrefuted = never c.refuted.result (RulesOut 2 cs) c.if-refuted.false (c.refuted.ensures cs h) in
    let items : c.push-2.new.self.items ≡ ms ++ c.in_ok-mark.mark ∷ [] = rw c.if-is_err.ensures.negation at c.push-2.ensures.items in
    subst (λ z. IsHeld c.add_conjunct.new.pivots.items z (c.args.conjunct.now ∷ cs)) (sym items)
    (pushed c.in_ok-mark.mark ps c.add_conjunct.new.pivots.items ms c.args.conjunct.now cs c.in_ok-mark.ensures.adds unrefuted h)
