use Rattle.std.proofs.Common.{◌≡◌, ◌++◌, ◌∷◌, [], length, refl, ap, ◌∙◌, rules, arith}
use Rattle.std.specs.Prelude.{false}
use Rattle.std.proofs.lemmas.Bool.{eq-eqb}
use Rattle.std.proofs.lemmas.List.{nil_from_length}
use Rattle.px_terms.proofs.Tests.{never_both}
use Rattle.px_plain.specs.declared.claims.Mark.TheVariants as mark
use Rattle.px_plain.specs.Steps.{Content, ground}
use Rattle.px_plain.specs.Stacks.{content}
use Rattle.px_plain.proofs.ContentLemmas.{same_content}
use Rattle.px_plain.proofs.ReadyStacks.{begun, ready}
use Rattle.px_plain.proofs.stack.Stack.begin.Goals as goal

pub returns-then-is_empty-clause-ready : goal.returns-then-is_empty-clause-ready
returns-then-is_empty-clause-ready c = begun (content c.args.self.now) _ (nil_from_length c.args.self.now.words.items (search rules))
    (λ b. same_content _ _
    (ap (λ (x : Content). x.vars) b)
    (c.push_reserved.ensures.items ∙ ap (λ (x : Content). x.words ++ ground ∷ []) b)
    (c.push_reserved-then-is_empty.ensures.items ∙ ap (λ (x : Content). x.places ++ ground ∷ []) b)
    (c.push_reserved-then-is_empty-2.ensures.items ∙ ap (λ (x : Content). x.marks ++ mark.Free ∷ []) b)
    (c.push_reserved-then-is_empty-3.ensures.items ∙ ap (λ (x : Content). x.owners ++ false ∷ []) b)
    (ap (λ (x : Content). x.unequal_words) b)
    (ap (λ (x : Content). x.unequal_places) b)
    (ap (λ (x : Content). x.steps) b))

pub returns-else-is_empty-clause-ready : goal.returns-else-is_empty-clause-ready
returns-else-is_empty-clause-ready c = ready (content c.args.self.now) _
    (λ e.
    let words = c.args.self.now.words in
    let n = ap length e in
    let o = words.ok in
    let z : words.len ≡ 0 = omega arith in
    never_both c.is_empty.result (c.is_empty.ensures ∙ eq-eqb words.len 0 z) c.if-is_empty.false)
    refl
