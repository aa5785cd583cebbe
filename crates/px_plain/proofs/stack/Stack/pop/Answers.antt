use Rattle.std.proofs.Common.{◌≡◌, length, sym, subst, ◌∙◌, inl, inr, arith}
use Rattle.px_plain.specs.declared.claims.Step.TheVariants as step
use Rattle.px_plain.specs.Steps.{last_step, IsStepInside}
use Rattle.px_plain.specs.Stands.{HoldsItems}
use Rattle.px_plain.specs.Stacks.{Holds, content}
use Rattle.px_plain.proofs.Pushes.{some_steps, last_taken, front_taken, popped}
use Rattle.px_plain.proofs.stack.Stack.pop.Goals as goal

pub returns-in_default : goal.returns-in_default
unfolding Holds
returns-in_default c = λ i items h.
    let n = some_steps (content c.args.self.now) i items h in
    let o = c.args.self.now.steps.ok.0 in
    let z = c.in_default.ensures.cases in
    let y = z.0 in
    absurd (omega arith)

pub take_claim-requires-clause-places : goal.take_claim-requires-clause-places
unfolding Holds
take_claim-requires-clause-places c = let g = c.requires.2.0 in g.places ∙ sym g.words

pub take_claim-requires-clause-owners : goal.take_claim-requires-clause-owners
unfolding Holds
take_claim-requires-clause-owners c = let g = c.requires.2.0 in g.owners ∙ sym g.words

pub take_claim-requires-clause-marks : goal.take_claim-requires-clause-marks
unfolding Holds
take_claim-requires-clause-marks c = let g = c.requires.2.0 in g.marks ∙ sym g.words

pub take_claim-requires-clause-inside : goal.take_claim-requires-clause-inside
unfolding Holds
take_claim-requires-clause-inside c =
    let s = c.args.self.now in
    let n = some_steps (content s) c.requires.0 c.requires.1 c.requires.2 in
    let o = sym s.steps.ok.0 in
    let e : last_step s.steps.items ≡ step.Claimed c.in-Claimed.ends c.in-Claimed.change =
    last_taken s.steps.items s.steps.len c.in-Some.step o (c.in-Some.ensures.value step.Quiet (omega arith)) ∙ c.in-Claimed.is in
    subst (IsStepInside (length s.words.items)) e c.requires.2.1

pub returns-in-Refuted : goal.returns-in-Refuted
unfolding Holds
returns-in-Refuted c = λ i items h.
    let s = c.args.self.now in
    let n = some_steps (content s) i items h in
    let o = sym s.steps.ok.0 in
    let e = last_taken s.steps.items s.steps.len c.in-Some.step o (c.in-Some.ensures.value step.Quiet (omega arith)) in
    let f = front_taken s.steps.items c.pop.new.self.items s.steps.len o c.in-Some.ensures.rest in
    elim (c.in-Refuted.is) [
      | inl q ↦ subst (λ z. HoldsItems z items) (sym (popped (content s) step.Refuted c.pop.new.self.items (e ∙ q) f)) h.2
      | inr q ↦ subst (λ z. HoldsItems z items) (sym (popped (content s) step.Quiet c.pop.new.self.items (e ∙ q) f)) h.2
    ]

pub returns-in-Variable : goal.returns-in-Variable
unfolding Holds
returns-in-Variable c = λ i items h.
    let s = c.args.self.now in
    let n = some_steps (content s) i items h in
    let o = sym s.steps.ok.0 in
    let e = last_taken s.steps.items s.steps.len c.in-Some.step o (c.in-Some.ensures.value step.Quiet (omega arith)) in
    let f = front_taken s.steps.items c.pop.new.self.items s.steps.len o c.in-Some.ensures.rest in
    subst (λ z. HoldsItems z items) (sym c.drop_node.ensures)
    (subst (λ z. HoldsItems z items) (sym (popped (content s) (step.Variable c.in-Variable.field-0) c.pop.new.self.items (e ∙ c.in-Variable.is) f)) h.2)

pub returns-in-Claimed : goal.returns-in-Claimed
unfolding Holds
returns-in-Claimed c = λ i items h.
    let s = c.args.self.now in
    let n = some_steps (content s) i items h in
    let o = sym s.steps.ok.0 in
    let e = last_taken s.steps.items s.steps.len c.in-Some.step o (c.in-Some.ensures.value step.Quiet (omega arith)) in
    let f = front_taken s.steps.items c.pop.new.self.items s.steps.len o c.in-Some.ensures.rest in
    subst (λ z. HoldsItems z items) (sym c.take_claim.ensures)
    (subst (λ z. HoldsItems z items) (sym (popped (content s) (step.Claimed c.in-Claimed.ends c.in-Claimed.change) c.pop.new.self.items (e ∙ c.in-Claimed.is) f)) h.2)
