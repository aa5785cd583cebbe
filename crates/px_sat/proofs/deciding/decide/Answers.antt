use Rattle.std.proofs.Common.{◌≡◌, subst, inl, inr, arith}
use Rattle.std.proofs.lemmas.Bool.{cases_lt}
use Rattle.std.proofs.lemmas.Result.{on_ok_weaker}
use Rattle.px_sat.specs.Steps.{HasValue}
use Rattle.px_sat.proofs.SearchLemmas.{steps_extend, decided_steps, decided_closed, decided_known}
use Rattle.px_sat.proofs.deciding.decide.Goals as goal

pub returns-then-has_value-clause-known : goal.returns-then-has_value-clause-known
returns-then-has_value-clause-known c = λ x h. elim (cases_lt x c.args.variable) [
  | inl l ↦ c.requires.known x l
  | inr l ↦ (let e : c.args.variable ≡ x = omega arith in subst (HasValue c.args.trail.now) e (c.has_value.ensures.known c.if-has_value.true))
]

pub propagate-requires : goal.propagate-requires
propagate-requires c = rw (c.in_ok-push.ensures, c.len-head.ensures) (decided_closed c.args.variables c.args.clauses.now c.args.trail.now c.args.variable c.requires.closed)

pub returns-clause-search : goal.returns-clause-search
returns-clause-search c = on_ok_weaker c.propagate.result (λ h.
    let g = rw c.in_ok-push.ensures at h in
    steps_extend (decided_steps c.args.variables c.args.clauses.now c.args.trail.now c.args.variable c.requires.search c.requires.closed c.requires.inside (c.has_value.ensures.unknown c.if-has_value.false) c.requires.known) g) c.propagate.ensures.extends

pub returns-clause-known : goal.returns-clause-known
returns-clause-known c = on_ok_weaker c.propagate.result (λ h.
    decided_known c.args.variables c.args.clauses.now c.args.trail.now c.args.variable c.propagate.new.trail c.requires.known (rw c.in_ok-push.ensures at h)) c.propagate.ensures.extends
