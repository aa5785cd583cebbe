use Rattle.std.proofs.Common.{◌≡◌, ◌≤◌, ◌+◌, ◌++◌, ◌∷◌, [], length, set, false, true, true≢false, Some, refl, sym, subst, ◌∙◌, arith}
use Rattle.px_base.specs.declared.trace.ProcId.{ProcId}
use Rattle.px_pieces.specs.declared.desk.Event.TheVariants.{Lose}
use Rattle.px_pieces.specs.declared.desk.Status.TheVariants.{Held, Waiting}
use Rattle.px_pieces.specs.Desk.{IsHeldUnder}
use Rattle.px_book.specs.Ready.{status_at, IsReady}
use Rattle.px_book.specs.Rolls.{RollParts, statuses_of}
use Rattle.px_book.specs.RollKeeping.{IsKept}
use Rattle.px_book.proofs.RollLemmas.{keeps_lose, standing_inside, same_ticket, under_now, under_row}
use Rattle.px_book.proofs.roll.Roll.lose.Goals as goal

pub returns-in_default-clause-held : goal.returns-in_default-clause-held
returns-in_default-clause-held c =
    let i = c.self.inside in (
      λ e. absurd (true≢false (sym e)),
      λ (f, q). absurd (c.in_default.ensures.none f (subst (λ z. IsHeldUnder (status_at z) c.args.ticket f) (sym c.deref.ensures.value)
          (under_row i.graph i.callers i.out i.statuses.items i.ready i.held.items i.history.items c.self.invariant.0 c.args.ticket f
          (subst (λ (z : RollParts). IsHeldUnder (statuses_of z) c.args.ticket f) (sym c.self.view_is) q)))),
    )

pub invariant_of-self : goal.invariant_of-self
invariant_of-self c =
    let i = c.self.inside in
    let t = c.args.ticket in
    let p = c.in-Some.proc in
    let who = c.in-Some-Held.field-0-1 in
    let losses = c.in-Some-Held.losses in
    let u = c.in-Some-Held.field-0-0 in
    let found : status_at c.deref-3.result.now p.0 ≡ Some (Held u who losses) =
    (let a = c.status_in.ensures in let b = c.in-Some-Held.is in let d = c.in-Some-Held.field-0-is in cc) in
    let there : status_at i.statuses.items p.0 ≡ Some (Held u who losses) = subst (λ z. status_at z p.0 ≡ Some (Held u who losses)) c.deref-3.ensures.value found in
    let q = subst (λ z. IsHeldUnder (status_at z) t p.0) c.deref.ensures.value c.in-Some.ensures.some in
    let was : status_at i.statuses.items p.0 ≡ Some (Held t who losses) =
    subst (λ z. status_at i.statuses.items p.0 ≡ Some (Held z who losses)) (same_ticket u t who q.who losses q.losses (sym there ∙ q.held)) there in
    let s = c.move_to.new.ready in
    let held = c.release.new.held.items in
    let now = set i.statuses.items p.0 (Some (Waiting (losses + 1))) in
    let kept = keeps_lose i.graph i.callers i.out i.statuses.items i.ready i.held.items i.history.items c.self.invariant.0 p
    (standing_inside i.statuses.items p.0 (Held t who losses) was) t who losses was c.args.why s held c.release.ensures.others
    (subst (λ z. IsReady i.graph z s) c.move_to.ensures.statuses c.move_to.ensures.ready) in (
      subst (λ z. IsKept i.graph i.callers i.out z s held c.push_reserved.new.self.items) (sym c.move_to.ensures.statuses)
          (subst (λ z. IsKept i.graph i.callers i.out now s held z) (sym c.push_reserved.ensures.items) kept),
      (let a = c.push_reserved.ensures.len in let b = c.push_reserved.ensures.capacity in let d = c.release.ensures.fewer in let e = c.self.invariant.1 in omega arith),
    )

pub returns-clause-held : goal.returns-clause-held
returns-clause-held c =
    let i = c.self.inside in
    let t = c.args.ticket in
    let p = c.in-Some.proc in (
      λ e. (
        p.0,
        subst (λ (z : RollParts). IsHeldUnder (statuses_of z) t p.0) c.self.view_is
            (under_now i.graph i.callers i.out i.statuses.items i.ready i.held.items i.history.items c.self.invariant.0 t p.0
            (subst (λ z. IsHeldUnder (status_at z) t p.0) c.deref.ensures.value c.in-Some.ensures.some)),
      ),
      λ h. refl,
    )
