use Rattle.std.proofs.Common.{◌≡◌, ◌≤◌, ◌+◌, ◌++◌, ◌∷◌, [], length, set, Some, refl, sym, subst, ◌∙◌, arith}
use Rattle.px_pieces.specs.declared.desk.Event.TheVariants.{Publish}
use Rattle.px_pieces.specs.declared.desk.Status.TheVariants.{Held, Settled}
use Rattle.px_pieces.specs.Desk.{IsHeldUnder}
use Rattle.px_book.specs.Ready.{status_at, IsReady}
use Rattle.px_book.specs.Rolls.{RollParts, statuses_of}
use Rattle.px_book.specs.RollKeeping.{IsKept}
use Rattle.px_book.proofs.RollLemmas.{keeps_publish, standing_inside, under_now}
use Rattle.px_book.proofs.roll.Roll.publish.Goals as goal

pub invariant_of-self : goal.invariant_of-self
invariant_of-self c =
    let i = c.self.inside in
    let t = c.args.ticket in
    let p = c.args.proc in
    let who = c.in-Some-Held.who in
    let losses = c.in-Some-Held.field-0-2 in
    let found : status_at c.deref.result.now p.0 ≡ Some (Held t who losses) =
    (let a = c.status_in.ensures in let b = c.in-Some-Held.is in let d = c.in-Some-Held.field-0-is in let g = c.if-given-ticket.false in cc) in
    let was : status_at i.statuses.items p.0 ≡ Some (Held t who losses) = subst (λ z. status_at z p.0 ≡ Some (Held t who losses)) c.deref.ensures.value found in
    let s = c.settle.new.ready in
    let held = c.release.new.held.items in
    let now = set i.statuses.items p.0 (Some (Settled t who)) in
    let kept = keeps_publish i.graph i.callers i.out i.statuses.items i.ready i.held.items i.history.items c.self.invariant.0 p
    (standing_inside i.statuses.items p.0 (Held t who losses) was) t who losses was s held c.release.ensures.others (subst (λ z. IsReady i.graph z s) c.settle.ensures.statuses c.settle.ensures.ready) in (
      subst (λ z. IsKept i.graph i.callers i.out z s held c.push_reserved.new.self.items) (sym c.settle.ensures.statuses)
          (subst (λ z. IsKept i.graph i.callers i.out now s held z) (sym c.push_reserved.ensures.items) kept),
      (let a = c.push_reserved.ensures.len in let b = c.push_reserved.ensures.capacity in let d = c.release.ensures.fewer in let e = c.self.invariant.1 in omega arith),
    )

pub returns-clause-held : goal.returns-clause-held
returns-clause-held c =
    let i = c.self.inside in
    let t = c.args.ticket in
    let p = c.args.proc in
    let who = c.in-Some-Held.who in
    let losses = c.in-Some-Held.field-0-2 in
    let found : status_at c.deref.result.now p.0 ≡ Some (Held t who losses) =
    (let a = c.status_in.ensures in let b = c.in-Some-Held.is in let d = c.in-Some-Held.field-0-is in let g = c.if-given-ticket.false in cc) in
    let was : status_at i.statuses.items p.0 ≡ Some (Held t who losses) = subst (λ z. status_at z p.0 ≡ Some (Held t who losses)) c.deref.ensures.value found in (
      λ e. subst (λ (z : RollParts). IsHeldUnder (statuses_of z) t p.0) c.self.view_is
          (under_now i.graph i.callers i.out i.statuses.items i.ready i.held.items i.history.items c.self.invariant.0 t p.0 (record { who = who; losses = losses; held = was })),
      λ h. refl,
    )
