use Rattle.std.proofs.Common.{◌≡◌, ◌≤◌, ◌<◌, ◌+◌, ◌^◌, ◌++◌, ◌∷◌, [], ℕ, length, set, Option, Some, None, refl, sym, ap, subst, ◌∙◌, arith}
use Rattle.std.specs.Prelude.{option_map}
use Rattle.px_base.specs.declared.trace.ProcId.{ProcId}
use Rattle.px_callgraph.specs.CallGraphs.{IsGraphOf}
use Rattle.px_pieces.specs.declared.desk.Event.TheVariants.{Claim}
use Rattle.px_pieces.specs.declared.desk.Status.TheVariants.{Held, Waiting}
use Rattle.px_book.specs.Ready.{status_at, IsReady, IsLeastOf}
use Rattle.px_book.specs.Rolls.{RollParts, desk_of, statuses_of, IsNext}
use Rattle.px_book.specs.RollKeeping.{IsKept}
use Rattle.px_book.proofs.NextLemmas.{next_is}
use Rattle.px_book.proofs.RollLemmas.{keeps_claim, standing_inside}
use Rattle.px_book.proofs.roll.Roll.claim.Goals as goal

pub returns-in_default-clause-next : goal.returns-in_default-clause-next
returns-in_default-clause-next c = λ bodies.
    let i = c.self.inside in
    subst (λ (z : RollParts). IsGraphOf bodies z.graph → IsNext (desk_of bodies z) (statuses_of z) c.args.who None) c.self.view_is
    (λ is. next_is i.graph i.callers i.out i.statuses.items i.ready i.held.items i.history.items c.self.invariant.0 bodies is c.args.who None
    (subst (λ (o : Option ProcId). IsLeastOf c.args.who i.ready (option_map (λ (p : ProcId). p.0) o)) c.in_default.is c.next_in.ensures))

pub invariant_of-self-2 : goal.invariant_of-self-2
invariant_of-self-2 c =
    let i = c.self.inside in
    let who = c.args.who in
    let p = c.in-Some.proc in
    let losses = c.in-Some-Waiting.losses in
    let found : status_at c.deref.result.now p.0 ≡ Some (Waiting losses) = (let a = c.status_in.ensures in let b = c.in-Some-Waiting.is in let d = c.in-Some-Waiting.field-0-is in cc) in
    let was : status_at i.statuses.items p.0 ≡ Some (Waiting losses) = subst (λ z. status_at z p.0 ≡ Some (Waiting losses)) c.deref.ensures.value found in
    let few : losses + 1 < 2 ^ 32 = (let f = c.if-losses-ge4294967295.false in omega arith) in
    let same : c.len-ticket.result ≡ length i.history.items = c.len-ticket.ensures ∙ c.reserve-2.new.self.ok.0 ∙ ap length c.reserve-2.ensures.items in
    let s = c.move_to.new.ready in
    let now = set i.statuses.items p.0 (Some (Held (length i.history.items) who losses)) in
    let moved : c.move_to.new.statuses.items ≡ now = c.move_to.ensures.statuses ∙ ap (λ (z : ℕ). set i.statuses.items p.0 (Some (Held z who losses))) same in
    let held : c.push_reserved.new.self.items ≡ i.held.items ++ p ∷ [] = c.push_reserved.ensures.items ∙ ap (λ z. z ++ p ∷ []) c.reserve.ensures.items in
    let history : c.push_reserved-2.new.self.items ≡ i.history.items ++ Claim who p ∷ [] = c.push_reserved-2.ensures.items ∙ ap (λ z. z ++ Claim who p ∷ []) c.reserve-2.ensures.items in
    let kept = keeps_claim i.graph i.callers i.out i.statuses.items i.ready i.held.items i.history.items c.self.invariant.0 p
    (standing_inside i.statuses.items p.0 (Waiting losses) was) who losses s was few
    (λ bodies is. next_is i.graph i.callers i.out i.statuses.items i.ready i.held.items i.history.items c.self.invariant.0 bodies is who (Some p)
    (subst (λ (o : Option ProcId). IsLeastOf who i.ready (option_map (λ (q : ProcId). q.0) o)) c.in-Some.is c.next_in.ensures))
    (subst (λ z. IsReady i.graph z s) moved c.move_to.ensures.ready) in (
      subst (λ z. IsKept i.graph i.callers i.out z s c.push_reserved.new.self.items c.push_reserved-2.new.self.items) (sym moved)
          (subst (λ z. IsKept i.graph i.callers i.out now s z c.push_reserved-2.new.self.items) (sym held)
          (subst (λ z. IsKept i.graph i.callers i.out now s (i.held.items ++ p ∷ []) z) (sym history) kept)),
      (let a = c.push_reserved-2.ensures.len in let b = c.push_reserved-2.ensures.capacity in let d = c.in_ok-reserve-2.ensures.ok in let e = c.len.ensures in
          let f = c.push_reserved.ensures.len in let g = c.push_reserved.new.self.ok.0 in omega arith),
    )

pub returns-clause-next : goal.returns-clause-next
returns-clause-next c = λ bodies.
    let i = c.self.inside in
    let p = c.in-Some.proc in
    subst (λ (z : RollParts). IsGraphOf bodies z.graph → IsNext (desk_of bodies z) (statuses_of z) c.args.who (Some p)) c.self.view_is
    (λ is. next_is i.graph i.callers i.out i.statuses.items i.ready i.held.items i.history.items c.self.invariant.0 bodies is c.args.who (Some p)
    (subst (λ (o : Option ProcId). IsLeastOf c.args.who i.ready (option_map (λ (q : ProcId). q.0) o)) c.in-Some.is c.next_in.ensures))
