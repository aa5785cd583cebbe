use Rattle.std.proofs.Common.{◌∷◌, sym, subst}
use Rattle.px_terms.proofs.Outcomes.{err_any}
use Rattle.px_plain.specs.Held.{OfConj}
use Rattle.px_plain.specs.Stands.{HoldsItems}
use Rattle.px_plain.specs.Stacks.{Holds, content}
use Rattle.px_plain.proofs.Pushes.{from_ready, small_conjunct, conjunct_taken, conjunct_pushed}
use Rattle.px_plain.proofs.stack.Stack.push.Goals as goal

pub returns-in_err-make_room-clause-failed : goal.returns-in_err-make_room-clause-failed
unfolding Holds
returns-in_err-make_room-clause-failed c = err_any c.from_residual.result (λ items h. subst (λ z. HoldsItems z items) (sym c.in_err-make_room.ensures.same) h)

pub claim_of-requires : goal.claim_of-requires
unfolding Holds
claim_of-requires c =
    let r = c.requires in
    let h = from_ready (content c.args.self.now) (content c.make_room.new.self) (content c.begin.new.self) c.in_ok-make_room.ensures.same c.begin.ensures.ready r.0 r.1 in
    small_conjunct (content c.begin.new.self) r.0 h.1 c.args.conjunct.now r.2

pub take-step-requires-clause-take : goal.take-step-requires-clause-take
unfolding Holds
take-step-requires-clause-take c =
    let r = c.requires in
    let h = from_ready (content c.args.self.now) (content c.make_room.new.self) (content c.begin.new.self) c.in_ok-make_room.ensures.same c.begin.ensures.ready r.0 r.1 in
    let e = c.claim_of.ensures in
    conjunct_taken (content c.begin.new.self) r.0 h.1 c.args.conjunct.now r.2 c.claim_of.result e.conjunct (record { words = e.words; places = e.places; unwritten = e.unwritten; written = e.written }) e.node

pub returns-clause-pushed : goal.returns-clause-pushed
unfolding Holds
returns-clause-pushed c = λ items h.
    let r = c.requires in
    let start = content c.args.self.now in
    let room = content c.make_room.new.self in
    let ready = content c.begin.new.self in
    let g = from_ready start room ready c.in_ok-make_room.ensures.same c.begin.ensures.ready r.0 r.1 in
    let k = from_ready start room ready c.in_ok-make_room.ensures.same c.begin.ensures.ready items h in
    let e = c.claim_of.ensures in
    subst (λ z. HoldsItems (record (content c.take-step.new.self) { steps = z }) (OfConj c.args.conjunct.now ∷ items)) (sym c.push_reserved.ensures.items)
    (conjunct_pushed ready r.0 g.1 c.args.conjunct.now r.2 r.3 c.claim_of.result e.conjunct (record { words = e.words; places = e.places; unwritten = e.unwritten; written = e.written })
    (content c.take-step.new.self) c.take-step.result c.take-step.ensures.takes items k)
