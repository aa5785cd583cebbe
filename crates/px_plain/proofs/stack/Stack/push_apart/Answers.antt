use Rattle.std.proofs.Common.{◌∷◌, sym, subst, arith}
use Rattle.px_terms.proofs.Outcomes.{err_any}
use Rattle.px_plain.specs.Held.{OfApart}
use Rattle.px_plain.specs.Stands.{HoldsItems}
use Rattle.px_plain.specs.Stacks.{Holds, content}
use Rattle.px_plain.proofs.Pushes.{from_ready, node_fits, apart_taken, apart_pushed}
use Rattle.px_plain.proofs.stack.Stack.push_apart.Goals as goal

pub returns-in_err-make_room-clause-failed : goal.returns-in_err-make_room-clause-failed
unfolding Holds
returns-in_err-make_room-clause-failed c = err_any c.from_residual.result (λ items h. subst (λ z. HoldsItems z items) (sym c.in_err-make_room.ensures.same) h)

pub overflow_add-place : goal.overflow_add-place
unfolding Holds
overflow_add-place c =
    let r = c.requires in
    let h = from_ready (content c.args.self.now) (content c.make_room.new.self) (content c.begin.new.self) c.in_ok-make_room.ensures.same c.begin.ensures.ready r.0 r.1 in
    let n = node_fits (content c.begin.new.self) r.0 h.1 c.args.place.0 r.2 in
    omega arith

pub take-step-requires-clause-take : goal.take-step-requires-clause-take
unfolding Holds
take-step-requires-clause-take c =
    let r = c.requires in
    let h = from_ready (content c.args.self.now) (content c.make_room.new.self) (content c.begin.new.self) c.in_ok-make_room.ensures.same c.begin.ensures.ready r.0 r.1 in
    apart_taken (content c.begin.new.self) r.0 h.1 c.args.place.0 r.2

pub returns-clause-pushed : goal.returns-clause-pushed
unfolding Holds
returns-clause-pushed c = λ items h.
    let r = c.requires in
    let start = content c.args.self.now in
    let room = content c.make_room.new.self in
    let ready = content c.begin.new.self in
    let g = from_ready start room ready c.in_ok-make_room.ensures.same c.begin.ensures.ready r.0 r.1 in
    let k = from_ready start room ready c.in_ok-make_room.ensures.same c.begin.ensures.ready items h in
    subst (λ z. HoldsItems (record (content c.take-step.new.self) { steps = z }) (OfApart c.args.place.0 ∷ items)) (sym c.push_reserved.ensures.items)
    (apart_pushed ready r.0 g.1 c.args.place.0 r.2 r.3 (content c.take-step.new.self) c.take-step.result c.take-step.ensures.takes items k)
