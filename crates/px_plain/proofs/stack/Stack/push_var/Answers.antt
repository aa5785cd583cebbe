use Rattle.std.proofs.Common.{◌∷◌, sym, subst, refl}
use Rattle.std.specs.Prelude.{◌||◌}
use Rattle.px_terms.proofs.Outcomes.{err_any}
use Rattle.px_plain.specs.declared.claims.Step.TheVariants as step
use Rattle.px_plain.specs.Held.{OfVar}
use Rattle.px_plain.specs.Stands.{HoldsItems}
use Rattle.px_plain.specs.Stacks.{Holds, content}
use Rattle.px_plain.proofs.Pushes.{from_ready, few_nodes, variable_pushed}
use Rattle.px_plain.proofs.StackSteps.{with_step}
use Rattle.px_plain.proofs.stack.Stack.push_var.Goals as goal

pub returns-in_err-make_room-clause-failed : goal.returns-in_err-make_room-clause-failed
unfolding Holds
returns-in_err-make_room-clause-failed c = err_any c.from_residual.result (λ items h. subst (λ z. HoldsItems z items) (sym c.in_err-make_room.ensures.same) h)

pub add_node-requires-clause-few : goal.add_node-requires-clause-few
unfolding Holds
add_node-requires-clause-few c =
    let r = c.requires in
    let h = from_ready (content c.args.self.now) (content c.make_room.new.self) (content c.begin.new.self) c.in_ok-make_room.ensures.same c.begin.ensures.ready r.0 r.1 in
    few_nodes (content c.begin.new.self) r.0 h.1 c.args.info r.2

pub returns-clause-pushed : goal.returns-clause-pushed
unfolding Holds
returns-clause-pushed c = λ items h.
    let r = c.requires in
    let start = content c.args.self.now in
    let room = content c.make_room.new.self in
    let ready = content c.begin.new.self in
    let g = from_ready start room ready c.in_ok-make_room.ensures.same c.begin.ensures.ready r.0 r.1 in
    let k = from_ready start room ready c.in_ok-make_room.ensures.same c.begin.ensures.ready items h in
    let refuted = c.is_closed-refuted.result || c.is_made_int-other.result in
    subst (λ z. HoldsItems (record (content c.add_node.new.self) { steps = z }) (OfVar c.args.info ∷ items)) (sym c.push_reserved.ensures.items)
    (subst (λ z. HoldsItems (with_step z (step.Variable refuted)) (OfVar c.args.info ∷ items)) (sym c.add_node.ensures.nodes)
    (variable_pushed ready r.0 g.1 c.args.info r.2 c.is_closed-refuted.result c.is_made_int-other.result refuted c.is_closed-refuted.ensures c.is_made_int-other.ensures.yes c.is_made_int-other.ensures.no refl items k))
