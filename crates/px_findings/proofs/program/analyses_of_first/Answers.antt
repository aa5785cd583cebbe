use Rattle.std.proofs.Common.{◌≡◌, ◌≤◌, ℕ, List, [], None, length, map, refl, sym, ap, ap₂, ◌∙◌, subst, arith}
use Rattle.std.proofs.lemmas.List.{length-replicate}
use Rattle.px_syntax.specs.ProgramTree.{program_tree}
use Rattle.px_pieces.specs.declared.desk.Event.{Event}
use Rattle.px_pieces.specs.declared.findings.Part.{Part}
use Rattle.px_pieces.specs.Found.{Found, tables_in}
use Rattle.px_jobs.specs.Plans.{tables_at}
use Rattle.px_findings.specs.Found.{work_of, AreFound}
use Rattle.px_findings.specs.Analyses.{AreBeside}
use Rattle.px_findings.specs.Orders.{AreTurns}
use Rattle.px_findings.proofs.PlanLemmas.{many_large}
use Rattle.px_findings.proofs.FoundLemmas.{begins, ends}
use Rattle.px_findings.proofs.program.analyses_of_first.Goals as goal

pub turns-requires : goal.turns-requires
turns-requires g c =
    let l = c.in_ok-bodies.field-0 in
    let e = ap length c.deref-3.ensures.value in
    let m = many_large (program_tree c.args.program.now).procedures l.bodies.items l.large.items c.in_ok-bodies.ensures in
    let k = (c.in_ok-plan.ensures.plan c.args.limits []).kept in
    let a = c.in_ok-plan.plan.all in
    omega arith

pub loop-place-init : goal.loop-place-init
loop-place-init g c =
    let P = program_tree c.args.program.now in
    let l = c.in_ok-bodies.field-0 in
    let kinds = c.in_ok-kinds_of.field-0 in
    let p = c.in_ok-plan.plan in
    let are : map (λ b. (goal.Domain-dyn g (b.vtable, b.value)).number b.value) c.args.domains.now.items ≡ kinds =
    sym (c.in_ok-kinds_of.ensures ∙ ap (map (λ b. (goal.Domain-dyn g (b.vtable, b.value)).number b.value)) c.deref-4.ensures.value) in
    record {
      under_way = begins P c.args.limits kinds l.bodies.items l.large.items c.in_ok-bodies.ensures p (c.in_ok-plan.ensures.plan c.args.limits kinds) c.in_ok-order.order.items
          (subst (λ z. AreTurns p.graph z c.in_ok-order.order.items) c.deref-3.ensures.value c.in_ok-order.ensures)
          (record { bodies = l.bodies; parts = c.in_ok-parts.parts; explorations = c.in_ok-explorations.explorations; shared = record { types = c.in_ok-copy.field-0; limits = c.args.limits; kinds = kinds } })
          refl c.len.result (let a = c.len.ensures in let b = l.bodies.ok in omega arith) c.in_ok-parts.ensures c.args.many c.in_ok-explorations.ensures
          (record { types = c.in_ok-copy.ensures; limits = refl; kinds = refl }) c.requires.few;
      now = are;
      clear = c.requires.clear;
      places = ap length c.in_ok-explorations.ensures ∙ length-replicate c.args.many None;
      first = are;
    }

pub returns-clause-found : goal.returns-clause-found
returns-clause-found g c =
    let P = program_tree c.args.program.now in
    let l = c.in_ok-bodies.field-0 in
    let m = c.loop-place.progress in
    let kinds = m.shared.kinds in
    let p = c.in_ok-plan.plan in
    let n = c.len-place-end.ensures in
    let last : length c.in_ok-order.order.items ≤ c.loop-place.place = omega (arith, c.loop-place-test.false) in
    let found : AreFound P c.args.limits kinds (record { parts = m.parts.items; events = [] }) =
    ends P c.args.limits kinds l.bodies.items l.large.items c.in_ok-bodies.ensures p (c.in_ok-plan.ensures.plan c.args.limits kinds) c.in_ok-order.order.items
    (subst (λ z. AreTurns p.graph z c.in_ok-order.order.items) c.deref-3.ensures.value c.in_ok-order.ensures) m c.loop-place.place last c.loop-place.invariant.under_way in
    let made : List Part → List Event → Found = λ parts events. record { parts = parts; events = events } in
    subst (λ (z : List ℕ). AreFound P c.args.limits z c.new-2.result) (sym c.loop-place.invariant.first)
    (subst (λ (f : Found). AreFound P c.args.limits kinds f) (sym (c.new-2.ensures ∙ ap₂ made c.from_vec.ensures c.new.ensures)) found)

pub returns-clause-beside : goal.returns-clause-beside
returns-clause-beside g c =
    let P = program_tree c.args.program.now in
    let m = c.loop-place.progress in
    let w = work_of P c.args.limits m.shared.kinds in
    let made : List Part → List Event → Found = λ parts events. record { parts = parts; events = events } in
    subst (λ (z : List ℕ). AreBeside (work_of P c.args.limits z) (tables_in c.new-2.result) c.new-2.result.parts c.from_vec-2.result) (sym c.loop-place.invariant.first)
    (subst (λ (f : Found). AreBeside w (tables_in f) f.parts c.from_vec-2.result) (sym (c.new-2.ensures ∙ ap₂ made c.from_vec.ensures c.new.ensures))
    (subst (AreBeside w (tables_at m.parts.items) m.parts.items) (sym c.from_vec-2.ensures) c.loop-place.invariant.under_way.beside))

pub returns-clause-many : goal.returns-clause-many
returns-clause-many g c = ap length c.from_vec-2.ensures ∙ c.loop-place.invariant.places
