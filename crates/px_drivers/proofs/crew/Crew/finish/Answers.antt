use Rattle.std.proofs.Common.{◌≡◌, subst, ap, ◌∙◌, arith, ◌+◌, ◌*◌, ◌≤◌, length}
use Rattle.px_drivers.specs.Crews.{CrewParts, standing, total, links_of, HaveLostFew}
use Rattle.px_drivers.proofs.CrewLemmas.{crew_ends}
use Rattle.px_drivers.proofs.crew.Crew.finish.Goals as goal

pub returns-clause-end : goal.returns-clause-end
returns-clause-end g c a h =
    let within : length c.self.inside.drivers.items + length c.self.inside.left.items + c.self.inside.room ≤ c.self.inside.workers = c.self.invariant.4 in
    let many : length c.args.self.drivers + length c.args.self.left ≤ c.args.self.workers =
    subst (λ (x : CrewParts). length x.drivers + length x.left ≤ x.workers) c.self.view_is (omega arith) in
    let last = c.crew.view_is ∙ c.in_default.ensures.none.0 in
    let workers : c.crew.inside.workers ≡ c.args.self.workers = ap (λ (x : CrewParts). x.workers) last ∙ c.loop-driver.invariant.0 in
    let receipts : length c.from_vec.result ≡ length c.crew.inside.receipts.items = ap length c.from_vec.ensures in
    let left : length c.from_vec-2.result ≡ length c.crew.inside.left.items = ap length c.from_vec-2.ensures in
    let few_receipts : length c.crew.inside.drivers.items + length c.crew.inside.receipts.items + c.crew.inside.room ≤ c.crew.inside.workers = c.crew.invariant.3 in
    let few_left : length c.crew.inside.drivers.items + length c.crew.inside.left.items + c.crew.inside.room ≤ c.crew.inside.workers = c.crew.invariant.4 in
    crew_ends a (standing (g.S.Spawner.told c.loop-driver.spawner) (g.S.Spawner.links c.loop-driver.spawner) (g.S.Spawner.count c.loop-driver.spawner))
    c.args.self c.loop-driver.crew.drivers c.loop-driver.crew.receipts c.from_vec.result c.loop-driver.crew.left c.from_vec-2.result
    (subst (λ (x : CrewParts). HaveLostFew x.drivers) c.self.view_is c.self.invariant.5) many c.in_default.ensures.none.1
    (c.from_vec.ensures ∙ ap (λ (x : CrewParts). x.receipts) last) (c.from_vec-2.ensures ∙ ap (λ (x : CrewParts). x.left) last)
    (c.loop-driver.invariant.3 a (total links_of c.args.self.drivers + 4 * length c.args.self.left + 0) h) (omega arith) (omega arith)
