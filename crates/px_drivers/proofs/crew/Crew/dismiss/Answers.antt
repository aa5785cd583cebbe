use Rattle.std.proofs.Common.{◌≡◌, ◌∙◌, ap, ◌+◌, [], ◌∷◌, ◌++◌}
use Rattle.px_drivers.specs.Drivers.{counted, published}
use Rattle.px_drivers.specs.Crews.{CrewParts, standing, in_all}
use Rattle.px_drivers.proofs.CrewLemmas.{dismissed, published_left, in_all_more, in_all_same}
use Rattle.px_drivers.proofs.crew.Crew.dismiss.Goals as goal

pub returns-in-Some-clause-published : goal.returns-in-Some-clause-published
returns-in-Some-clause-published g c =
    let more : in_all c.push_reserved.new.self.items ≡ in_all c.args.self.now.receipts + counted c.end-past.result.receipts =
    in_all_more c.args.self.now.receipts c.self.inside.receipts.items c.push_reserved.new.self.items c.end-past.result.receipts c.in-Some.receipts
    (ap (λ (x : CrewParts). x.receipts) c.self.view_is) (c.push_reserved.ensures.items ∙ ap (λ n. c.self.inside.receipts.items ++ n ∷ []) c.in-Some.receipts-is) c.in-Some.is in
    published_left c.args.self.now.drivers c.self.inside.drivers.items c.args.self.now.receipts c.push_reserved.new.self.items (published c.args.driver)
    (ap (λ (x : CrewParts). x.drivers) c.self.view_is) (more ∙ ap (λ n. in_all c.args.self.now.receipts + n) c.end-past.ensures.receipts)

pub returns-in-Some-clause-account : goal.returns-in-Some-clause-account
returns-in-Some-clause-account g c =
    let more : in_all c.push_reserved.new.self.items ≡ in_all c.args.self.now.receipts + counted c.end-past.result.receipts =
    in_all_more c.args.self.now.receipts c.self.inside.receipts.items c.push_reserved.new.self.items c.end-past.result.receipts c.in-Some.receipts
    (ap (λ (x : CrewParts). x.receipts) c.self.view_is) (c.push_reserved.ensures.items ∙ ap (λ n. c.self.inside.receipts.items ++ n ∷ []) c.in-Some.receipts-is) c.in-Some.is in
    dismissed (standing (g.S.Spawner.told c.args.spawner.now) (g.S.Spawner.links c.args.spawner.now) (g.S.Spawner.count c.args.spawner.now))
    (standing (g.S.Spawner.told c.end-past.new.spawner) (g.S.Spawner.links c.end-past.new.spawner) (g.S.Spawner.count c.end-past.new.spawner))
    c.args.driver c.args.self.now.drivers c.self.inside.drivers.items c.args.self.now.receipts c.push_reserved.new.self.items c.args.self.now.left c.self.inside.left.items
    c.end-past.ensures.kept c.end-past.ensures.fewer c.end-past.ensures.count c.end-past.ensures.given
    (ap (λ (x : CrewParts). x.drivers) c.self.view_is) (more ∙ ap (λ n. in_all c.args.self.now.receipts + n) c.end-past.ensures.receipts)
    (ap (λ (x : CrewParts). x.left) c.self.view_is)

pub returns-in_default-clause-account : goal.returns-in_default-clause-account
returns-in_default-clause-account g c =
    let same : in_all c.self.inside.receipts.items ≡ in_all c.args.self.now.receipts + counted c.end-past.result.receipts =
    in_all_same c.args.self.now.receipts c.self.inside.receipts.items c.end-past.result.receipts (ap (λ (x : CrewParts). x.receipts) c.self.view_is) c.in_default.is in
    dismissed (standing (g.S.Spawner.told c.args.spawner.now) (g.S.Spawner.links c.args.spawner.now) (g.S.Spawner.count c.args.spawner.now))
    (standing (g.S.Spawner.told c.end-past.new.spawner) (g.S.Spawner.links c.end-past.new.spawner) (g.S.Spawner.count c.end-past.new.spawner))
    c.args.driver c.args.self.now.drivers c.self.inside.drivers.items c.args.self.now.receipts c.self.inside.receipts.items c.args.self.now.left c.self.inside.left.items
    c.end-past.ensures.kept c.end-past.ensures.fewer c.end-past.ensures.count c.end-past.ensures.given
    (ap (λ (x : CrewParts). x.drivers) c.self.view_is) (same ∙ ap (λ n. in_all c.args.self.now.receipts + n) c.end-past.ensures.receipts)
    (ap (λ (x : CrewParts). x.left) c.self.view_is)
