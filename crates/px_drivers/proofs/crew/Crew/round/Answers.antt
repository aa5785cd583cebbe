use Rattle.std.proofs.Common.{◌≡◌, sym, subst, ap, ◌∙◌, length}
use Rattle.px_drivers.specs.Drivers.{AreDriven}
use Rattle.px_drivers.specs.Crews.{CrewParts}
use Rattle.px_drivers.proofs.CrewLemmas.{crew_driven, written_back}
use Rattle.px_drivers.proofs.crew.Crew.round.Goals as goal

pub returns-clause-account : goal.returns-clause-account
returns-clause-account g c a b =
    let lent : c.deref_mut.result.now ≡ c.self.inside.drivers.items = c.deref_mut.ensures.value in
    let driven : AreDriven c.self.inside.drivers.items c.round.new.drivers = subst (λ l. AreDriven l c.round.new.drivers) lent c.round.ensures in
    crew_driven a b c.args.self.now.drivers c.round.new.drivers _ c.args.self.now.receipts c.self.inside.receipts.items c.args.self.now.left c.self.inside.left.items
    (subst (λ (x : CrewParts). AreDriven x.drivers c.round.new.drivers) c.self.view_is driven)
    (written_back c.self.inside.drivers.items c.round.new.drivers c.self.inside.drivers.len (sym c.deref_mut.ensures.len ∙ ap length lent) driven.many)
    (ap (λ (x : CrewParts). x.receipts) c.self.view_is) (ap (λ (x : CrewParts). x.left) c.self.view_is)

pub returns-clause-driven : goal.returns-clause-driven
returns-clause-driven g c =
    let lent : c.deref_mut.result.now ≡ c.self.inside.drivers.items = c.deref_mut.ensures.value in
    let driven : AreDriven c.self.inside.drivers.items c.round.new.drivers = subst (λ l. AreDriven l c.round.new.drivers) lent c.round.ensures in
    subst (λ l. AreDriven c.args.self.now.drivers l)
    (sym (written_back c.self.inside.drivers.items c.round.new.drivers c.self.inside.drivers.len (sym c.deref_mut.ensures.len ∙ ap length lent) driven.many))
    (subst (λ (x : CrewParts). AreDriven x.drivers c.round.new.drivers) c.self.view_is driven)
