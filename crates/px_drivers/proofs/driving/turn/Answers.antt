use Rattle.std.proofs.Common.{rules, refl, ap, ◌∙◌, ◌≡◌, ◌+◌}
use Rattle.px_callgraph.specs.JobTree.{job_tree}
use Rattle.px_pieces.specs.Pieces.{table_from}
use Rattle.px_drivers.specs.declared.driver.DriverState.TheVariants.{Ready}
use Rattle.px_drivers.specs.Drivers.{DriverParts, counted}
use Rattle.px_drivers.proofs.DriverLemmas.{ready_stands, answered_kept, refused_kept, one_at_most}
use Rattle.px_drivers.proofs.driving.turn.Goals as goal

pub invariant_of-driver : goal.invariant_of-driver
invariant_of-driver g c =
    let is : c.driver.inside.state ≡ Ready = ap (λ (d : DriverParts). d.state) c.driver.view_is ∙ c.requires in
    let more : counted c.joined.result ≡ counted c.driver.inside.receipts + counted c.publish-receipt.result = search rules in
    answered_kept c.driver.inside.number c.driver.inside.version (g.K.Link.told c.driver.inside.link) (g.K.Link.told c.exchange.new.link) (g.K.Link.count c.driver.inside.link) (g.K.Link.count c.exchange.new.link)
    c.driver.inside.first c.driver.inside.state c.driver.inside.kept (counted c.driver.inside.receipts) (counted c.joined.result) c.driver.inside.past.losses
    (counted c.driver.inside.past.receipts) (counted c.publish-receipt.result) (job_tree c.args.job) (table_from c.in-Ok.piece.entries c.in-Ok.piece.drops)
    c.driver.invariant.version is (ready_stands _ is c.driver.invariant) c.driver.invariant.backed c.in-Ok.ensures.answered c.in-Ok.ensures.step c.in-Ok.ensures.faults more
    (one_at_most c.publish-receipt.result c.publish-receipt.ensures)

pub invariant_of-driver-in-Err : goal.invariant_of-driver-in-Err
invariant_of-driver-in-Err g c =
    let is : c.driver.inside.state ≡ Ready = ap (λ (d : DriverParts). d.state) c.driver.view_is ∙ c.requires in
    refused_kept c.driver.inside.number c.driver.inside.version (g.K.Link.told c.driver.inside.link) (g.K.Link.told c.exchange.new.link) (g.K.Link.count c.driver.inside.link) (g.K.Link.count c.exchange.new.link)
    c.driver.inside.first c.args.job c.in-Err.why (counted c.driver.inside.receipts) c.driver.inside.past.losses (counted c.driver.inside.past.receipts)
    c.driver.invariant.version (ready_stands _ is c.driver.invariant) c.driver.invariant.backed (c.in-Err.ensures.cause c.in-Err.why refl)
    c.in-Err.ensures.faults
