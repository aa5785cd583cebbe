use Rattle.std.proofs.Common.{ap, ◌∙◌, [], ◌∷◌, ◌++◌}
use Rattle.px_drivers.specs.Crews.{CrewParts}
use Rattle.px_drivers.proofs.CrewLemmas.{in_all_more}
use Rattle.px_drivers.proofs.crew.Crew.leave.Goals as goal

pub returns-in-Some-clause-receipts : goal.returns-in-Some-clause-receipts
returns-in-Some-clause-receipts g c =
    in_all_more c.args.self.now.receipts c.self.inside.receipts.items c.push_reserved-in-Some.new.self.items c.args.past.receipts c.in-Some.receipts
    (ap (λ (x : CrewParts). x.receipts) c.self.view_is)
    (c.push_reserved-in-Some.ensures.items ∙ ap (λ n. c.self.inside.receipts.items ++ n ∷ []) c.in-Some.receipts-is) c.in-Some.is

pub returns-in-Some-clause-left : goal.returns-in-Some-clause-left
returns-in-Some-clause-left g c = c.push_reserved.ensures.items ∙ ap (λ (x : CrewParts). x.left ++ (c.args.number, c.args.why) ∷ []) c.self.view_is

pub returns-in_default-clause-left : goal.returns-in_default-clause-left
returns-in_default-clause-left g c = c.push_reserved.ensures.items ∙ ap (λ (x : CrewParts). x.left ++ (c.args.number, c.args.why) ∷ []) c.self.view_is
