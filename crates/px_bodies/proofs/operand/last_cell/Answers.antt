use Rattle.std.proofs.Common.{◌∙◌, ap, Some}
use Rattle.px_syntax.specs.TypedViews.{typed_expression, cells}
use Rattle.px_syntax.proofs.TypedChains.{cells-more}
use Rattle.px_bodies.proofs.operand.last_cell.Goals as goal

pub returns-in_ok-new-in-Some : goal.returns-in_ok-new-in-Some
returns-in_ok-new-in-Some c =
    let e = typed_expression c.args.pointer.value in
    rw c.in_ok-new-in-Some.ensures.ok (ap Some (ap (cells e) c.in-Some.ensures.items ∙ cells-more e c.pop.new.self.items c.in-Some.last))
