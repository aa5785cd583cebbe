use Rattle.std.proofs.Common.{◌∙◌, sym, ap}
use Rattle.px_syntax.specs.TypedViews.{typed_expression, cells}
use Rattle.px_syntax.proofs.TypedChains.{cells-more}
use Rattle.px_real_values.proofs.operand.last_cell.Goals as goal

pub returns-in-Some : goal.returns-in-Some
returns-in-Some c =
    let e = typed_expression c.args.pointer.value in
    sym (cells-more e c.pop.new.self.items c.in-Some.last) ∙ ap (cells e) (sym c.in-Some.ensures.items)
