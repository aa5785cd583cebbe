use Rattle.std.proofs.Common.{sym, subst}
use Rattle.px_pieces.specs.declared.desk.Who.TheVariants.{Parent}
use Rattle.px_book.specs.Ready.{IsLeastOf}
use Rattle.px_book.proofs.NextLemmas.{least_parent}
use Rattle.px_book.proofs.ready.Ready.least.Goals as goal

pub returns-in-Parent : goal.returns-in-Parent
returns-in-Parent c =
    subst (λ w. IsLeastOf w c.args.self.now c.lesser.result) (sym c.in-Parent.is) (subst (IsLeastOf Parent c.args.self.now) (sym c.lesser.ensures)
    (least_parent c.args.self.now c.least-in-Parent.result c.least-in-Parent-2.result c.least-in-Parent.ensures c.least-in-Parent-2.ensures))
