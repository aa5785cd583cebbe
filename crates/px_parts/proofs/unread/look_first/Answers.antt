use Rattle.px_parts.proofs.unread.look_first.Goals.{then-are_few+then-not-unread, else-are_few}
use Rattle.px_parts.proofs.unread.look_first.Goals as goal

pub returns-clause-short : goal.returns-clause-short
returns-clause-short c =
    elim c.if-are_few.branch [
      | then-are_few+then-not-unread w ↦ λ _ is. (rw w.unread-is at c.look.ensures.short) (w.begin.ensures _) is
      | else-are_few w ↦ λ skim is. (rw w.unread-is at c.look.ensures.short) skim is
    ]
