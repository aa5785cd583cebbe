-- What can be seen of an execution.
use Rattle.std.specs.Prelude.{ℕ, ℤ}
use Rattle.px_base.specs.declared.trace.Site.{Site}
use Rattle.px_base.specs.declared.trace.Mark.{Mark}
use Rattle.px_base.specs.declared.trace.MarkKind.{MarkKind}
use Rattle.px_base.specs.declared.trace.MarkKind.TheVariants.{Got, Input}

-- a mark, and beside it what the program doesn't determine: the value that `getchar` gave, and the
-- number of the block that `malloc` gave
pub data Event : Type 0 where
  marks : Mark → Event
  reads : Site → ℤ → Event
  makes : Site → ℕ → Event

abbrev pub mark : MarkKind → Site → Mark
mark kind site = record { kind = kind; site = site }

-- an event's mark, which is all that a trace has of it
abbrev pub mark_of : Event → Mark
mark_of (marks m) = m
mark_of (reads site z) = mark Input site
mark_of (makes site n) = mark Got site

-- an event without the number of a new block: a mark, or the value of an input
abbrev pub unnumbered : Event → Event
unnumbered (marks m) = marks m
unnumbered (reads site z) = reads site z
unnumbered (makes site n) = marks (mark Got site)
