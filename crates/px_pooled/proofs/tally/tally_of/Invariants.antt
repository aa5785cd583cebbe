use Rattle.std.proofs.Common.{◌≡◌, ◌+◌, ◌≤◌, drop}
use Rattle.px_book.specs.Tallies.{by_worker, by_parent, losses, published_by}
use Rattle.px_pooled.specs.Words.{of_workers, of_parent}
use Rattle.px_pooled.proofs.tally.tally_of.Given as goal

-- what is counted, with what is left, is all, and no more than there are events
abbrev pub invariant-loop-event : goal.invariant-loop-event
invariant-loop-event l = record {
  by_workers : l.counted.by_workers + published_by by_worker l.history (drop l.event-index l.history) ≡ of_workers l.history;
  by_parent : l.counted.by_parent + published_by by_parent l.history (drop l.event-index l.history) ≡ of_parent l.history;
  lost : l.counted.lost + losses (drop l.event-index l.history) ≡ losses l.history;
  few_workers : l.counted.by_workers ≤ l.event-index;
  few_parent : l.counted.by_parent ≤ l.event-index;
  few_lost : l.counted.lost ≤ l.event-index;
}
