use Rattle.std.proofs.Common.{[]}
use Rattle.px_parts.specs.Stream.{Streams}
use Rattle.px_parts.specs.Kept.{place_of}
use Rattle.px_parts.proofs.Streaming.{rank}
use Rattle.px_parts.proofs.finding.find.Given as goal

-- only counts came so far
abbrev pub invariant-loop-come : goal.invariant-loop-come
invariant-loop-come l = Streams (place_of l.fn.next l.fn.terms) l.fn.bytes [] (place_of l.here l.fn.terms) l.rest

abbrev pub decreases-loop-come : goal.decreases-loop-come
decreases-loop-come l = rank (place_of l.here l.fn.terms)
