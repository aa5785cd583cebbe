use Rattle.std.proofs.Common.{◌-◌, ◌≤◌, List, drop, length, Result}
use Rattle.px_base.specs.declared.trace.Site.{Site}
use Rattle.px_lexer.specs.Lent.{as_tokens}
use Rattle.px_cutting.specs.declared.cutting.Span.{Span}
use Rattle.px_cutting.specs.Cutting.{Cuts, with_spans}
use Rattle.px_cutting.proofs.cutting.items.Given as goal

abbrev pub invariant-loop-first : goal.invariant-loop-first
invariant-loop-first l = record {
  within : l.first ≤ length (as_tokens l.tokens);
  so_far : (remaining : Result (List Span) Site) → Cuts l.first (drop l.first (as_tokens l.tokens)) remaining → Cuts 0 (as_tokens l.tokens) (with_spans l.spans.items remaining);
}

abbrev pub decreases-loop-first : goal.decreases-loop-first
decreases-loop-first l = length (as_tokens l.tokens) - l.first
