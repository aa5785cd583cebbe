use Rattle.std.proofs.Common.{◌≡◌, drop, map}
use Rattle.std.specs.List.{list_any}
use Rattle.std.specs.Str.{bytes_eq}
use Rattle.px_text_report.proofs.drops.has_cause.Given as goal

abbrev pub invariant-loop-one : goal.invariant-loop-one
invariant-loop-one l = list_any (bytes_eq l.text) (map (λ d. d.cause) (drop l.one-index l.counts)) ≡ list_any (bytes_eq l.text) (map (λ d. d.cause) l.counts)
