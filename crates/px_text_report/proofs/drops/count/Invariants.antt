use Rattle.std.proofs.Common.{◌≡◌, ◌+◌, ◌≤◌, drop}
use Rattle.std.specs.Prelude.{count_by}
use Rattle.std.specs.Str.{bytes_eq}
use Rattle.px_text_report.proofs.drops.count.Given as goal

abbrev pub invariant-loop-other : goal.invariant-loop-other
invariant-loop-other l = (l.count + count_by (bytes_eq l.text) (drop l.other-index l.texts) ≡ count_by (bytes_eq l.text) l.texts) × (l.count ≤ l.other-index)
