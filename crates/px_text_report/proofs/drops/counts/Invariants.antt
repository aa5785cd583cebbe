use Rattle.std.proofs.Common.{◌≡◌, ◌++◌, drop}
use Rattle.std.specs.Str.{bytes_eq}
use Rattle.px_text_report.specs.Firsts.{firsts}
use Rattle.px_text_report.proofs.DropLemmas.{added, count_all}
use Rattle.px_text_report.proofs.drops.counts.Given as goal

abbrev pub invariant-loop-text : goal.invariant-loop-text
invariant-loop-text l = l.counts.items ++ added l.proc l.texts l.counts.items (drop l.text-index l.texts) ≡ count_all l.proc l.texts (firsts bytes_eq l.texts)
