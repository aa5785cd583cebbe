use Rattle.std.proofs.Common.{◌≡◌, ◌++◌, drop}
use Rattle.px_text_report.specs.Drops.{cause_texts}
use Rattle.px_text_report.proofs.drops.cause_texts.Given as goal

abbrev pub invariant-loop-gap : goal.invariant-loop-gap
invariant-loop-gap l = l.texts.items ++ cause_texts l.names l.words (drop l.gap-index l.drops) ≡ cause_texts l.names l.words l.drops
