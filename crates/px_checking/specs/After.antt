-- What is told after a report.
use Rattle.std.specs.Prelude.{◌≡◌, ℕ, List, ◌++◌}
use Rattle.px_syntax.specs.ProgramTree.{ProgramTree}
use Rattle.px_text_report.specs.Known.{Known}
use Rattle.px_leak.specs.Leaks.{all_leaks}
use Rattle.px_leak.specs.LeakTexts.{leaks_asked}
use Rattle.px_undecided.specs.CountTexts.{IsBitsText}
use Rattle.px_checking.specs.declared.asked.More.{More}

-- looks at the bits of undecided drops, and the leaks, where they are asked for
abbrev pub IsAfter : More → ProgramTree → List Known → List ℕ → Type 0
IsAfter asked P parts text = (looks : List ℕ) × IsBitsText asked.bits P parts looks × (text ≡ looks ++ leaks_asked asked.leaks P (all_leaks parts))
