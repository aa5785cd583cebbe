-- What an analysis asks of a program.
use Rattle.std.specs.Prelude.{◌≤◌, length}
use Rattle.std.specs.List.{AllByRecursion}
use Rattle.px_base.specs.Bounds.{most_parameters}
use Rattle.px_syntax.specs.ProgramTree.{ProgramTree}
use Rattle.px_findings.specs.Bodies.{CallsNamed}

-- no function has more parameters than are analysed, and each that is called has a name
pub record IsAnalysable (P : ProgramTree) : Type 0 where
  pub few : AllByRecursion (λ p. length p.parameters ≤ most_parameters) P.procedures
  pub named : CallsNamed P
