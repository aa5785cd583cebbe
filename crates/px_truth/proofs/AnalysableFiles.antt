-- Programs of files are analysable.
use Rattle.std.proofs.Common.{List, ℕ, sym, subst}
use Rattle.px_io.specs.Reads.{Given}
use Rattle.px_syntax.specs.ProgramTree.{ProgramTree}
use Rattle.px_programs.proofs.ProgramsTyped.{numbers}
use Rattle.px_loading.specs.Refusals.{SaysAlone}
use Rattle.px_truth.specs.Analysable.{IsAnalysable}
use Rattle.px_truth.proofs.NamedCalls.{calls_named}

-- no function has too many parameters, and each that is called has a name
pub analysable : (names : List (List ℕ)) (given : List Given) (P : ProgramTree) → SaysAlone names given P → IsAnalysable P
analysable names given P says = subst IsAnalysable (sym says.1.0.2) (record { few = (numbers says.1.0.0).few; named = calls_named says.1.0.0 })
