-- What is found out of a program, with how it was found.
use Rattle.std.specs.Prelude.{◌≡◌, ℕ, List, length, Option, Some, None, slice_get}
use Rattle.px_base.specs.LimitNumbers.{LimitNumbers}
use Rattle.px_entry.specs.declared.tables.Table.{Table}
use Rattle.px_syntax.specs.ProgramTree.{ProgramTree}
use Rattle.px_symexec.specs.One.{Work}
use Rattle.px_pieces.specs.declared.findings.Part.{Part}
use Rattle.px_pieces.specs.declared.findings.Part.TheVariants.{LeftOut}
use Rattle.px_pieces.specs.Found.{tables_in}
use Rattle.px_findings.specs.declared.exploration.Analyses.{Analyses}
use Rattle.px_findings.specs.declared.exploration.Exploration.{Exploration}
use Rattle.px_findings.specs.Found.{work_of, AreFound}
use Rattle.px_findings.specs.Jobs.{IsAnalysedOf}

-- beside the table of f's job, how it was found; beside none, nothing
abbrev pub IsBeside : Work → (ℕ → Option Table) → ℕ → Part → Option Exploration → Type 0
IsBeside w tables f x None = x ≡ LeftOut
IsBeside w tables f x (Some e) = IsAnalysedOf w tables f x e

-- beside each part for which there is a place
abbrev pub AreBeside : Work → (ℕ → Option Table) → List Part → List (Option Exploration) → Type 0
AreBeside w tables parts explorations =
    (n : ℕ) (x : Part) (e : Option Exploration) → slice_get parts n ≡ Some x → slice_get explorations n ≡ Some e → IsBeside w tables n x e

-- the findings of a program within limits, with the help of domains of these kinds, and how each table was found
pub record AreAnalyses (P : ProgramTree) (limits : LimitNumbers) (kinds : List ℕ) (a : Analyses) : Type 0 where
  pub found : AreFound P limits kinds a.findings
  -- there is a place for each kept procedure
  pub all : length a.explorations ≡ length P.procedures
  pub each : AreBeside (work_of P limits kinds) (tables_in a.findings) a.findings.parts a.explorations
