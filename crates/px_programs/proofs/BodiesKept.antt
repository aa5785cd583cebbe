-- The lowered bodies of the program that files say.
use Rattle.std.proofs.Common.{◌≡◌, ℕ, length, option_map, slice_get, Option, Some, None, subst}
use Rattle.std.proofs.lemmas.Option.{none-some, same_Some}
use Rattle.px_core.specs.BodyTree.{BodyTree}
use Rattle.px_syntax.specs.ProgramTree.{ProcedureTree}
use Rattle.px_typing.specs.Programs.{program_of}
use Rattle.px_meaning.specs.TypedProgram.{typed_program}
use Rattle.px_lower.specs.LoweredProgram.{locals_of, lowered}
use Rattle.px_lower.proofs.BodiesLaw.{bodies}
use Rattle.px_programs.specs.Numbers.{IsProcedureListed}
use Rattle.px_programs.specs.ListedBodies.{IsBodyListed}
use Rattle.px_programs.specs.BodyLaws.{BodiesHaveTheirNumbers, BodiesOfFilesKeep}
use Rattle.px_programs.proofs.Options.{Holds}
use Rattle.px_programs.proofs.Lists.{all_get}
use Rattle.px_programs.proofs.ListedCommands.{statement_listed}
use Rattle.px_programs.proofs.ProgramsTyped.{programs, numbers}

module _ (names types : ℕ) where
  body_listed : (p : ProcedureTree) → IsProcedureListed names types p → IsBodyListed names types (lowered p)
  body_listed p h = record {
    parameters = h.parameters;
    result = h.result;
    commands = statement_listed names types p.body (locals_of p) h.body;
  }

  of_procedure : (o : Option ProcedureTree) → Holds (IsProcedureListed names types) o → (b : BodyTree) → option_map lowered o ≡ Some b → IsBodyListed names types b
  of_procedure None h b e = absurd (none-some b e)
  of_procedure (Some p) h b e = subst (IsBodyListed names types) (same_Some (lowered p) b e) (body_listed p h)

pub listed : BodiesHaveTheirNumbers
listed files f b e =
    let p = program_of files in
    let names = length p.names in
    let types = length p.types in
    of_procedure names types (slice_get p.procedures f) (all_get (IsProcedureListed names types) p.procedures f (numbers files).procedures) b e

pub keep : BodiesOfFilesKeep
keep = record {
  types = λ files. bodies.types (typed_program (program_of files)) (programs files);
  well_formed = λ files. bodies.well_formed (typed_program (program_of files)) (programs files);
  ranges = λ files. bodies.ranges (typed_program (program_of files)) (programs files);
  listed = listed;
}
