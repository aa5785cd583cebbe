-- Bugs that are manifest in a program.
use Rattle.std.specs.Prelude.{◌≡◌, Some, slice_get}
use Rattle.px_syntax.specs.ProgramTree.{ProgramTree, ProcedureTree}
use Rattle.px_meaning.specs.Manifest.{IsManifest}
use Rattle.px_meaning.specs.TreeCalls.{TreeCalls}
use Rattle.px_meaning.specs.TypedProgram.{typed_program}
use Rattle.px_text_report.specs.declared.shown.Bug.{Bug}

-- a bug is one of a kept procedure, and its typed tree has it from every calling state
abbrev pub IsManifestIn : ProgramTree → Bug → Type 0
IsManifestIn P b =
    (p : ProcedureTree) × (slice_get P.procedures b.proc.0 ≡ Some p)
    × IsManifest (TreeCalls (typed_program P) b.proc.0) P.types p.parameters (record { kind = b.kind; site = b.site; trace = b.trace })
