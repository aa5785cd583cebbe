-- Leaks of a program.
use Rattle.std.specs.Prelude.{◌≡◌, Some, slice_get}
use Rattle.px_syntax.specs.ProgramTree.{ProgramTree, ProcedureTree}
use Rattle.px_meaning.specs.TreeCalls.{TreeCalls}
use Rattle.px_meaning.specs.TypedProgram.{typed_program}
use Rattle.px_leak.specs.declared.told.Leak.{Leak}
use Rattle.px_leak.specs.Unreached.{IsLeak}

-- a leak is one of a kept procedure: from every calling state some execution of its typed tree has its trace, returns, and has lost
-- as many blocks
abbrev pub IsLeakIn : ProgramTree → Leak → Type 0
IsLeakIn P l =
    (p : ProcedureTree) × (slice_get P.procedures l.proc.0 ≡ Some p) × IsLeak (TreeCalls (typed_program P) l.proc.0) P.types p.parameters l.trace l.blocks
