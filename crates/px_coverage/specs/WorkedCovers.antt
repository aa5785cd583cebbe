-- Tables of small procedures, and what they cover.
use Rattle.std.specs.Prelude.{ℕ, zero, suc, List, [], ◌∷◌, Option, None, Some, pos}
use Rattle.px_base.specs.declared.trace.MarkKind.TheVariants as mark
use Rattle.px_terms.specs.declared.types.Value.TheVariants as value
use Rattle.px_core.specs.declared.command.Operand.TheVariants.{Word}
use Rattle.px_core.specs.declared.command.Operator.TheVariants.{Copy}
use Rattle.px_core.specs.BodyTree.{BodyTree}
use Rattle.px_core.specs.CommandTree.{assign, call, return}
use Rattle.px_entry.specs.declared.entries.Entry.{Entry}
use Rattle.px_entry.specs.declared.entries.Exit.TheVariants.{Ok}
use Rattle.px_entry.specs.declared.tables.Gap.{Gap}
use Rattle.px_entry.specs.declared.tables.Table.{Table}
use Rattle.px_entry.specs.declared.tables.Cause.TheVariants.{Nodes, Dropped}
use Rattle.px_callgraph.specs.JobTree.{JobTree}
use Rattle.px_callgraph.specs.WorkedPaths.{site, mark_at, job_of, two_frees, p_is_null, nulls}
use Rattle.px_meaning.specs.CoreCalls.{CoreProgram, CoreCallsWithin}
use Rattle.px_soundness.specs.WorkedTriples.{an_entry, freed_twice, ten_over, by_other}
use Rattle.px_coverage.specs.Covered.{Covers}

-- `void f(void){int x = 1; return;}`
abbrev pub returns_at_once : JobTree
returns_at_once = job_of 3 1 [] (assign 0 Copy (Word (pos 1)) (Word (pos 0)) ∷ return None ∷ [])

-- the program of one job
abbrev pub program_of : JobTree → CoreProgram
program_of j = record { types = j.types; bodies = λ f. Some j.body }

-- the table covers the executions within the job's bound
abbrev pub CoversJob : JobTree → Table → Type 0
CoversJob j table = Covers j.types j.body.parameters (CoreCallsWithin j.limits.unroll (program_of j) 0) table

abbrev pub a_table : List Entry → List Gap → Table
a_table entries drops = record { entries = entries; drops = drops }

-- nothing is asked and nothing changes
abbrev pub nothing : Entry
nothing = record { proc = returns_at_once.proc; trace = []; exit = Ok; result = None; vars = []; pure = []; pre = []; post = []; model = [] }

-- of `void h(int *p){free(p);free(p);}`: null is freed twice
abbrev pub of_null : Entry
of_null = an_entry Ok nulls [] (p_is_null ∷ []) [] [] (value.Null ∷ [])

-- `void g(void){f();return;}`, where f is the procedure that returns at once
abbrev pub calls_it : JobTree
calls_it = job_of 3 0 [] (call None returns_at_once.proc [] (site 14) ∷ return None ∷ [])

-- f is procedure 0, and g procedure 1
abbrev pub two_bodies : ℕ → Option BodyTree
two_bodies zero = Some returns_at_once.body
two_bodies (suc f) = Some calls_it.body

abbrev pub with_its_caller : CoreProgram
with_its_caller = record { types = returns_at_once.types; bodies = two_bodies }

abbrev pub CoversCaller : Table → Type 0
CoversCaller table = Covers with_its_caller.types calls_it.body.parameters (CoreCallsWithin 3 with_its_caller 1) table

-- of g: the call goes in and comes back
abbrev pub called : Entry
called = record nothing { trace = mark_at (mark.Enter returns_at_once.proc) 14 ∷ mark_at mark.Leave 14 ∷ [] }

-- f's executions aren't all in its table
abbrev pub dropped_call : Gap
dropped_call = record { trace = mark_at (mark.Enter returns_at_once.proc) 14 ∷ []; cause = Dropped returns_at_once.proc }

pub record WorkedCovers : Type 0 where
  -- the only execution is that of the entry
  pub returned : CoversJob returns_at_once (a_table (nothing ∷ []) [])
  -- a table without rows covers nothing
  pub empty : ¬ CoversJob returns_at_once (a_table [] [])
  -- a drop of every trace covers everything
  pub spent : CoversJob two_frees (a_table [] (record { trace = []; cause = Nodes 1 } ∷ []))
  -- without the row of a block that was freed before, an execution that meets one isn't covered
  pub without_freed : ¬ CoversJob two_frees (a_table (of_null ∷ freed_twice ∷ []) [])
  -- without the row of 0, an execution that divides by 0 isn't covered
  pub without_zero : ¬ CoversJob ten_over (a_table (by_other ∷ []) [])
  -- the caller's only execution has the marks of the call
  pub through_call : CoversCaller (a_table (called ∷ []) [])
  -- so it isn't that of the callee's entry
  pub without_marks : ¬ CoversCaller (a_table (nothing ∷ []) [])
  -- where the callee's table has a drop, one at the call covers it
  pub handed_on : CoversCaller (a_table [] (dropped_call ∷ []))
