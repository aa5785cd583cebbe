-- Cuts are honest: what a table says of a procedure it says of a fuller meaning, up to what isn't understood.
use Rattle.std.specs.Prelude.{ℕ, List, Any}
use Rattle.px_base.specs.declared.trace.Mark.{Mark}
use Rattle.px_entry.specs.declared.tables.Gap.{Gap}
use Rattle.px_entry.specs.declared.tables.Table.{Table}
use Rattle.px_meaning.specs.Values.{Value, ValueType}
use Rattle.px_meaning.specs.Heaps.{HeapMap}
use Rattle.px_meaning.specs.Calls.{IsCallingState}
use Rattle.px_meaning.specs.Manifest.{Bug, IsManifest}
use Rattle.px_meaning.specs.TypedProgram.{TypedProgram}
use Rattle.px_meaning.specs.TreeCalls.{TreeCalls, BoundedTreeCalls}
use Rattle.px_meaning.specs.Fuller.{Rest, FullerCalls, BoundedFullerCalls, Passes}
use Rattle.px_coverage.specs.Covered.{Begins, Covers}

-- Let a table cover the executions of a procedure by its typed trees, within a bound. Then it covers those of a meaning in which
-- what isn't understood has executions too, in callees as well: each is of an entry, or begins with the trace of a drop. One that passes
-- what isn't understood begins with the trace of a drop. And a manifest bug is manifest in that meaning.
pub record CutsAreHonest (rest : Rest Mark) : Type 0 where
  pub covered : (P : TypedProgram) (f bound : ℕ) (parameters : List ValueType) (table : Table) → Covers P.types parameters (BoundedTreeCalls bound P f) table →
      Covers P.types parameters (BoundedFullerCalls bound rest P f) table
  pub dropped : (P : TypedProgram) (f bound : ℕ) (parameters : List ValueType) (table : Table) → Covers P.types parameters (BoundedTreeCalls bound P f) table →
      (arguments : List Value) (before : HeapMap) → IsCallingState P.types parameters arguments before →
      (trace : List Mark) → Passes (BoundedTreeCalls bound P f) arguments before trace → Any (λ (gap : Gap). Begins gap.trace trace) table.drops
  pub manifest : (P : TypedProgram) (f : ℕ) (parameters : List ValueType) (bug : Bug) → IsManifest (TreeCalls P f) P.types parameters bug →
      IsManifest (FullerCalls rest P f) P.types parameters bug
