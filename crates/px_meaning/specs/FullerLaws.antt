-- The law of a fuller meaning: it agrees with the meaning of a program up to what isn't understood.
use Rattle.std.specs.Prelude.{ℕ, ◌⊎◌, List}
use Rattle.px_base.specs.declared.trace.Mark.{Mark}
use Rattle.px_meaning.specs.Values.{ValueType, Value}
use Rattle.px_meaning.specs.Heaps.{HeapMap}
use Rattle.px_meaning.specs.Calls.{Ending}
use Rattle.px_meaning.specs.Manifest.{Bug, IsManifest}
use Rattle.px_meaning.specs.TypedProgram.{TypedProgram}
use Rattle.px_meaning.specs.TreeCalls.{TreeCalls, BoundedTreeCalls}
use Rattle.px_meaning.specs.Fuller.{Rest, FullerCalls, BoundedFullerCalls, IsUnderstood, Passes}

-- A call in the fuller meaning is a call as it is, or passes what isn't understood; and each call as it is that returns or ends in
-- a memory error is one in the fuller meaning. So each manifest bug is manifest there too.
pub record FullerMeanings (rest : Rest Mark) : Type 0 where
  pub same_or_passes : (P : TypedProgram) (f : ℕ) (arguments : List Value) (heap : HeapMap) (t : List Mark) (ending : Ending) (end : HeapMap) →
      FullerCalls rest P f arguments heap t ending end → TreeCalls P f arguments heap t ending end ⊎ Passes (TreeCalls P f) arguments heap t
  pub bounded : (bound : ℕ) (P : TypedProgram) (f : ℕ) (arguments : List Value) (heap : HeapMap) (t : List Mark) (ending : Ending) (end : HeapMap) →
      BoundedFullerCalls bound rest P f arguments heap t ending end → BoundedTreeCalls bound P f arguments heap t ending end ⊎ Passes (BoundedTreeCalls bound P f) arguments heap t
  pub keeps : (P : TypedProgram) (f : ℕ) (arguments : List Value) (heap : HeapMap) (t : List Mark) (ending : Ending) (end : HeapMap) →
      TreeCalls P f arguments heap t ending end → IsUnderstood ending → FullerCalls rest P f arguments heap t ending end
  pub manifest : (P : TypedProgram) (f : ℕ) (parameters : List ValueType) (bug : Bug) →
      IsManifest (TreeCalls P f) P.types parameters bug → IsManifest (FullerCalls rest P f) P.types parameters bug
