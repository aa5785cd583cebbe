-- Calls of procedures, and the states that they are called from.
use Rattle.std.specs.Prelude.{ℕ, List}
use Rattle.px_base.specs.declared.trace.Site.{Site}
use Rattle.px_base.specs.declared.trace.Mark.{Mark}
use Rattle.px_base.specs.declared.trace.Kind.{Kind}
use Rattle.px_meaning.specs.Values.{ValueType, BlockType, Value}
use Rattle.px_meaning.specs.Heaps.{HeapMap, IsWellTyped, AreWritten}

-- what ends a call before it returns: a memory error, or what isn't understood, by the number of its word
pub data Halt : Type 0 where
  error : Kind → Halt
  outside : ℕ → Halt

-- how a call ends: with a value, which is unwritten where there is none, or before it returns, at a place
pub data Ending : Type 0 where
  Returned : Value → Ending
  Failed : Halt → Site → Ending

-- the calls of a procedure: arguments, the heap before, the trace, the ending, the heap after
abbrev pub Calls : Type 1
Calls = List Value → HeapMap → List Mark → Ending → HeapMap → Type 0

-- the states from which a procedure with these parameters is called: written arguments of their
-- types, and a well-typed heap
pub record IsCallingState (types : List BlockType) (parameters : List ValueType) (arguments : List Value) (heap : HeapMap) : Type 0 where
  pub well_typed : IsWellTyped types heap
  pub written : AreWritten heap parameters arguments
