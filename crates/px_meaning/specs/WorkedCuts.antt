-- What the small programs don't do: no execution has the trace of a worked one without its last mark.
use Rattle.std.specs.Prelude.{◌≡◌, ℕ, pos, List, [], ◌∷◌, ◌++◌}
use Rattle.px_base.specs.declared.trace.Mark.{Mark}
use Rattle.px_base.specs.declared.trace.MarkKind.TheVariants.{Then, Else, Iter, Done, NoBlock, Got, Input, Access, Freed, Enter, Leave}
use Rattle.px_base.specs.declared.trace.Kind.TheVariants.{NullDereference, DoubleFree, UninitialisedRead}
use Rattle.px_meaning.specs.Values.{Value, Int, Pointer}
use Rattle.px_meaning.specs.Heaps.{HeapMap}
use Rattle.px_meaning.specs.Calls.{error, Ending, Failed, IsCallingState}
use Rattle.px_meaning.specs.Manifest.{Bug, IsManifest}
use Rattle.px_meaning.specs.Events.{Event, marks, reads, makes, mark}
use Rattle.px_meaning.specs.TypedProgram.{TypedProgram}
use Rattle.px_meaning.specs.TreeCalls.{TreeCalls, TreeEvents}
use Rattle.px_meaning.specs.WorkedBodies.{at, empty_heap, until_freed}
use Rattle.px_meaning.specs.WorkedTrees.{freed_too_early_tree, freed_by_callee_program, wraps_tree, reads_input_tree, freed_in_loop_tree, unset_local_tree}
use Rattle.px_meaning.specs.WorkedList.{list_program, node, push, drop}

-- no call of this procedure without parameters, from the empty heap, has this trace
abbrev pub NoneAlong : TypedProgram → ℕ → List Mark → Type 0
NoneAlong P f t = (ending : Ending) (end : HeapMap) → ¬ TreeCalls P f [] empty_heap t ending end

-- `push` where `malloc` fails
abbrev pub push_bug : Bug
push_bug = record { kind = NullDereference; site = at 8 4; trace = mark NoBlock (at 7 35) ∷ mark Access (at 8 4) ∷ [] }

-- what is seen of the list program up to its second `free` of one block, where `getchar` gives a line feed
abbrev pub pushing_block : ℕ → List Event
pushing_block n = makes (at 7 35) n ∷ marks (mark Access (at 8 4)) ∷ marks (mark Access (at 9 4)) ∷ []

abbrev pub turn_with : ℕ → List Event
turn_with n = marks (mark Then (at 19 17)) ∷ marks (mark Iter (at 19 3)) ∷ marks (mark (Enter push) (at 20 12)) ∷ (pushing_block n ++ marks (mark Leave (at 20 12)) ∷ [])

abbrev pub dropped : List Event
dropped = marks (mark Else (at 13 9)) ∷ marks (mark Freed (at 14 3)) ∷ []

abbrev pub before_second_free : List Event
before_second_free = turn_with 0 ++ turn_with 1 ++ (marks (mark Else (at 19 17)) ∷ marks (mark Done (at 19 3)) ∷ [])
    ++ (marks (mark (Enter drop) (at 22 3)) ∷ (dropped ++ marks (mark Leave (at 22 3)) ∷ []))
    ++ (reads (at 23 7) (pos 10) ∷ marks (mark Then (at 23 17)) ∷ marks (mark (Enter drop) (at 23 24)) ∷ marks (mark Else (at 13 9)) ∷ [])

abbrev pub second_free : List Event
second_free = marks (mark Freed (at 14 3)) ∷ []

pub record WorkedCuts : Type 0 where
  pub after_free : NoneAlong freed_too_early_tree 0 until_freed
  pub in_callee : NoneAlong freed_by_callee_program 1
      (mark Got (at 2 21) ∷ mark Else (at 2 45) ∷ mark (Enter (record { 0 = 0 })) (at 2 59) ∷ mark Freed (at 1 16) ∷ [])
  pub wrapping : NoneAlong wraps_tree 0 (mark Then (at 1 53) ∷ [])
  pub reading_input : NoneAlong reads_input_tree 0 (mark Input (at 2 29) ∷ mark Then (at 2 38) ∷ [])
  pub in_loop : NoneAlong freed_in_loop_tree 0
      (mark Got (at 1 21) ∷ mark Else (at 1 45) ∷ mark Then (at 1 74) ∷ mark Iter (at 1 67) ∷ mark Freed (at 1 78) ∷ mark Then (at 1 74) ∷ mark Iter (at 1 67) ∷ [])
  -- the list program's `push` fails so from every calling state, and has no such trace without its access
  pub push : IsManifest (TreeCalls list_program 0) list_program.types (Pointer node ∷ Int ∷ []) push_bug
  pub push_cut : (arguments : List Value) (heap : HeapMap) → IsCallingState list_program.types (Pointer node ∷ Int ∷ []) arguments heap →
      (ending : Ending) (end : HeapMap) → ¬ TreeCalls list_program 0 arguments heap (mark NoBlock (at 7 35) ∷ []) ending end
  -- its `main` frees a block twice, and no execution has these events without the second `free`
  pub list : (end : HeapMap) × TreeEvents list_program 2 [] empty_heap (before_second_free ++ second_free) (Failed (error DoubleFree) (at 14 3)) end
  pub list_cut : (ending : Ending) (end : HeapMap) → ¬ TreeEvents list_program 2 [] empty_heap before_second_free ending end
  -- a read of what was never written has no mark, and is all that this program does
  pub never_written : (t : List Mark) (ending : Ending) (end : HeapMap) → TreeCalls unset_local_tree 0 [] empty_heap t ending end →
      (t ≡ []) × (ending ≡ Failed (error UninitialisedRead) (at 1 26))
