-- Small programs of C and their bodies, each lowered by hand.
use Rattle.std.specs.Prelude.{ℕ, zero, suc, pos, List, [], ◌∷◌, ◌++◌, Option, Some, None}
use Rattle.px_base.specs.declared.trace.Site.{Site}
use Rattle.px_base.specs.declared.trace.Mark.{Mark}
use Rattle.px_base.specs.declared.trace.MarkKind.TheVariants.{Then, Else, Iter, Got, NoBlock, Input, Access, Freed, Enter}
use Rattle.px_base.specs.declared.trace.Kind.TheVariants.{NullDereference, UseAfterFree, DoubleFree, UninitialisedRead}
use Rattle.px_base.specs.declared.trace.FieldId.{FieldId}
use Rattle.px_core.specs.declared.command.Operand.TheVariants.{Slot, Word, Null}
use Rattle.px_core.specs.declared.command.Operator.TheVariants.{Copy, Add}
use Rattle.px_core.specs.declared.command.Comparison.TheVariants.{Equal, Less, SamePlace}
use Rattle.px_core.specs.CommandTree.{CommandTree, commands_of, assign, unset, read, test, choose, loop, leave, store, malloc, free, input, call, return}
use Rattle.px_core.specs.BodyTree.{BodyTree}
use Rattle.px_meaning.specs.Values.{TypeId, Int, Pointer, One}
use Rattle.px_meaning.specs.Heaps.{HeapMap}
use Rattle.px_meaning.specs.Calls.{error, Ending, Failed}
use Rattle.px_meaning.specs.Manifest.{Bug, IsManifest}
use Rattle.px_meaning.specs.Events.{mark}
use Rattle.px_meaning.specs.CoreCalls.{CoreProgram, CoreCalls, CoreCallsWithin}

abbrev pub at : ℕ → ℕ → Site
at line column = record { file = 0; line = line; column = column }

-- the type `int`, and the only cell of its blocks
abbrev pub int_block : TypeId
int_block = record { 0 = 0 }

abbrev pub only_field : FieldId
only_field = record { 0 = 0 }

abbrev pub empty_heap : HeapMap
empty_heap n = None

-- a body without parameters and result
abbrev pub body : ℕ → List CommandTree → BodyTree
body slots commands = record { slots = slots; parameters = []; result = None; commands = commands_of commands }

abbrev pub program : (ℕ → Option BodyTree) → CoreProgram
program bodies = record { types = One Int ∷ []; bodies = bodies }

-- a program with one procedure
abbrev pub the_only : BodyTree → CoreProgram
the_only b = program (λ f. Some b)

-- void f(void){int *p=malloc(sizeof(int)); *p=1; free(p);}
abbrev pub unchecked : BodyTree
unchecked = body 2 (unset 0 ∷ malloc 1 int_block (at 1 21) ∷ assign 0 Copy (Slot 1) (Word (pos 0))
    ∷ read 0 (at 1 43) ∷ store (Slot 0) only_field int_block (Word (pos 1)) (at 1 42)
    ∷ read 0 (at 1 53) ∷ free (Slot 0) int_block (at 1 48) ∷ [])

abbrev pub unchecked_bug : Bug
unchecked_bug = record { kind = NullDereference; site = at 1 42; trace = mark NoBlock (at 1 21) ∷ mark Access (at 1 42) ∷ [] }

-- void f(void){
--   int *p=malloc(sizeof(int));
--   if(p==NULL) return;
--   *p=1;
--   free(p);
--   *p=2;
-- }
abbrev pub freed_too_early : BodyTree
freed_too_early = body 3 (unset 0 ∷ malloc 1 int_block (at 2 10) ∷ assign 0 Copy (Slot 1) (Word (pos 0))
    ∷ read 0 (at 3 6) ∷ test 2 SamePlace (Slot 0) Null (at 3 7) ∷ choose 2 (commands_of (return None ∷ [])) (commands_of [])
    ∷ read 0 (at 4 4) ∷ store (Slot 0) only_field int_block (Word (pos 1)) (at 4 3)
    ∷ read 0 (at 5 8) ∷ free (Slot 0) int_block (at 5 3)
    ∷ read 0 (at 6 4) ∷ store (Slot 0) only_field int_block (Word (pos 2)) (at 6 3) ∷ [])

abbrev pub until_freed : List Mark
until_freed = mark Got (at 2 10) ∷ mark Else (at 3 7) ∷ mark Access (at 4 3) ∷ mark Freed (at 5 3) ∷ []

-- void h(int *p){free(p);free(p);}
-- void k(void){int *x=malloc(sizeof(int));if(x==NULL)return;h(x);}
abbrev pub freed_by_callee : ℕ → Option BodyTree
freed_by_callee zero = Some (record {
  slots = 1;
  parameters = Pointer int_block ∷ [];
  result = None;
  commands = commands_of
      (read 0 (at 1 21) ∷ free (Slot 0) int_block (at 1 16) ∷ read 0 (at 1 29) ∷ free (Slot 0) int_block (at 1 24) ∷ []);
})
freed_by_callee (suc f) = Some (body 3 (unset 0 ∷ malloc 1 int_block (at 2 21) ∷ assign 0 Copy (Slot 1) (Word (pos 0))
    ∷ read 0 (at 2 44) ∷ test 2 SamePlace (Slot 0) Null (at 2 45) ∷ choose 2 (commands_of (return None ∷ [])) (commands_of [])
    ∷ read 0 (at 2 61) ∷ call None (record { 0 = 0 }) (Slot 0 ∷ []) (at 2 59) ∷ []))

-- void f(void){int n=2147483647;int *z=NULL;n=n+1;if(n<0)*z=1;}
abbrev pub wraps : BodyTree
wraps = body 4 (unset 0 ∷ assign 0 Copy (Word (pos 2147483647)) (Word (pos 0)) ∷ unset 1 ∷ assign 1 Copy Null (Word (pos 0))
    ∷ read 0 (at 1 45) ∷ assign 2 Add (Slot 0) (Word (pos 1)) ∷ assign 0 Copy (Slot 2) (Word (pos 0))
    ∷ read 0 (at 1 52) ∷ test 3 Less (Slot 0) (Word (pos 0)) (at 1 53)
    ∷ choose 3 (commands_of (read 1 (at 1 57) ∷ store (Slot 1) only_field int_block (Word (pos 1)) (at 1 56) ∷ [])) (commands_of []) ∷ [])

abbrev pub wraps_bug : Bug
wraps_bug = record { kind = NullDereference; site = at 1 56; trace = mark Then (at 1 53) ∷ mark Access (at 1 56) ∷ [] }

-- (in line 2) void f(void){int *z=NULL;if(getchar()==10)*z=1;}
abbrev pub reads_input : BodyTree
reads_input = body 3 (unset 0 ∷ assign 0 Copy Null (Word (pos 0)) ∷ input 1 (at 2 29) ∷ test 2 Equal (Slot 1) (Word (pos 10)) (at 2 38)
    ∷ choose 2 (commands_of (read 0 (at 2 44) ∷ store (Slot 0) only_field int_block (Word (pos 1)) (at 2 43) ∷ [])) (commands_of []) ∷ [])

abbrev pub reads_input_bug : Bug
reads_input_bug = record { kind = NullDereference; site = at 2 43; trace = mark Input (at 2 29) ∷ mark Then (at 2 38) ∷ mark Access (at 2 43) ∷ [] }

-- void f(void){int *p=malloc(sizeof(int));if(p==NULL)return;int i=0;while(i<2){free(p);i++;}}
abbrev pub freed_in_loop : BodyTree
freed_in_loop = body 6 (unset 0 ∷ malloc 2 int_block (at 1 21) ∷ assign 0 Copy (Slot 2) (Word (pos 0))
    ∷ read 0 (at 1 44) ∷ test 3 SamePlace (Slot 0) Null (at 1 45) ∷ choose 3 (commands_of (return None ∷ [])) (commands_of [])
    ∷ unset 1 ∷ assign 1 Copy (Word (pos 0)) (Word (pos 0))
    ∷ loop (at 1 67)
    (commands_of (read 1 (at 1 73) ∷ test 4 Less (Slot 1) (Word (pos 2)) (at 1 74) ∷ choose 4 (commands_of []) (commands_of (leave ∷ [])) ∷ []))
    (commands_of (read 0 (at 1 83) ∷ free (Slot 0) int_block (at 1 78)
    ∷ read 1 (at 1 86) ∷ assign 5 Add (Slot 1) (Word (pos 1)) ∷ assign 1 Copy (Slot 5) (Word (pos 0)) ∷ []))
    (commands_of []) ∷ [])

abbrev pub two_turns : List Mark
two_turns = mark Got (at 1 21) ∷ mark Else (at 1 45)
    ∷ mark Then (at 1 74) ∷ mark Iter (at 1 67) ∷ mark Freed (at 1 78)
    ∷ mark Then (at 1 74) ∷ mark Iter (at 1 67) ∷ mark Freed (at 1 78) ∷ []

-- int f(void){int x;return x;}
abbrev pub unset_local : BodyTree
unset_local = record { slots = 1; parameters = []; result = Some Int; commands = commands_of (unset 0 ∷ read 0 (at 1 26) ∷ return (Some (Slot 0)) ∷ []) }

abbrev pub unset_local_bug : Bug
unset_local_bug = record { kind = UninitialisedRead; site = at 1 26; trace = [] }

-- a body that no procedure has: a local is passed that was never written, and isn't read before
abbrev pub passes_unset : BodyTree
passes_unset = body 1 (unset 0 ∷ call None (record { 0 = 0 }) (Slot 0 ∷ []) (at 1 1) ∷ [])

-- the call of a procedure without arguments from the empty heap has this trace, and fails so
abbrev pub FailsAlong : CoreProgram → ℕ → List Mark → Ending → Type 0
FailsAlong P f t ending = (end : HeapMap) × CoreCalls P f [] empty_heap t ending end

-- What these programs do.
pub record WorkedExecutions : Type 0 where
  pub unchecked_malloc : IsManifest (CoreCalls (the_only unchecked) 0) (One Int ∷ []) [] unchecked_bug
  pub wrapping : IsManifest (CoreCalls (the_only wraps) 0) (One Int ∷ []) [] wraps_bug
  pub reading_input : IsManifest (CoreCalls (the_only reads_input) 0) (One Int ∷ []) [] reads_input_bug
  pub never_written : IsManifest (CoreCalls (the_only unset_local) 0) (One Int ∷ []) [] unset_local_bug
  pub after_free : FailsAlong (the_only freed_too_early) 0 (until_freed ++ mark Access (at 6 3) ∷ []) (Failed (error UseAfterFree) (at 6 3))
  pub not_before : (ending : Ending) (end : HeapMap) → ¬ CoreCalls (the_only freed_too_early) 0 [] empty_heap until_freed ending end
  -- it has no execution at all
  pub not_passed : (t : List Mark) (ending : Ending) (end : HeapMap) → ¬ CoreCalls (the_only passes_unset) 0 [] empty_heap t ending end
  pub in_callee : FailsAlong (program freed_by_callee) 1
      (mark Got (at 2 21) ∷ mark Else (at 2 45) ∷ mark (Enter (record { 0 = 0 })) (at 2 59) ∷ mark Freed (at 1 16) ∷ mark Freed (at 1 24) ∷ [])
      (Failed (error DoubleFree) (at 1 24))
  pub in_loop : (end : HeapMap) × CoreCallsWithin 2 (the_only freed_in_loop) 0 [] empty_heap two_turns (Failed (error DoubleFree) (at 1 78)) end
