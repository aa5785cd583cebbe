-- Jobs for the worked tables, lowered by hand.
use Rattle.std.specs.Prelude.{ℕ, pos, List, [], ◌∷◌, None}
use Rattle.px_base.specs.declared.trace.Site.{Site}
use Rattle.px_base.specs.declared.trace.Mark.{Mark}
use Rattle.px_base.specs.declared.trace.MarkKind.{MarkKind}
use Rattle.px_terms.specs.declared.types.ValueType.TheVariants.{Int, Pointer}
use Rattle.px_terms.specs.declared.types.BlockType.TheVariants.{One}
use Rattle.px_terms.specs.declared.variables.VarInfo.{VarInfo}
use Rattle.px_terms.specs.declared.variables.Sort.TheVariants as sort
use Rattle.px_core.specs.declared.command.Operand.TheVariants.{Slot, Word, Null}
use Rattle.px_core.specs.declared.command.Operator.TheVariants.{Copy, Add}
use Rattle.px_core.specs.declared.command.Comparison.TheVariants.{Less, SamePlace}
use Rattle.px_core.specs.CommandTree.{CommandTree, commands_of, assign, unset, read, test, choose, loop, leave, store, malloc, free, return}
use Rattle.px_callgraph.specs.JobTree.{JobTree}
use Rattle.px_callgraph.specs.WorkedStates.{int_block, field, proc, of_sort}

-- ---- places and marks

abbrev pub at : ℕ → ℕ → Site
at line column = record { file = 0; line = line; column = column }

abbrev pub marked_at : MarkKind → Site → Mark
marked_at kind site = record { kind = kind; site = site }

-- ---- jobs

-- of a procedure without parameters, result and callees, over blocks of an `int`, with these bounds on iterations,
-- paths and nodes
abbrev pub job_within : ℕ → ℕ → ℕ → ℕ → List CommandTree → JobTree
job_within unroll paths nodes slots commands = record {
  proc = proc 0;
  body = record { slots = slots; parameters = []; result = None; commands = commands_of commands };
  types = One Int ∷ [];
  callees = [];
  limits = record { unroll = unroll; paths = paths; nodes = nodes };
  kinds = [];
  ticket = 0;
}

abbrev pub copies : ℕ → ℕ → CommandTree
copies to from = assign to Copy (Slot from) (Word (pos 0))

-- `int *p = malloc(sizeof(int)); if (p == NULL) return;`: the local in slot 0, and two slots from n on
abbrev pub allocates : ℕ → ℕ → Site → Site → Site → List CommandTree → List CommandTree
allocates n m got p test_site rest =
    unset 0 ∷ malloc n int_block got ∷ copies 0 n
    ∷ read 0 p ∷ test m SamePlace (Slot 0) Null test_site ∷ choose m (commands_of (return None ∷ [])) (commands_of []) ∷ rest

-- a block that `malloc` made is written, freed, and written again:
--     void f(void){
--       int *p=malloc(sizeof(int));
--       if(p==NULL) return;
--       *p=1;
--       free(p);
--       *p=2;
--     }
abbrev pub writes_freed : ℕ → ℕ → JobTree
writes_freed paths nodes = job_within 3 paths nodes 3 (allocates 1 2 (at 2 10) (at 3 6) (at 3 7) (
    read 0 (at 4 4) ∷ store (Slot 0) (field 0) int_block (Word (pos 1)) (at 4 3)
    ∷ read 0 (at 5 8) ∷ free (Slot 0) int_block (at 5 3)
    ∷ read 0 (at 6 4) ∷ store (Slot 0) (field 0) int_block (Word (pos 2)) (at 6 3) ∷ []))

-- a loop frees a block in each of its two turns:
--     void f(void){int *p=malloc(sizeof(int));if(p==NULL)return;int i=0;while(i<2){free(p);i++;}}
abbrev pub frees_in_turns : ℕ → JobTree
frees_in_turns unroll = job_within unroll 64 10000 6 (allocates 2 3 (at 1 21) (at 1 44) (at 1 45) (
    unset 1 ∷ assign 1 Copy (Word (pos 0)) (Word (pos 0))
    ∷ loop (at 1 67)
    (commands_of (read 1 (at 1 73) ∷ test 4 Less (Slot 1) (Word (pos 2)) (at 1 74) ∷ choose 4 (commands_of []) (commands_of (leave ∷ [])) ∷ []))
    (commands_of (read 0 (at 1 83) ∷ free (Slot 0) int_block (at 1 78) ∷ read 1 (at 1 86) ∷ assign 5 Add (Slot 1) (Word (pos 1)) ∷ copies 1 5 ∷ []))
    (commands_of []) ∷ []))

-- ---- what they make

abbrev pub a_pointer : VarInfo
a_pointer = of_sort sort.Given (Pointer int_block)

abbrev pub a_made : VarInfo
a_made = of_sort sort.Made (Pointer int_block)

abbrev pub an_int : VarInfo
an_int = of_sort sort.Cell Int
