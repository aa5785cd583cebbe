-- The alternatives of commands on blocks, worked by hand.
use Rattle.std.specs.Prelude.{◌≡◌, ℕ, pos, List, [], ◌∷◌, ◌++◌, None, replicate}
use Rattle.px_base.specs.declared.trace.MarkKind.{MarkKind}
use Rattle.px_base.specs.declared.trace.MarkKind.TheVariants as mark
use Rattle.px_base.specs.declared.trace.Kind.{Kind}
use Rattle.px_base.specs.declared.trace.Kind.TheVariants.{NullDereference, UseAfterFree, DoubleFree}
use Rattle.px_terms.specs.declared.types.ValueType.TheVariants.{Int, Pointer}
use Rattle.px_terms.specs.declared.variables.VarInfo.{VarInfo}
use Rattle.px_terms.specs.declared.variables.Sort.TheVariants as sort
use Rattle.px_terms.specs.declared.conjuncts.Place.TheVariants as place
use Rattle.px_terms.specs.declared.conjuncts.Content.{Content}
use Rattle.px_terms.specs.declared.conjuncts.Content.TheVariants.{Unwritten, Word, Place, Cell}
use Rattle.px_terms.specs.declared.conjuncts.Conj.{Conj}
use Rattle.px_terms.specs.declared.conjuncts.Conj.TheVariants as conjunct
use Rattle.px_core.specs.declared.command.Operand.TheVariants as operand
use Rattle.px_core.specs.CommandTree.{load, store, malloc, free}
use Rattle.px_entry.specs.declared.atoms.Atom.{Atom}
use Rattle.px_entry.specs.declared.atoms.AtomState.TheVariants.{Live, Freed}
use Rattle.px_entry.specs.declared.entries.Exit.TheVariants.{Error}
use Rattle.px_entry.specs.declared.tables.Cause.TheVariants.{Long}
use Rattle.px_entry.specs.declared.tables.LongKind.TheVariants as long
use Rattle.px_callgraph.specs.declared.states.State.{State}
use Rattle.px_callgraph.specs.declared.states.Alternative.{Alternative}
use Rattle.px_callgraph.specs.declared.states.Alternative.TheVariants.{Next, Ends, Cut}
use Rattle.px_callgraph.specs.Alternatives.{alternatives}
use Rattle.px_callgraph.specs.WorkedStates.{here, int_block, node, hidden, field, var, of_sort, constant, word_of, place_of, is_at, a_block, a_mark, a_gap, plain, job}

abbrev pub pointer_to_int : VarInfo
pointer_to_int = of_sort sort.Given (Pointer int_block)

abbrev pub is_null : ℕ → Conj
is_null x = conjunct.SamePlace (is_at x) place.Null

abbrev pub are_same : ℕ → ℕ → Conj
are_same x y = conjunct.SamePlace (is_at x) (is_at y)

-- one command that marks and assumes this
abbrev pub after_one : MarkKind → List Conj → State → State
after_one kind pure s = record s { pure = s.pure ++ pure; trace = s.trace ++ a_mark kind ∷ []; steps = 1 }

abbrev pub in_error : MarkKind → List Conj → Kind → State → Alternative
in_error kind pure error s = Ends (after_one kind pure s) (Error error here) None

-- ---- through a parameter

-- the parameters x0, x1, x3 point to an `int`, x2 to a node; the blocks of x1, x2, x3 were met, that of x3 freed
abbrev pub three_blocks : List Atom
three_blocks = a_block 1 int_block (Live (word_of 4 ∷ [])) ∷ a_block 2 node (Live (Unwritten ∷ Place place.Null ∷ [])) ∷ a_block 3 int_block Freed ∷ []

abbrev pub through_parameter : State
through_parameter = record (plain (place_of 0 ∷ Unwritten ∷ []) (pointer_to_int ∷ pointer_to_int ∷ of_sort sort.Given (Pointer node) ∷ pointer_to_int ∷ of_sort sort.Given Int ∷ [])) {
  pre = three_blocks;
  atoms = three_blocks;
}

abbrev pub met_live : State
met_live = record through_parameter {
  vars = through_parameter.vars ++ of_sort sort.Cell Int ∷ [];
  pre = three_blocks ++ a_block 0 int_block (Live (Cell (var 5) ∷ [])) ∷ [];
  atoms = three_blocks ++ a_block 0 int_block (Live (Cell (var 5) ∷ [])) ∷ [];
}

abbrev pub met_freed : State
met_freed = record through_parameter {
  pre = three_blocks ++ a_block 0 int_block Freed ∷ [];
  atoms = three_blocks ++ a_block 0 int_block Freed ∷ [];
}

abbrev pub loaded : Content → State → State
loaded c s = record s { slots = place_of 0 ∷ c ∷ [] }

-- ---- through a made block

-- x0 is an `int` block that `malloc` gave, and x1 another
abbrev pub through_made : List Atom → State
through_made atoms = record (plain (place_of 0 ∷ Unwritten ∷ []) (of_sort sort.Made (Pointer int_block) ∷ of_sort sort.Made (Pointer int_block) ∷ [])) { atoms = atoms }

abbrev pub two_made : List Atom
two_made = a_block 0 int_block (Live (Unwritten ∷ [])) ∷ a_block 1 int_block (Live (Unwritten ∷ [])) ∷ []

-- 64 blocks, none of them of this type
abbrev pub full : State
full = record (plain (place_of 0 ∷ Unwritten ∷ []) (pointer_to_int ∷ of_sort sort.Given (Pointer node) ∷ [])) { atoms = replicate 64 (a_block 1 node Freed) }

-- an access through x0, an unread cell, or what points elsewhere
abbrev pub load_int : List Content → List VarInfo → List Alternative
load_int slots vars = alternatives job (plain slots vars) (load 1 (operand.Slot 0) (field 0) int_block here)

pub record WorkedBlocks : Type 0 where
  -- null; the block of x1; the freed one of x3; a live block that wasn't met; a freed one
  pub load_parameter : alternatives job through_parameter (load 1 (operand.Slot 0) (field 0) int_block here) ≡
      in_error mark.Access (is_null 0 ∷ []) NullDereference through_parameter
      ∷ Next (after_one mark.Access (are_same 0 1 ∷ []) (loaded (word_of 4) through_parameter))
      ∷ in_error mark.Access (are_same 0 3 ∷ []) UseAfterFree through_parameter
      ∷ Next (after_one mark.Access [] (loaded (Cell (var 5)) met_live))
      ∷ in_error mark.Access [] UseAfterFree met_freed ∷ []
  pub free_parameter : alternatives job through_parameter (free (operand.Slot 0) int_block here) ≡
      Next (after_one mark.FreeNull (is_null 0 ∷ []) through_parameter)
      ∷ Next (after_one mark.Freed (are_same 0 1 ∷ [])
      (record through_parameter { atoms = a_block 1 int_block Freed ∷ a_block 2 node (Live (Unwritten ∷ Place place.Null ∷ [])) ∷ a_block 3 int_block Freed ∷ [] }))
      ∷ in_error mark.Freed (are_same 0 3 ∷ []) DoubleFree through_parameter
      ∷ Next (after_one mark.Freed [] (record met_live { atoms = three_blocks ++ a_block 0 int_block Freed ∷ [] }))
      ∷ in_error mark.Freed [] DoubleFree met_freed ∷ []
  -- of two made blocks a pointer leads to its own, and no other conjunct is needed
  pub store_made : alternatives job (through_made two_made) (store (operand.Slot 0) (field 0) int_block (operand.Word (pos 7)) here) ≡
      Next (after_one mark.Access [] (through_made (a_block 0 int_block (Live (Word (constant 7) ∷ [])) ∷ a_block 1 int_block (Live (Unwritten ∷ [])) ∷ []))) ∷ []
  pub free_made : alternatives job (through_made two_made) (free (operand.Slot 0) int_block here) ≡
      Next (after_one mark.Freed [] (through_made (a_block 0 int_block Freed ∷ a_block 1 int_block (Live (Unwritten ∷ [])) ∷ []))) ∷ []
  pub through_null : load_int (Place place.Null ∷ Unwritten ∷ []) [] ≡ in_error mark.Access [] NullDereference (plain (Place place.Null ∷ Unwritten ∷ []) []) ∷ []
  -- what was never read, what is a word, and what points to another type doesn't fit
  pub unread : load_int (Cell (var 0) ∷ Unwritten ∷ []) (of_sort sort.Cell (Pointer int_block) ∷ []) ≡ []
  pub a_word : load_int (word_of 0 ∷ Unwritten ∷ []) (of_sort sort.Given Int ∷ []) ≡ []
  pub other_type : load_int (place_of 0 ∷ Unwritten ∷ []) (of_sort sort.Given (Pointer node) ∷ []) ≡ []
  -- a pointer isn't stored in an `int`, and an `int` has no second cell
  pub wrong_content : alternatives job (through_made two_made) (store (operand.Slot 0) (field 0) int_block (operand.Slot 0) here) ≡ []
  pub no_field : alternatives job (through_made two_made) (load 1 (operand.Slot 0) (field 1) int_block here) ≡ []
  pub malloc_node : alternatives job (plain (Unwritten ∷ []) []) (malloc 0 node here) ≡
      Next (after_one mark.NoBlock [] (plain (Place place.Null ∷ []) []))
      ∷ Next (after_one mark.Got [] (record (plain (place_of 0 ∷ []) (of_sort sort.Made (Pointer node) ∷ [])) { atoms = a_block 0 node (Live (Unwritten ∷ Unwritten ∷ [])) ∷ [] })) ∷ []
  pub malloc_hidden : alternatives job (plain (Unwritten ∷ []) []) (malloc 0 hidden here) ≡
      Next (after_one mark.NoBlock [] (plain (Place place.Null ∷ []) []))
      ∷ Next (after_one mark.Got [] (record (plain (place_of 0 ∷ []) (of_sort sort.Made (Pointer hidden) ∷ [])) { atoms = a_block 0 hidden (Live []) ∷ [] })) ∷ []
  -- with 64 blocks there is room for null alone
  pub no_room : alternatives job full (load 1 (operand.Slot 0) (field 0) int_block here) ≡
      in_error mark.Access (is_null 0 ∷ []) NullDereference full
      ∷ Cut (a_gap [] (Long long.Atoms)) ∷ Cut (a_gap [] (Long long.Atoms)) ∷ []
