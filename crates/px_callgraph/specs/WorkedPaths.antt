-- Whole paths through small bodies, worked by hand.
use Rattle.std.specs.Prelude.{◌≡◌, ℕ, zero, suc, pos, List, [], ◌∷◌, ◌++◌, flat_map, None}
use Rattle.px_base.specs.declared.trace.Site.{Site}
use Rattle.px_base.specs.declared.trace.Mark.{Mark}
use Rattle.px_base.specs.declared.trace.MarkKind.{MarkKind}
use Rattle.px_base.specs.declared.trace.MarkKind.TheVariants as mark
use Rattle.px_base.specs.declared.trace.Kind.TheVariants.{DoubleFree}
use Rattle.px_terms.specs.declared.types.ValueType.{ValueType}
use Rattle.px_terms.specs.declared.types.ValueType.TheVariants.{Int, Pointer}
use Rattle.px_terms.specs.declared.types.BlockType.TheVariants.{One}
use Rattle.px_terms.specs.declared.variables.VarInfo.{VarInfo}
use Rattle.px_terms.specs.declared.variables.Sort.TheVariants as sort
use Rattle.px_terms.specs.declared.conjuncts.Place.TheVariants as place
use Rattle.px_terms.specs.declared.conjuncts.Content.TheVariants.{Word, Cell}
use Rattle.px_terms.specs.declared.conjuncts.Conj.{Conj}
use Rattle.px_terms.specs.declared.conjuncts.Conj.TheVariants as conjunct
use Rattle.px_core.specs.declared.command.Operand.TheVariants as operand
use Rattle.px_core.specs.declared.command.Operator.TheVariants.{Copy, Add}
use Rattle.px_core.specs.declared.command.Comparison.TheVariants.{Less}
use Rattle.px_core.specs.CommandTree.{CommandTree, commands_of, assign, read, test, choose, loop, leave, free}
use Rattle.px_entry.specs.declared.atoms.Atom.{Atom}
use Rattle.px_entry.specs.declared.atoms.AtomState.TheVariants.{Live, Freed}
use Rattle.px_entry.specs.declared.entries.Exit.{Exit}
use Rattle.px_entry.specs.declared.entries.Exit.TheVariants.{Ok, Error}
use Rattle.px_callgraph.specs.declared.states.State.{State}
use Rattle.px_callgraph.specs.JobTree.{JobTree}
use Rattle.px_callgraph.specs.declared.outcomes.StepOutcome.TheVariants.{Next, Ends, Cut, Past}
use Rattle.px_callgraph.specs.Alternatives.{Leads, ways, act, start}
use Rattle.px_callgraph.specs.WorkedStates.{int_block, proc, var, of_sort, constant, place_of, is_at, a_block}

-- the ends of all paths that need at most n acts, in order, refuted ones too
abbrev pub ends_within : ℕ → JobTree → Leads → List Leads
ends_within zero j a = []
ends_within (suc n) j (Next w) = flat_map (λ name. ends_within n j (act j w name)) (ways j w)
ends_within (suc n) j (Ends s exit result) = Ends s exit result ∷ []
ends_within (suc n) j (Cut s gap) = Cut s gap ∷ []
ends_within (suc n) j (Past s) = Past s ∷ []

abbrev pub site : ℕ → Site
site column = record { file = 0; line = 1; column = column }

abbrev pub mark_at : MarkKind → ℕ → Mark
mark_at kind column = record { kind = kind; site = site column }

abbrev pub job_of : ℕ → ℕ → List ValueType → List CommandTree → JobTree
job_of unroll slots parameters commands = record {
  proc = proc 0;
  body = record { slots = slots; parameters = parameters; result = None; commands = commands_of commands };
  types = One Int ∷ [];
  callees = [];
  limits = record { unroll = unroll; paths = 64; nodes = 10000 };
  kinds = [];
  ticket = 0;
}

-- `void h(int *p){free(p);free(p);}`
abbrev pub two_frees : JobTree
two_frees = job_of 3 1 (Pointer int_block ∷ []) (read 0 (site 21) ∷ free (operand.Slot 0) int_block (site 16) ∷ read 0 (site 29) ∷ free (operand.Slot 0) int_block (site 24) ∷ [])

abbrev pub p_is_null : Conj
p_is_null = conjunct.SamePlace (is_at 0) place.Null

abbrev pub unknown : ℕ → Atom
unknown cell = a_block 0 int_block (Live (Cell (var cell) ∷ []))

abbrev pub freed : Atom
freed = a_block 0 int_block Freed

-- with so many variables for cells
abbrev pub frees : List VarInfo → List Conj → List Atom → List Atom → List Mark → ℕ → State
frees cells pure pre atoms trace steps = record {
  slots = place_of 0 ∷ [];
  vars = of_sort sort.Given (Pointer int_block) ∷ cells;
  pure = pure;
  pre = pre;
  atoms = atoms;
  trace = trace;
  loops = [];
  steps = steps;
}

abbrev pub a_cell : VarInfo
a_cell = of_sort sort.Cell Int

abbrev pub nulls : List Mark
nulls = mark_at mark.FreeNull 16 ∷ mark_at mark.FreeNull 24 ∷ []

abbrev pub twice : List Mark
twice = mark_at mark.Freed 16 ∷ mark_at mark.Freed 24 ∷ []

abbrev pub null_first : List Mark
null_first = mark_at mark.FreeNull 16 ∷ mark_at mark.Freed 24 ∷ []

abbrev pub null_second : List Mark
null_second = mark_at mark.Freed 16 ∷ mark_at mark.FreeNull 24 ∷ []

abbrev pub twice_freed : Exit
twice_freed = Error DoubleFree (site 24)

-- `int n = 0; while (n < 2) n = n + 1;`
abbrev pub counts_to_two : ℕ → JobTree
counts_to_two unroll = job_of unroll 2 [] (
    assign 0 Copy (operand.Word (pos 0)) (operand.Word (pos 0))
    ∷ loop (site 1) (commands_of (test 1 Less (operand.Slot 0) (operand.Word (pos 2)) (site 2) ∷ choose 1 (commands_of []) (commands_of (leave ∷ [])) ∷ []))
    (commands_of (assign 0 Add (operand.Slot 0) (operand.Word (pos 1)) ∷ [])) (commands_of []) ∷ [])

abbrev pub counted : ℕ → ℕ → List (Site × ℕ) → List Mark → ℕ → State
counted n outcome loops trace steps =
    record { slots = Word (constant n) ∷ Word (constant outcome) ∷ []; vars = []; pure = []; pre = []; atoms = []; trace = trace; loops = loops; steps = steps }

abbrev pub a_turn : List Mark
a_turn = mark_at mark.Then 2 ∷ mark_at mark.Iter 1 ∷ []

pub record WorkedPaths : Type 0 where
  -- the first `free` meets null, a live block or a freed one, and so does the second; the solver refutes all but
  -- the first, the fifth and the last
  pub both_frees : ends_within 12 two_frees (Next (start two_frees)) ≡
      Ends (frees [] (p_is_null ∷ []) [] [] nulls 4) Ok None
      ∷ Ends (frees (a_cell ∷ []) (p_is_null ∷ []) (unknown 1 ∷ []) (freed ∷ []) null_first 4) Ok None
      ∷ Ends (frees [] (p_is_null ∷ []) (freed ∷ []) (freed ∷ []) null_first 4) twice_freed None
      ∷ Ends (frees (a_cell ∷ []) (p_is_null ∷ []) (unknown 1 ∷ []) (freed ∷ []) null_second 4) Ok None
      ∷ Ends (frees (a_cell ∷ []) [] (unknown 1 ∷ []) (freed ∷ []) twice 4) twice_freed None
      ∷ Ends (frees (a_cell ∷ a_cell ∷ []) [] (unknown 1 ∷ unknown 2 ∷ []) (freed ∷ freed ∷ []) twice 4) Ok None
      ∷ Ends (frees (a_cell ∷ []) [] (unknown 1 ∷ freed ∷ []) (freed ∷ freed ∷ []) twice 4) twice_freed None
      ∷ Ends (frees [] [] (freed ∷ []) (freed ∷ []) (mark_at mark.Freed 16 ∷ []) 2) (Error DoubleFree (site 16)) None ∷ []
  -- two turns, and the loop is left: an assignment, the loop, then three times a test and an If, two sums, and Leave
  pub turns : ends_within 30 (counts_to_two 3) (Next (start (counts_to_two 3))) ≡
      Ends (counted 2 0 [] (a_turn ++ a_turn ++ (mark_at mark.Else 2 ∷ mark_at mark.Done 1 ∷ [])) 11) Ok None ∷ []
  -- with a bound of one turn the second is past it
  pub past_bound : ends_within 30 (counts_to_two 1) (Next (start (counts_to_two 1))) ≡
      Past (counted 1 1 ((site 1, 1) ∷ []) (a_turn ++ mark_at mark.Then 2 ∷ []) 7) ∷ []
