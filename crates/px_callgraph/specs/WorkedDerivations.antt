-- Derivations of the entries of a small procedure, and where other steps fail first, worked by hand.
use Rattle.std.specs.Prelude.{ℕ, pos, List, [], ◌∷◌, None}
use Rattle.px_base.specs.declared.trace.Mark.{Mark}
use Rattle.px_base.specs.declared.trace.MarkKind.TheVariants as mark
use Rattle.px_base.specs.declared.trace.Kind.TheVariants.{UseAfterFree}
use Rattle.px_terms.specs.declared.types.Value.{Value}
use Rattle.px_terms.specs.declared.types.Value.TheVariants as value
use Rattle.px_terms.specs.declared.types.ValueType.TheVariants.{Pointer}
use Rattle.px_terms.specs.declared.variables.VarInfo.{VarInfo}
use Rattle.px_terms.specs.declared.variables.Sort.TheVariants as sort
use Rattle.px_core.specs.declared.command.Operand.TheVariants as operand
use Rattle.px_core.specs.declared.command.Operator.TheVariants.{Copy}
use Rattle.px_core.specs.declared.command.Comparison.TheVariants.{SamePlace}
use Rattle.px_core.specs.CommandTree.{commands_of, assign, unset, read, test, choose, store, malloc, free, return}
use Rattle.px_entry.specs.declared.atoms.Atom.{Atom}
use Rattle.px_entry.specs.declared.atoms.AtomState.TheVariants.{Freed}
use Rattle.px_entry.specs.declared.entries.Entry.{Entry}
use Rattle.px_entry.specs.declared.entries.Exit.{Exit}
use Rattle.px_entry.specs.declared.entries.Exit.TheVariants.{Ok, Error}
use Rattle.px_entry.specs.declared.derivations.Rule.{Rule}
use Rattle.px_entry.specs.declared.derivations.Rule.TheVariants as rule
use Rattle.px_entry.specs.declared.derivations.Step.{Step}
use Rattle.px_callgraph.specs.JobTree.{JobTree}
use Rattle.px_callgraph.specs.Derivations.{fails_at, RunsTo, Derives, FailsFirst}
use Rattle.px_callgraph.specs.WorkedStates.{int_block, field, proc, of_sort, a_block}
use Rattle.px_callgraph.specs.WorkedPaths.{site, mark_at, job_of, two_frees}

abbrev pub a_step : Rule → List ℕ → Step
a_step r cs = record { rule = r; choices = cs }

abbrev pub alone : Rule → Step
alone r = a_step r []

-- `void f(void){int *p=malloc(sizeof(int)); if(p==NULL) return; *p=1; free(p); *p=2;}`
abbrev pub uses_freed : JobTree
uses_freed = job_of 3 3 [] (
    unset 0 ∷ malloc 1 int_block (site 21) ∷ assign 0 Copy (operand.Slot 1) (operand.Word (pos 0))
    ∷ read 0 (site 45) ∷ test 2 SamePlace (operand.Slot 0) operand.Null (site 46) ∷ choose 2 (commands_of (return None ∷ [])) (commands_of [])
    ∷ read 0 (site 63) ∷ store (operand.Slot 0) (field 0) int_block (operand.Word (pos 1)) (site 62)
    ∷ read 0 (site 73) ∷ free (operand.Slot 0) int_block (site 68)
    ∷ read 0 (site 78) ∷ store (operand.Slot 0) (field 0) int_block (operand.Word (pos 2)) (site 77) ∷ [])

abbrev pub entry_with : Exit → List Mark → List VarInfo → List Atom → List Value → Entry
entry_with exit trace vars post model = record {
  proc = proc 0;
  trace = trace;
  exit = exit;
  result = None;
  vars = vars;
  pure = [];
  pre = [];
  post = post;
  model = model;
}

-- `malloc` gives null, and the procedure returns
abbrev pub no_block : Entry
no_block = entry_with Ok (mark_at mark.NoBlock 21 ∷ mark_at mark.Then 46 ∷ []) [] [] []

abbrev pub no_block_steps : List Step
no_block_steps = alone rule.Assign ∷ alone rule.AllocNull ∷ alone rule.Assign ∷ alone rule.ReadWritten ∷ alone rule.TestTrue ∷ alone rule.Assign ∷ alone rule.End ∷ []

-- it gives a block, which is written, freed and written
abbrev pub used_freed_with : List Value → Entry
used_freed_with model =
    entry_with (Error UseAfterFree (site 77)) (mark_at mark.Got 21 ∷ mark_at mark.Else 46 ∷ mark_at mark.Access 62 ∷ mark_at mark.Freed 68 ∷ mark_at mark.Access 77 ∷ [])
    (of_sort sort.Made (Pointer int_block) ∷ []) (a_block 0 int_block Freed ∷ []) model

abbrev pub used_freed : Entry
used_freed = used_freed_with (value.Block 1 ∷ [])

-- the ninth step and what follows it
abbrev pub used_freed_by : List Step → List Step
used_freed_by rest =
    alone rule.Assign ∷ alone rule.Alloc ∷ alone rule.Assign ∷ alone rule.ReadWritten ∷ alone rule.TestFalse ∷ alone rule.Assign ∷ alone rule.ReadWritten ∷ a_step rule.Store (0 ∷ []) ∷ rest

abbrev pub freed_access : List Step → List Step
freed_access rest = alone rule.ReadWritten ∷ a_step rule.Free (0 ∷ []) ∷ alone rule.ReadWritten ∷ a_step rule.FreedAccess (0 ∷ []) ∷ rest

abbrev pub used_freed_steps : List Step
used_freed_steps = used_freed_by (freed_access (alone rule.End ∷ []))

-- `free(p)` twice, by a live block that wasn't met, with these steps after that
abbrev pub met_by : List Step → List Step
met_by rest = alone rule.ReadWritten ∷ alone rule.MissingLive ∷ rest

pub record WorkedDerivations : Type 0 where
  pub null : Derives uses_freed no_block no_block_steps
  pub freed : Derives uses_freed used_freed used_freed_steps
  -- an `End` is missing; it stands too early; a step stands after it
  pub too_few : FailsFirst uses_freed used_freed (used_freed_by (freed_access [])) 12 rule.End
  pub early : FailsFirst uses_freed used_freed (used_freed_by (alone rule.End ∷ [])) 8 rule.End
  pub behind : FailsFirst uses_freed used_freed (used_freed_by (freed_access (alone rule.End ∷ alone rule.Assign ∷ []))) 13 rule.Assign
  -- steps of other rules: the block isn't null, the block was freed, there is no second block
  pub not_null : FailsFirst uses_freed used_freed (alone rule.Assign ∷ alone rule.Alloc ∷ alone rule.Assign ∷ alone rule.ReadWritten ∷ alone rule.TestTrue ∷ []) 4 rule.TestTrue
  pub not_live : FailsFirst uses_freed used_freed (used_freed_by (alone rule.ReadWritten ∷ a_step rule.Free (0 ∷ []) ∷ alone rule.ReadWritten ∷ a_step rule.Store (0 ∷ []) ∷ [])) 11 rule.Store
  pub no_second : FailsFirst uses_freed used_freed (used_freed_by (alone rule.ReadWritten ∷ a_step rule.Free (1 ∷ []) ∷ [])) 9 rule.Free
  -- null is no value of what `malloc` made, and this is another entry
  pub wrong_values : FailsFirst uses_freed (used_freed_with (value.Null ∷ [])) used_freed_steps 12 rule.End
  pub other_entry : FailsFirst uses_freed no_block used_freed_steps 12 rule.End
  -- the block that was met is used by the next step
  pub not_used : RunsTo two_frees (met_by (alone rule.ReadWritten ∷ a_step rule.FreeTwice (0 ∷ []) ∷ alone rule.End ∷ [])) (fails_at 2 rule.ReadWritten)
  pub wrong_use : RunsTo two_frees (met_by (a_step rule.Free (1 ∷ []) ∷ [])) (fails_at 2 rule.Free)
  pub used_by_none : RunsTo two_frees (met_by []) (fails_at 2 rule.End)
