-- What an entry says is done.
use Rattle.std.specs.Prelude.{◌≡◌, ◌||◌, ℕ, Bool, false, List, ◌++◌, length, Option}
use Rattle.std.specs.List.{list_any}
use Rattle.px_base.specs.declared.trace.Mark.{Mark}
use Rattle.px_terms.specs.declared.conjuncts.Content.{Content}
use Rattle.px_terms.specs.declared.conjuncts.Content.TheVariants.{Unwritten}
use Rattle.px_entry.specs.declared.entries.Entry.{Entry}
use Rattle.px_entry.specs.declared.entries.Exit.{Exit}
use Rattle.px_entry.specs.Sorts.{is_long}
use Rattle.px_callgraph.specs.declared.states.State.{State}
use Rattle.px_callgraph.specs.States.{Done, with_variables}
use Rattle.px_callgraph.specs.Renaming.{Substitution, new_variables}
use Rattle.px_callgraph.specs.Calls.{Calling, end_call, entry_terms, add_trace, leave_atoms, assume_entry, keep_result, result_through, result_terms}
use Rattle.px_match.specs.declared.path_limits.Growth.{Growth}
use Rattle.px_calls.specs.declared.finishing.Said.{Said}
use Rattle.px_calls.specs.declared.finishing.Given.{Given}
use Rattle.px_calls.specs.Assuming.{AreAssumed}
use Rattle.px_calls.specs.Leaving.{IsLeft, update_states}

-- the state after all that an entry says, but for its end
abbrev pub done_by : Entry → Substitution → List ℕ → State → State
done_by x σ used s = add_trace x.trace (leave_atoms x σ used (assume_entry x σ (with_variables (new_variables x.vars) s)))

-- what follows the last case, where the entry ends so
abbrev pub finish_by : Calling → Entry → Substitution → List ℕ → State → Exit → Done
finish_by c x σ used s exit = end_call c σ x.result exit (entry_terms x σ) (done_by x σ used s)

-- what an entry says of a state
pub record IsSaid (s : State) (σ : Substitution) (x : Entry) (said : Said) : Type 0 where
  pub vars : said.vars ≡ s.vars ++ new_variables x.vars
  pub assumed : AreAssumed (s.vars ++ new_variables x.vars) s.pure σ x.pure said.assumed
  pub left : IsLeft x.vars σ x.post said.left

-- the result, unless a polynomial of it is too long
pub record IsGiven (σ : Substitution) (to : Option ℕ) (result : Option Content) (g : Given) : Type 0 where
  pub long_one : g.long ≡ list_any is_long (result_terms σ to result)
  pub kept : g.long ≡ false → (s : State) → keep_result to g.content s ≡ keep_result to (result_through σ result) s

-- nothing written, which isn't too long
abbrev pub nothing_given : Given
nothing_given = record { content = Unwritten; long = false }

-- how much it adds to a state
abbrev pub adding : Entry → Said → ℕ → Bool → Growth
adding x said marks long = record {
  marks = marks;
  commands = 0;
  conjuncts = said.assumed.count;
  atoms = length said.left.made;
  variables = length (new_variables x.vars);
  long_term = said.assumed.long || said.left.long || long;
}

-- a state with all this
abbrev pub applied : State → Said → List ℕ → List Mark → State
applied s said used marks = record s {
  vars = said.vars;
  pure = s.pure ++ said.assumed.added;
  atoms = update_states used said.left.found.items s.atoms ++ said.left.made;
  trace = s.trace ++ marks;
}
