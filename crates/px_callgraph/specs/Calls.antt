-- Calls: an entry of the callee is chosen, each block that it requires is met, and what it says is done.
use Rattle.std.specs.Prelude.{ℕ, suc, ◌&&◌, Bool, true, false, nat_eq, List, [], ◌∷◌, ◌++◌, length, map, flat_map, take, fold, Option, Some, None, slice_get}
use Rattle.std.specs.List.{list_all, list_any}
use Rattle.px_base.specs.declared.trace.Site.{Site}
use Rattle.px_base.specs.declared.trace.Mark.{Mark}
use Rattle.px_base.specs.declared.trace.ProcId.{ProcId}
use Rattle.px_base.specs.declared.trace.MarkKind.TheVariants as mark
use Rattle.px_terms.specs.Polynomials.{Polynomial}
use Rattle.px_terms.specs.declared.types.BlockType.{BlockType}
use Rattle.px_terms.specs.declared.variables.VarInfo.{VarInfo}
use Rattle.px_terms.specs.declared.conjuncts.Place.{Place as PlaceOf}
use Rattle.px_terms.specs.declared.conjuncts.Place.TheVariants as place
use Rattle.px_terms.specs.declared.conjuncts.Content.{Content}
use Rattle.px_terms.specs.declared.conjuncts.Content.TheVariants.{Unwritten}
use Rattle.px_terms.specs.declared.conjuncts.Conj.TheVariants.{SamePlace}
use Rattle.px_entry.specs.declared.atoms.Atom.{Atom}
use Rattle.px_entry.specs.declared.atoms.Case.{Case}
use Rattle.px_entry.specs.declared.atoms.Case.TheVariants as case
use Rattle.px_entry.specs.declared.entries.Entry.{Entry}
use Rattle.px_entry.specs.declared.entries.Exit.{Exit}
use Rattle.px_entry.specs.declared.entries.Exit.TheVariants as exit
use Rattle.px_entry.specs.declared.tables.Gap.{Gap}
use Rattle.px_entry.specs.declared.tables.Cause.{Cause}
use Rattle.px_entry.specs.declared.tables.Cause.TheVariants as cause
use Rattle.px_entry.specs.Cases.{cases_of, is_freed}
use Rattle.px_entry.specs.Constraint.{found_atoms, made_atoms}
use Rattle.px_entry.specs.Contents.{fit_each, is_written_of}
use Rattle.px_entry.specs.Regular.{is_regular, state_cells}
use Rattle.px_callgraph.specs.declared.jobs.Callee.{Callee}
use Rattle.px_callgraph.specs.declared.jobs.Callee.TheVariants as callee
use Rattle.px_callgraph.specs.declared.states.State.{State}
use Rattle.px_callgraph.specs.declared.states.Way.{Way}
use Rattle.px_callgraph.specs.declared.states.Way.TheVariants as way
use Rattle.px_callgraph.specs.States.{Done, goes, ends, set_slot, marked, assumed, with_variables}
use Rattle.px_callgraph.specs.Accesses.{set_atom, atom_of, meet_live, meet_freed}
use Rattle.px_callgraph.specs.Renaming.{Substitution, stand_from, stand_cells, place_through, content_through, content_terms, state_through, state_terms, claim_through, is_claim_open, assume_claim, claim_terms, new_variables, stand_new}

-- a call that is going on
pub record Calling : Type 0 where
  pub to : Option ℕ
  pub proc : ProcId
  pub arguments : List Content
  pub site : Site

-- how far it is: an entry is to be chosen; or one was chosen, and what some of its variables stand for, the
-- atoms that it still requires, and the numbers of the caller's atoms that were used, in order; or one that
-- isn't regular or doesn't fit the arguments was chosen
pub data Stage : Type 0 where
  choosing : Stage
  matching : Entry → Substitution → List Atom → List ℕ → Stage
  unfit : Stage

-- ---- choosing an entry

abbrev pub entry_ways : ℕ → List Entry → List Way
entry_ways n [] = []
entry_ways n (x ∷ xs) = way.Entry n ∷ entry_ways (suc n) xs

abbrev pub drop_way : List Gap → List Way
drop_way [] = []
drop_way (g ∷ gs) = way.Drop ∷ []

-- every entry of a table in order, and last a drop where the table has drops; of any other callee a drop
abbrev pub callee_ways : Callee → List Way
callee_ways (callee.Table t) = entry_ways 0 t.entries ++ drop_way t.drops
callee_ways callee.Cycle = way.Drop ∷ []
callee_ways callee.LeftOut = way.Drop ∷ []
callee_ways callee.Unknown = way.Drop ∷ []

abbrev pub drop_cause : ProcId → Callee → Cause
drop_cause f (callee.Table t) = cause.Dropped f
drop_cause f callee.Cycle = cause.Cycle f
drop_cause f callee.LeftOut = cause.LeftOut f
drop_cause f callee.Unknown = cause.Unknown f

abbrev pub entry_in : Callee → ℕ → Option Entry
entry_in (callee.Table t) n = slice_get t.entries n
entry_in callee.Cycle n = None
entry_in callee.LeftOut n = None
entry_in callee.Unknown n = None

-- the arguments are words and places of the types of the entry's first variables
abbrev pub fits_arguments : List VarInfo → List Content → Entry → Bool
fits_arguments vars arguments x = fit_each (is_written_of vars) (map (λ (i : VarInfo). i.value) (take (length arguments) x.vars)) arguments

-- the entry's parameters stand for the arguments
abbrev pub choose_entry : List BlockType → State → List Content → Option Entry → Stage
choose_entry types s arguments None = unfit
choose_entry types s arguments (Some x) = elim (is_regular types (length arguments) x && fits_arguments s.vars arguments x) [
  | true ↦ matching x (stand_from 0 arguments) x.pre []
  | false ↦ unfit
]

-- ---- meeting the blocks that it requires

abbrev pub case_way : Case → Way
case_way (case.Atom n) = way.Atom n
case_way case.Missing = way.Missing

abbrev pub cases_at : State → List ℕ → Atom → Option PlaceOf → List Case
cases_at s used p None = []
cases_at s used p (Some a) = cases_of s.vars s.atoms (λ n. list_any (nat_eq n) used) a p.block (is_freed p.state)

abbrev pub required_ways : State → Substitution → List ℕ → Atom → List Way
required_ways s σ used p = map case_way (cases_at s used p (place_through σ (place.Var p.place)))

-- what a call comes to by one act: the state, and how far the call is then
pub record Taken : Type 0 where
  pub state : State
  pub stage : Stage

-- the block is that of the caller's atom with a number; the entry's cell variables stand for its contents
abbrev pub take_atom : Entry → Substitution → List Atom → List ℕ → Atom → ℕ → PlaceOf → Option Atom → State → Taken
take_atom x σ rest used p n a None s = record { state = s; stage = unfit }
take_atom x σ rest used p n a (Some b) s = record {
  state = assumed (SamePlace a (place.Var b.place)) s;
  stage = matching x (σ ++ stand_cells (state_cells p.state) (state_cells b.state)) rest (used ++ n ∷ []);
}

abbrev pub meet_required : List BlockType → Atom → PlaceOf → State → State
meet_required types p place.Null s = s
meet_required types p (place.Var v) s = elim (is_freed p.state) [ true ↦ meet_freed p.block v s | false ↦ meet_live types p.block v s ]

-- the block wasn't met yet
abbrev pub take_missing : List BlockType → Entry → Substitution → List Atom → List ℕ → Atom → PlaceOf → State → Taken
take_missing types x σ rest used p a s =
    take_atom x σ rest used p (length s.atoms) a (slice_get (meet_required types p a s).atoms (length s.atoms)) (meet_required types p a s)

abbrev pub take_case : List BlockType → Entry → Substitution → List Atom → List ℕ → Atom → Way → Option PlaceOf → State → Taken
take_case types x σ rest used p (way.Atom n) (Some a) s = take_atom x σ rest used p n a (slice_get s.atoms n) s
take_case types x σ rest used p way.Missing (Some a) s = take_missing types x σ rest used p a s
take_case types x σ rest used p _ _ s = record { state = s; stage = unfit }

-- ---- what the entry says

-- the entry's inputs and made blocks get new numbers
abbrev pub stand_all : Entry → Substitution → State → Substitution
stand_all x σ s = σ ++ stand_new 0 (length s.vars) x.vars

-- no conjunct of the entry is decided false, and all are well sorted
abbrev pub is_possible : Entry → Substitution → State → Bool
is_possible x σ s = list_all (λ c. is_claim_open (s.vars ++ new_variables x.vars) (claim_through σ c)) x.pure

abbrev pub assume_entry : Entry → Substitution → State → State
assume_entry x σ s = record s { pure = fold (λ cs c. assume_claim s.vars cs (claim_through σ c)) s.pure x.pure }

-- each used atom takes the state that the entry leaves it in
abbrev pub update_atoms : Substitution → List ℕ → List Atom → List Atom → List Atom
update_atoms σ [] posts atoms = atoms
update_atoms σ (n ∷ used) [] atoms = atoms
update_atoms σ (n ∷ used) (b ∷ posts) atoms = update_atoms σ used posts (set_atom n (state_through σ b.state) atoms)

-- the blocks that the callee made
abbrev pub made_through : Substitution → Atom → List Atom
made_through σ a = elim (place_through σ (place.Var a.place)) [
  | None ↦ []
  | Some p ↦ elim p [ place.Null ↦ [] | place.Var v ↦ atom_of v a.block (state_through σ a.state) ∷ [] ]
]

abbrev pub leave_atoms : Entry → Substitution → List ℕ → State → State
leave_atoms x σ used s = record s {
  atoms = update_atoms σ used (found_atoms x.vars x.post) s.atoms ++ flat_map (made_through σ) (made_atoms x.vars x.post);
}

abbrev pub add_trace : List Mark → State → State
add_trace marks s = record s { trace = s.trace ++ marks }

-- the result that a call gives; nothing written where there is none
abbrev pub result_through : Substitution → Option Content → Content
result_through σ None = Unwritten
result_through σ (Some c) = content_through σ c

abbrev pub keep_result : Option ℕ → Content → State → State
keep_result None c s = s
keep_result (Some to) c s = set_slot to c s

abbrev pub result_terms : Substitution → Option ℕ → Option Content → List Polynomial
result_terms σ None result = []
result_terms σ (Some to) None = []
result_terms σ (Some to) (Some c) = content_terms σ c

-- an error ends the path; else the result is kept
abbrev pub end_call : Calling → Substitution → Option Content → Exit → List Polynomial → State → Done
end_call c σ result exit.Ok terms s = record {
  state = keep_result c.to (result_through σ result) (marked mark.Leave c.site s);
  terms = terms ++ result_terms σ c.to result;
  outcome = goes;
}
end_call c σ result (exit.Error kind site) terms s = record { state = s; terms = terms; outcome = ends (exit.Error kind site) None }

abbrev pub entry_terms : Entry → Substitution → List Polynomial
entry_terms x σ = flat_map (λ c. claim_terms (claim_through σ c)) x.pure ++ flat_map (λ (a : Atom). state_terms σ a.state) x.post

-- with σ for all variables: what follows the last case is one act
abbrev pub finish_with : Calling → Entry → Substitution → List ℕ → State → Done
finish_with c x σ used s =
    end_call c σ x.result x.exit (entry_terms x σ)
    (add_trace x.trace (leave_atoms x σ used (assume_entry x σ (with_variables (new_variables x.vars) s))))

abbrev pub finish_call : Calling → Entry → Substitution → List ℕ → State → Done
finish_call c x σ used s = finish_with c x (stand_all x σ s) used s
