-- Each listed way of a call that is going on keeps the state well sorted, or makes a polynomial that is too long.
use Rattle.std.proofs.Common.{◌≡◌, ℕ, zero, suc, ◌+◌, ◌<◌, ◌≤◌, List, [], ◌∷◌, ◌++◌, map, length, Bool, true, false, not, cond, nat_eq, ◌&&◌, ◌||◌, ◌⊎◌, inl, inr, Option, Some, None, slice_get, refl, ap, sym, ◌∙◌, subst, arith}
use Rattle.std.specs.Prelude.{flat_map, fold}
use Rattle.std.specs.List.{list_all, list_any}
use Rattle.std.proofs.lemmas.Bool.{and_parts, and_from, eqb-true, ne_eqb, or_right}
use Rattle.std.proofs.lemmas.List.Folds.{list_any-append}
use Rattle.px_base.specs.declared.trace.MarkKind.TheVariants as mark
use Rattle.px_terms.specs.Polynomials.{Polynomial}
use Rattle.px_terms.specs.Substitutions.{content_for}
use Rattle.px_terms.specs.declared.types.TypeId.{TypeId}
use Rattle.px_terms.specs.declared.types.BlockType.{BlockType}
use Rattle.px_terms.specs.declared.types.ValueType.{ValueType}
use Rattle.px_terms.specs.declared.types.ValueType.TheVariants.{Int, Pointer}
use Rattle.px_terms.specs.declared.variables.Var.{Var}
use Rattle.px_terms.specs.declared.variables.VarInfo.{VarInfo}
use Rattle.px_terms.specs.declared.variables.Sort.{Sort}
use Rattle.px_terms.specs.declared.variables.Sort.TheVariants.{Given, Cell as CellSort, Input, Made}
use Rattle.px_terms.specs.declared.conjuncts.Place.{Place as PlaceOf}
use Rattle.px_terms.specs.declared.conjuncts.Place.TheVariants as place
use Rattle.px_terms.specs.declared.conjuncts.Content.{Content}
use Rattle.px_terms.specs.declared.conjuncts.Content.TheVariants.{Unwritten, Word, Place, Cell}
use Rattle.px_terms.specs.declared.conjuncts.Conj.{Conj}
use Rattle.px_terms.specs.declared.conjuncts.Conj.TheVariants as conjunct
use Rattle.px_core.specs.Control.{Item}
use Rattle.px_entry.specs.declared.atoms.Atom.{Atom}
use Rattle.px_entry.specs.declared.atoms.AtomState.{AtomState}
use Rattle.px_entry.specs.declared.atoms.AtomState.TheVariants.{Live, Freed}
use Rattle.px_entry.specs.declared.atoms.Case.{Case}
use Rattle.px_entry.specs.declared.entries.Entry.{Entry}
use Rattle.px_entry.specs.declared.entries.Exit.{Exit}
use Rattle.px_entry.specs.declared.entries.Exit.TheVariants as exit
use Rattle.px_entry.specs.declared.tables.Cause.TheVariants.{Outside}
use Rattle.px_entry.specs.declared.tables.Gap.{Gap}
use Rattle.px_entry.specs.declared.tables.LongKind.{LongKind}
use Rattle.px_entry.specs.Sorts.{is_pointer_type, is_given_sort, is_input_sort, is_cell_sort, is_made_sort, is_some_and, is_made, is_cell, is_pointer, is_well_sorted, is_long, same_type}
use Rattle.px_entry.specs.Decided.{assume, is_true, decided, stands_in}
use Rattle.px_entry.specs.Cases.{is_freed, is_match, same_state, may_be_at, may_be_missing, numbers_of, atom_cases, missing_case}
use Rattle.px_entry.specs.Contents.{fit_each, variable_content}
use Rattle.px_entry.specs.Constraint.{found_atoms, made_atoms}
use Rattle.px_entry.specs.Regular.{is_regular, are_given, are_inputs_words, are_variables_regular, is_pre_regular, is_post_regular, are_terms_regular, is_own_cell, fits_state, fits_block, points_to_block, state_cells}
use Rattle.px_entry.proofs.Lists.{Each, each_append, each_from}
use Rattle.px_entry.proofs.TestLemmas.{number_itself}
use Rattle.px_callgraph.specs.declared.jobs.Callee.{Callee}
use Rattle.px_callgraph.specs.declared.jobs.Callee.TheVariants as callee
use Rattle.px_callgraph.specs.declared.states.State.{State}
use Rattle.px_callgraph.specs.declared.states.Way.{Way}
use Rattle.px_callgraph.specs.declared.states.Way.TheVariants as way
use Rattle.px_callgraph.specs.JobTree.{JobTree, callee_in}
use Rattle.px_callgraph.specs.States.{Outcome, goes, ends, past, drops, Done, on, marked, with_variables, met}
use Rattle.px_callgraph.specs.Accesses.{listed_if, atom_of, meet_live, meet_freed, block_cells, cell_infos, cell_contents}
use Rattle.px_callgraph.specs.Renaming.{Substitution, stand_from, stand_cells, stand_new, place_through, place_in, state_through, Claim, surely, never, claims, claim_through, is_claim_open, assume_claim, claim_terms, is_new, new_variables}
use Rattle.px_callgraph.specs.Calls.{Calling, Stage, choosing, matching, unfit, entry_ways, drop_way, callee_ways, entry_in, fits_arguments, choose_entry, case_way, cases_at, required_ways, Taken, take_atom, take_missing, take_case, stand_all, is_possible, update_atoms, made_through, leave_atoms, assume_entry, add_trace, result_through, keep_result, result_terms, end_call, entry_terms, finish_call}
use Rattle.px_callgraph.specs.declared.outcomes.StepOutcome.TheVariants.{Next, Ends, Cut, Past}
use Rattle.px_callgraph.specs.Alternatives.{Leads, passes, dropped, limited, within_limits, leads, at, going_on, stage_ways, choosing_act, taking, stage_act}
use Rattle.px_callgraph.specs.Laws.{IsSorted, IsKept, KeepsState}
use Rattle.px_callgraph.proofs.SortLemmas.{all_push, variable_more, sorted_variables, sorted_met, kept_slot, open_cases, long_terms}
use Rattle.px_callgraph.proofs.KeepLemmas.{IsGood, leads_kept, each_weaker}
use Rattle.px_callgraph.proofs.ConstraintLemmas.{all_append}
use Rattle.px_callgraph.proofs.GrowLemmas.{base, update_bases}

-- ---- what is known of an entry that was chosen

abbrev pub IsUnmade : Entry → ℕ → Type 0
IsUnmade x v = is_made x.vars v ≡ false

-- if it is a cell variable, it is that of no block that the callee made
abbrev pub IsUnmadeCell : Entry → Content → Type 0
IsUnmadeCell x Unwritten = Unit {0}
IsUnmadeCell x (Word p) = Unit {0}
IsUnmadeCell x (Place a) = Unit {0}
IsUnmadeCell x (Cell y) = IsUnmade x y.0

-- the blocks that it leaves stand at pointers, and nothing stands for those that it made yet
pub record IsChosen (x : Entry) (σ : Substitution) (required : List Atom) : Type 0 where
  pub pointers : list_all (points_to_block x.vars) x.post ≡ true
  pub substitution : Each (λ (b : Var × Content). IsUnmade x b.0.0) σ
  pub cells : Each (λ (p : Atom). Each (IsUnmadeCell x) (state_cells p.state)) required

abbrev pub IsFitStage : Stage → Type 0
IsFitStage choosing = Unit {0}
IsFitStage (matching x σ required used) = IsChosen x σ required
IsFitStage unfit = Unit {0}

abbrev pub IsFitCall : Option (Calling × Stage) → Type 0
IsFitCall None = Unit {0}
IsFitCall (Some c) = IsFitStage c.1

-- where a path goes on
abbrev pub GoesFit : Leads → Type 0
GoesFit (Next w) = IsFitCall w.call
GoesFit (Ends s exit result) = Unit {0}
GoesFit (Cut s gap) = Unit {0}
GoesFit (Past s) = Unit {0}

-- ---- choosing an entry

given_apart : (s : Sort) → is_given_sort s ≡ true → is_made_sort s ≡ false
given_apart Given e = refl
given_apart CellSort e = refl
given_apart Input e = refl
given_apart Made e = sym e

cell_apart : (s : Sort) → is_cell_sort s ≡ true → is_made_sort s ≡ false
cell_apart Given e = refl
cell_apart CellSort e = refl
cell_apart Input e = refl
cell_apart Made e = sym e

cell_unmade : (o : Option VarInfo) → is_some_and o (λ i. is_cell_sort i.sort) ≡ true → is_some_and o (λ i. is_made_sort i.sort) ≡ false
cell_unmade None e = refl
cell_unmade (Some i) e = cell_apart i.sort e

given_unmade : (n : ℕ) (vars : List VarInfo) (k : ℕ) → are_given n vars ≡ true → k < n → is_made vars k ≡ false
given_unmade zero vars k e l = let m : ⊥ = omega arith in absurd m
given_unmade (suc n) [] k e l = refl
given_unmade (suc n) (i ∷ vars) zero e l = given_apart i.sort (and_parts (is_given_sort i.sort) (are_given n vars) e).0
given_unmade (suc n) (i ∷ vars) (suc k) e l = given_unmade n vars k (and_parts (is_given_sort i.sort) (are_given n vars) e).1 (omega arith)

stand_unmade : (x : Entry) (n k : ℕ) (cs : List Content) → are_given n x.vars ≡ true → k + length cs ≤ n → Each (λ (b : Var × Content). IsUnmade x b.0.0) (stand_from k cs)
stand_unmade x n k [] e l = tt
stand_unmade x n k (c ∷ cs) e l = (given_unmade n x.vars k e (omega arith), stand_unmade x n (suc k) cs e (omega arith))

own_unmade : (x : Entry) (t : ValueType) (c : Content) → is_own_cell x.vars t c ≡ true → IsUnmadeCell x c
own_unmade x t Unwritten e = tt
own_unmade x t (Word p) e = tt
own_unmade x t (Place a) e = tt
own_unmade x t (Cell y) e = cell_unmade (slice_get x.vars y.0) (and_parts (is_cell x.vars y.0) _ e).0

own_each : (x : Entry) (ts : List ValueType) (cs : List Content) → fit_each (is_own_cell x.vars) ts cs ≡ true → Each (IsUnmadeCell x) cs
own_each x ts [] e = tt
own_each x [] (c ∷ cs) e = absurd (never_true e)
  where
    never_true : false ≡ true → ⊥
    never_true e = cc
own_each x (t ∷ ts) (c ∷ cs) e = let b = and_parts (is_own_cell x.vars t c) (fit_each (is_own_cell x.vars) ts cs) e in (own_unmade x t c b.0, own_each x ts cs b.1)

own_state : (x : Entry) (ts : List ValueType) (state : AtomState) → fits_state (is_own_cell x.vars) ts state ≡ true → Each (IsUnmadeCell x) (state_cells state)
own_state x ts (Live cells) e = own_each x ts cells e
own_state x ts Freed e = tt

regular_chosen : (types : List BlockType) (x : Entry) (cs : List Content) → is_regular types (length cs) x ≡ true → IsChosen x (stand_from 0 cs) x.pre
regular_chosen types x cs e =
    let n = length cs in
    let all : 0 + length cs ≤ length cs = omega arith in
    let r = and_parts (are_variables_regular n x && is_pre_regular types x && is_post_regular types x) (are_terms_regular x) e in
    let s = and_parts (are_variables_regular n x && is_pre_regular types x) (is_post_regular types x) r.0 in
    let v = and_parts (are_variables_regular n x) (is_pre_regular types x) s.0 in
    let given = (and_parts (are_given n x.vars) (are_inputs_words x.vars) v.0).0 in
    let pre = (and_parts _ _ (and_parts _ _ (and_parts _ _ v.1).0).0).1 in
    let post = (and_parts _ _ (and_parts _ _ (and_parts _ _ s.1).0).0).0 in
    record {
      pointers = post;
      substitution = stand_unmade x n 0 cs given all;
      cells = each_from (fits_block types (is_own_cell x.vars)) (λ (p : Atom). Each (IsUnmadeCell x) (state_cells p.state)) (λ p h. own_state x _ p.state h) x.pre pre;
    }

choose_fit : (types : List BlockType) (s : State) (cs : List Content) (o : Option Entry) → IsFitStage (choose_entry types s cs o)
choose_fit types s cs None = tt
choose_fit types s cs (Some x) = by (is_regular types (length cs) x && fits_arguments s.vars cs x) refl
  where
    by : (b : Bool) → (is_regular types (length cs) x && fits_arguments s.vars cs x) ≡ b →
        IsFitStage (elim b as (λ _. Stage) [ true ↦ matching x (stand_from 0 cs) x.pre [] | false ↦ unfit ])
    by true e = regular_chosen types x cs (and_parts (is_regular types (length cs) x) (fits_arguments s.vars cs x) e).0
    by false e = tt

-- ---- meeting a block that it requires

kept_self : (s : State) → IsSorted s → IsKept s s
kept_self s h = record { sorted = h; slots = refl }

assume_sorted : (vars : List VarInfo) (pure : List Conj) (c : Conj) → list_all (is_well_sorted vars) pure ≡ true → is_well_sorted vars c ≡ true → list_all (is_well_sorted vars) (assume vars pure c) ≡ true
assume_sorted vars pure c e h = by (is_true (decided vars c) || stands_in pure c)
  where
    by : (b : Bool) → list_all (is_well_sorted vars) (elim b as (λ _. List Conj) [ true ↦ pure | false ↦ pure ++ c ∷ [] ]) ≡ true
    by true = e
    by false = all_push (is_well_sorted vars) pure c e h

stand_cells_unmade : (x : Entry) (ps cs : List Content) → Each (IsUnmadeCell x) ps → Each (λ (b : Var × Content). IsUnmade x b.0.0) (stand_cells ps cs)
stand_cells_unmade x [] cs h = tt
stand_cells_unmade x (Unwritten ∷ ps) cs h = tt
stand_cells_unmade x (Word p ∷ ps) cs h = tt
stand_cells_unmade x (Place a ∷ ps) cs h = tt
stand_cells_unmade x (Cell y ∷ ps) [] h = tt
stand_cells_unmade x (Cell y ∷ ps) (c ∷ cs) h = (h.0, stand_cells_unmade x ps cs h.1)

pub record KeepsTaken (s : State) (t : Taken) : Type 0 where
  pub kept : IsKept s t.state
  pub fit : IsFitStage t.stage

module _ (s : State) (x : Entry) (σ : Substitution) (rest : List Atom) (used : List ℕ) (p : Atom) (f : IsChosen x σ (p ∷ rest)) where
  atom_taken : (n : ℕ) (a : PlaceOf) (o : Option Atom) (t : State) → IsKept s t → ((b : Atom) → o ≡ Some b → is_well_sorted t.vars (conjunct.SamePlace a (place.Var b.place)) ≡ true) →
      KeepsTaken s (take_atom x σ rest used p n a o t)
  atom_taken n a None t h e = record { kept = h; fit = tt }
  atom_taken n a (Some b) t h e = record {
    kept = record { sorted = record { pure = assume_sorted t.vars t.pure (conjunct.SamePlace a (place.Var b.place)) h.sorted.pure (e b refl); atoms = h.sorted.atoms }; slots = h.slots };
    fit = record {
      pointers = f.pointers;
      substitution = each_append _ σ _ f.substitution (stand_cells_unmade x (state_cells p.state) (state_cells b.state) f.cells.0);
      cells = f.cells.1;
    };
  }

pub last_atom : (xs : List Atom) (y : Atom) → slice_get (xs ++ y ∷ []) (length xs) ≡ Some y
last_atom [] y = refl
last_atom (x ∷ xs) y = last_atom xs y

some_place : (y b : Atom) (o : Option Atom) → o ≡ Some y → o ≡ Some b → y.place ≡ b.place
some_place y b o e f = by (sym e ∙ f)
  where
    by : Some y ≡ Some b → y.place ≡ b.place
    by e = ap (λ o. place_or y.place o) e
      where
        place_or : Var → Option Atom → Var
        place_or v None = v
        place_or v (Some c) = c.place

-- a block that was met at a pointer is the last
missing_taken : (types : List BlockType) (s : State) → IsSorted s → (x : Entry) (σ : Substitution) (rest : List Atom) (used : List ℕ) (p : Atom) → IsChosen x σ (p ∷ rest) →
    (a : PlaceOf) → may_be_missing s.vars a ≡ true → KeepsTaken s (take_missing types x σ rest used p a s)
missing_taken types s h x σ rest used p f place.Null e = absurd (never_true e)
  where
    never_true : false ≡ true → ⊥
    never_true e = cc
missing_taken types s h x σ rest used p f (place.Var v) e = by (is_freed p.state)
  where
    q : is_pointer s.vars v.0 ≡ true
    q = (and_parts (is_pointer s.vars v.0) (not (is_made s.vars v.0)) e).0

    n : ℕ
    n = length s.atoms

    met_at : (m : State) (y : Atom) → IsKept s m → m.atoms ≡ s.atoms ++ y ∷ [] → y.place ≡ v → is_pointer m.vars v.0 ≡ true →
        KeepsTaken s (take_atom x σ rest used p n (place.Var v) (slice_get m.atoms n) m)
    met_at m y k is there r =
        atom_taken s x σ rest used p f n (place.Var v) (slice_get m.atoms n) m k
        (λ b g. let same : v ≡ b.place = sym there ∙ some_place y b (slice_get m.atoms n) (ap (λ z. slice_get z n) is ∙ last_atom s.atoms y) g in
        and_from (is_pointer m.vars v.0) (is_pointer m.vars b.place.0) r (ap (λ z. is_pointer m.vars z.0) (sym same) ∙ r))

    by : (b : Bool) → (let m : State = elim b as (λ _. State) [ true ↦ meet_freed p.block v s | false ↦ meet_live types p.block v s ] in
        KeepsTaken s (take_atom x σ rest used p n (place.Var v) (slice_get m.atoms n) m))
    by true = met_at (meet_freed p.block v s) (atom_of v p.block Freed) (record { sorted = sorted_met s (atom_of v p.block Freed) h q; slots = refl }) refl refl q
    by false =
        let ts = block_cells types p.block in
        let y = atom_of v p.block (Live (cell_contents (length s.vars) ts)) in
        met_at (meet_live types p.block v s) y (record { sorted = sorted_variables (met y s) (cell_infos ts) (sorted_met s y h q); slots = refl }) refl refl
        (variable_more s.vars (cell_infos ts) _ v.0 q)

-- a number of atoms that pass a test is that of one of them
abbrev Tested : (ℕ → Atom → Bool) → ℕ → List Atom → ℕ → Type 0
Tested such n atoms m = (i : ℕ) × (a : Atom) × (m ≡ n + i) × (slice_get atoms i ≡ Some a) × (such m a ≡ true)

later_tested : (such : ℕ → Atom → Bool) (n : ℕ) (a : Atom) (rest : List Atom) (m : ℕ) → Tested such (suc n) rest m → Tested such n (a ∷ rest) m
later_tested such n a rest m (i, b, e, g, t) = (suc i, b, omega arith, g, t)

tested_by : (such : ℕ → Atom → Bool) (n : ℕ) (a : Atom) (rest : List Atom) (b : Bool) → such n a ≡ b → Each (Tested such n (a ∷ rest)) (numbers_of such (suc n) rest) →
    Each (Tested such n (a ∷ rest)) (elim b as (λ _. List ℕ) [ true ↦ n ∷ numbers_of such (suc n) rest | false ↦ numbers_of such (suc n) rest ])
tested_by such n a rest true e t = ((0, a, omega arith, refl, e), t)
tested_by such n a rest false e t = t

tested : (such : ℕ → Atom → Bool) (n : ℕ) (atoms : List Atom) → Each (Tested such n atoms) (numbers_of such n atoms)
tested such n [] = tt
tested such n (a ∷ rest) =
    tested_by such n a rest (such n a) refl
    (each_weaker (Tested such (suc n) rest) (Tested such n (a ∷ rest)) (later_tested such n a rest) (numbers_of such (suc n) rest) (tested such (suc n) rest))

each_case : (P : Way → Type 0) (Q : ℕ → Type 0) → ((n : ℕ) → Q n → P (way.Atom n)) → (ns : List ℕ) → Each Q ns → Each P (map case_way (atom_cases ns))
each_case P Q f [] h = tt
each_case P Q f (n ∷ ns) h = (f n h.0, each_case P Q f ns h.1)

map_cases : (P : Way → Type 0) (xs ys : List Case) → Each P (map case_way xs) → Each P (map case_way ys) → Each P (map case_way (xs ++ ys))
map_cases P [] ys h k = k
map_cases P (x ∷ xs) ys h k = (h.0, map_cases P xs ys h.1 k)

module _ (types : List BlockType) (s : State) (h : IsSorted s) (x : Entry) (σ : Substitution) (rest : List Atom) (used : List ℕ) (p : Atom) (f : IsChosen x σ (p ∷ rest)) where
  abbrev Takes : Option PlaceOf → Way → Type 0
  Takes o w = KeepsTaken s (take_case types x σ rest used p w o s)

  some_sorted : (a : PlaceOf) (b d : Atom) (o : Option Atom) → o ≡ Some b → o ≡ Some d → may_be_at s.vars a b ≡ true → is_well_sorted s.vars (conjunct.SamePlace a (place.Var d.place)) ≡ true
  some_sorted a b d o e g t =
      subst (λ z. is_well_sorted s.vars (conjunct.SamePlace a (place.Var z)) ≡ true) (some_place b d o e g)
      (and_parts (is_well_sorted s.vars (conjunct.SamePlace a (place.Var b.place))) _ t).0

  atom_case : (a : PlaceOf) (n : ℕ) → Tested (λ n b. not (list_any (nat_eq n) used) && is_match s.vars a p.block (is_freed p.state) b) 0 s.atoms n → Takes (Some a) (way.Atom n)
  atom_case a n (i, b, e, g, t) =
      let m = (and_parts (not (list_any (nat_eq n) used)) (is_match s.vars a p.block (is_freed p.state) b) t).1 in
      let at = (and_parts (nat_eq b.block.0 p.block.0 && same_state (is_freed b.state) (is_freed p.state)) (may_be_at s.vars a b) m).1 in
      let there : slice_get s.atoms n ≡ Some b = ap (slice_get s.atoms) (let q : n ≡ i = omega (arith, e) in q) ∙ g in
      atom_taken s x σ rest used p f n a (slice_get s.atoms n) s (kept_self s h) (λ d k. some_sorted a b d (slice_get s.atoms n) there k at)

  missing_way : (a : PlaceOf) (b : Bool) → may_be_missing s.vars a ≡ b → Each (Takes (Some a)) (map case_way (missing_case b))
  missing_way a false e = tt
  missing_way a true e = (missing_taken types s h x σ rest used p f a e, tt)

  pub cases_taken : (o : Option PlaceOf) → Each (Takes o) (map case_way (cases_at s used p o))
  cases_taken None = tt
  cases_taken (Some a) =
      let such : ℕ → Atom → Bool = λ n b. not (list_any (nat_eq n) used) && is_match s.vars a p.block (is_freed p.state) b in
      map_cases (Takes (Some a)) (atom_cases (numbers_of such 0 s.atoms)) (missing_case (may_be_missing s.vars a))
      (each_case (Takes (Some a)) (Tested such 0 s.atoms) (atom_case a) (numbers_of such 0 s.atoms) (tested such 0 s.atoms))
      (missing_way a (may_be_missing s.vars a) refl)

-- ---- what follows the last case

any_left : (such : Polynomial → Bool) (xs ys : List Polynomial) → list_any such xs ≡ true → list_any such (xs ++ ys) ≡ true
any_left such xs ys e = list_any-append such xs ys ∙ ap (λ z. z || list_any such ys) e

any_right : (such : Polynomial → Bool) (xs ys : List Polynomial) → list_any such ys ≡ true → list_any such (xs ++ ys) ≡ true
any_right such xs ys e = list_any-append such xs ys ∙ or_right (list_any such xs) (list_any such ys) e

-- a claim that is well sorted, if it is a conjunct
abbrev IsSortedClaim : List VarInfo → Claim → Type 0
IsSortedClaim vars surely = Unit {0}
IsSortedClaim vars never = Unit {0}
IsSortedClaim vars (claims c) = is_well_sorted vars c ≡ true

claim_cases : (vars : List VarInfo) (c : Claim) → is_claim_open vars c ≡ true → (list_any is_long (claim_terms c) ≡ true) ⊎ IsSortedClaim vars c
claim_cases vars surely e = inr tt
claim_cases vars never e = inr tt
claim_cases vars (claims c) e = elim (open_cases vars c e) [ inl l ↦ inl (long_terms c l) | inr r ↦ inr r ]

both_cases : (vars : List VarInfo) (σ : Substitution) (c : Conj) (cs : List Conj) →
    (list_any is_long (claim_terms (claim_through σ c)) ≡ true) ⊎ IsSortedClaim vars (claim_through σ c) →
    (list_any is_long (flat_map (λ c. claim_terms (claim_through σ c)) cs) ≡ true) ⊎ Each (λ c. IsSortedClaim vars (claim_through σ c)) cs →
    (list_any is_long (flat_map (λ c. claim_terms (claim_through σ c)) (c ∷ cs)) ≡ true) ⊎ Each (λ c. IsSortedClaim vars (claim_through σ c)) (c ∷ cs)
both_cases vars σ c cs (inl l) r = inl (any_left is_long (claim_terms (claim_through σ c)) (flat_map (λ c. claim_terms (claim_through σ c)) cs) l)
both_cases vars σ c cs (inr h) (inl l) = inl (any_right is_long (claim_terms (claim_through σ c)) (flat_map (λ c. claim_terms (claim_through σ c)) cs) l)
both_cases vars σ c cs (inr h) (inr k) = inr (h, k)

-- one is too long, or all are well sorted
claims_cases : (vars : List VarInfo) (σ : Substitution) (cs : List Conj) → list_all (λ c. is_claim_open vars (claim_through σ c)) cs ≡ true →
    (list_any is_long (flat_map (λ c. claim_terms (claim_through σ c)) cs) ≡ true) ⊎ Each (λ c. IsSortedClaim vars (claim_through σ c)) cs
claims_cases vars σ [] e = inr tt
claims_cases vars σ (c ∷ cs) e =
    let b = and_parts (is_claim_open vars (claim_through σ c)) (list_all (λ c. is_claim_open vars (claim_through σ c)) cs) e in
    both_cases vars σ c cs (claim_cases vars (claim_through σ c) b.0) (claims_cases vars σ cs b.1)

claim_sorted : (vars : List VarInfo) (pure : List Conj) (c : Claim) → list_all (is_well_sorted vars) pure ≡ true → IsSortedClaim vars c → list_all (is_well_sorted vars) (assume_claim vars pure c) ≡ true
claim_sorted vars pure surely e h = e
claim_sorted vars pure never e h = e
claim_sorted vars pure (claims c) e h = assume_sorted vars pure c e h

claims_sorted : (vars : List VarInfo) (σ : Substitution) (cs pure : List Conj) → list_all (is_well_sorted vars) pure ≡ true → Each (λ c. IsSortedClaim vars (claim_through σ c)) cs →
    list_all (is_well_sorted vars) (fold (λ pure c. assume_claim vars pure (claim_through σ c)) pure cs) ≡ true
claims_sorted vars σ [] pure e h = e
claims_sorted vars σ (c ∷ cs) pure e h = claims_sorted vars σ cs (assume_claim vars pure (claim_through σ c)) (claim_sorted vars pure (claim_through σ c) e h.0) h.1

-- ---- the blocks that it leaves

points_by_base : (vars : List VarInfo) (atoms : List Atom) →
    list_all (λ (a : Atom). is_pointer vars a.place.0) atoms ≡ list_all (λ (b : Var × TypeId). is_pointer vars b.0.0) (map base atoms)
points_by_base vars [] = refl
points_by_base vars (a ∷ rest) = ap (λ z. is_pointer vars a.place.0 && z) (points_by_base vars rest)

-- the n-th new variable of the entry is new to the caller
abbrev HasNumber : ℕ → List VarInfo → VarInfo → Option Content → Type 0
HasNumber n vars i o = (m : ℕ) × (slice_get (new_variables vars) m ≡ Some i) × (o ≡ Some (variable_content i.value (n + m)))

made_is_new : (i : VarInfo) → is_made_sort i.sort ≡ true → is_new i ≡ true
made_is_new i e = by i.sort e
  where
    by : (s : Sort) → is_made_sort s ≡ true → (is_input_sort s || is_made_sort s) ≡ true
    by Given e = e
    by CellSort e = e
    by Input e = refl
    by Made e = refl

new_here : (k n : ℕ) (i : VarInfo) (rest : List VarInfo) → is_new i ≡ true → HasNumber n (i ∷ rest) i (content_for (stand_new k n (i ∷ rest)) k)
new_here k n i rest e = by (is_new i) e
  where
    by : (b : Bool) → b ≡ true →
        (m : ℕ) × (slice_get (cond b (i ∷ new_variables rest) (new_variables rest)) m ≡ Some i)
        × (content_for (elim b as (λ _. Substitution) [ true ↦ (record { 0 = k }, variable_content i.value n) ∷ stand_new (suc k) (suc n) rest | false ↦ stand_new (suc k) n rest ]) k
        ≡ Some (variable_content i.value (n + m)))
    by true e = (0, refl, ap (λ z. cond z (Some (variable_content i.value n)) (content_for (stand_new (suc k) (suc n) rest) k)) (number_itself k) ∙ ap (λ z. Some (variable_content i.value z)) (let q : n ≡ n + 0 = omega arith in q))
    by false e = absurd (never_true e)
      where
        never_true : false ≡ true → ⊥
        never_true e = cc

new_later : (k v n : ℕ) (j i : VarInfo) (rest : List VarInfo) → k < v → ((n : ℕ) → HasNumber n rest i (content_for (stand_new (suc k) n rest) v)) →
    HasNumber n (j ∷ rest) i (content_for (stand_new k n (j ∷ rest)) v)
new_later k v n j i rest l h = by (is_new j)
  where
    apart : nat_eq k v ≡ false
    apart = ne_eqb k v (λ e. let n : ⊥ = omega arith in n)

    by : (b : Bool) →
        (m : ℕ) × (slice_get (cond b (j ∷ new_variables rest) (new_variables rest)) m ≡ Some i)
        × (content_for (elim b as (λ _. Substitution) [ true ↦ (record { 0 = k }, variable_content j.value n) ∷ stand_new (suc k) (suc n) rest | false ↦ stand_new (suc k) n rest ]) v
        ≡ Some (variable_content i.value (n + m)))
    by true = let (m, g, e) = h (suc n) in
        (suc m, g, ap (λ z. cond z (Some (variable_content j.value n)) (content_for (stand_new (suc k) (suc n) rest) v)) apart ∙ e ∙ ap (λ z. Some (variable_content i.value z)) (let q : suc n + m ≡ n + suc m = omega arith in q))
    by false = h n

made_number : (k at v n : ℕ) (vars : List VarInfo) (i : VarInfo) → v ≡ k + at → slice_get vars at ≡ Some i → is_made_sort i.sort ≡ true →
    HasNumber n vars i (content_for (stand_new k n vars) v)
made_number k at v n [] i e g s = none_there g
  where
    none_there : {A : Type 0} → None ≡ Some i → A
    none_there g = cc
made_number k zero v n (j ∷ vars) i e g s =
    let q : j ≡ i = same_info j i g in
    let r : v ≡ k = omega (arith, e) in
    subst (λ z. HasNumber n (z ∷ vars) i (content_for (stand_new k n (z ∷ vars)) v)) (sym q)
    (subst (λ z. HasNumber n (i ∷ vars) i (content_for (stand_new k n (i ∷ vars)) z)) (sym r) (new_here k n i vars (made_is_new i s)))
  where
    same_info : (j i : VarInfo) → ◌≡◌ {A = Option VarInfo} (Some j) (Some i) → j ≡ i
    same_info j i g = cc
made_number k (suc at) v n (j ∷ vars) i e g s =
    new_later k v n j i vars (omega (arith, e)) (λ n. made_number (suc k) at v n vars i (omega (arith, e)) g s)

skipped : (x : Entry) (b : Var × Content) (v : ℕ) (o more : Option Content) → IsUnmade x b.0.0 → is_made x.vars v ≡ true → o ≡ more → cond (nat_eq b.0.0 v) (Some b.1) o ≡ more
skipped x b v o more h e r = by (nat_eq b.0.0 v) refl
  where
    never_true : false ≡ true → ⊥
    never_true e = cc

    by : (c : Bool) → nat_eq b.0.0 v ≡ c → cond (nat_eq b.0.0 v) (Some b.1) o ≡ more
    by true q = absurd (never_true (sym h ∙ ap (is_made x.vars) (eqb-true b.0.0 v q) ∙ e))
    by false q = ap (λ z. cond z (Some b.1) o) q ∙ r

-- nothing that stood before stands for a made variable
stands_after : (x : Entry) (σ more : Substitution) (v : ℕ) → Each (λ (b : Var × Content). IsUnmade x b.0.0) σ → is_made x.vars v ≡ true → content_for (σ ++ more) v ≡ content_for more v
stands_after x [] more v h e = refl
stands_after x (b ∷ σ) more v h e = skipped x b v (content_for (σ ++ more) v) (content_for more v) h.0 e (stands_after x σ more v h.1 e)

-- ---- the atoms of made blocks

same_pointer : (t t' : ValueType) → same_type t t' ≡ true → is_pointer_type t' ≡ true → is_pointer_type t ≡ true
same_pointer Int Int e p = p
same_pointer Int (Pointer b) e p = absurd (never_true e)
  where
    never_true : false ≡ true → ⊥
    never_true e = cc
same_pointer (Pointer a) t e p = refl

-- the content of a new variable of a pointer type is its place
pointer_content : (t : ValueType) (n : ℕ) → is_pointer_type t ≡ true → variable_content t n ≡ Place (place.Var (record { 0 = n }))
pointer_content Int n e = absurd (never_true e)
  where
    never_true : false ≡ true → ⊥
    never_true e = cc
pointer_content (Pointer a) n e = refl

info_of : (o : Option VarInfo) (such : VarInfo → Bool) → is_some_and o such ≡ true → (i : VarInfo) × (o ≡ Some i) × (such i ≡ true)
info_of None such e = absurd (never_true e)
  where
    never_true : false ≡ true → ⊥
    never_true e = cc
info_of (Some i) such e = (i, refl, e)

info_again : (o : Option VarInfo) (i : VarInfo) (such : VarInfo → Bool) → o ≡ Some i → is_some_and o such ≡ true → such i ≡ true
info_again o i such e h = sym (ap (λ z. is_some_and z such) e) ∙ h

get_after : (xs ys : List VarInfo) (m : ℕ) → slice_get (xs ++ ys) (length xs + m) ≡ slice_get ys m
get_after [] ys m = ap (slice_get ys) (let q : 0 + m ≡ m = omega arith in q)
get_after (x ∷ xs) ys m = ap (slice_get (x ∷ (xs ++ ys))) (let q : suc (length xs) + m ≡ suc (length xs + m) = omega arith in q) ∙ get_after xs ys m

module _ (s : State) (x : Entry) (σ : Substitution) (substitution : Each (λ (b : Var × Content). IsUnmade x b.0.0) σ) where
  abbrev more : List VarInfo
  more = s.vars ++ new_variables x.vars

  abbrev all : Substitution
  all = stand_all x σ s

  -- it stands at a pointer that is new
  made_place : (a : Atom) → is_made x.vars a.place.0 ≡ true → points_to_block x.vars a ≡ true →
      (n : ℕ) × (place_through all (place.Var a.place) ≡ Some (place.Var (record { 0 = n }))) × (is_pointer more n ≡ true)
  made_place a e p =
      let (i, g, made) = info_of (slice_get x.vars a.place.0) (λ i. is_made_sort i.sort) e in
      let typed : same_type i.value (Pointer a.block) ≡ true = info_again (slice_get x.vars a.place.0) i (λ i. same_type i.value (Pointer a.block)) g p in
      let pointer : is_pointer_type i.value ≡ true = same_pointer i.value (Pointer a.block) typed refl in
      let (m, at, c) = made_number 0 a.place.0 a.place.0 (length s.vars) x.vars i (let q : a.place.0 ≡ 0 + a.place.0 = omega arith in q) g made in
      let n = length s.vars + m in (
        n,
        ap place_in (stands_after x σ (stand_new 0 (length s.vars) x.vars) a.place.0 substitution e ∙ c ∙ ap Some (pointer_content i.value n pointer)),
        ap (λ z. is_some_and z (λ i. is_pointer_type i.value)) (get_after s.vars (new_variables x.vars) m ∙ at) ∙ pointer,
      )

  abbrev points : Atom → Bool
  points a = is_pointer more a.place.0

  made_points : (a : Atom) → is_made x.vars a.place.0 ≡ true → points_to_block x.vars a ≡ true → list_all points (made_through all a) ≡ true
  made_points a e p =
      let (n, at, q) = made_place a e p in
      ap (λ o. list_all points (elim o as (λ _. List Atom) [
        | None ↦ []
        | Some p ↦ elim p [ place.Null ↦ [] | place.Var v ↦ atom_of v a.block (state_through all a.state) ∷ [] ]
      ])) at ∙ and_from (is_pointer more n) true q refl

  all_made_by : (a : Atom) (rest : List Atom) (b : Bool) → is_made x.vars a.place.0 ≡ b → points_to_block x.vars a ≡ true → list_all points (flat_map (made_through all) rest) ≡ true →
      list_all points (flat_map (made_through all) (cond b (a ∷ rest) rest)) ≡ true
  all_made_by a rest true e p h = all_append points (made_through all a) (flat_map (made_through all) rest) (made_points a e p) h
  all_made_by a rest false e p h = h

  all_made : (post : List Atom) → list_all (points_to_block x.vars) post ≡ true → list_all points (flat_map (made_through all) (made_atoms x.vars post)) ≡ true
  all_made [] e = refl
  all_made (a ∷ post) e =
      let b = and_parts (points_to_block x.vars a) (list_all (points_to_block x.vars) post) e in
      all_made_by a (made_atoms x.vars post) (is_made x.vars a.place.0) refl b.0 (all_made post b.1)

-- ---- the end of a call

end_kept : (s t : State) (c : Calling) (σ : Substitution) (result : Option Content) (e : Exit) (terms : List Polynomial) → (list_any is_long terms ≡ true) ⊎ IsKept s t → IsGood s (end_call c σ result e terms t)
end_kept s t c σ result exit.Ok terms (inl l) = inl (any_left is_long terms (result_terms σ c.to result) l)
end_kept s t c σ result exit.Ok terms (inr k) = inr (result_kept c.to)
  where
    m : State
    m = marked mark.Leave c.site t

    marked_kept : IsKept s m
    marked_kept = record { sorted = record { pure = k.sorted.pure; atoms = k.sorted.atoms }; slots = k.slots }

    result_kept : (o : Option ℕ) → IsKept s (keep_result o (result_through σ result) m)
    result_kept None = marked_kept
    result_kept (Some to) = kept_slot s m to (result_through σ result) marked_kept
end_kept s t c σ result (exit.Error kind site) terms (inl l) = inl l
end_kept s t c σ result (exit.Error kind site) terms (inr k) = inr k

finish_kept : (s : State) → IsSorted s → (c : Calling) (x : Entry) (σ : Substitution) (used : List ℕ) → IsChosen x σ [] → is_possible x (stand_all x σ s) s ≡ true → IsGood s (finish_call c x σ used s)
finish_kept s h c x σ used f e =
    end_kept s t c all x.result x.exit (entry_terms x all) (by (claims_cases vars all x.pure e))
  where
    all : Substitution
    all = stand_all x σ s

    vars : List VarInfo
    vars = s.vars ++ new_variables x.vars

    v : State
    v = with_variables (new_variables x.vars) s

    t : State
    t = add_trace x.trace (leave_atoms x all used (assume_entry x all v))

    sorted : IsSorted v
    sorted = sorted_variables s (new_variables x.vars) h

    posts : List Atom
    posts = found_atoms x.vars x.post

    left : list_all (λ (a : Atom). is_pointer vars a.place.0) (update_atoms all used posts s.atoms) ≡ true
    left = points_by_base vars (update_atoms all used posts s.atoms) ∙ ap (list_all (λ (b : Var × TypeId). is_pointer vars b.0.0)) (update_bases all used posts s.atoms) ∙ sym (points_by_base vars s.atoms) ∙ sorted.atoms

    by : (list_any is_long (flat_map (λ c. claim_terms (claim_through all c)) x.pure) ≡ true) ⊎ Each (λ c. IsSortedClaim vars (claim_through all c)) x.pure →
        (list_any is_long (entry_terms x all) ≡ true) ⊎ IsKept s t
    by (inl l) = inl (any_left is_long (flat_map (λ c. claim_terms (claim_through all c)) x.pure) _ l)
    by (inr k) = inr (record {
      sorted = record {
        pure = claims_sorted vars all x.pure s.pure sorted.pure k;
        atoms = all_append (λ (a : Atom). is_pointer vars a.place.0) (update_atoms all used posts s.atoms) _ left (all_made s x σ f.substitution x.post f.pointers);
      };
      slots = refl;
    })

-- ---- all stages

taken_leads : (s : State) (c : Calling) (k : List Item) (t : Taken) → KeepsTaken s t → KeepsState s (taking s c k t) × GoesFit (taking s c k t)
taken_leads s c k t h = by (passes (on t.state))
  where
    by : (o : Option LongKind) → KeepsState s (limited s (Next (going_on c k t.state t.stage)) o) × GoesFit (limited s (Next (going_on c k t.state t.stage)) o)
    by None = (h.kept, h.fit)
    by (Some l) = (refl, tt)

-- after an act that leaves no call open
pub closed_fit : (s : State) (d : Done) (k : List Item) → GoesFit (leads s d (at k))
closed_fit s d k = by d.outcome
  where
    limit : (a : Leads) → GoesFit a → (o : Option LongKind) → GoesFit (limited s a o)
    limit a h None = h
    limit a h (Some l) = tt

    by : (o : Outcome) → GoesFit (within_limits s d (at k) o)
    by goes = limit (Next (at k d.state)) tt (passes d)
    by (ends e r) = limit (Ends d.state e r) tt (passes d)
    by past = tt
    by (drops word) = limit (dropped s (Outside word)) tt (passes d)

abbrev pub KeepsBoth : State → Leads → Type 0
KeepsBoth s a = KeepsState s a × GoesFit a

entries_kept : (j : JobTree) (s : State) → IsSorted s → (c : Calling) (k : List Item) (n : ℕ) (xs : List Entry) → Each (λ name. KeepsBoth s (choosing_act j s c k name)) (entry_ways n xs)
entries_kept j s h c k n [] = tt
entries_kept j s h c k n (x ∷ xs) = ((kept_self s h, choose_fit j.types s c.arguments (entry_in (callee_in j.callees c.proc) n)), entries_kept j s h c k (suc n) xs)

drop_kept : (j : JobTree) (s : State) (c : Calling) (k : List Item) (gs : List Gap) → Each (λ name. KeepsBoth s (choosing_act j s c k name)) (drop_way gs)
drop_kept j s c k [] = tt
drop_kept j s c k (g ∷ gs) = ((refl, tt), tt)

callee_kept : (j : JobTree) (s : State) → IsSorted s → (c : Calling) (k : List Item) (known : Callee) → Each (λ name. KeepsBoth s (choosing_act j s c k name)) (callee_ways known)
callee_kept j s h c k (callee.Table t) = each_append _ (entry_ways 0 t.entries) (drop_way t.drops) (entries_kept j s h c k 0 t.entries) (drop_kept j s c k t.drops)
callee_kept j s h c k callee.Cycle = ((refl, tt), tt)
callee_kept j s h c k callee.LeftOut = ((refl, tt), tt)
callee_kept j s h c k callee.Unknown = ((refl, tt), tt)

pub stage_kept : (j : JobTree) (s : State) → IsSorted s → (c : Calling) (k : List Item) (stage : Stage) → IsFitStage stage → Each (λ name. KeepsBoth s (stage_act j s c k stage name)) (stage_ways j s c stage)
stage_kept j s h c k choosing f = callee_kept j s h c k (callee_in j.callees c.proc)
stage_kept j s h c k (matching x σ [] used) f = by (is_possible x (stand_all x σ s) s) refl
  where
    by : (b : Bool) → is_possible x (stand_all x σ s) s ≡ b → Each (λ name. KeepsBoth s (leads s (finish_call c x σ used s) (at k))) (listed_if b way.On)
    by true e = ((leads_kept s (finish_call c x σ used s) (at k) (λ t q. q) (finish_kept s h c x σ used f e), closed_fit s (finish_call c x σ used s) k), tt)
    by false e = tt
stage_kept j s h c k (matching x σ (p ∷ rest) used) f =
    let o = place_through σ (place.Var p.place) in
    each_weaker (λ w. KeepsTaken s (take_case j.types x σ rest used p w o s)) _ (λ w t. taken_leads s c k (take_case j.types x σ rest used p w o s) t) (required_ways s σ used p)
    (cases_taken j.types s h x σ rest used p f o)
stage_kept j s h c k unfit f = tt
