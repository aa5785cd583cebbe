-- The ways to meet one required block: each leads on to the next stage of the call.
use Rattle.std.proofs.Common.{◌≡◌, ◌≢◌, ℕ, suc, ◌+◌, Bool, true, false, not, nat_eq, ◌||◌, ◌&&◌, Option, Some, None, List, [], ◌∷◌, ◌++◌, map, length, slice_get, refl, sym, ap, ◌∙◌, subst, arith, append-nil}
use Rattle.std.specs.List.{list_any}
use Rattle.std.proofs.lemmas.Bool.{and_parts, and_from, eqb-true, eq-eqb, not-true}
use Rattle.px_terms.specs.Valuations.{Valuation, Fits}
use Rattle.px_terms.specs.Conjuncts.{IsTrueUnder}
use Rattle.px_terms.specs.declared.types.BlockType.{BlockType}
use Rattle.px_terms.specs.declared.types.ValueType.{ValueType}
use Rattle.px_terms.specs.declared.variables.Var.{Var}
use Rattle.px_terms.specs.declared.variables.VarInfo.{VarInfo}
use Rattle.px_terms.specs.declared.conjuncts.Place.{Place as PlaceOf}
use Rattle.px_terms.specs.declared.conjuncts.Place.TheVariants as place
use Rattle.px_terms.specs.declared.conjuncts.Content.{Content}
use Rattle.px_terms.specs.declared.conjuncts.Conj.TheVariants.{SamePlace}
use Rattle.px_terms.proofs.Agreement.{fits_fewer}
use Rattle.px_core.specs.Control.{Item}
use Rattle.px_entry.specs.declared.atoms.Atom.{Atom}
use Rattle.px_entry.specs.declared.atoms.AtomState.TheVariants.{Live, Freed}
use Rattle.px_entry.specs.declared.atoms.Case.{Case}
use Rattle.px_entry.specs.declared.entries.Entry.{Entry}
use Rattle.px_entry.specs.Sorts.{is_pointer, is_pointer_type, is_made}
use Rattle.px_entry.specs.Decided.{is_open, is_false}
use Rattle.px_entry.specs.Cases.{is_freed, same_state, may_be_at, is_match, may_be_missing, numbers_of, atom_cases, missing_case}
use Rattle.px_entry.specs.Regular.{state_cells}
use Rattle.px_entry.proofs.Lists.{Each}
use Rattle.px_callgraph.specs.declared.states.State.{State}
use Rattle.px_callgraph.specs.declared.states.Way.{Way}
use Rattle.px_callgraph.specs.declared.states.Way.TheVariants as way
use Rattle.px_callgraph.specs.States.{Outcome, assumed}
use Rattle.px_callgraph.specs.Accesses.{atom_of, cell_contents, cell_infos, block_cells, meet_live, meet_freed}
use Rattle.px_callgraph.specs.Renaming.{Substitution, stand_cells, place_through}
use Rattle.px_callgraph.specs.Calls.{matching, Taken, take_atom, take_case, case_way, cases_at, required_ways}
use Rattle.px_soundness.proofs.WellTyped.{grown_by, with_grown, get_next, own_cells}
use Rattle.px_soundness.proofs.Sound.{Each1, Can, Sound}
use Rattle.px_soundness.proofs.CallMoves.{said_same, sound_same_place, sound_meet_freed, sound_meet_live}
use Rattle.px_soundness.proofs.CallStages.{Matched, took}
use Rattle.px_soundness.proofs.CallSteps.{met_stage, others_missing}

-- the block is among the state's, or the path meets it
pub data Comes (types : List BlockType) (u : State) (p : Atom) (a : PlaceOf) (t : State) (b : Atom) : Type 0 where
  was_known : (n : ℕ) → slice_get u.atoms n ≡ Some b → t ≡ u → Comes types u p a t b
  was_freed : (v : Var) → a ≡ place.Var v → is_pointer u.vars v.0 ≡ true → is_made u.vars v.0 ≡ false → b ≡ atom_of v p.block Freed → t ≡ meet_freed p.block v u → Comes types u p a t b
  was_live : (v : Var) → a ≡ place.Var v → is_pointer u.vars v.0 ≡ true → is_made u.vars v.0 ≡ false → b ≡ atom_of v p.block (Live (cell_contents (length u.vars) (block_cells types p.block))) → t ≡ meet_live types p.block v u → Comes types u p a t b

-- what becomes of state and standing where the required block is met
pub record Moved (types : List BlockType) (u : State) (σ : Substitution) (p : Atom) (t : State) (τ : Substitution) : Type 0 where
  pub pointer : PlaceOf
  pub pointer_is : place_through σ (place.Var p.place) ≡ Some pointer
  pub between : State
  pub atom : Atom
  pub comes : Comes types u p pointer between atom
  pub state : t ≡ assumed (SamePlace pointer (place.Var atom.place)) between
  pub substitution : τ ≡ σ ++ stand_cells (state_cells p.state) (state_cells atom.state)

-- the next stage, and what is so of the state there is so of the state before
pub record Took (C : Can) (types : List BlockType) (arguments : List Content) (x : Entry) (u : State) (σ : Substitution) (p : Atom) (rest : List Atom) (t : Taken) : Type 1 where
  pub substitution : Substitution
  pub used : List ℕ
  pub stage : t.stage ≡ matching x substitution rest used
  pub matched : Matched types arguments x t.state substitution rest used
  pub chain : (k : List Item) (end : State) (o : Outcome) → Sound C t.state k end o → Sound C u k end o
  pub moved : Moved types u σ p t.state substitution
  pub slots : t.state.slots ≡ u.slots
  pub trace : t.state.trace ≡ u.trace
  pub fewer : (v : Valuation) → Fits t.state.vars v → Fits u.vars v
  pub before : (v : Valuation) → Fits t.state.vars v → Each (IsTrueUnder v) t.state.pure → Each (IsTrueUnder v) u.pure

same_freed : (a b : Bool) → same_state a b ≡ true → a ≡ b
same_freed true true e = refl
same_freed true false e = cc
same_freed false true e = cc
same_freed false false e = refl

none_used : (n : ℕ) (used : List ℕ) → list_any (nat_eq n) used ≡ false → Each (λ k. k ≢ n) used
none_used n [] e = tt
none_used n (k ∷ used) e = by (nat_eq n k) refl (none_used n used) e
  where
    by : (q : Bool) → nat_eq n k ≡ q → (list_any (nat_eq n) used ≡ false → Each (λ k. k ≢ n) used) → (q || list_any (nat_eq n) used) ≡ false → Each (λ k. k ≢ n) (k ∷ used)
    by true is rest e = cc
    by false is rest e = ((λ same. let f : false ≡ true = sym is ∙ eq-eqb n k (sym same) in cc), rest e)

module _ (C : Can) (types : List BlockType) (arguments : List Content) (x : Entry) (u : State) (σ : Substitution) (p : Atom) (rest : List Atom) (used : List ℕ) (m : Matched types arguments x u σ (p ∷ rest) used) where
  -- the block is that of an atom
  took_atom : (a : PlaceOf) → place_through σ (place.Var p.place) ≡ Some a → (n : ℕ) (b : Atom) → slice_get u.atoms n ≡ Some b → Each (λ k. k ≢ n) used → b.block.0 ≡ p.block.0 → is_freed b.state ≡ is_freed p.state → is_open u.vars (SamePlace a (place.Var b.place)) ≡ true →
      Took C types arguments x u σ p rest (take_atom x σ rest used p n a (Some b) u)
  took_atom a place_is n b at other block alike open' = record {
    substitution = σ ++ stand_cells (state_cells p.state) (state_cells b.state);
    used = used ++ n ∷ [];
    stage = refl;
    matched = took types arguments x u σ p rest used m a place_is n b at other block alike open';
    chain = λ k end o step. sound_same_place C k end o u a b.place open' step;
    moved = record { pointer = a; pointer_is = place_is; between = u; atom = b; comes = was_known n at refl; state = refl; substitution = refl };
    slots = refl;
    trace = refl;
    fewer = λ v f. f;
    before = λ v f h. (said_same u.vars u.pure a b.place v f open' h).0;
  }

  abbrev such : PlaceOf → ℕ → Atom → Bool
  such a n b = not (list_any (nat_eq n) used) && is_match u.vars a p.block (is_freed p.state) b

  took_tested : (a : PlaceOf) → place_through σ (place.Var p.place) ≡ Some a → (n : ℕ) (b : Atom) → slice_get u.atoms n ≡ Some b → such a n b ≡ true → Took C types arguments x u σ p rest (take_case types x σ rest used p (way.Atom n) (Some a) u)
  took_tested a place_is n b at e =
      let r = and_parts (not (list_any (nat_eq n) used)) (is_match u.vars a p.block (is_freed p.state) b) e in
      let q = and_parts (nat_eq b.block.0 p.block.0 && same_state (is_freed b.state) (is_freed p.state)) (may_be_at u.vars a b) r.1 in
      let t = and_parts (nat_eq b.block.0 p.block.0) (same_state (is_freed b.state) (is_freed p.state)) q.0 in
      subst (λ o. Took C types arguments x u σ p rest (take_atom x σ rest used p n a o u)) (sym at)
      (took_atom a place_is n b at (none_used n used (not-true (list_any (nat_eq n) used) r.0)) (eqb-true b.block.0 p.block.0 t.0) (same_freed (is_freed b.state) (is_freed p.state) t.1) q.1)

  took_numbers : (a : PlaceOf) → place_through σ (place.Var p.place) ≡ Some a → (n : ℕ) (atoms : List Atom) → ((i : ℕ) (b : Atom) → slice_get atoms i ≡ Some b → slice_get u.atoms (n + i) ≡ Some b) →
      Each1 (λ w. Took C types arguments x u σ p rest (take_case types x σ rest used p w (Some a) u)) (map case_way (atom_cases (numbers_of (such a) n atoms)))
  took_numbers a place_is n [] at = tt
  took_numbers a place_is n (b ∷ atoms) at =
      by (such a n b) refl
      (took_numbers a place_is (suc n) atoms (λ i c e. let f : suc n + i ≡ n + suc i = omega arith in ap (slice_get u.atoms) f ∙ at (suc i) c e))
    where
      here : slice_get u.atoms n ≡ Some b
      here = let f : n ≡ n + 0 = omega arith in ap (slice_get u.atoms) f ∙ at 0 b refl

      by : (q : Bool) → such a n b ≡ q → Each1 (λ w. Took C types arguments x u σ p rest (take_case types x σ rest used p w (Some a) u)) (map case_way (atom_cases (numbers_of (such a) (suc n) atoms))) →
          Each1 (λ w. Took C types arguments x u σ p rest (take_case types x σ rest used p w (Some a) u)) (map case_way (atom_cases (elim q as (λ _. List ℕ) [ true ↦ n ∷ numbers_of (such a) (suc n) atoms | false ↦ numbers_of (such a) (suc n) atoms ])))
      by true is more = (took_tested a place_is n b here is, more)
      by false is more = more

-- ---- a block that the path hasn't met

self_open : (vars : List VarInfo) (v : Var) → is_pointer vars v.0 ≡ true → is_open vars (SamePlace (place.Var v) (place.Var v)) ≡ true
self_open vars v e =
    and_from _ _ (and_from _ _ e e)
    (ap (λ q. not (is_false (elim q as (λ _. Option Bool) [ true ↦ Some true | false ↦ elim (is_made vars v.0 || is_made vars v.0) as (λ _. Option Bool) [ true ↦ Some false | false ↦ None ] ]))) (eq-eqb v.0 v.0 refl))

pointer_more : (vars new : List VarInfo) (v : ℕ) → is_pointer vars v ≡ true → is_pointer (vars ++ new) v ≡ true
pointer_more vars new v e = with_grown vars (vars ++ new) (grown_by vars new) (λ (i : VarInfo). is_pointer_type i.value) v e

module _ (C : Can) (types : List BlockType) (arguments : List Content) (x : Entry) (u : State) (σ : Substitution) (p : Atom) (rest : List Atom) (used : List ℕ) (m : Matched types arguments x u σ (p ∷ rest) used)
    (v : Var) (place_is : place_through σ (place.Var p.place) ≡ Some (place.Var v)) (pointer : is_pointer u.vars v.0 ≡ true) (unmade : is_made u.vars v.0 ≡ false) where
  others : Each (λ k. k ≢ length u.atoms) used
  others = others_missing u.vars u.pure u.atoms σ used m.first m.met

  freed_stage : Matched types arguments x (meet_freed p.block v u) σ (p ∷ rest) used
  freed_stage =
      subst (λ vs. Matched types arguments x (record u { vars = vs; pre = u.pre ++ atom_of v p.block Freed ∷ []; atoms = u.atoms ++ atom_of v p.block Freed ∷ [] }) σ (p ∷ rest) used) (append-nil u.vars)
      (met_stage types arguments x u σ (p ∷ rest) used m [] (atom_of v p.block Freed) refl tt)

  took_freed : is_freed p.state ≡ true → Took C types arguments x u σ p rest (take_atom x σ rest used p (length u.atoms) (place.Var v) (slice_get (meet_freed p.block v u).atoms (length u.atoms)) (meet_freed p.block v u))
  unfolding took_atom
  took_freed freed =
      let b : Atom = atom_of v p.block Freed in
      let t = took_atom C types arguments x (meet_freed p.block v u) σ p rest used freed_stage (place.Var v) place_is (length u.atoms) b (get_next u.atoms b) others refl (sym freed) (self_open u.vars v pointer) in
      subst (λ o. Took C types arguments x u σ p rest (take_atom x σ rest used p (length u.atoms) (place.Var v) o (meet_freed p.block v u))) (sym (get_next u.atoms b))
      (record {
        substitution = t.substitution;
        used = t.used;
        stage = t.stage;
        matched = t.matched;
        chain = λ k end o step. sound_meet_freed C k end o u p.block v (t.chain k end o step);
        moved = record { pointer = place.Var v; pointer_is = place_is; between = meet_freed p.block v u; atom = b; comes = was_freed v refl pointer unmade refl refl; state = refl; substitution = refl };
        slots = t.slots;
        trace = t.trace;
        fewer = t.fewer;
        before = t.before;
      })

  abbrev ts : List ValueType
  ts = block_cells types p.block

  abbrev live_atom : Atom
  live_atom = atom_of v p.block (Live (cell_contents (length u.vars) ts))

  live_stage : Matched types arguments x (meet_live types p.block v u) σ (p ∷ rest) used
  live_stage =
      let cells = own_cells u.pure u.vars ts (u.vars ++ cell_infos ts) (length u.vars) refl refl in
      met_stage types arguments x u σ (p ∷ rest) used m (cell_infos ts) live_atom cells.1 cells.2

  took_live : is_freed p.state ≡ false → Took C types arguments x u σ p rest (take_atom x σ rest used p (length u.atoms) (place.Var v) (slice_get (meet_live types p.block v u).atoms (length u.atoms)) (meet_live types p.block v u))
  unfolding took_atom
  took_live live =
      let t = took_atom C types arguments x (meet_live types p.block v u) σ p rest used live_stage (place.Var v) place_is (length u.atoms) live_atom (get_next u.atoms live_atom) others refl (sym live) (self_open (u.vars ++ cell_infos ts) v (pointer_more u.vars (cell_infos ts) v.0 pointer)) in
      subst (λ o. Took C types arguments x u σ p rest (take_atom x σ rest used p (length u.atoms) (place.Var v) o (meet_live types p.block v u))) (sym (get_next u.atoms live_atom))
      (record {
        substitution = t.substitution;
        used = t.used;
        stage = t.stage;
        matched = t.matched;
        chain = λ k end o step. sound_meet_live C k end o types u p.block v (t.chain k end o step);
        moved = record { pointer = place.Var v; pointer_is = place_is; between = meet_live types p.block v u; atom = live_atom; comes = was_live v refl pointer unmade refl refl; state = refl; substitution = refl };
        slots = t.slots;
        trace = t.trace;
        fewer = λ w f. fits_fewer u.vars (cell_infos ts) w (t.fewer w f);
        before = t.before;
      })

  took_missing : Took C types arguments x u σ p rest (take_case types x σ rest used p way.Missing (Some (place.Var v)) u)
  took_missing = by (is_freed p.state) refl
    where
      by : (b : Bool) → is_freed p.state ≡ b →
          (let met : State = elim b as (λ _. State) [ true ↦ meet_freed p.block v u | false ↦ meet_live types p.block v u ] in
          Took C types arguments x u σ p rest (take_atom x σ rest used p (length u.atoms) (place.Var v) (slice_get met.atoms (length u.atoms)) met))
      by true e = took_freed e
      by false e = took_live e

-- ---- all ways

-- each listed way meets the block
pub each_took : (C : Can) (types : List BlockType) (arguments : List Content) (x : Entry) (u : State) (σ : Substitution) (p : Atom) (rest : List Atom) (used : List ℕ) → Matched types arguments x u σ (p ∷ rest) used →
    Each1 (λ w. Took C types arguments x u σ p rest (take_case types x σ rest used p w (place_through σ (place.Var p.place)) u)) (required_ways u σ used p)
each_took C types arguments x u σ p rest used m = by (place_through σ (place.Var p.place)) refl
  where
    missing : (a : PlaceOf) → place_through σ (place.Var p.place) ≡ Some a → (q : Bool) → may_be_missing u.vars a ≡ q → Each1 (λ w. Took C types arguments x u σ p rest (take_case types x σ rest used p w (Some a) u)) (map case_way (missing_case q))
    missing a is false e = tt
    missing place.Null is true e = absurd (let f : false ≡ true = e in cc)
    missing (place.Var v) is true e =
        let b = and_parts (is_pointer u.vars v.0) (not (is_made u.vars v.0)) e in (took_missing C types arguments x u σ p rest used m v is b.0 (not-true (is_made u.vars v.0) b.1), tt)

    ways_of : (P : Way → Type 1) (xs ys : List Case) → Each1 P (map case_way xs) → Each1 P (map case_way ys) → Each1 P (map case_way (xs ++ ys))
    ways_of P [] ys h k = k
    ways_of P (c ∷ xs) ys h k = (h.0, ways_of P xs ys h.1 k)

    by : (o : Option PlaceOf) → place_through σ (place.Var p.place) ≡ o → Each1 (λ w. Took C types arguments x u σ p rest (take_case types x σ rest used p w o u)) (map case_way (cases_at u used p o))
    by None is = tt
    by (Some a) is =
        ways_of (λ w. Took C types arguments x u σ p rest (take_case types x σ rest used p w (Some a) u)) (atom_cases (numbers_of (λ n b. not (list_any (nat_eq n) used) && is_match u.vars a p.block (is_freed p.state) b) 0 u.atoms)) (missing_case (may_be_missing u.vars a))
        (took_numbers C types arguments x u σ p rest used m a is 0 u.atoms (λ i b e. let f : 0 + i ≡ i = omega arith in ap (slice_get u.atoms) f ∙ e))
        (missing a is (may_be_missing u.vars a) refl)
