-- The blocks that an entry of a callee requires are met one by one: what is known of those that were met.
use Rattle.std.proofs.Common.{◌≡◌, ℕ, zero, suc, Bool, true, false, cond, nat_eq, Some, List, [], ◌∷◌, ◌++◌, slice_get, refl, sym, ap, ap₂, ◌∙◌}
use Rattle.px_terms.specs.Substitutions.{content_for}
use Rattle.px_terms.specs.Valuations.{Valuation, Fits}
use Rattle.px_terms.specs.Conjuncts.{IsTrueUnder}
use Rattle.px_terms.specs.declared.types.Value.{Value}
use Rattle.px_terms.specs.declared.variables.VarInfo.{VarInfo}
use Rattle.px_terms.specs.declared.conjuncts.Content.{Content}
use Rattle.px_terms.specs.declared.conjuncts.Content.TheVariants.{Unwritten, Word, Place, Cell}
use Rattle.px_terms.specs.declared.conjuncts.Conj.{Conj}
use Rattle.px_entry.specs.declared.atoms.Atom.{Atom}
use Rattle.px_entry.specs.declared.atoms.AtomState.{AtomState}
use Rattle.px_entry.specs.declared.atoms.AtomState.TheVariants.{Live, Freed}
use Rattle.px_entry.specs.Standing.{content_value, contents_value}
use Rattle.px_entry.proofs.Lists.{Each}
use Rattle.px_callgraph.specs.Renaming.{Substitution}
use Rattle.px_meaning.specs.Heaps as heap
use Rattle.px_meaning.specs.Triples.{state_of}
use Rattle.px_soundness.proofs.AtomHeaps.{absent}
use Rattle.px_soundness.proofs.Through.{stood, through}
use Rattle.px_soundness.proofs.CallTaken.{AreMet}

-- ---- more that stands

pub found_more : (σ τ : Substitution) (x : ℕ) (c : Content) → content_for σ x ≡ Some c → content_for (σ ++ τ) x ≡ Some c
found_more [] τ x c e = absent e
found_more (b ∷ σ) τ x c e = by (nat_eq b.0.0 x) (found_more σ τ x c) e
  where
    by : (q : Bool) → (content_for σ x ≡ Some c → content_for (σ ++ τ) x ≡ Some c) → cond q (Some b.1) (content_for σ x) ≡ Some c → cond q (Some b.1) (content_for (σ ++ τ) x) ≡ Some c
    by true rest e = e
    by false rest e = rest e

-- ---- cells

-- the cell variables of the one stand for the contents of the other
abbrev pub AreBound : Substitution → List Content → List Content → Type 0
AreBound σ [] [] = Unit {0}
AreBound σ (Cell y ∷ ps) (c ∷ cs) = (content_for σ y.0 ≡ Some c) × AreBound σ ps cs
AreBound σ _ _ = ⊥

abbrev pub IsBound : Substitution → AtomState → AtomState → Type 0
IsBound σ (Live ps) (Live cs) = AreBound σ ps cs
IsBound σ Freed Freed = Unit {0}
IsBound σ _ _ = ⊥

bound_more : (σ τ : Substitution) (ps cs : List Content) → AreBound σ ps cs → AreBound (σ ++ τ) ps cs
bound_more σ τ [] [] h = tt
bound_more σ τ [] (c ∷ cs) h = h
bound_more σ τ (Cell y ∷ ps) [] h = h
bound_more σ τ (Cell y ∷ ps) (c ∷ cs) h = (found_more σ τ y.0 c h.0, bound_more σ τ ps cs h.1)
bound_more σ τ (Unwritten ∷ ps) cs h = absurd h
bound_more σ τ (Word p ∷ ps) cs h = absurd h
bound_more σ τ (Place a ∷ ps) cs h = absurd h

state_bound_more : (σ τ : Substitution) (p b : AtomState) → IsBound σ p b → IsBound (σ ++ τ) p b
state_bound_more σ τ (Live ps) (Live cs) h = bound_more σ τ ps cs h
state_bound_more σ τ (Live ps) Freed h = h
state_bound_more σ τ Freed (Live cs) h = h
state_bound_more σ τ Freed Freed h = tt

module _ (v : Valuation) (σ : Substitution) where
  bound_values : (ps cs : List Content) → AreBound σ ps cs → contents_value v cs ≡ contents_value (through v σ) ps
  bound_values [] [] h = refl
  bound_values [] (c ∷ cs) h = absurd h
  bound_values (Cell y ∷ ps) [] h = absurd h
  bound_values (Cell y ∷ ps) (c ∷ cs) h = ap₂ (λ u (us : List Value). u ∷ us) (sym (ap (stood v) h.0)) (bound_values ps cs h.1)
  bound_values (Unwritten ∷ ps) cs h = absurd h
  bound_values (Word p ∷ ps) cs h = absurd h
  bound_values (Place a ∷ ps) cs h = absurd h

  bound_state : (p b : AtomState) → IsBound σ p b → state_of v b ≡ state_of (through v σ) p
  bound_state (Live ps) (Live cs) h = ap heap.Live (bound_values ps cs h)
  bound_state (Live ps) Freed h = absurd h
  bound_state Freed (Live cs) h = absurd h
  bound_state Freed Freed h = refl

-- ---- blocks that were met

-- a required block is that of the caller's atom with this number
pub record MetAt (vars : List VarInfo) (pure : List Conj) (atoms : List Atom) (σ : Substitution) (n : ℕ) (p : Atom) : Type 0 where
  pub atom : Atom
  pub at : slice_get atoms n ≡ Some atom
  pub block : atom.block.0 ≡ p.block.0
  pub content : Content
  pub place : content_for σ p.place.0 ≡ Some content
  pub same : (v : Valuation) → Fits vars v → Each (IsTrueUnder v) pure → content_value v content ≡ v atom.place.0
  pub state : IsBound σ p.state atom.state

abbrev pub AllMet : List VarInfo → List Conj → List Atom → Substitution → List ℕ → List Atom → Type 0
AllMet vars pure atoms σ [] [] = Unit {0}
AllMet vars pure atoms σ [] (p ∷ pre) = ⊥
AllMet vars pure atoms σ (n ∷ used) [] = ⊥
AllMet vars pure atoms σ (n ∷ used) (p ∷ pre) = MetAt vars pure atoms σ n p × AllMet vars pure atoms σ used pre

get_front : (atoms new : List Atom) (n : ℕ) (a : Atom) → slice_get atoms n ≡ Some a → slice_get (atoms ++ new) n ≡ Some a
get_front [] new n a e = absent e
get_front (b ∷ atoms) new zero a e = e
get_front (b ∷ atoms) new (suc n) a e = get_front atoms new n a e

-- with more variables, conjuncts, atoms and contents
module _ (vars more : List VarInfo) (pure says : List Conj) (atoms new : List Atom) (σ τ : Substitution)
    (fewer : (v : Valuation) → Fits more v → Fits vars v) (before : (v : Valuation) → Fits more v → Each (IsTrueUnder v) says → Each (IsTrueUnder v) pure) where
  met_more : (n : ℕ) (p : Atom) → MetAt vars pure atoms σ n p → MetAt more says (atoms ++ new) (σ ++ τ) n p
  met_more n p h = record {
    atom = h.atom;
    at = get_front atoms new n h.atom h.at;
    block = h.block;
    content = h.content;
    place = found_more σ τ p.place.0 h.content h.place;
    same = λ v f t. h.same v (fewer v f) (before v f t);
    state = state_bound_more σ τ p.state h.atom.state h.state;
  }

  pub all_met_more : (used : List ℕ) (pre : List Atom) → AllMet vars pure atoms σ used pre → AllMet more says (atoms ++ new) (σ ++ τ) used pre
  all_met_more [] [] h = tt
  all_met_more [] (p ∷ pre) h = h
  all_met_more (n ∷ used) [] h = h
  all_met_more (n ∷ used) (p ∷ pre) h = (met_more n p h.0, all_met_more used pre h.1)

pub met_last : (vars : List VarInfo) (pure : List Conj) (atoms : List Atom) (σ : Substitution) (used : List ℕ) (pre : List Atom) (n : ℕ) (p : Atom) → AllMet vars pure atoms σ used pre → MetAt vars pure atoms σ n p → AllMet vars pure atoms σ (used ++ n ∷ []) (pre ++ p ∷ [])
met_last vars pure atoms σ [] [] n p h m = (m, tt)
met_last vars pure atoms σ [] (q ∷ pre) n p h m = absurd h
met_last vars pure atoms σ (k ∷ used) [] n p h m = absurd h
met_last vars pure atoms σ (k ∷ used) (q ∷ pre) n p h m = (h.0, met_last vars pure atoms σ used pre n p h.1 m)

-- under a valuation they are the caller's blocks
pub are_met : (vars : List VarInfo) (pure : List Conj) (atoms : List Atom) (σ : Substitution) (v : Valuation) → Fits vars v → Each (IsTrueUnder v) pure → (used : List ℕ) (pre : List Atom) → AllMet vars pure atoms σ used pre → AreMet v (through v σ) atoms used pre
are_met vars pure atoms σ v fits true_of [] [] h = tt
are_met vars pure atoms σ v fits true_of [] (p ∷ pre) h = h
are_met vars pure atoms σ v fits true_of (n ∷ used) [] h = h
are_met vars pure atoms σ v fits true_of (n ∷ used) (p ∷ pre) (m, h) = (
  (
    m.atom,
    m.at,
    sym (m.same v fits true_of) ∙ sym (ap (stood v) m.place),
    m.block,
    ap₂ (λ t (st : heap.HeapBlockState). record { block_type = t; state = st }) m.block (bound_state v σ p.state m.atom.state m.state),
  ),
  are_met vars pure atoms σ v fits true_of used pre h,
)
