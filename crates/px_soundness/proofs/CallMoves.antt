-- The moves by which a required block is met: what stands for its cells, and the states before and after.
use Rattle.std.proofs.Common.{◌≡◌, ◌≢◌, ℕ, Bool, true, false, cond, nat_eq, Some, None, List, [], ◌∷◌, ◌++◌, length, refl, sym, ap, subst, append_assoc}
use Rattle.std.specs.Prelude.{flat_map}
use Rattle.std.proofs.lemmas.Bool.{and_parts, eq-eqb, eqb-true}
use Rattle.px_terms.specs.Substitutions.{content_for}
use Rattle.px_terms.specs.Valuations.{Valuation, Fits}
use Rattle.px_terms.specs.Conjuncts.{place_of, IsTrueUnder}
use Rattle.px_terms.specs.declared.types.TypeId.{TypeId}
use Rattle.px_terms.specs.declared.types.BlockType.{BlockType}
use Rattle.px_terms.specs.declared.types.ValueType.{ValueType}
use Rattle.px_terms.specs.declared.variables.Var.{Var}
use Rattle.px_terms.specs.declared.variables.VarInfo.{VarInfo}
use Rattle.px_terms.specs.declared.conjuncts.Place.{Place as PlaceOf}
use Rattle.px_terms.specs.declared.conjuncts.Place.TheVariants as place
use Rattle.px_terms.specs.declared.conjuncts.Content.{Content}
use Rattle.px_terms.specs.declared.conjuncts.Content.TheVariants.{Unwritten, Word, Place, Cell}
use Rattle.px_terms.specs.declared.conjuncts.Conj.{Conj}
use Rattle.px_terms.specs.declared.conjuncts.Conj.TheVariants.{SamePlace}
use Rattle.px_terms.proofs.Agreement.{fits_fewer}
use Rattle.px_core.specs.Control.{Item}
use Rattle.px_entry.specs.declared.atoms.AtomState.TheVariants.{Live, Freed}
use Rattle.px_entry.specs.Decided.{is_open, assume}
use Rattle.px_entry.specs.Contents.{fit_each, cell_variables}
use Rattle.px_entry.specs.Regular.{is_own_cell}
use Rattle.px_entry.proofs.Lists.{Each}
use Rattle.px_callgraph.specs.declared.states.State.{State}
use Rattle.px_callgraph.specs.States.{Outcome, assumed}
use Rattle.px_callgraph.specs.Accesses.{atom_of, cell_contents, cell_infos, block_cells, meet_live, meet_freed}
use Rattle.px_callgraph.specs.Renaming.{Substitution, stand_cells}
use Rattle.px_soundness.proofs.AtomHeaps.{absent}
use Rattle.px_soundness.proofs.Truths.{decided_says, assume_says}
use Rattle.px_soundness.proofs.Sound.{Can, Sound, sound_assumed, sound_met}
use Rattle.px_soundness.proofs.CallTaken.{AreDistinct}
use Rattle.px_soundness.proofs.CallMatches.{AreBound}

-- ---- what stands for cells

-- nothing stands for these yet
abbrev pub AreFresh : Substitution → List ℕ → Type 0
AreFresh σ ys = Each (λ y. content_for σ y ≡ None) ys

found_last : (σ rest : Substitution) (y : Var) (c : Content) → content_for σ y.0 ≡ None → content_for (σ ++ (y, c) ∷ rest) y.0 ≡ Some c
found_last [] rest y c e = ap (λ q. cond q (Some c) (content_for rest y.0)) (eq-eqb y.0 y.0 refl)
found_last (b ∷ σ) rest y c e = by (nat_eq b.0.0 y.0) (found_last σ rest y c) e
  where
    by : (q : Bool) → (content_for σ y.0 ≡ None → content_for (σ ++ (y, c) ∷ rest) y.0 ≡ Some c) → cond q (Some b.1) (content_for σ y.0) ≡ None → cond q (Some b.1) (content_for (σ ++ (y, c) ∷ rest) y.0) ≡ Some c
    by true more e = absent (sym e)
    by false more e = more e

none_push : (σ : Substitution) (y z : ℕ) (c : Content) → content_for σ z ≡ None → y ≢ z → content_for (σ ++ (record { 0 = y }, c) ∷ []) z ≡ None
none_push [] y z c e d = by (nat_eq y z) refl
  where
    by : (q : Bool) → nat_eq y z ≡ q → cond q (Some c) None ≡ None
    by true is = absurd (d (eqb-true y z is))
    by false is = refl
none_push (b ∷ σ) y z c e d = by (nat_eq b.0.0 z) (none_push σ y z c) e
  where
    by : (q : Bool) → (content_for σ z ≡ None → y ≢ z → content_for (σ ++ (record { 0 = y }, c) ∷ []) z ≡ None) → cond q (Some b.1) (content_for σ z) ≡ None → cond q (Some b.1) (content_for (σ ++ (record { 0 = y }, c) ∷ []) z) ≡ None
    by true more e = absent (sym e)
    by false more e = more e d

fresh_push : (σ : Substitution) (y : ℕ) (c : Content) (zs : List ℕ) → AreFresh σ zs → Each (λ z. y ≢ z) zs → AreFresh (σ ++ (record { 0 = y }, c) ∷ []) zs
fresh_push σ y c [] f d = tt
fresh_push σ y c (z ∷ zs) f d = (none_push σ y z c f.0 d.0, fresh_push σ y c zs f.1 d.1)

-- the cells of a required block stand for those of the caller's block, one for one
pub bound_new : (fits : ValueType → Content → Bool) (xs : List VarInfo) (σ : Substitution) (ts : List ValueType) (ps cs : List Content) → fit_each (is_own_cell xs) ts ps ≡ true → fit_each fits ts cs ≡ true →
    AreFresh σ (flat_map cell_variables ps) → AreDistinct (flat_map cell_variables ps) → AreBound (σ ++ stand_cells ps cs) ps cs
bound_new fits xs σ [] [] [] e f new d = tt
bound_new fits xs σ [] [] (c ∷ cs) e f new d = cc
bound_new fits xs σ [] (p ∷ ps) cs e f new d = cc
bound_new fits xs σ (t ∷ ts) [] cs e f new d = cc
bound_new fits xs σ (t ∷ ts) (p ∷ ps) [] e f new d = cc
bound_new fits xs σ (t ∷ ts) (Unwritten ∷ ps) (c ∷ cs) e f new d = cc
bound_new fits xs σ (t ∷ ts) (Word p ∷ ps) (c ∷ cs) e f new d = cc
bound_new fits xs σ (t ∷ ts) (Place a ∷ ps) (c ∷ cs) e f new d = cc
bound_new fits xs σ (t ∷ ts) (Cell y ∷ ps) (c ∷ cs) e f new d =
    let own = and_parts (is_own_cell xs t (Cell y)) (fit_each (is_own_cell xs) ts ps) e in
    let other = and_parts (fits t c) (fit_each fits ts cs) f in
    let first : Substitution = σ ++ (y, c) ∷ [] in (
      found_last σ (stand_cells ps cs) y c new.0,
      subst (λ (z : Substitution). AreBound z ps cs) (append_assoc σ ((y, c) ∷ []) (stand_cells ps cs))
          (bound_new fits xs first ts ps cs own.1 other.1 (fresh_push σ y.0 c (flat_map cell_variables ps) new.1 d.0) d.1),
    )

-- ---- the states before and after

-- the place is that of an atom
pub said_same : (vars : List VarInfo) (pure : List Conj) (a : PlaceOf) (x : Var) (v : Valuation) → Fits vars v → is_open vars (SamePlace a (place.Var x)) ≡ true → Each (IsTrueUnder v) (assume vars pure (SamePlace a (place.Var x))) →
    Each (IsTrueUnder v) pure × (place_of v a ≡ v x.0)
said_same vars pure a x v fits o h = assume_says vars pure (SamePlace a (place.Var x)) v (decided_says vars v (SamePlace a (place.Var x)) fits o tt) h

module _ (C : Can) (k : List Item) (t : State) (o : Outcome) where
  pub sound_same_place : (u : State) (a : PlaceOf) (x : Var) → is_open u.vars (SamePlace a (place.Var x)) ≡ true → Sound C (assumed (SamePlace a (place.Var x)) u) k t o → Sound C u k t o
  sound_same_place u a x open' step =
      sound_assumed C C u (SamePlace a (place.Var x)) k t o (λ v fits. decided_says u.vars v (SamePlace a (place.Var x)) fits open' tt) step (λ v further K h says go. go)

  pub sound_meet_freed : (u : State) (block : TypeId) (x : Var) → Sound C (meet_freed block x u) k t o → Sound C u k t o
  sound_meet_freed u block x step = sound_met C C u (atom_of x block Freed) u.vars k t o (λ v f. f) step (λ v H K g. g)

  pub sound_meet_live : (types : List BlockType) (u : State) (block : TypeId) (x : Var) → Sound C (meet_live types block x u) k t o → Sound C u k t o
  sound_meet_live types u block x step =
      sound_met C C u (atom_of x block (Live (cell_contents (length u.vars) (block_cells types block)))) (u.vars ++ cell_infos (block_cells types block)) k t o
      (λ v f. fits_fewer u.vars (cell_infos (block_cells types block)) v f) step (λ v H K g. g)
