-- The start of an execution from a calling state.
use Rattle.std.proofs.Common.{◌≡◌, ◌⊎◌, ℕ, zero, suc, ◌+◌, ◌<◌, true, false, Option, Some, List, [], ◌∷◌, ◌++◌, length, take, replicate, slice_get, refl, sym, ap, ap₂, ◌∙◌, subst, inl, inr, arith, IsSomeAnd}
use Rattle.std.proofs.lemmas.Option.{same_Some, slice_get_within}
use Rattle.px_terms.specs.Valuations.{Valuation, valuation_of, HasType}
use Rattle.px_terms.specs.declared.types.Value.{Value}
use Rattle.px_terms.specs.declared.types.Value.TheVariants as value
use Rattle.px_terms.specs.declared.types.ValueType.{ValueType}
use Rattle.px_terms.specs.declared.variables.Var.{Var}
use Rattle.px_terms.specs.declared.variables.VarInfo.{VarInfo}
use Rattle.px_terms.specs.declared.variables.Sort.TheVariants as sort
use Rattle.px_terms.specs.declared.conjuncts.Content.{Content}
use Rattle.px_terms.specs.declared.conjuncts.Content.TheVariants.{Unwritten, Cell}
use Rattle.px_core.specs.Constants.{HasConstantsInRange}
use Rattle.px_core.specs.Control.{acts}
use Rattle.px_core.specs.WellFormed.{IsWellFormedBody}
use Rattle.px_core.proofs.ItemLemmas.{body_well_formed}
use Rattle.px_entry.specs.Sorts.{is_some_and, same_type, has_type}
use Rattle.px_entry.specs.Contents.{fits_cell, variable_content}
use Rattle.px_entry.specs.Standing.{contents_value}
use Rattle.px_callgraph.specs.JobTree.{JobTree}
use Rattle.px_callgraph.specs.States.{content_at, info, given_slots, given_variables, start_of}
use Rattle.px_meaning.specs.Heaps.{HeapMap, AreWritten}
use Rattle.px_meaning.specs.Operations.{value_at}
use Rattle.px_meaning.specs.Calls.{IsCallingState}
use Rattle.px_meaning.specs.CoreCalls.{CoreProgram, Runs, CallsWithin, first_slots}
use Rattle.px_meaning.specs.CoreTypes.{IsTypedBody}
use Rattle.px_meaning.specs.Events.{mark_of}
use Rattle.px_meaning.proofs.TypedSteps.{acts_typed}
use Rattle.px_soundness.proofs.AtomHeaps.{absent}
use Rattle.px_soundness.proofs.WellTyped.{type_itself}
use Rattle.px_soundness.proofs.Contents.{variable_is_content}
use Rattle.px_soundness.proofs.Valid.{start_well_formed, slots_are}
use Rattle.px_coverage.specs.Covered.{Execution}
use Rattle.px_coverage.specs.Frees.{FreeKnown}
use Rattle.px_coverage.proofs.Stands.{HasSort, Stands, sort_fits}
use Rattle.px_coverage.proofs.Regards.{IsOutcome, Regards, acts_known}
use Rattle.px_coverage.proofs.ReadFollows.{variable_calm, variable_fits}
use Rattle.px_coverage.proofs.Steps.{UnderWay}

-- ---- parameters

given_at : (ts : List ValueType) (n : ℕ) (t : ValueType) → slice_get ts n ≡ Some t → slice_get (given_variables ts) n ≡ Some (info sort.Given t)
given_at [] n t e = absent e
given_at (u ∷ ts) zero t e = ap (λ z. Some (info sort.Given z)) (same_Some _ _ e)
given_at (u ∷ ts) (suc n) t e = given_at ts n t e

module _ (heap : HeapMap) where
  sorts_at : (ts : List ValueType) (us : List Value) (x : ℕ) (i : VarInfo) → AreWritten heap ts us → slice_get (given_variables ts) x ≡ Some i → HasSort heap i.sort i.value (value_at us x)
  sorts_at [] us x i h e = absent e
  sorts_at (t ∷ ts) [] x i h e = absurd h
  sorts_at (t ∷ ts) (u ∷ us) zero i h e = subst (λ (z : VarInfo). HasSort heap z.sort z.value u) (same_Some _ _ e) h.0
  sorts_at (t ∷ ts) (u ∷ us) (suc x) i h e = sorts_at ts us x i h.1 e

  argument_at : (ts : List ValueType) (us : List Value) (x : ℕ) (u : Value) → AreWritten heap ts us → slice_get us x ≡ Some u → (x < length (given_variables ts)) × (value_at us x ≡ u)
  argument_at [] [] x u h e = absent e
  argument_at [] (w ∷ us) x u h e = absurd h
  argument_at (t ∷ ts) [] x u h e = absurd h
  argument_at (t ∷ ts) (w ∷ us) zero u h e = (omega arith, same_Some _ _ e)
  argument_at (t ∷ ts) (w ∷ us) (suc x) u h e = let (l, is) = argument_at ts us x u h.1 e in (omega (arith, l), is)

  arguments_are : (v : Valuation) (ts : List ValueType) (us : List Value) (x : ℕ) → AreWritten heap ts us → ((i : ℕ) (u : Value) → slice_get us i ≡ Some u → v (x + i) ≡ u) → contents_value v (given_slots x ts) ≡ us
  arguments_are v [] [] x h f = refl
  arguments_are v [] (u ∷ us) x h f = absurd h
  arguments_are v (t ∷ ts) [] x h f = absurd h
  arguments_are v (t ∷ ts) (u ∷ us) x h f =
      let at : v x ≡ u = (let e : x ≡ x + 0 = omega arith in ap v e) ∙ f 0 u refl in
      ap₂ (λ (z : Value) zs. z ∷ zs) (variable_is_content v t x (subst (HasType t) (sym at) (sort_fits heap sort.Given t u h.0)) ∙ at)
      (arguments_are v ts us (suc x) h.1 (λ i w e. (let g : suc x + i ≡ x + suc i = omega arith in ap v g) ∙ f (suc i) w e))

-- a slot at the start is a parameter's or unwritten
abbrev IsStart : ℕ → List ValueType → ℕ → Content → Type 0
IsStart x ts n c = ((t : ValueType) × (slice_get ts n ≡ Some t) × (c ≡ variable_content t (x + n))) ⊎ (c ≡ Unwritten)

slot_at : (m x : ℕ) (ts : List ValueType) (r n : ℕ) → IsStart x ts n (content_at (take m (given_slots x ts ++ replicate r Unwritten)) n)
slot_at zero x ts r n = inr refl
slot_at (suc m) x [] zero n = inr refl
slot_at (suc m) x [] (suc r) zero = inr refl
slot_at (suc m) x [] (suc r) (suc n) = elim (slot_at m x [] r n) [ inl h ↦ absent h.1 | inr h ↦ inr h ]
slot_at (suc m) x (t ∷ ts) r zero = inl (t, refl, (let e : x ≡ x + 0 = omega arith in ap (variable_content t) e))
slot_at (suc m) x (t ∷ ts) r (suc n) = elim (slot_at m (suc x) ts r n) [
  | inl h ↦ inl (h.0, h.1, h.2 ∙ (let e : suc x + n ≡ x + suc n = omega arith in ap (variable_content h.0) e))
  | inr h ↦ inr h
]

module _ (P : CoreProgram) (j : JobTree) (same_types : j.types ≡ P.types) (kept : P.bodies j.proc.0 ≡ Some j.body) (range : HasConstantsInRange j.body) (body : IsTypedBody P j.body) (well_formed : IsWellFormedBody j.body) (known : FreeKnown P.types j.body.commands)
    (e : Execution) (calling : IsCallingState P.types j.body.parameters e.arguments e.before) where
  abbrev ts : List ValueType
  ts = j.body.parameters

  v : Valuation
  v = valuation_of e.arguments

  stands : Stands e v e.before (given_variables ts) [] [] []
  unfolding v
  stands = record {
    sorts = λ x i at. sorts_at e.before ts e.arguments x i calling.written at;
    given = λ x u at. argument_at e.before ts e.arguments x u calling.written at;
    true_of = tt;
    placed = tt;
    apart = λ n. inl refl;
    begins = refl;
  }

  regards : Regards body.slots well_formed.outcome (given_variables ts) (start_of j.body).slots (acts j.body.commands [])
  regards = record { typed = λ n. typed n (slot_at j.body.slots 0 ts j.body.slots n); calm = λ n x at. absurd (calm n x (slot_at j.body.slots 0 ts j.body.slots n) at); outcomes = λ n o. outcomes n o (slot_at j.body.slots 0 ts j.body.slots n) }
    where
      typed : (n : ℕ) → IsStart 0 ts n (content_at (start_of j.body).slots n) → fits_cell (given_variables ts) (body.slots n) (content_at (start_of j.body).slots n) ≡ true
      typed n (inr h) = subst (λ c. fits_cell (given_variables ts) (body.slots n) c ≡ true) (sym h) refl
      typed n (inl (t, at, h)) =
          let has : has_type (given_variables ts) t (0 + n) ≡ true = (let z : 0 + n ≡ n = omega arith in ap (has_type (given_variables ts) t) z) ∙ ap (λ (o : Option VarInfo). is_some_and o (λ (i : VarInfo). same_type i.value t)) (given_at ts n t at) ∙ type_itself t in
          subst (λ c. fits_cell (given_variables ts) (body.slots n) c ≡ true) (sym h)
          (subst (λ u. fits_cell (given_variables ts) u (variable_content t (0 + n)) ≡ true) (sym (body.parameters n t at)) (variable_fits (given_variables ts) t (0 + n) has))

      not_cell : (x : Var) → Unwritten ≡ Cell x → ⊥
      not_cell x f = cc

      calm : (n : ℕ) (x : Var) → IsStart 0 ts n (content_at (start_of j.body).slots n) → content_at (start_of j.body).slots n ≡ Cell x → ⊥
      calm n x (inr h) at = not_cell x (sym h ∙ at)
      calm n x (inl (t, is, h)) at = variable_calm t (0 + n) x (sym h ∙ at)

      outcomes : (n : ℕ) → well_formed.outcome n ≡ true → IsStart 0 ts n (content_at (start_of j.body).slots n) → IsOutcome (content_at (start_of j.body).slots n)
      outcomes n o (inr h) = inl h
      outcomes n o (inl (t, is, h)) = absurd (let f : true ≡ false = sym o ∙ well_formed.parameters n (slice_get_within ts n t is) in cc)

  slots : contents_value v (start_of j.body).slots ≡ first_slots j.body.slots e.arguments
  unfolding v
  slots = slots_are v j.body.slots j.body.slots (given_slots 0 ts) (omega arith)
      ∙ ap (first_slots j.body.slots) (arguments_are e.before v ts e.arguments 0 calling.written (λ i u at. (let z : 0 + i ≡ i = omega arith in ap v z) ∙ (argument_at e.before ts e.arguments i u calling.written at).1))

  -- the execution is under way at the start
  pub at_start_under_way : (n : ℕ) → CallsWithin mark_of (Some j.limits.unroll) P n j.proc.0 e.arguments e.before e.trace e.ending e.after →
      UnderWay P j same_types e calling.well_typed body.slots well_formed.outcome n (start_of j.body) (acts j.body.commands [])
  at_start_under_way n calls = record {
    well_formed = start_well_formed j range;
    lowered = record {
      typed = acts_typed P body.slots j.body.result j.body.commands [] body.commands tt;
      well_formed = body_well_formed j.body well_formed;
      known = acts_known P.types j.body.commands [] known tt;
    };
    going = record {
      regards = regards;
      valuation = v;
      rest = e.before;
      stands = stands;
      runs = subst (λ us. Runs mark_of (Some j.limits.unroll) P n (acts j.body.commands []) us e.before [] e.trace e.ending e.after) (sym slots)
          (subst (λ o. IsSomeAnd o (λ b. Runs mark_of (Some j.limits.unroll) P n (acts b.commands []) (first_slots b.slots e.arguments) e.before [] e.trace e.ending e.after)) kept calls);
    };
  }
