-- Each step of a command without access is that of a listed way.
use Rattle.std.proofs.Common.{◌≡◌, ℕ, Bool, true, false, Option, Some, List, [], ◌∷◌, slice_set, pos, refl, sym, ap, ◌∙◌, subst, subst₂, inl}
use Rattle.std.specs.Prelude.{is_some}
use Rattle.std.proofs.lemmas.Option.{same_Some}
use Rattle.px_terms.specs.Polynomials.{Polynomial}
use Rattle.px_terms.specs.Valuations.{Valuation, Fits}
use Rattle.px_terms.specs.declared.types.ValueType.TheVariants.{Int}
use Rattle.px_terms.specs.declared.variables.Var.{Var}
use Rattle.px_terms.specs.declared.conjuncts.Content.{Content}
use Rattle.px_terms.specs.declared.conjuncts.Content.TheVariants.{Unwritten, Word, Place, Cell}
use Rattle.px_core.specs.declared.command.Operand.{Operand}
use Rattle.px_core.specs.declared.command.Operand.TheVariants as operand
use Rattle.px_core.specs.declared.command.Operator.{Operator}
use Rattle.px_core.specs.declared.command.Operator.TheVariants.{Copy, Neg, Add, Sub, Mul}
use Rattle.px_core.specs.CommandTree.{CommandTree, assign, unset}
use Rattle.px_core.specs.Control.{Item, Act}
use Rattle.px_core.specs.Constants.{IsInRange}
use Rattle.px_core.specs.WellFormed.{Settles, IsOutcomeIn, IsOne, GivesOutcome}
use Rattle.px_entry.specs.Contents.{fits_cell}
use Rattle.px_entry.specs.Standing.{content_value, contents_value}
use Rattle.px_callgraph.specs.declared.states.State.{State}
use Rattle.px_callgraph.specs.declared.states.Way.{Way}
use Rattle.px_callgraph.specs.declared.states.Way.TheVariants as way
use Rattle.px_callgraph.specs.JobTree.{JobTree}
use Rattle.px_callgraph.specs.States.{operand_content, number}
use Rattle.px_callgraph.specs.Operations.{operation, made_terms}
use Rattle.px_callgraph.specs.Accesses.{listed_if}
use Rattle.px_callgraph.specs.Commands.{terms_of, assign_done, command_ways, act_done}
use Rattle.px_meaning.specs.Heaps.{HeapMap, join}
use Rattle.px_meaning.specs.Operations.{operand_value, result_of}
use Rattle.px_meaning.specs.Events.{mark_of}
use Rattle.px_meaning.specs.Steps.{Goes, command}
use Rattle.px_meaning.specs.CoreCalls.{CoreProgram}
use Rattle.px_meaning.specs.CoreTypes.{SlotTypes, IsOperationOf}
use Rattle.px_meaning.specs.Triples.{heap_of}
use Rattle.px_meaning.proofs.Taken.{some_to}
use Rattle.px_soundness.proofs.WellFormed.{WellTyped, CompleteAt}
use Rattle.px_soundness.proofs.AtomHeaps.{absent}
use Rattle.px_soundness.proofs.Contents.{set_is, operand_is, operation_is}
use Rattle.px_soundness.proofs.PlainSteps.{operand_good}
use Rattle.px_symexec.proofs.Lists.{IsIn}
use Rattle.px_coverage.specs.Covered.{Execution}
use Rattle.px_coverage.proofs.Stands.{Stands, stands_fits}
use Rattle.px_coverage.proofs.Regards.{IsOutcome, Regards, regards_set, operand_fits, operand_calm}
use Rattle.px_coverage.proofs.Conditions.{Kind, kind_of, operation_there, operation_int, outcome_of_sub}
use Rattle.px_coverage.proofs.Follows.{Onward, Calls, Comes}

-- ---- listed ways

pub in_if : (b : Bool) (w : Way) → b ≡ true → IsIn w (listed_if b w)
in_if true w e = inl refl
in_if false w e = cc

pub some_is_some : {A : Type 0} (o : Option A) (a : A) → o ≡ Some a → is_some o ≡ true
some_is_some o a e = ap is_some e

module _ (P : CoreProgram) (j : JobTree) (e : Execution) (types : SlotTypes) (outcome : ℕ → Bool) (n : ℕ)
    (s : State) (well_typed : WellTyped j.types s) (complete : CompleteAt j s) (v : Valuation) (rest : HeapMap) (stands : Stands e v rest s.vars s.pure s.pre s.atoms) where
  abbrev pub heap : HeapMap
  heap = join (heap_of v s.atoms) rest

  pub fits : Fits s.vars v
  fits = stands_fits j.types j.body.parameters s.vars s.pure s.pure s.pre s.atoms well_typed.atoms complete e v rest stands

  -- a listed way of the command leads on as the execution goes, to these items
  abbrev pub Found : CommandTree → List Item → Type 0
  Found c k = (w : Way) × IsIn w (command_ways j s c) × Comes P j e types outcome n k (act_done j c w s)

  -- the machine does the command
  abbrev pub Steps : CommandTree → List Item → Type 0
  Steps c k = command mark_of P.types (Calls P j e types outcome n) c k (contents_value v s.slots) heap (Onward P j e types outcome n s.trace)

  abbrev pub Regarded : List Content → List Item → Type 0
  Regarded slots k = Regards types outcome s.vars slots k

  module _ (k : List Item) where
    pub kind : (c : CommandTree) (a : Operand) → IsInRange a → ((m : ℕ) → Settles m c → ⊥) → Regarded s.slots (Act c ∷ k) → Kind v (operand_content s a)
    kind c a r none h = kind_of s.vars s.pure v (operand_content s a) fits stands.true_of (operand_good j.types s a well_typed r) (λ x is. operand_calm types outcome s (Act c ∷ k) none a x h is)

    -- ---- words

    module _ (to : ℕ) (op : Operator) (a b : Operand) (ra : IsInRange a) (rb : IsInRange b) (h : Regarded s.slots (Act (assign to op a b) ∷ k)) where
      none : (m : ℕ) → Settles m (assign to op a b) → ⊥
      none m x = x

      type_of : (c : Content) → operation op (operand_content s a) (operand_content s b) ≡ Some c → IsOperationOf types (types to) op a b → fits_cell s.vars (types to) c ≡ true
      type_of c is p = by op p is
        where
          words : (o : Operator) → (o ≡ Copy → ⊥) → operation o (operand_content s a) (operand_content s b) ≡ Some c → types to ≡ Int → fits_cell s.vars (types to) c ≡ true
          words o other is t =
              subst (λ z. fits_cell s.vars z c ≡ true) (sym t)
              (operation_int s.vars s.pure v fits stands.true_of o (operand_content s a) (operand_content s b) c other (operand_good j.types s a well_typed ra) (operand_good j.types s b well_typed rb) is)

          by : (o : Operator) → IsOperationOf types (types to) o a b → operation o (operand_content s a) (operand_content s b) ≡ Some c → fits_cell s.vars (types to) c ≡ true
          by Copy p is = subst (λ z. fits_cell s.vars (types to) z ≡ true) (same_Some _ _ is) (operand_fits types outcome s (Act (assign to op a b) ∷ k) (types to) a p h)
          by Neg p is = words Neg (λ f. cc) is p.0
          by Add p is = words Add (λ f. cc) is p.0
          by Sub p is = words Sub (λ f. cc) is p.0
          by Mul p is = words Mul (λ f. cc) is p.0

      calm_of : (c : Content) (x : Var) → operation op (operand_content s a) (operand_content s b) ≡ Some c → c ≡ Cell x → ⊥
      calm_of c x is at = by op is
        where
          no_word : (p : Polynomial) → Word p ≡ Cell x → ⊥
          no_word p f = cc

          of_int : (o : Operator) → (o ≡ Copy → ⊥) → operation o (operand_content s a) (operand_content s b) ≡ Some c → ⊥
          of_int o other is =
              made o other (operand_content s a) (operand_content s b) is
            where
              made : (o : Operator) → (o ≡ Copy → ⊥) → (y z : Content) → operation o y z ≡ Some c → ⊥
              made Copy other y z f = other refl
              made Neg other (Word p) z f = no_word _ (same_Some _ _ f ∙ at)
              made Neg other Unwritten z f = absent f
              made Neg other (Place p) z f = absent f
              made Neg other (Cell p) z f = absent f
              made Add other (Word p) (Word q) f = no_word _ (same_Some _ _ f ∙ at)
              made Add other (Word p) Unwritten f = absent f
              made Add other (Word p) (Place q) f = absent f
              made Add other (Word p) (Cell q) f = absent f
              made Add other Unwritten z f = absent f
              made Add other (Place p) z f = absent f
              made Add other (Cell p) z f = absent f
              made Sub other (Word p) (Word q) f = no_word _ (same_Some _ _ f ∙ at)
              made Sub other (Word p) Unwritten f = absent f
              made Sub other (Word p) (Place q) f = absent f
              made Sub other (Word p) (Cell q) f = absent f
              made Sub other Unwritten z f = absent f
              made Sub other (Place p) z f = absent f
              made Sub other (Cell p) z f = absent f
              made Mul other (Word p) (Word q) f = no_word _ (same_Some _ _ f ∙ at)
              made Mul other (Word p) Unwritten f = absent f
              made Mul other (Word p) (Place q) f = absent f
              made Mul other (Word p) (Cell q) f = absent f
              made Mul other Unwritten z f = absent f
              made Mul other (Place p) z f = absent f
              made Mul other (Cell p) z f = absent f

          by : (o : Operator) → operation o (operand_content s a) (operand_content s b) ≡ Some c → ⊥
          by Copy is = operand_calm types outcome s (Act (assign to op a b) ∷ k) none a x h (same_Some _ _ is ∙ at)
          by Neg is = of_int Neg (λ f. cc) is
          by Add is = of_int Add (λ f. cc) is
          by Sub is = of_int Sub (λ f. cc) is
          by Mul is = of_int Mul (λ f. cc) is

      outcome_in : (y : Operand) → IsOutcomeIn outcome y → IsOutcome (operand_content s y)
      outcome_in (operand.Slot m) o = h.outcomes m o
      outcome_in (operand.Word z) o = absurd o
      outcome_in operand.Null o = absurd o

      one : (y : Operand) → IsOne y → operand_content s y ≡ Word (number (pos 1))
      one (operand.Slot m) o = absurd o
      one (operand.Word z) o = ap (λ w. Word (number w)) o
      one operand.Null o = absurd o

      outcome_from : (c : Content) → operation op (operand_content s a) (operand_content s b) ≡ Some c → GivesOutcome outcome op a b → IsOutcome c
      outcome_from c is g = by op g is
        where
          by : (o : Operator) → GivesOutcome outcome o a b → operation o (operand_content s a) (operand_content s b) ≡ Some c → IsOutcome c
          by Copy g is = subst IsOutcome (same_Some _ _ is) (outcome_in a g)
          by Sub g is = outcome_of_sub (operand_content s b) c (outcome_in b g.1) (subst (λ z. operation Sub z (operand_content s b) ≡ Some c) (one a g.0) is)
          by Neg g is = absurd g
          by Add g is = absurd g
          by Mul g is = absurd g

      pub follow_assign : IsOperationOf types (types to) op a b → (outcome to ≡ true → GivesOutcome outcome op a b) → Steps (assign to op a b) k → Found (assign to op a b) k
      follow_assign p g step =
          some_to (result_of op (operand_value (contents_value v s.slots) a) (operand_value (contents_value v s.slots) b))
          (λ u. Onward P j e types outcome n s.trace [] (Goes k (slice_set (contents_value v s.slots) to u) heap)) (Found (assign to op a b) k)
          (λ u is rest_of.
          let is' : result_of op (content_value v (operand_content s a)) (content_value v (operand_content s b)) ≡ Some u =
          subst₂ (λ y z. result_of op y z ≡ Some u) (operand_is v s a ra) (operand_is v s b rb) is in
          let (c, made) = operation_there s.vars s.pure v fits stands.true_of op (operand_content s a) (operand_content s b) u (kind (assign to op a b) a ra none h) (kind (assign to op a b) b rb none h) is' in
          let same : content_value v c ≡ u = same_Some _ _ (sym (operation_is s.vars s.pure v op (operand_content s a) (operand_content s b) c (operand_good j.types s a well_typed ra) (operand_good j.types s b well_typed rb) made) ∙ is') in (
            way.On,
            in_if (is_some (operation op (operand_content s a) (operand_content s b))) way.On (some_is_some (operation op (operand_content s a) (operand_content s b)) c made),
            subst (λ o. Comes P j e types outcome n k (assign_done to (terms_of o (made_terms op)) o s)) (sym made) (record {
              regards = regards_set types outcome s.vars s.slots (Act (assign to op a b) ∷ k) k to c (λ m x. absurd x) (type_of c made p) (λ x at. absurd (calm_of c x made at)) (λ o. outcome_from c made (g o)) h;
              valuation = v;
              rest = rest;
              stands = stands;
              runs = subst (λ z. Onward P j e types outcome n s.trace [] (Goes k z heap)) (ap (slice_set (contents_value v s.slots) to) (sym same) ∙ sym (set_is v s.slots to c)) rest_of;
            }),
          )) step

    pub follow_unset : (to : ℕ) → Regarded s.slots (Act (unset to) ∷ k) → Steps (unset to) k → Found (unset to) k
    follow_unset to h step = (
      way.On,
      inl refl,
      record {
        regards = regards_set types outcome s.vars s.slots (Act (unset to) ∷ k) k to Unwritten (λ m x. sym x) refl (λ x at. cc) (λ o. inl refl) h;
        valuation = v;
        rest = rest;
        stands = stands;
        runs = subst (λ z. Onward P j e types outcome n s.trace [] (Goes k z heap)) (sym (set_is v s.slots to Unwritten)) step;
      },
    )
