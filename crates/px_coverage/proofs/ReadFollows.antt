-- Each step of a read, a test, and a command of control is that of a listed way.
use Rattle.std.proofs.Common.{◌≡◌, ℕ, zero, suc, Bool, true, false, Option, Some, List, [], ◌∷◌, length, slice_set, nat_lt, pos, refl, sym, ap, ◌∙◌, subst, subst₂, inl, inr}
use Rattle.std.specs.Prelude.{ℤ}
use Rattle.std.proofs.lemmas.Bool.{and_parts, and_from, lt-ltb}
use Rattle.std.proofs.lemmas.Option.{same_Some, slice_get_within}
use Rattle.px_base.specs.declared.trace.Site.{Site}
use Rattle.px_base.specs.declared.trace.MarkKind.{MarkKind}
use Rattle.px_base.specs.declared.trace.MarkKind.TheVariants as mark
use Rattle.px_base.specs.declared.trace.Kind.TheVariants.{UninitialisedRead}
use Rattle.px_terms.specs.Valuations.{Valuation, IsPlace, IsUnwritten, HasType, FitsSort, Fits}
use Rattle.px_terms.specs.Conjuncts.{place_of, IsTrueUnder}
use Rattle.px_terms.specs.declared.types.Value.{Value}
use Rattle.px_terms.specs.declared.types.Value.TheVariants as value
use Rattle.px_terms.specs.declared.types.ValueType.{ValueType}
use Rattle.px_terms.specs.declared.types.ValueType.TheVariants.{Int, Pointer}
use Rattle.px_terms.specs.declared.variables.Var.{Var}
use Rattle.px_terms.specs.declared.variables.VarInfo.{VarInfo}
use Rattle.px_terms.specs.declared.variables.Sort.{Sort}
use Rattle.px_terms.specs.declared.variables.Sort.TheVariants as sort
use Rattle.px_terms.specs.declared.conjuncts.Content.{Content}
use Rattle.px_terms.specs.declared.conjuncts.Content.TheVariants.{Unwritten, Word, Place, Cell}
use Rattle.px_terms.specs.declared.conjuncts.Conj.{Conj}
use Rattle.px_terms.specs.declared.conjuncts.Conj.TheVariants as conjunct
use Rattle.px_core.specs.declared.command.Operand.{Operand}
use Rattle.px_core.specs.declared.command.Comparison.{Comparison}
use Rattle.px_core.specs.CommandTree.{CommandTree, read, test}
use Rattle.px_core.specs.Control.{Item, Act}
use Rattle.px_core.specs.Constants.{IsInRange}
use Rattle.px_core.specs.WellFormedItems.{SettlesFirst}
use Rattle.px_entry.specs.Sorts.{is_cell_sort, is_some_and, is_int_type, is_cell, is_int, has_type, same_type}
use Rattle.px_entry.specs.Decided.{is_open, assume}
use Rattle.px_entry.specs.Contents.{fits_cell, variable_content}
use Rattle.px_entry.specs.Standing.{content_value, contents_value}
use Rattle.px_callgraph.specs.declared.states.State.{State}
use Rattle.px_callgraph.specs.declared.states.Way.{Way}
use Rattle.px_callgraph.specs.declared.states.Way.TheVariants as way
use Rattle.px_callgraph.specs.JobTree.{JobTree}
use Rattle.px_callgraph.specs.States.{content_at, operand_content, number, set_slot, marked, assumed}
use Rattle.px_callgraph.specs.Operations.{condition, contrary}
use Rattle.px_callgraph.specs.Commands.{read_ways, read_cell, read_done, open_if, test_outcome, command_ways, act_done}
use Rattle.px_meaning.specs.Heaps.{HeapMap, join}
use Rattle.px_meaning.specs.Operations.{value_at, operand_value, result_of}
use Rattle.px_meaning.specs.Operations as core
use Rattle.px_meaning.specs.Calls.{error, Failed}
use Rattle.px_meaning.specs.Events.{mark_of}
use Rattle.px_meaning.specs.Steps.{Goes, Ends, by_written, command}
use Rattle.px_meaning.specs.CoreCalls.{CoreProgram}
use Rattle.px_meaning.specs.CoreTypes.{SlotTypes}
use Rattle.px_meaning.specs.Triples.{heap_of}
use Rattle.px_meaning.proofs.TypedSteps.{one_fits, none_fits}
use Rattle.px_soundness.proofs.WellFormed.{Good, WellTyped, CompleteAt}
use Rattle.px_soundness.proofs.Truths.{HasForm, variable_is}
use Rattle.px_soundness.proofs.FitsThrough.{same_is}
use Rattle.px_soundness.proofs.Contents.{good_place, slot_is, set_is, operand_is, number_is, variable_is_content, condition_form, contrary_form}
use Rattle.px_soundness.proofs.PlainSteps.{content_good, operand_good}
use Rattle.px_symexec.proofs.Lists.{IsIn, in_left, in_right}
use Rattle.px_coverage.specs.Covered.{Execution}
use Rattle.px_coverage.proofs.Stands.{Stands}
use Rattle.px_coverage.proofs.Opens.{open_true, assume_true}
use Rattle.px_coverage.proofs.Regards.{IsOutcome, Regards, regards_set}
use Rattle.px_coverage.proofs.Conditions.{Kind, MayBe, condition_may, contrary_may}
use Rattle.px_coverage.proofs.Follows.{Onward, Calls, Going, Comes}
use Rattle.px_coverage.proofs.PlainFollows.{in_if, some_is_some}
use Rattle.px_coverage.proofs.PlainFollows as plain

written : (u : Value) (X Y R : Type 0) → ((u ≡ value.Unwritten → ⊥) → X → R) → (u ≡ value.Unwritten → Y → R) → by_written u X Y → R
written (value.Word z) X Y R f g h = f (λ e. cc) h
written value.Null X Y R f g h = f (λ e. cc) h
written (value.Block n) X Y R f g h = f (λ e. cc) h
written value.Unwritten X Y R f g h = g refl h

unwritten_is : (u : Value) → IsUnwritten u → u ≡ value.Unwritten
unwritten_is (value.Word z) h = absurd h
unwritten_is value.Null h = absurd h
unwritten_is (value.Block n) h = absurd h
unwritten_is value.Unwritten h = refl

cell_type : (s : Sort) (t : ValueType) (u : Value) → is_cell_sort s ≡ true → FitsSort s t u → (u ≡ value.Unwritten → ⊥) → HasType t u
cell_type sort.Given t u c h w = absurd (let f : false ≡ true = c in cc)
cell_type sort.Input t u c h w = absurd (let f : false ≡ true = c in cc)
cell_type sort.Made t u c h w = absurd (let f : false ≡ true = c in cc)
cell_type sort.Cell t (value.Word z) c h w = h
cell_type sort.Cell t value.Null c h w = h
cell_type sort.Cell t (value.Block n) c h w = h
cell_type sort.Cell t value.Unwritten c h w = absurd (w refl)

place_not_unwritten : (u : Value) → IsPlace u → u ≡ value.Unwritten → ⊥
place_not_unwritten u p e = subst IsPlace e p

-- a variable's content isn't an unread cell, and fits its own type
pub variable_calm : (t : ValueType) (x : ℕ) (y : Var) → variable_content t x ≡ Cell y → ⊥
variable_calm Int x y e = cc
variable_calm (Pointer t) x y e = cc

pub variable_fits : (vars : List VarInfo) (t : ValueType) (x : ℕ) → has_type vars t x ≡ true → fits_cell vars t (variable_content t x) ≡ true
variable_fits vars (Pointer t) x h = h
variable_fits vars Int x h = and_from _ _ (ints h) refl
  where
    ints : has_type vars Int x ≡ true → is_int vars x ≡ true
    ints h = let (i, at, t) = variable_is vars (λ (i : VarInfo). same_type i.value Int) x h in ap (λ (o : Option VarInfo). is_some_and o (λ (i : VarInfo). is_int_type i.value)) at ∙ ap is_int_type (same_is i.value Int t)

word_not_unwritten : (z : ℤ) → value.Word z ≡ value.Unwritten → ⊥
word_not_unwritten z e = cc

no_outcome_cell : (x : Var) → IsOutcome (Cell x) → ⊥
no_outcome_cell x (inl e) = cc
no_outcome_cell x (inr (inl e)) = cc
no_outcome_cell x (inr (inr e)) = cc

module _ (P : CoreProgram) (j : JobTree) (e : Execution) (types : SlotTypes) (outcome : ℕ → Bool) (n : ℕ)
    (s : State) (well_typed : WellTyped j.types s) (complete : CompleteAt j s) (v : Valuation) (rest : HeapMap) (stands : Stands e v rest s.vars s.pure s.pre s.atoms) where
  abbrev heap : HeapMap
  heap = join (heap_of v s.atoms) rest

  fits : Fits s.vars v
  fits = plain.fits P j e types outcome n s well_typed complete v rest stands

  abbrev pub Found : CommandTree → List Item → Type 0
  Found c k = (w : Way) × IsIn w (command_ways j s c) × Comes P j e types outcome n k (act_done j c w s)

  abbrev pub StepsTo : CommandTree → List Item → Type 0
  StepsTo c k = command mark_of P.types (Calls P j e types outcome n) c k (contents_value v s.slots) heap (Onward P j e types outcome n s.trace)

  abbrev Regarded : List Content → List Item → Type 0
  Regarded slots k = Regards types outcome s.vars slots k

  -- with one conjunct more that is true
  pub stands_assumed : (c : Conj) → IsTrueUnder v c → Stands e v rest s.vars (assume s.vars s.pure c) s.pre s.atoms
  stands_assumed c t = record { sorts = stands.sorts; given = stands.given; true_of = assume_true s.vars s.pure c v stands.true_of t; placed = stands.placed; apart = stands.apart; begins = stands.begins }

  module _ (k : List Item) where
    -- ---- reads

    module _ (slot : ℕ) (site : Site) (h : Regarded s.slots (Act (read slot site) ∷ k)) where
      X : Type 0
      X = Onward P j e types outcome n s.trace [] (Goes k (contents_value v s.slots) heap)

      Y : Type 0
      Y = Onward P j e types outcome n s.trace [] (Ends (Failed (error UninitialisedRead) site) heap)

      -- a way of the read of this content
      abbrev Reads : Content → Type 0
      Reads c = (w : Way) × IsIn w (read_ways s.vars c) × Comes P j e types outcome n k (read_done slot site c w s)

      -- no slot is read next but this
      only : (m : ℕ) → SettlesFirst m (Act (read slot site) ∷ k) → m ≡ slot
      only m is = sym is

      same : (c : Content) → content_at s.slots slot ≡ c → ((x : Var) → c ≡ Cell x → ⊥) → Regarded s.slots k
      same c is calm = record { typed = h.typed; calm = λ m x at. absurd (calm x (sym is ∙ sym (ap (content_at s.slots) (only m (h.calm m x at))) ∙ at)); outcomes = h.outcomes }

      on_it_goes : (c : Content) → content_at s.slots slot ≡ c → ((x : Var) → c ≡ Cell x → ⊥) → X → Going P j e types outcome n s k
      unfolding X
      on_it_goes c is calm x = record { regards = same c is calm; valuation = v; rest = rest; stands = stands; runs = x }

      read_of_cell : (x : Var) → content_at s.slots slot ≡ Cell x → Good s.vars s.pure (Cell x) → by_written (v x.0) X Y → Reads (Cell x)
      unfolding X Y
      read_of_cell x is g step =
          let (i, at, c) = variable_is s.vars (λ (i : VarInfo). is_cell_sort i.sort) x.0 g in
          let below : nat_lt x.0 (length s.vars) ≡ true = lt-ltb x.0 (length s.vars) (slice_get_within s.vars x.0 i at) in
          let t : fits_cell s.vars (types slot) (Cell x) ≡ true = subst (λ z. fits_cell s.vars (types slot) z ≡ true) is (h.typed slot) in
          let typed : has_type s.vars (types slot) x.0 ≡ true = (and_parts (is_cell s.vars x.0) (has_type s.vars (types slot) x.0) t).1 in
          let (k', at', type) = variable_is s.vars (λ (i : VarInfo). same_type i.value (types slot)) x.0 typed in
          let one : k' ≡ i = same_Some _ _ (sym at' ∙ at) in
          let is_type : i.value ≡ types slot = ap (λ (z : VarInfo). z.value) (sym one) ∙ same_is k'.value (types slot) type in
          written (v x.0) X Y (Reads (Cell x))
          (λ some_w go. (
            way.Written,
            subst (λ b. IsIn way.Written (elim b as (λ _. List Way) [ true ↦ way.Written ∷ way.Unwritten ∷ [] | false ↦ [] ])) (sym below) (inl refl),
            subst (λ o. Comes P j e types outcome n k (read_cell slot x o s)) (sym at) (record {
              regards = regards_set types outcome s.vars s.slots (Act (read slot site) ∷ k) k slot (variable_content i.value x.0) only
                  (subst (λ z. fits_cell s.vars (types slot) (variable_content z x.0) ≡ true) (sym is_type) (variable_fits s.vars (types slot) x.0 typed))
                  (λ y f. absurd (variable_calm i.value x.0 y f)) (λ o. absurd (no_outcome_cell x (subst IsOutcome is (h.outcomes slot o)))) h;
              valuation = v;
              rest = rest;
              stands = stands_assumed (conjunct.Written x) (λ u. some_w (unwritten_is (v x.0) u));
              runs = subst (λ z. Onward P j e types outcome n s.trace [] (Goes k z heap)) (set_same (variable_content i.value x.0)
                  (variable_is_content v i.value x.0 (cell_type i.sort i.value (v x.0) c (fits.sorts x.0 i at) some_w))) go;
            }),
          ))
          (λ none go. (
            way.Unwritten,
            subst (λ b. IsIn way.Unwritten (elim b as (λ _. List Way) [ true ↦ way.Written ∷ way.Unwritten ∷ [] | false ↦ [] ])) (sym below) (inr (inl refl)),
            record {
              valuation = v;
              rest = rest;
              stands = stands_assumed (conjunct.Unwritten x) (subst IsUnwritten (sym none) tt);
              trace = go.0;
              ending = go.1;
              after = go.2;
            },
          )) step
        where
          set_itself : (us : List Value) (m : ℕ) → us ≡ slice_set us m (value_at us m)
          set_itself [] m = refl
          set_itself (u ∷ us) zero = refl
          set_itself (u ∷ us) (suc m) = ap (λ (ws : List Value). u ∷ ws) (set_itself us m)

          set_same : (c : Content) → content_value v c ≡ v x.0 → contents_value v s.slots ≡ contents_value v (slice_set s.slots slot c)
          set_same c f =
              set_itself (contents_value v s.slots) slot
              ∙ ap (slice_set (contents_value v s.slots) slot) (slot_is v s.slots slot ∙ ap (content_value v) is ∙ sym f)
              ∙ sym (set_is v s.slots slot c)

      read_of : (c : Content) → content_at s.slots slot ≡ c → Good s.vars s.pure c → by_written (content_value v c) X Y → Reads c
      unfolding X Y
      read_of Unwritten is g step = (way.Unwritten, inl refl, record { valuation = v; rest = rest; stands = stands; trace = step.0; ending = step.1; after = step.2 })
      read_of (Word p) is g step = (way.Written, inl refl, on_it_goes (Word p) is (λ x f. cc) step)
      read_of (Place a) is g step =
          written (place_of v a) X Y (Reads (Place a)) (λ w go. (way.Written, inl refl, on_it_goes (Place a) is (λ x f. cc) go))
          (λ none go. absurd (place_not_unwritten (place_of v a) (good_place s.vars s.pure v a fits stands.true_of g) none)) step
      read_of (Cell x) is g step = read_of_cell x is g step

      pub follow_read : StepsTo (read slot site) k → Found (read slot site) k
      unfolding X Y
      follow_read step = read_of (content_at s.slots slot) refl (content_good s.vars s.pure s.slots slot well_typed.slots) (subst (λ u. by_written u X Y) (slot_is v s.slots slot) step)

    -- ---- tests

    module _ (to : ℕ) (how : Comparison) (a b : Operand) (site : Site) (ra : IsInRange a) (rb : IsInRange b) (int : types to ≡ Int) (h : Regarded s.slots (Act (test to how a b site) ∷ k)) where
      kind : (y : Operand) → IsInRange y → Kind v (operand_content s y)
      kind y r = plain.kind P j e types outcome n s well_typed complete v rest stands k (test to how a b site) y r (λ m x. x) h

      outcome_going : (kind : MarkKind) (m : ℕ) (c : Conj) → IsTrueUnder v c → IsOutcome (Word (number (pos m))) → content_value v (Word (number (pos m))) ≡ value.Word (pos m) →
          Onward P j e types outcome n s.trace (record { kind = kind; site = site } ∷ []) (Goes k (slice_set (contents_value v s.slots) to (value.Word (pos m))) heap) →
          Going P j e types outcome n (set_slot to (Word (number (pos m))) (assumed c (marked kind site s))) k
      outcome_going kind m c t o is go = record {
        regards = regards_set types outcome s.vars s.slots (Act (test to how a b site) ∷ k) k to (Word (number (pos m))) (λ m x. absurd x) (subst (λ z. fits_cell s.vars z (Word (number (pos m))) ≡ true) (sym int) refl) (λ x f. cc) (λ z. o) h;
        valuation = v;
        rest = rest;
        stands = stands_assumed c t;
        runs = subst (λ z. Onward P j e types outcome n s.trace (record { kind = kind; site = site } ∷ []) (Goes k z heap)) (ap (slice_set (contents_value v s.slots) to) (sym is) ∙ sym (set_is v s.slots to (Word (number (pos m))))) go;
      }

      opened : (o : Option Conj) (w : Way) → MayBe s.vars s.pure v fits stands.true_of o → ((c : Conj) → o ≡ Some c → HasForm c) → IsIn w (open_if s.vars o w)
      opened o w m form = subst (λ z. IsIn w (open_if s.vars z w)) (sym m.is) (in_if (is_open s.vars m.conjunct) w (open_true s.vars v fits m.conjunct m.sorted (form m.conjunct m.is) m.says))

      abbrev yes : Option Conj
      yes = condition how (operand_content s a) (operand_content s b)

      abbrev no' : Option Conj
      no' = contrary how (operand_content s a) (operand_content s b)

      pub follow_test : StepsTo (test to how a b site) k → Found (test to how a b site) k
      follow_test (inl (holds, go)) =
          let m = condition_may s.vars s.pure v fits stands.true_of how (operand_content s a) (operand_content s b) (operand_good j.types s a well_typed ra) (operand_good j.types s b well_typed rb) (kind a ra) (kind b rb)
          (subst₂ (core.Holds how) (operand_is v s a ra) (operand_is v s b rb) holds) in (
            way.Then,
            in_left way.Then (open_if s.vars yes way.Then) (open_if s.vars no' way.Else)
                (opened yes way.Then m (λ c is. condition_form s.vars s.pure how (operand_content s a) (operand_content s b) c is (operand_good j.types s a well_typed ra) (operand_good j.types s b well_typed rb))),
            subst (λ o. Comes P j e types outcome n k (test_outcome to 1 o (marked mark.Then site s))) (sym m.is) (outcome_going mark.Then 1 m.conjunct m.says (inr (inl refl)) (number_is v (pos 1) one_fits) go),
          )
      follow_test (inr (fails, go)) =
          let m = contrary_may s.vars s.pure v fits stands.true_of how (operand_content s a) (operand_content s b) (operand_good j.types s a well_typed ra) (operand_good j.types s b well_typed rb) (kind a ra) (kind b rb)
          (subst₂ (core.Fails how) (operand_is v s a ra) (operand_is v s b rb) fails) in (
            way.Else,
            in_right way.Else (open_if s.vars yes way.Then) (open_if s.vars no' way.Else)
                (opened no' way.Else m (λ c is. contrary_form s.vars s.pure how (operand_content s a) (operand_content s b) c is (operand_good j.types s a well_typed ra) (operand_good j.types s b well_typed rb))),
            subst (λ o. Comes P j e types outcome n k (test_outcome to 0 o (marked mark.Else site s))) (sym m.is) (outcome_going mark.Else 0 m.conjunct m.says (inr (inr refl)) (number_is v (pos 0) none_fits) go),
          )
