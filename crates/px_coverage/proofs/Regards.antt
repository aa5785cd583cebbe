-- What the slots of a path hold, by the types of slots and what stands next: contents of their types, an unread cell
-- only in the slot that is read next, and in an outcome 1, 0 or nothing.
use Rattle.std.proofs.Common.{◌≡◌, ◌≢◌, ◌⊎◌, ℕ, zero, suc, Bool, true, false, Option, Some, List, [], ◌∷◌, slice_set, pos, refl, sym, ap, ◌∙◌, subst, inl, inr, IsSomeAnd}
use Rattle.std.proofs.lemmas.Option.{same_Some}
use Rattle.px_terms.specs.declared.types.ValueType.{ValueType}
use Rattle.px_terms.specs.declared.variables.Var.{Var}
use Rattle.px_terms.specs.declared.variables.VarInfo.{VarInfo}
use Rattle.px_terms.specs.declared.conjuncts.Place.TheVariants as place
use Rattle.px_terms.specs.declared.conjuncts.Content.{Content}
use Rattle.px_terms.specs.declared.conjuncts.Content.TheVariants.{Unwritten, Word, Place, Cell}
use Rattle.px_core.specs.declared.command.Operand.{Operand}
use Rattle.px_core.specs.declared.command.Operand.TheVariants as operand
use Rattle.px_core.specs.CommandTree.{CommandTree, CommandTrees, assign, unset, read, test, choose, loop, leave, load, store, malloc, free, input, call, return, break, continue, stop, no_commands, a_command, divide}
use Rattle.px_core.specs.Control.{Item, Turns, Act, AfterHead, AfterBody, AfterStep, acts, no_turns, leave_to, break_to, continue_to}
use Rattle.px_core.specs.WellFormedItems.{where_in, SettlesFirst, IsWellFormedLoop, AreWellFormedItems}
use Rattle.px_core.proofs.ItemLemmas.{acts_well_formed, enters_well_formed, leave_well_formed, break_well_formed, continue_well_formed}
use Rattle.px_entry.specs.Contents.{fits_cell}
use Rattle.px_callgraph.specs.declared.states.State.{State}
use Rattle.px_callgraph.specs.States.{content_at, number, operand_content}
use Rattle.px_callgraph.specs.Commands.{outcome_of}
use Rattle.px_callgraph.specs.Alternatives.{chosen, items_after}
use Rattle.px_callgraph.specs.JobTree.{JobTree}
use Rattle.px_meaning.specs.CoreCalls.{CoreProgram}
use Rattle.px_terms.specs.declared.types.BlockType.{BlockType}
use Rattle.px_coverage.specs.Frees.{FreesKnown, FreeKnown}
use Rattle.px_meaning.specs.CoreTypes.{SlotTypes, IsOperandOf, IsTyped}
use Rattle.px_meaning.proofs.TypedSteps.{AreTypedItems, acts_typed}
use Rattle.px_soundness.proofs.AtomHeaps.{absent}
use Rattle.px_soundness.proofs.WellTyped.{Grown, fits_grown}
use Rattle.px_soundness.proofs.Controls.{mapped}

-- ---- slots

-- 1, 0 or nothing yet
abbrev pub IsOutcome : Content → Type 0
IsOutcome c = (c ≡ Unwritten) ⊎ ((c ≡ Word (number (pos 1))) ⊎ (c ≡ Word (number (pos 0))))

pub record Regards (types : SlotTypes) (outcome : ℕ → Bool) (vars : List VarInfo) (slots : List Content) (k : List Item) : Type 0 where
  pub typed : (n : ℕ) → fits_cell vars (types n) (content_at slots n) ≡ true
  pub calm : (n : ℕ) (x : Var) → content_at slots n ≡ Cell x → SettlesFirst n k
  pub outcomes : (n : ℕ) → outcome n ≡ true → IsOutcome (content_at slots n)

-- a slot that is set has the new content, unless there is no such slot
pub set_at : (slots : List Content) (to : ℕ) (c : Content) (n : ℕ) →
    ((n ≡ to) × (content_at (slice_set slots to c) n ≡ c)) ⊎ (((n ≢ to) × (content_at (slice_set slots to c) n ≡ content_at slots n)) ⊎ (content_at (slice_set slots to c) n ≡ Unwritten))
set_at [] to c n = inr (inr refl)
set_at (x ∷ slots) zero c zero = inl (refl, refl)
set_at (x ∷ slots) zero c (suc n) = inr (inl ((λ e. cc), refl))
set_at (x ∷ slots) (suc to) c zero = inr (inl ((λ e. cc), refl))
set_at (x ∷ slots) (suc to) c (suc n) = elim (set_at slots to c n) [
  | inl h ↦ inl (ap suc h.0, h.1)
  | inr h ↦ inr (elim h [ inl g ↦ inl ((λ e. g.0 (cc)), g.1) | inr g ↦ inr g ])
]

module _ (types : SlotTypes) (outcome : ℕ → Bool) where
  -- another thing stands next, and no slot is read
  pub regards_next : (vars : List VarInfo) (slots : List Content) (k k' : List Item) → ((n : ℕ) → SettlesFirst n k → ⊥) → Regards types outcome vars slots k → Regards types outcome vars slots k'
  regards_next vars slots k k' none h = record { typed = h.typed; calm = λ n x e. absurd (none n (h.calm n x e)); outcomes = h.outcomes }

  -- a slot gets a content
  pub regards_set : (vars : List VarInfo) (slots : List Content) (k k' : List Item) (to : ℕ) (c : Content) → ((n : ℕ) → SettlesFirst n k → n ≡ to) → fits_cell vars (types to) c ≡ true →
      ((x : Var) → c ≡ Cell x → SettlesFirst to k') → (outcome to ≡ true → IsOutcome c) → Regards types outcome vars slots k → Regards types outcome vars (slice_set slots to c) k'
  regards_set vars slots k k' to c none fits calm out h = record { typed = λ n. typed n (set_at slots to c n); calm = λ n x e. still n x e (set_at slots to c n); outcomes = λ n o. outs n o (set_at slots to c n) }
    where
      typed : (n : ℕ) → ((n ≡ to) × (content_at (slice_set slots to c) n ≡ c)) ⊎ (((n ≢ to) × (content_at (slice_set slots to c) n ≡ content_at slots n)) ⊎ (content_at (slice_set slots to c) n ≡ Unwritten)) →
          fits_cell vars (types n) (content_at (slice_set slots to c) n) ≡ true
      typed n (inl e) = subst (λ z. fits_cell vars (types n) z ≡ true) (sym e.1) (subst (λ z. fits_cell vars (types z) c ≡ true) (sym e.0) fits)
      typed n (inr (inl e)) = subst (λ z. fits_cell vars (types n) z ≡ true) (sym e.1) (h.typed n)
      typed n (inr (inr e)) = subst (λ z. fits_cell vars (types n) z ≡ true) (sym e) refl

      not_cell : (x : Var) → Unwritten ≡ Cell x → ⊥
      not_cell x e = cc

      still : (n : ℕ) (x : Var) → content_at (slice_set slots to c) n ≡ Cell x →
          ((n ≡ to) × (content_at (slice_set slots to c) n ≡ c)) ⊎ (((n ≢ to) × (content_at (slice_set slots to c) n ≡ content_at slots n)) ⊎ (content_at (slice_set slots to c) n ≡ Unwritten)) → SettlesFirst n k'
      still n x e (inl g) = subst (λ z. SettlesFirst z k') (sym g.0) (calm x (sym g.1 ∙ e))
      still n x e (inr (inl g)) = absurd (g.0 (none n (h.calm n x (sym g.1 ∙ e))))
      still n x e (inr (inr g)) = absurd (not_cell x (sym g ∙ e))

      outs : (n : ℕ) → outcome n ≡ true →
          ((n ≡ to) × (content_at (slice_set slots to c) n ≡ c)) ⊎ (((n ≢ to) × (content_at (slice_set slots to c) n ≡ content_at slots n)) ⊎ (content_at (slice_set slots to c) n ≡ Unwritten)) →
          IsOutcome (content_at (slice_set slots to c) n)
      outs n o (inl g) = subst IsOutcome (sym g.1) (out (subst (λ z. outcome z ≡ true) g.0 o))
      outs n o (inr (inl g)) = subst IsOutcome (sym g.1) (h.outcomes n o)
      outs n o (inr (inr g)) = inl g

  -- variables are added
  pub regards_grown : (vars more : List VarInfo) (slots : List Content) (k : List Item) → Grown vars more → Regards types outcome vars slots k → Regards types outcome more slots k
  regards_grown vars more slots k grown h = record { typed = λ n. fits_grown vars more grown (types n) (content_at slots n) (h.typed n); calm = h.calm; outcomes = h.outcomes }

  -- an operand is of its type
  pub operand_fits : (s : State) (k : List Item) (t : ValueType) (a : Operand) → IsOperandOf types t a → Regards types outcome s.vars s.slots k → fits_cell s.vars t (operand_content s a) ≡ true
  operand_fits s k t (operand.Slot n) is h = subst (λ z. fits_cell s.vars z (content_at s.slots n) ≡ true) is (h.typed n)
  operand_fits s k t (operand.Word z) is h = subst (λ u. fits_cell s.vars u (Word (number z)) ≡ true) (sym is.0) refl
  operand_fits s k t operand.Null is h = subst (λ u. fits_cell s.vars u (Place place.Null) ≡ true) (sym is.1) refl

  pub operand_calm : (s : State) (k : List Item) → ((n : ℕ) → SettlesFirst n k → ⊥) → (a : Operand) (x : Var) → Regards types outcome s.vars s.slots k → operand_content s a ≡ Cell x → ⊥
  operand_calm s k none (operand.Slot n) x h e = none n (h.calm n x e)
  operand_calm s k none (operand.Word z) x h e = cc
  operand_calm s k none operand.Null x h e = cc

-- ---- what is still to be done

module _ (P : CoreProgram) (types : SlotTypes) (result : Option ValueType) where
  abbrev T : List Item → Type 0
  T = AreTypedItems P types result

  leave_types : (k : List Item) (q : Turns × List Item) → leave_to k ≡ Some q → T k → T q.1
  leave_types [] q e h = absent e
  leave_types (Act c ∷ k) q e h = leave_types k q e h.1
  leave_types (AfterHead l ∷ k) q e h = subst (λ (z : Turns × List Item). T z.1) (same_Some _ _ e) h.1
  leave_types (AfterBody l ∷ k) q e h = absent e
  leave_types (AfterStep l ∷ k) q e h = absent e

  break_types : (k q : List Item) → break_to k ≡ Some q → T k → T q
  break_types [] q e h = absent e
  break_types (Act c ∷ k) q e h = break_types k q e h.1
  break_types (AfterHead l ∷ k) q e h = absent e
  break_types (AfterBody l ∷ k) q e h = subst T (same_Some _ _ e) h.1
  break_types (AfterStep l ∷ k) q e h = subst T (same_Some _ _ e) h.1

  continue_types : (k q : List Item) → continue_to k ≡ Some q → T k → T q
  continue_types [] q e h = absent e
  continue_types (Act c ∷ k) q e h = continue_types k q e h.1
  continue_types (AfterHead l ∷ k) q e h = absent e
  continue_types (AfterBody l ∷ k) q e h = subst T (same_Some _ _ e) h
  continue_types (AfterStep l ∷ k) q e h = absent e

  -- what is after a command keeps to types
  pub after_types : (s : State) (c : CommandTree) (k q : List Item) → IsTyped P types result c → T k → items_after s c k ≡ Some q → T q
  after_types s (choose slot first second) k q r h e =
      let (b, is, same) = mapped (λ b. acts (chosen b first second) k) (outcome_of (content_at s.slots slot)) q e in subst T same (by b)
    where
      by : (b : Bool) → T (acts (chosen b first second) k)
      by true = acts_typed P types result first k r.1 h
      by false = acts_typed P types result second k r.2 h
  after_types s (loop site head body step) k q r h e = subst T (same_Some _ _ e) (acts_typed P types result head (AfterHead (no_turns site head body step) ∷ k) r.0 (r, h))
  after_types s leave k q r h e = let (p, is, same) = mapped (λ (place : Turns × List Item). place.1) (leave_to k) q e in subst T same (leave_types k p is h)
  after_types s break k q r h e = break_types k q e h
  after_types s continue k q r h e = continue_types k q e h
  after_types s (stop word site) k q r h e = subst T (same_Some _ _ e) h
  after_types s (divide to a b site) k q r h e = subst T (same_Some _ _ e) h
  after_types s (assign to op a b) k q r h e = subst T (same_Some _ _ e) h
  after_types s (unset to) k q r h e = subst T (same_Some _ _ e) h
  after_types s (read slot site) k q r h e = subst T (same_Some _ _ e) h
  after_types s (test to how a b site) k q r h e = subst T (same_Some _ _ e) h
  after_types s (load to at field block site) k q r h e = subst T (same_Some _ _ e) h
  after_types s (store at field block from site) k q r h e = subst T (same_Some _ _ e) h
  after_types s (malloc to block site) k q r h e = subst T (same_Some _ _ e) h
  after_types s (free at block site) k q r h e = subst T (same_Some _ _ e) h
  after_types s (input to site) k q r h e = subst T (same_Some _ _ e) h
  after_types s (call to proc arguments site) k q r h e = subst T (same_Some _ _ e) h
  after_types s (return from) k q r h e = subst T (same_Some _ _ e) h

module _ (n : ℕ) (outcome : ℕ → Bool) where
  abbrev O : List Item → Type 0
  O = AreWellFormedItems n outcome

  some_of : {A : Type 0} (o : Option A) (Q : A → Type 0) (a : A) → IsSomeAnd o Q → o ≡ Some a → Q a
  some_of o Q a h e = subst (λ (z : Option _). IsSomeAnd z Q) e h

  -- and is well-formed
  pub after_well_formed : (s : State) (c : CommandTree) (k q : List Item) → O (Act c ∷ k) → items_after s c k ≡ Some q → O q
  after_well_formed s (choose slot first second) k q h e =
      let (b, is, same) = mapped (λ b. acts (chosen b first second) k) (outcome_of (content_at s.slots slot)) q e in subst O same (by b)
    where
      by : (b : Bool) → O (acts (chosen b first second) k)
      by true = acts_well_formed n outcome (where_in k) first k refl h.0.2 h.2
      by false = acts_well_formed n outcome (where_in k) second k refl h.0.3 h.2
  after_well_formed s (loop site head body step) k q h e = subst O (same_Some _ _ e) (enters_well_formed n outcome (no_turns site head body step) k h.0 h.2)
  after_well_formed s leave k q h e =
      let (p, is, same) = mapped (λ (place : Turns × List Item). place.1) (leave_to k) q e in
      subst O same (some_of (leave_to k) (λ place. IsWellFormedLoop n outcome place.0 × O place.1) p (leave_well_formed n outcome k h.0 h.2) is).1
  after_well_formed s break k q h e = some_of (break_to k) O q (break_well_formed n outcome k h.0 h.2) e
  after_well_formed s continue k q h e = some_of (continue_to k) O q (continue_well_formed n outcome k h.0 h.2) e
  after_well_formed s (stop word site) k q h e = subst O (same_Some _ _ e) h.2
  after_well_formed s (divide to a b site) k q h e = subst O (same_Some _ _ e) h.2
  after_well_formed s (assign to op a b) k q h e = subst O (same_Some _ _ e) h.2
  after_well_formed s (unset to) k q h e = subst O (same_Some _ _ e) h.2
  after_well_formed s (read slot site) k q h e = subst O (same_Some _ _ e) h.2
  after_well_formed s (test to how a b site) k q h e = subst O (same_Some _ _ e) h.2
  after_well_formed s (load to at field block site) k q h e = subst O (same_Some _ _ e) h.2
  after_well_formed s (store at field block from site) k q h e = subst O (same_Some _ _ e) h.2
  after_well_formed s (malloc to block site) k q h e = subst O (same_Some _ _ e) h.2
  after_well_formed s (free at block site) k q h e = subst O (same_Some _ _ e) h.2
  after_well_formed s (input to site) k q h e = subst O (same_Some _ _ e) h.2
  after_well_formed s (call to proc arguments site) k q h e = subst O (same_Some _ _ e) h.2
  after_well_formed s (return from) k q h e = subst O (same_Some _ _ e) h.2

-- ---- frees

module _ (blocks : List BlockType) where
  abbrev pub KnownItem : Item → Type 0
  KnownItem (Act c) = FreesKnown blocks c
  KnownItem (AfterHead l) = FreeKnown blocks l.head × FreeKnown blocks l.body × FreeKnown blocks l.step
  KnownItem (AfterBody l) = FreeKnown blocks l.head × FreeKnown blocks l.body × FreeKnown blocks l.step
  KnownItem (AfterStep l) = FreeKnown blocks l.head × FreeKnown blocks l.body × FreeKnown blocks l.step

  abbrev pub KnownItems : List Item → Type 0
  KnownItems [] = Unit {0}
  KnownItems (i ∷ k) = KnownItem i × KnownItems k

  abbrev F : List Item → Type 0
  F = KnownItems

  pub acts_known : (cs : CommandTrees) (k : List Item) → FreeKnown blocks cs → F k → F (acts cs k)
  acts_known no_commands k p q = q
  acts_known (a_command c rest) k p q = (p.0, acts_known rest k p.1 q)

  leave_known : (k : List Item) (q : Turns × List Item) → leave_to k ≡ Some q → F k → F q.1
  leave_known [] q e h = absent e
  leave_known (Act c ∷ k) q e h = leave_known k q e h.1
  leave_known (AfterHead l ∷ k) q e h = subst (λ (z : Turns × List Item). F z.1) (same_Some _ _ e) h.1
  leave_known (AfterBody l ∷ k) q e h = absent e
  leave_known (AfterStep l ∷ k) q e h = absent e

  break_known : (k q : List Item) → break_to k ≡ Some q → F k → F q
  break_known [] q e h = absent e
  break_known (Act c ∷ k) q e h = break_known k q e h.1
  break_known (AfterHead l ∷ k) q e h = absent e
  break_known (AfterBody l ∷ k) q e h = subst F (same_Some _ _ e) h.1
  break_known (AfterStep l ∷ k) q e h = subst F (same_Some _ _ e) h.1

  continue_known : (k q : List Item) → continue_to k ≡ Some q → F k → F q
  continue_known [] q e h = absent e
  continue_known (Act c ∷ k) q e h = continue_known k q e h.1
  continue_known (AfterHead l ∷ k) q e h = absent e
  continue_known (AfterBody l ∷ k) q e h = subst F (same_Some _ _ e) h
  continue_known (AfterStep l ∷ k) q e h = absent e

  pub after_known : (s : State) (c : CommandTree) (k q : List Item) → FreesKnown blocks c → F k → items_after s c k ≡ Some q → F q
  after_known s (choose slot first second) k q r h e =
      let (b, is, same) = mapped (λ b. acts (chosen b first second) k) (outcome_of (content_at s.slots slot)) q e in subst F same (by b)
    where
      by : (b : Bool) → F (acts (chosen b first second) k)
      by true = acts_known first k r.0 h
      by false = acts_known second k r.1 h
  after_known s (loop site head body step) k q r h e = subst F (same_Some _ _ e) (acts_known head (AfterHead (no_turns site head body step) ∷ k) r.0 (r, h))
  after_known s leave k q r h e = let (p, is, same) = mapped (λ (place : Turns × List Item). place.1) (leave_to k) q e in subst F same (leave_known k p is h)
  after_known s break k q r h e = break_known k q e h
  after_known s continue k q r h e = continue_known k q e h
  after_known s (stop word site) k q r h e = subst F (same_Some _ _ e) h
  after_known s (divide to a b site) k q r h e = subst F (same_Some _ _ e) h
  after_known s (assign to op a b) k q r h e = subst F (same_Some _ _ e) h
  after_known s (unset to) k q r h e = subst F (same_Some _ _ e) h
  after_known s (read slot site) k q r h e = subst F (same_Some _ _ e) h
  after_known s (test to how a b site) k q r h e = subst F (same_Some _ _ e) h
  after_known s (load to at field block site) k q r h e = subst F (same_Some _ _ e) h
  after_known s (store at field block from site) k q r h e = subst F (same_Some _ _ e) h
  after_known s (malloc to block site) k q r h e = subst F (same_Some _ _ e) h
  after_known s (free at block site) k q r h e = subst F (same_Some _ _ e) h
  after_known s (input to site) k q r h e = subst F (same_Some _ _ e) h
  after_known s (call to proc arguments site) k q r h e = subst F (same_Some _ _ e) h
  after_known s (return from) k q r h e = subst F (same_Some _ _ e) h

-- what is still to be done of a lowered body
pub record Lowered (P : CoreProgram) (j : JobTree) (types : SlotTypes) (outcome : ℕ → Bool) (k : List Item) : Type 0 where
  pub typed : AreTypedItems P types j.body.result k
  pub well_formed : AreWellFormedItems j.body.slots outcome k
  pub known : KnownItems P.types k

pub after_lowered : (P : CoreProgram) (j : JobTree) (types : SlotTypes) (outcome : ℕ → Bool) (s : State) (c : CommandTree) (k q : List Item) → Lowered P j types outcome (Act c ∷ k) → items_after s c k ≡ Some q → Lowered P j types outcome q
after_lowered P j types outcome s c k q h e = record {
  typed = after_types P types j.body.result s c k q h.typed.0 h.typed.1 e;
  well_formed = after_well_formed j.body.slots outcome s c k q h.well_formed e;
  known = after_known P.types s c k q h.known.0 h.known.1 e;
}
