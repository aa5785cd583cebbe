-- Commands that don't reach a block: each way of one is a step of the machine.
use Rattle.std.proofs.Common.{◌≡◌, ◌⊎◌, ℕ, zero, suc, Bool, true, false, nat_lt, Option, Some, None, List, [], ◌∷◌, ◌++◌, length, pos, get_or, slice_get, slice_set, refl, sym, ap, ◌∙◌, subst, subst₂, inl, inr}
use Rattle.std.specs.Prelude.{IsSomeAnd, is_some}
use Rattle.std.proofs.Math.Seq.{map-set_same}
use Rattle.std.proofs.lemmas.Bool.{ltb-true}
use Rattle.std.proofs.lemmas.Option.{slice_get-get_or, same_Some}
use Rattle.px_base.specs.declared.trace.Site.{Site}
use Rattle.px_base.specs.declared.trace.Mark.{Mark}
use Rattle.px_base.specs.declared.trace.MarkKind.TheVariants as mark
use Rattle.px_base.specs.declared.trace.Kind.TheVariants.{UninitialisedRead}
use Rattle.px_terms.specs.Valuations.{Valuation, IsPlace, IsUnwritten, HasType, FitsSort, Fits}
use Rattle.px_terms.specs.Conjuncts.{place_of, IsTrueUnder}
use Rattle.px_terms.specs.declared.types.Value.{Value}
use Rattle.px_terms.specs.declared.types.Value.TheVariants as value
use Rattle.px_terms.specs.declared.types.BlockType.{BlockType}
use Rattle.px_terms.specs.declared.types.ValueType.{ValueType}
use Rattle.px_terms.specs.declared.types.ValueType.TheVariants.{Int}
use Rattle.px_terms.specs.declared.variables.Var.{Var}
use Rattle.px_terms.specs.declared.variables.VarInfo.{VarInfo}
use Rattle.px_terms.specs.declared.variables.Sort.{Sort}
use Rattle.px_terms.specs.declared.variables.Sort.TheVariants as sort
use Rattle.px_terms.specs.declared.conjuncts.Content.{Content}
use Rattle.px_terms.specs.declared.conjuncts.Content.TheVariants.{Unwritten, Word, Place, Cell}
use Rattle.px_terms.specs.declared.conjuncts.Conj.{Conj}
use Rattle.px_terms.specs.declared.conjuncts.Conj.TheVariants as conjunct
use Rattle.px_core.specs.declared.command.Operand.{Operand}
use Rattle.px_core.specs.declared.command.Operand.TheVariants as operand
use Rattle.px_core.specs.declared.command.Operator.{Operator}
use Rattle.px_core.specs.declared.command.Comparison.{Comparison}
use Rattle.px_core.specs.CommandTree.{CommandTree, CommandTrees, assign, unset, read, test, choose, loop, leave, return, break, continue, stop}
use Rattle.px_core.specs.Control.{Turns, Item, acts, leave_to, break_to, continue_to}
use Rattle.px_core.specs.Constants.{IsInRange}
use Rattle.px_entry.specs.Decided.{is_open, assume}
use Rattle.px_entry.specs.Contents.{fits_cell, variable_content}
use Rattle.px_entry.specs.Standing.{content_value, contents_value}
use Rattle.px_entry.specs.declared.entries.Exit.TheVariants as exit
use Rattle.px_entry.proofs.Lists.{Each}
use Rattle.px_callgraph.specs.declared.states.State.{State}
use Rattle.px_callgraph.specs.declared.states.Way.{Way}
use Rattle.px_callgraph.specs.declared.states.Way.TheVariants as way
use Rattle.px_callgraph.specs.JobTree.{JobTree}
use Rattle.px_callgraph.specs.States.{goes, ends, drops, Done, content_at, operand_content, number, set_slot, marked, assumed, info}
use Rattle.px_callgraph.specs.Operations.{operation, made_terms, condition, contrary}
use Rattle.px_callgraph.specs.Commands.{read_ways, read_cell, read_done, open_if, test_done, outcome_of, last_loop, all_but_last, leaving, returned, return_done, terms_of, assign_done, command_ways, act_done}
use Rattle.px_callgraph.specs.Alternatives.{chosen, items_after}
use Rattle.px_meaning.specs.Heaps.{HeapMap, join}
use Rattle.px_meaning.specs.Operations.{value_at, result_of, Holds as ComparisonHolds, Fails}
use Rattle.px_meaning.specs.Events.{mark_of}
use Rattle.px_meaning.specs.Calls.{error, Returned, Failed}
use Rattle.px_meaning.specs.Steps.{Next, Goes, Ends, ProcedureCalls, by_written, returned_value, command}
use Rattle.px_meaning.specs.Triples.{heap_of, result_value}
use Rattle.px_soundness.proofs.WellFormed.{Good, WellTyped, Opens}
use Rattle.px_soundness.proofs.AtomHeaps.{absent}
use Rattle.px_soundness.proofs.Truths.{Says, HasForm, decided_says}
use Rattle.px_soundness.proofs.Contents.{good_place, number_good, slot_is, set_is, operand_is, variable_is_content, operation_is, condition_holds, contrary_fails, condition_form, contrary_form, outcome_value, outcome_is}
use Rattle.px_soundness.proofs.Controls.{leave_opens, mapped}
use Rattle.px_soundness.proofs.Sound.{Each1, each1_append, each1_if, WholeGoal, From, Can, Sound, sound_plain, sound_assumed, sound_turn}

-- the machine does a command from the slots and the trace of a state
abbrev pub Does : List BlockType → ProcedureCalls Mark → CommandTree → List Item → State → Can
Does types calls c k s v H K = command mark_of types calls c k (contents_value v s.slots) H (From s.trace K)

-- each way of a command leads from the state as the machine goes, with these items after it
abbrev pub Leads1 : JobTree → List BlockType → ProcedureCalls Mark → CommandTree → List Item → List Item → State → Type 1
Leads1 j types calls c k k' s = Each1 (λ w. Sound (Does types calls c k s) s k' (act_done j c w s).state (act_done j c w s).outcome) (command_ways j s c)

-- ---- contents of a state

pub content_good : (vars : List VarInfo) (pure : List Conj) (slots : List Content) (n : ℕ) → Each (Good vars pure) slots → Good vars pure (content_at slots n)
content_good vars pure [] n h = tt
content_good vars pure (c ∷ slots) zero h = h.0
content_good vars pure (c ∷ slots) (suc n) h = content_good vars pure slots n h.1

pub operand_good : (types : List BlockType) (s : State) (a : Operand) → WellTyped types s → IsInRange a → Good s.vars s.pure (operand_content s a)
operand_good types s (operand.Slot n) h f = content_good s.vars s.pure s.slots n h.slots
operand_good types s (operand.Word z) h f = number_good s.vars s.pure z f
operand_good types s operand.Null h f = tt

pub some_from : {A : Type 0} (o : Option A) → is_some o ≡ true → (a : A) × (o ≡ Some a)
some_from None e = cc
some_from (Some a) e = (a, refl)

some_and : {A : Type 0} (o : Option A) (P : A → Type 0) (a : A) → o ≡ Some a → P a → IsSomeAnd o P
some_and o P a e h = subst (λ (x : Option _). IsSomeAnd x P) (sym e) h

module _ (j : JobTree) (types : List BlockType) (calls : ProcedureCalls Mark) (s : State) (well_typed : WellTyped types s) (k : List Item) where
  -- ---- words

  pub does_assign : (to : ℕ) (op : Operator) (a b : Operand) → IsInRange a → IsInRange b → Leads1 j types calls (assign to op a b) k k s
  does_assign to op a b ra rb =
      each1_if (λ w. Sound (Does types calls (assign to op a b) k s) s k (act_done j (assign to op a b) w s).state (act_done j (assign to op a b) w s).outcome)
      (is_some (operation op (operand_content s a) (operand_content s b))) way.On (λ some.
      let (c, e) = some_from (operation op (operand_content s a) (operand_content s b)) some in
      subst (λ o. Sound (Does types calls (assign to op a b) k s) s k (assign_done to (terms_of o (made_terms op)) o s).state (assign_done to (terms_of o (made_terms op)) o s).outcome) (sym e)
      (sound_plain (Does types calls (assign to op a b) k s) s (slice_set s.slots to c) s.trace s.loops s.steps k goes (λ v further h K l.
      subst₂ (λ x y. IsSomeAnd (result_of op x y) (λ u. K s.trace (Goes k (slice_set (contents_value v s.slots) to u) (join (heap_of v s.atoms) further))))
      (sym (operand_is v s a ra)) (sym (operand_is v s b rb))
      (some_and (result_of op (content_value v (operand_content s a)) (content_value v (operand_content s b)))
      (λ u. K s.trace (Goes k (slice_set (contents_value v s.slots) to u) (join (heap_of v s.atoms) further)))
      (content_value v c) (operation_is s.vars s.pure v op (operand_content s a) (operand_content s b) c (operand_good types s a well_typed ra) (operand_good types s b well_typed rb) e)
      (subst (λ z. K s.trace (Goes k z (join (heap_of v s.atoms) further))) (set_is v s.slots to c) l)))))

  pub does_unset : (to : ℕ) → Leads1 j types calls (unset to) k k s
  does_unset to = (
    sound_plain (Does types calls (unset to) k s) s (slice_set s.slots to Unwritten) s.trace s.loops s.steps k goes (λ v further h K l.
        subst (λ z. K s.trace (Goes k z (join (heap_of v s.atoms) further))) (set_is v s.slots to Unwritten) l),
    tt,
  )

  -- nothing is said of what isn't understood
  pub does_stop : (number : ℕ) (site : Site) → Leads1 j types calls (stop number site) k k s
  does_stop number site = (sound_plain (Does types calls (stop number site) k s) s s.slots s.trace s.loops s.steps k (drops number) (λ v further h K l. absurd l), tt)

  -- ---- read

  place_written : (u : Value) (X Y : Type 0) → IsPlace u → X → by_written u X Y
  place_written (value.Word z) X Y p x = absurd p
  place_written value.Null X Y p x = x
  place_written (value.Block n) X Y p x = x
  place_written value.Unwritten X Y p x = absurd p

  written_on : (u : Value) (X Y : Type 0) → (¬ IsUnwritten u) → X → by_written u X Y
  written_on (value.Word z) X Y p x = x
  written_on value.Null X Y p x = x
  written_on (value.Block n) X Y p x = x
  written_on value.Unwritten X Y p x = absurd (p tt)

  unwritten_on : (u : Value) (X Y : Type 0) → IsUnwritten u → Y → by_written u X Y
  unwritten_on (value.Word z) X Y p y = absurd p
  unwritten_on value.Null X Y p y = absurd p
  unwritten_on (value.Block n) X Y p y = absurd p
  unwritten_on value.Unwritten X Y p y = y

  sort_type : (i : Sort) (t : ValueType) (u : Value) → FitsSort i t u → (¬ IsUnwritten u) → HasType t u
  sort_type sort.Given t u h w = h
  sort_type sort.Input t u h w = h
  sort_type sort.Made t u h w = h.0
  sort_type sort.Cell t (value.Word z) h w = h
  sort_type sort.Cell t value.Null h w = h
  sort_type sort.Cell t (value.Block b) h w = h
  sort_type sort.Cell t value.Unwritten h w = absurd (w tt)

  module _ (slot : ℕ) (site : Site) where
    -- the two ways on from a value
    abbrev Reads : Content → Can
    Reads c v H K = by_written (content_value v c) (K s.trace (Goes k (contents_value v s.slots) H)) (K s.trace (Ends (Failed (error UninitialisedRead) site) H))

    fails_reading : (C : Can) → ((v : Valuation) (H : HeapMap) (K : WholeGoal) → K s.trace (Ends (Failed (error UninitialisedRead) site) H) → C v H K) →
        Sound C s k s (ends (exit.Error UninitialisedRead site) None)
    fails_reading C f = sound_plain C s s.slots s.trace s.loops s.steps k (ends (exit.Error UninitialisedRead site) None) (λ v further h K l. f v (join (heap_of v s.atoms) further) K l)

    cell_written : (x : Var) (i : VarInfo) → slice_get s.vars x.0 ≡ Some i → content_at s.slots slot ≡ Cell x →
        Sound (Reads (Cell x)) s k (set_slot slot (variable_content i.value x.0) (assumed (conjunct.Written x) s)) goes
    cell_written x i e at =
        let c = variable_content i.value x.0 in
        sound_assumed (λ v H K. K s.trace (Goes k (contents_value v (slice_set s.slots slot c)) H)) (Reads (Cell x)) s (conjunct.Written x) k (set_slot slot c (assumed (conjunct.Written x) s)) goes
        (λ v fits d. cc)
        (sound_plain (λ v H K. K s.trace (Goes k (contents_value v (slice_set s.slots slot c)) H)) (record s { pure = assume s.vars s.pure (conjunct.Written x) }) (slice_set s.slots slot c) s.trace s.loops s.steps k goes (λ v further h K l. l))
        (λ v further K h says l.
        written_on (v x.0) (K s.trace (Goes k (contents_value v s.slots) (join (heap_of v s.atoms) further))) (K s.trace (Ends (Failed (error UninitialisedRead) site) (join (heap_of v s.atoms) further))) says
        (subst (λ z. K s.trace (Goes k z (join (heap_of v s.atoms) further)))
        (map-set_same (content_value v) s.slots slot c Unwritten (variable_is_content v i.value x.0 (sort_type i.sort i.value (v x.0) (h.fits.sorts x.0 i e) says) ∙ ap (content_value v) (sym at))) l))

    cell_unwritten : (x : Var) → Sound (Reads (Cell x)) s k (assumed (conjunct.Unwritten x) s) (ends (exit.Error UninitialisedRead site) None)
    cell_unwritten x =
        sound_assumed (λ v H K. K s.trace (Ends (Failed (error UninitialisedRead) site) H)) (Reads (Cell x)) s (conjunct.Unwritten x) k (assumed (conjunct.Unwritten x) s) (ends (exit.Error UninitialisedRead site) None)
        (λ v fits d. cc)
        (sound_plain (λ v H K. K s.trace (Ends (Failed (error UninitialisedRead) site) H)) (record s { pure = assume s.vars s.pure (conjunct.Unwritten x) }) s.slots s.trace s.loops s.steps k (ends (exit.Error UninitialisedRead site) None) (λ v further h K l. l))
        (λ v further K h says l. unwritten_on (v x.0) (K s.trace (Goes k (contents_value v s.slots) (join (heap_of v s.atoms) further))) (K s.trace (Ends (Failed (error UninitialisedRead) site) (join (heap_of v s.atoms) further))) says l)

    cell_ways : (x : Var) → content_at s.slots slot ≡ Cell x → (b : Bool) → nat_lt x.0 (length s.vars) ≡ b →
        Each1 (λ w. Sound (Reads (Cell x)) s k (read_done slot site (Cell x) w s).state (read_done slot site (Cell x) w s).outcome) (elim b as (λ _. List Way) [ true ↦ way.Written ∷ way.Unwritten ∷ [] | false ↦ [] ])
    cell_ways x at false e = tt
    cell_ways x at true e =
        let i : VarInfo = get_or s.vars x.0 (info sort.Given Int) in
        let is : slice_get s.vars x.0 ≡ Some i = slice_get-get_or s.vars x.0 (info sort.Given Int) (ltb-true x.0 (length s.vars) e) in
        (subst (λ (o : Option VarInfo). Sound (Reads (Cell x)) s k (read_cell slot x o s).state (read_cell slot x o s).outcome) (sym is) (cell_written x i is at), (cell_unwritten x, tt))

    content_ways : (c : Content) → Good s.vars s.pure c → content_at s.slots slot ≡ c →
        Each1 (λ w. Sound (Reads c) s k (read_done slot site c w s).state (read_done slot site c w s).outcome) (read_ways s.vars c)
    content_ways Unwritten g at = (fails_reading (Reads Unwritten) (λ v H K l. l), tt)
    content_ways (Word p) g at = (sound_plain (Reads (Word p)) s s.slots s.trace s.loops s.steps k goes (λ v further h K l. l), tt)
    content_ways (Place a) g at = (
      sound_plain (Reads (Place a)) s s.slots s.trace s.loops s.steps k goes (λ v further h K l.
          place_written (place_of v a) (K s.trace (Goes k (contents_value v s.slots) (join (heap_of v s.atoms) further))) (K s.trace (Ends (Failed (error UninitialisedRead) site) (join (heap_of v s.atoms) further)))
          (good_place s.vars s.pure v a h.fits h.true_of g) l),
      tt,
    )
    content_ways (Cell x) g at = cell_ways x at (nat_lt x.0 (length s.vars)) refl

    each1_turn : (C D : Can) (f : Way → Done) → ((v : Valuation) (H : HeapMap) (K : WholeGoal) → C v H K → D v H K) → (ws : List Way) →
        Each1 (λ w. Sound C s k (f w).state (f w).outcome) ws → Each1 (λ w. Sound D s k (f w).state (f w).outcome) ws
    each1_turn C D f turn [] h = tt
    each1_turn C D f turn (w ∷ ws) h = (sound_turn C D s k (f w).state (f w).outcome turn h.0, each1_turn C D f turn ws h.1)

    pub does_read : Leads1 j types calls (read slot site) k k s
    does_read =
        each1_turn (Reads (content_at s.slots slot)) (Does types calls (read slot site) k s) (λ w. read_done slot site (content_at s.slots slot) w s)
        (λ v H K l. subst (λ u. by_written u (K s.trace (Goes k (contents_value v s.slots) H)) (K s.trace (Ends (Failed (error UninitialisedRead) site) H))) (sym (slot_is v s.slots slot)) l)
        (read_ways s.vars (content_at s.slots slot)) (content_ways (content_at s.slots slot) (content_good s.vars s.pure s.slots slot well_typed.slots) refl)

  -- ---- tests

  module _ (to : ℕ) (how : Comparison) (a b : Operand) (site : Site) (ra : IsInRange a) (rb : IsInRange b) where
    abbrev Tests : Can
    Tests = Does types calls (test to how a b site) k s

    abbrev ca : Content
    ca = operand_content s a

    abbrev cb : Content
    cb = operand_content s b

    test_outcome_sound : (kind : _) (n : ℕ) (c : Conj) → is_open s.vars c ≡ true → HasForm c →
        ((v : Valuation) (H : HeapMap) (K : WholeGoal) → Fits s.vars v → Each (IsTrueUnder v) s.pure → Says v c → K (s.trace ++ record { kind = kind; site = site } ∷ []) (Goes k (slice_set (contents_value v s.slots) to (content_value v (Word (number (pos n))))) H) → Tests v H K) →
        Sound Tests s k (set_slot to (Word (number (pos n))) (assumed c (marked kind site s))) goes
    test_outcome_sound kind n c opened form turn =
        let C : Can = λ v H K. K (s.trace ++ record { kind = kind; site = site } ∷ []) (Goes k (slice_set (contents_value v s.slots) to (content_value v (Word (number (pos n))))) H) in
        sound_assumed C Tests s c k (set_slot to (Word (number (pos n))) (assumed c (marked kind site s))) goes
        (λ v fits d. decided_says s.vars v c fits opened form d)
        (sound_plain C (record s { pure = assume s.vars s.pure c }) (slice_set s.slots to (Word (number (pos n)))) (s.trace ++ record { kind = kind; site = site } ∷ []) s.loops s.steps k goes
        (λ v further h K l. subst (λ z. K (s.trace ++ record { kind = kind; site = site } ∷ []) (Goes k z (join (heap_of v s.atoms) further))) (set_is v s.slots to (Word (number (pos n)))) l))
        (λ v further K h says l. turn v (join (heap_of v s.atoms) further) K h.fits h.true_of says l)

    ga : Good s.vars s.pure ca
    ga = operand_good types s a well_typed ra

    gb : Good s.vars s.pure cb
    gb = operand_good types s b well_typed rb

    then_sound : (c : Conj) → condition how ca cb ≡ Some c → is_open s.vars c ≡ true → Sound Tests s k (set_slot to (Word (number (pos 1))) (assumed c (marked mark.Then site s))) goes
    then_sound c e opened =
        test_outcome_sound mark.Then 1 c opened (condition_form s.vars s.pure how ca cb c e ga gb) (λ v H K fits true_of says l.
        inl (subst₂ (ComparisonHolds how) (sym (operand_is v s a ra)) (sym (operand_is v s b rb)) (condition_holds s.vars s.pure v fits true_of how ca cb c e ga gb says), l))

    else_sound : (c : Conj) → contrary how ca cb ≡ Some c → is_open s.vars c ≡ true → Sound Tests s k (set_slot to (Word (number (pos 0))) (assumed c (marked mark.Else site s))) goes
    else_sound c e opened =
        test_outcome_sound mark.Else 0 c opened (contrary_form s.vars s.pure how ca cb c e ga gb) (λ v H K fits true_of says l.
        inr (subst₂ (Fails how) (sym (operand_is v s a ra)) (sym (operand_is v s b rb)) (contrary_fails s.vars s.pure v fits true_of how ca cb c e ga gb says), l))

    open_sound : (o : Option Conj) (w : Way) (P : Way → Type 1) → ((c : Conj) → o ≡ Some c → is_open s.vars c ≡ true → P w) → Each1 P (open_if s.vars o w)
    open_sound None w P f = tt
    open_sound (Some c) w P f = each1_if P (is_open s.vars c) w (f c refl)

    pub does_test : Leads1 j types calls (test to how a b site) k k s
    does_test =
        let P : Way → Type 1 = λ w. Sound Tests s k (test_done to site (condition how ca cb) (contrary how ca cb) w s).state (test_done to site (condition how ca cb) (contrary how ca cb) w s).outcome in
        each1_append P (open_if s.vars (condition how ca cb) way.Then) (open_if s.vars (contrary how ca cb) way.Else)
        (open_sound (condition how ca cb) way.Then P (λ c e opened.
        subst (λ o. Sound Tests s k (test_done to site o (contrary how ca cb) way.Then s).state (test_done to site o (contrary how ca cb) way.Then s).outcome) (sym e) (then_sound c e opened)))
        (open_sound (contrary how ca cb) way.Else P (λ c e opened.
        subst (λ o. Sound Tests s k (test_done to site (condition how ca cb) o way.Else s).state (test_done to site (condition how ca cb) o way.Else s).outcome) (sym e) (else_sound c e opened)))

  -- ---- control

  module _ (k' : List Item) where
    pub does_choose : (slot : ℕ) (first second : CommandTrees) → items_after s (choose slot first second) k ≡ Some k' → Leads1 j types calls (choose slot first second) k k' s
    does_choose slot first second e =
        each1_if (λ w. Sound (Does types calls (choose slot first second) k s) s k' (act_done j (choose slot first second) w s).state (act_done j (choose slot first second) w s).outcome)
        (is_some (outcome_of (content_at s.slots slot))) way.On (λ some.
        let (b, is, same) = mapped (λ b. acts (chosen b first second) k) (outcome_of (content_at s.slots slot)) k' e in
        sound_plain (Does types calls (choose slot first second) k s) s s.slots s.trace s.loops s.steps k' goes (λ v further h K l.
        by b (λ H. K s.trace H) (join (heap_of v s.atoms) further) (contents_value v s.slots) (slot_is v s.slots slot ∙ outcome_is v (content_at s.slots slot) b is) (subst (λ z. K s.trace (Goes z (contents_value v s.slots) (join (heap_of v s.atoms) further))) (sym same) l)))
      where
        by : (b : Bool) (L : Next → Type 0) (H : HeapMap) (slots : List Value) → value_at slots slot ≡ outcome_value b → L (Goes (acts (chosen b first second) k) slots H) →
            ((value_at slots slot ≡ value.Word (pos 1)) × L (Goes (acts first k) slots H)) ⊎ ((value_at slots slot ≡ value.Word (pos 0)) × L (Goes (acts second k) slots H))
        by true L H slots e l = inl (e, l)
        by false L H slots e l = inr (e, l)

    pub does_loop : (site : Site) (head body step : CommandTrees) → items_after s (loop site head body step) k ≡ Some k' → Leads1 j types calls (loop site head body step) k k' s
    does_loop site head body step e = (
      sound_plain (Does types calls (loop site head body step) k s) s s.slots s.trace (s.loops ++ (site, 0) ∷ []) s.steps k' goes (λ v further h K l.
          subst (λ z. K s.trace (Goes z (contents_value v s.slots) (join (heap_of v s.atoms) further))) (sym (same_Some _ _ e)) l),
      tt,
    )

    pub does_leave : Opens k s.loops → items_after s leave k ≡ Some k' → Leads1 j types calls leave k k' s
    does_leave opens e =
        each1_if (λ w. Sound (Does types calls leave k s) s k' (act_done j leave w s).state (act_done j leave w s).outcome) (is_some (last_loop s.loops)) way.On (λ some.
        let (p, is, same) = mapped (λ (place : Turns × List Item). place.1) (leave_to k) k' e in
        let (m, last, rest) = leave_opens k s.loops p opens is in
        subst (λ o. Sound (Does types calls leave k s) s k' (leaving o s).state (leaving o s).outcome) (sym last)
        (sound_plain (Does types calls leave k s) s s.slots (s.trace ++ record { kind = mark.Done; site = p.0.site } ∷ []) (all_but_last s.loops) s.steps k' goes (λ v further h K l.
        some_and (leave_to k) (λ place. K (s.trace ++ record { kind = mark.Done; site = place.0.site } ∷ []) (Goes place.1 (contents_value v s.slots) (join (heap_of v s.atoms) further))) p is
        (subst (λ z. K (s.trace ++ record { kind = mark.Done; site = p.0.site } ∷ []) (Goes z (contents_value v s.slots) (join (heap_of v s.atoms) further))) (sym same) l))))

    pub does_break : items_after s break k ≡ Some k' → Leads1 j types calls break k k' s
    does_break e =
        each1_if (λ w. Sound (Does types calls break k s) s k' (act_done j break w s).state (act_done j break w s).outcome) (is_some (last_loop s.loops)) way.On (λ some.
        sound_plain (Does types calls break k s) s s.slots s.trace (all_but_last s.loops) s.steps k' goes (λ v further h K l.
        some_and (break_to k) (λ place. K s.trace (Goes place (contents_value v s.slots) (join (heap_of v s.atoms) further))) k' e l))

    pub does_continue : items_after s continue k ≡ Some k' → Leads1 j types calls continue k k' s
    does_continue e =
        each1_if (λ w. Sound (Does types calls continue k s) s k' (act_done j continue w s).state (act_done j continue w s).outcome) (is_some (last_loop s.loops)) way.On (λ some.
        sound_plain (Does types calls continue k s) s s.slots s.trace s.loops s.steps k' goes (λ v further h K l.
        some_and (continue_to k) (λ place. K s.trace (Goes place (contents_value v s.slots) (join (heap_of v s.atoms) further))) k' e l))

  -- ---- return

  returned_is : (v : Valuation) (t : Option ValueType) (from : Option Operand) (r : Option Content) → ((a : Operand) → from ≡ Some a → IsInRange a) → returned s t from ≡ Some r → returned_value (contents_value v s.slots) from ≡ result_value v r
  returned_is v None None r f e = ap (result_value v) (same_Some _ _ e)
  returned_is v None (Some a) r f e = absent e
  returned_is v (Some t) None r f e = ap (result_value v) (same_Some _ _ e)
  returned_is v (Some t) (Some a) r f e = operand_is v s a (f a refl) ∙ by (fits_cell s.vars t (operand_content s a)) e
    where
      by : (b : Bool) → (elim b as (λ _. Option (Option Content)) [ true ↦ Some (Some (operand_content s a)) | false ↦ None ]) ≡ Some r → content_value v (operand_content s a) ≡ result_value v r
      by true e = ap (result_value v) (same_Some _ _ e)
      by false e = absent e

  pub does_return : (from : Option Operand) → ((a : Operand) → from ≡ Some a → IsInRange a) → Leads1 j types calls (return from) k k s
  does_return from ranges =
      each1_if (λ w. Sound (Does types calls (return from) k s) s k (act_done j (return from) w s).state (act_done j (return from) w s).outcome) (is_some (returned s j.body.result from)) way.On (λ some.
      let (r, e) = some_from (returned s j.body.result from) some in
      subst (λ o. Sound (Does types calls (return from) k s) s k (return_done o s).state (return_done o s).outcome) (sym e)
      (sound_plain (Does types calls (return from) k s) s s.slots s.trace s.loops s.steps k (ends exit.Ok r) (λ v further h K l.
      subst (λ u. K s.trace (Ends (Returned u) (join (heap_of v s.atoms) further))) (sym (returned_is v j.body.result from r ranges e)) l)))
