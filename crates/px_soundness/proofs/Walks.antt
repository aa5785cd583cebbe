-- Where a walk leads by a listed way, and what the machine does there.
use Rattle.std.proofs.Common.{◌≡◌, ℕ, suc, Bool, true, false, nat_lt, ◌||◌, Option, Some, None, List, [], ◌∷◌, ◌++◌, length, slice_get, refl, sym, ap, ◌∙◌, subst}
use Rattle.std.specs.List.{list_any}
use Rattle.std.proofs.lemmas.Option.{same_Some}
use Rattle.px_base.specs.declared.trace.Site.{Site}
use Rattle.px_base.specs.declared.trace.Mark.{Mark}
use Rattle.px_base.specs.declared.trace.MarkKind.TheVariants as mark
use Rattle.px_terms.specs.Polynomials.{Polynomial}
use Rattle.px_terms.specs.declared.types.TypeId.{TypeId}
use Rattle.px_terms.specs.declared.types.BlockType.{BlockType}
use Rattle.px_terms.specs.declared.variables.VarInfo.{VarInfo}
use Rattle.px_terms.specs.declared.conjuncts.Place.{Place as PlaceOf}
use Rattle.px_terms.specs.declared.conjuncts.Place.TheVariants as place
use Rattle.px_terms.specs.declared.conjuncts.Content.{Content}
use Rattle.px_terms.specs.declared.conjuncts.Content.TheVariants.{Unwritten, Word, Place, Cell}
use Rattle.px_terms.specs.declared.conjuncts.Conj.{Conj}
use Rattle.px_terms.specs.declared.conjuncts.Conj.TheVariants.{SamePlace, Unequal}
use Rattle.px_core.specs.CommandTree.{CommandTree, assign, unset, read, test, choose, loop, leave, load, store, malloc, free, input, call, return, break, continue, stop, divide}
use Rattle.px_core.specs.Control.{Turns, Item, Act, AfterHead, AfterBody, AfterStep, acts, no_turns, one_turn_more, leave_to}
use Rattle.px_core.specs.Constants.{IsInRange, KeepsToRange}
use Rattle.px_core.specs.declared.command.Operand.{Operand}
use Rattle.px_core.specs.declared.command.Operator.{Operator}
use Rattle.px_entry.specs.declared.atoms.Atom.{Atom}
use Rattle.px_entry.specs.declared.atoms.AtomState.{AtomState}
use Rattle.px_entry.specs.declared.atoms.AtomState.TheVariants.{Live, Freed}
use Rattle.px_entry.specs.Decided.{word_of}
use Rattle.px_entry.specs.Standing.{contents_value}
use Rattle.px_entry.specs.declared.entries.Exit.{Exit}
use Rattle.px_entry.specs.declared.tables.LongKind.{LongKind}
use Rattle.px_callgraph.specs.declared.states.State.{State}
use Rattle.px_callgraph.specs.declared.states.Way.{Way}
use Rattle.px_callgraph.specs.declared.states.Way.TheVariants as way
use Rattle.px_callgraph.specs.JobTree.{JobTree}
use Rattle.px_callgraph.specs.States.{Outcome, goes, ends, past, drops, Done, on, marked, begun, assumed, content_at, operand_content}
use Rattle.px_callgraph.specs.Operations.{operation, made_terms, condition, contrary}
use Rattle.px_callgraph.specs.Accesses.{Access, accessed, meet_live, meet_freed, load_access, store_access, free_access, use_state, use_atom, reach_atom, access_done}
use Rattle.px_callgraph.specs.Commands.{read_cell, read_done, test_outcome, test_done, outcome_of, all_but_last, repeat_loop, leaving, malloc_done, constant_quotient, quotient_by, words_divided, divide_done, returned, return_done, terms_of, assign_done, through_place, command_ways, act_done, command_done}
use Rattle.px_callgraph.specs.declared.outcomes.StepOutcome.TheVariants.{Next, Ends, Cut, Past}
use Rattle.px_callgraph.specs.Alternatives.{chosen, Walk, Leads, passes, limited, led, within_limits, leads, at, items_after, after_command, item_ways, item_act}
use Rattle.px_callgraph.specs.Derivations.{same_way}
use Rattle.px_meaning.specs.Events.{mark_of}
use Rattle.px_meaning.specs.Steps.{ProcedureCalls, step}
use Rattle.px_callgraph.specs.Callees.{NamedIn}
use Rattle.px_check.proofs.TakeLemmas.{same_sound}
use Rattle.px_soundness.proofs.WellFormed.{WellTyped, CompleteAt, EndsWell, Opens, WellFormed, WellFormedLeads}
use Rattle.px_soundness.proofs.AtomHeaps.{absent}
use Rattle.px_soundness.proofs.Controls.{acts_keep, acts_open, leave_opens, break_opens, continue_opens, mapped, after_keeps}
use Rattle.px_soundness.proofs.Sound.{Each1, From, Can, Sound, sound_same, sound_plain}
use Rattle.px_soundness.proofs.PlainSteps.{Does, Leads1, does_assign, does_unset, does_read, does_test, does_choose, does_loop, does_leave, does_break, does_continue, does_stop, does_return}
use Rattle.px_soundness.proofs.BlockSteps.{does_load, does_store, does_free, does_malloc, does_input}
use Rattle.px_soundness.proofs.Divisions.{divide_cases, does_divide}
use Rattle.px_soundness.proofs.WellTypedSteps.{command_well_typed}
use Rattle.px_soundness.proofs.Endings.{command_well}
use Rattle.px_soundness.proofs.CompleteSteps.{CompleteDone, command_complete}
use Rattle.px_callgraph.proofs.LengthLemmas.{but_last_is}

-- ---- where acts lead

-- the machine does the first item
abbrev pub Machine : JobTree → ProcedureCalls Mark → Item → List Item → State → Can
Machine j calls i k s v H K = step mark_of None j.types calls i k (contents_value v s.slots) H (From s.trace K)

-- where an act leads is where the machine comes to
abbrev pub SoundLeads : Can → State → Leads → Type 1
SoundLeads C s (Next w) = Sound C s w.control w.state goes
SoundLeads C s (Ends t exit result) = Sound C s [] t (ends exit result)
SoundLeads C s (Cut t gap) = Unit {1}
SoundLeads C s (Past t) = Unit {1}

abbrev pub Good1 : JobTree → Can → State → Leads → Type 1
Good1 j C s a = SoundLeads C s a × WellFormedLeads j a

-- ---- limits of a path

module _ (j : JobTree) (C : Can) (s : State) (k : List Item) (d : Done) (go : State → Walk) (same : at k d.state ≡ go d.state) where
  ends_anywhere : (t : State) (e : Exit) (r : Option Content) → Sound C s k t (ends e r) → Sound C s [] t (ends e r)
  unfolding Sound
  ends_anywhere t e r h = h

  led_good : (o : Outcome) → Sound C s k d.state o → (o ≡ goes → WellFormed j d.state k) → WellTyped j.types d.state → EndsWell j d.state o → CompleteAt j d.state → (p : Option LongKind) → Good1 j C s (limited s (led s d go o) p)
  led_good goes h f t x u None = subst (λ (w : Walk). Good1 j C s (Next w)) same (h, (refl, f refl))
  led_good (ends e r) h f t x u None = (ends_anywhere d.state e r h, (t, x, u))
  led_good past h f t x u None = (tt, tt)
  led_good (drops word) h f t x u None = (tt, tt)
  led_good o h f t x u (Some kind) = (tt, tt)

  pub leads_good : (o : Outcome) → d.outcome ≡ o → Sound C s k d.state d.outcome → (o ≡ goes → WellFormed j d.state k) → WellTyped j.types d.state → EndsWell j d.state d.outcome → CompleteAt j d.state → Good1 j C s (within_limits s d go o)
  leads_good goes e h f t x u = led_good goes (subst (Sound C s k d.state) e h) f t tt u (passes d)
  leads_good (ends y r) e h f t x u = led_good (ends y r) (subst (Sound C s k d.state) e h) f t (subst (EndsWell j d.state) e x) u (passes d)
  leads_good past e h f t x u = (tt, tt)
  leads_good (drops word) e h f t x u = led_good (drops word) (subst (Sound C s k d.state) e h) f t tt u (passes d)

-- ---- lists of ways

each1_both : (P Q R : Way → Type 1) → ((w : Way) → P w → Q w → R w) → (ws : List Way) → Each1 P ws → Each1 Q ws → Each1 R ws
each1_both P Q R f [] p q = tt
each1_both P Q R f (w ∷ ws) p q = (f w p.0 q.0, each1_both P Q R f ws p.1 q.1)

pub listed_has : (P : Way → Type 1) (name : Way) (ws : List Way) → Each1 P ws → list_any (same_way name) ws ≡ true → P name
listed_has P name [] h e = absurd (let f : false ≡ true = e in cc)
listed_has P name (w ∷ ws) h e = by (same_way name w) refl (listed_has P name ws h.1) e
  where
    by : (q : Bool) → same_way name w ≡ q → (list_any (same_way name) ws ≡ true → P name) → (q || list_any (same_way name) ws) ≡ true → P name
    by true is rest e = subst P (sym (same_sound name w is)) h.0
    by false is rest e = rest e

-- ---- commands

-- a command that isn't a call
abbrev pub IsOwn : CommandTree → Type 0
IsOwn (call to proc arguments site) = ⊥
IsOwn _ = Unit {0}

module _ (j : JobTree) (calls : ProcedureCalls Mark) (s : State) (k k' : List Item) (well_typed : WellTyped j.types s) (opens : Opens k s.loops) where
  well_typed' : WellTyped j.types (begun s)
  well_typed' = record { slots = well_typed.slots; atoms = well_typed.atoms; own = well_typed.own }

  range_of : (from : Option Operand) → KeepsToRange (return from) → (a : Operand) → from ≡ Some a → IsInRange a
  range_of None r a e = absent e
  range_of (Some b) r a e = subst IsInRange (same_Some _ _ e) r

  -- each way of a command that isn't a call is a step of the machine
  command_leads : (c : CommandTree) → IsOwn c → KeepsToRange c → items_after s c k ≡ Some k' → Leads1 j j.types calls c k k' (begun s)
  command_leads (assign to op a b) own r e = subst (λ z. Leads1 j j.types calls (assign to op a b) k z (begun s)) (same_Some _ _ e) (does_assign j j.types calls (begun s) well_typed' k to op a b r.0 r.1)
  command_leads (unset to) own r e = subst (λ z. Leads1 j j.types calls (unset to) k z (begun s)) (same_Some _ _ e) (does_unset j j.types calls (begun s) well_typed' k to)
  command_leads (read slot site) own r e = subst (λ z. Leads1 j j.types calls (read slot site) k z (begun s)) (same_Some _ _ e) (does_read j j.types calls (begun s) well_typed' k slot site)
  command_leads (test to how a b site) own r e = subst (λ z. Leads1 j j.types calls (test to how a b site) k z (begun s)) (same_Some _ _ e) (does_test j j.types calls (begun s) well_typed' k to how a b site r.0 r.1)
  command_leads (choose slot first second) own r e = does_choose j j.types calls (begun s) well_typed' k k' slot first second e
  command_leads (loop site head body step) own r e = does_loop j j.types calls (begun s) well_typed' k k' site head body step e
  command_leads leave own r e = does_leave j j.types calls (begun s) well_typed' k k' opens e
  command_leads (load to at field block site) own r e = subst (λ z. Leads1 j j.types calls (load to at field block site) k z (begun s)) (same_Some _ _ e) (does_load j calls (begun s) k site block to at field r)
  command_leads (store at field block from site) own r e = subst (λ z. Leads1 j j.types calls (store at field block from site) k z (begun s)) (same_Some _ _ e) (does_store j calls (begun s) k site block at field from r.0 r.1)
  command_leads (malloc to block site) own r e = subst (λ z. Leads1 j j.types calls (malloc to block site) k z (begun s)) (same_Some _ _ e) (does_malloc j calls (begun s) k site block to)
  command_leads (free at block site) own r e = subst (λ z. Leads1 j j.types calls (free at block site) k z (begun s)) (same_Some _ _ e) (does_free j calls (begun s) k site block at r)
  command_leads (input to site) own r e = subst (λ z. Leads1 j j.types calls (input to site) k z (begun s)) (same_Some _ _ e) (does_input j j.types calls (begun s) k to site)
  command_leads (call to proc arguments site) own r e = absurd own
  command_leads (return from) own r e = subst (λ z. Leads1 j j.types calls (return from) k z (begun s)) (same_Some _ _ e) (does_return j j.types calls (begun s) well_typed' k from (range_of from r))
  command_leads break own r e = does_break j j.types calls (begun s) well_typed' k k' e
  command_leads continue own r e = does_continue j j.types calls (begun s) well_typed' k k' e
  command_leads (stop number site) own r e = subst (λ z. Leads1 j j.types calls (stop number site) k z (begun s)) (same_Some _ _ e) (does_stop j j.types calls (begun s) well_typed' k number site)
  command_leads (divide to a b site) own r e = subst (λ z. Leads1 j j.types calls (divide to a b site) k z (begun s)) (same_Some _ _ e) (does_divide j j.types calls (begun s) well_typed' k to a b site r.0 r.1)

-- ---- open loops

module _ (j : JobTree) (s : State) where
  read_loops : (slot : ℕ) (site : Site) (c : Content) (w : Way) → (read_done slot site c w s).state.loops ≡ s.loops
  read_loops slot site Unwritten way.Written = refl
  read_loops slot site (Word p) way.Written = refl
  read_loops slot site (Place a) way.Written = refl
  read_loops slot site (Cell x) way.Written = by (slice_get s.vars x.0)
    where
      by : (o : Option VarInfo) → (read_cell slot x o s).state.loops ≡ s.loops
      by None = refl
      by (Some i) = refl
  read_loops slot site Unwritten way.Unwritten = refl
  read_loops slot site (Word p) way.Unwritten = refl
  read_loops slot site (Place a) way.Unwritten = refl
  read_loops slot site (Cell x) way.Unwritten = refl
  read_loops slot site c _ = refl

  outcome_loops : (to n : ℕ) (o : Option Conj) (t : State) → (test_outcome to n o t).state.loops ≡ t.loops
  outcome_loops to n None t = refl
  outcome_loops to n (Some c) t = refl

  test_loops : (to : ℕ) (site : Site) (a b : Option Conj) (w : Way) → (test_done to site a b w s).state.loops ≡ s.loops
  test_loops to site a b way.Then = outcome_loops to 1 a (marked mark.Then site s)
  test_loops to site a b way.Else = outcome_loops to 0 b (marked mark.Else site s)
  test_loops to site a b _ = refl

  -- what a command does in the three outcomes keeps the loops
  pub record KeepsLoops (a : Access) : Type 0 where
    pub null : (t : State) → (a.null t).state.loops ≡ t.loops
    pub freed : (t : State) → (a.freed t).state.loops ≡ t.loops
    pub live : (n : ℕ) (cells : List Content) (t : State) → (a.live n cells t).state.loops ≡ t.loops

  module _ (a : Access) (keeps : KeepsLoops a) where
    state_loops : (n : ℕ) (st : AtomState) (t : State) → (use_state a n st t).state.loops ≡ t.loops
    state_loops n (Live cells) t = keeps.live n cells t
    state_loops n Freed t = keeps.freed t

    use_loops : (n : ℕ) (o : Option Atom) (t : State) → (use_atom a n o t).state.loops ≡ t.loops
    use_loops n None t = refl
    use_loops n (Some b) t = state_loops n b.state t

    reach_loops : (p : PlaceOf) (n : ℕ) (o : Option Atom) → (reach_atom a p n o s).state.loops ≡ s.loops
    reach_loops p n None = refl
    reach_loops p n (Some b) = state_loops n b.state (assumed (SamePlace p (place.Var b.place)) s)

    access_loops : (types : List BlockType) (block : TypeId) (p : PlaceOf) (w : Way) → (access_done types block a p w s).state.loops ≡ s.loops
    access_loops types block p way.Null = keeps.null (assumed (SamePlace p place.Null) s)
    access_loops types block p (way.Atom n) = reach_loops p n (slice_get s.atoms n)
    access_loops types block place.Null way.MissingLive = refl
    access_loops types block (place.Var x) way.MissingLive = use_loops (length s.atoms) (slice_get (meet_live types block x s).atoms (length s.atoms)) (meet_live types block x s)
    access_loops types block place.Null way.MissingFreed = refl
    access_loops types block (place.Var x) way.MissingFreed = use_loops (length s.atoms) (slice_get (meet_freed block x s).atoms (length s.atoms)) (meet_freed block x s)
    access_loops types block p _ = refl

    pointer_loops : (block : TypeId) (o : Option PlaceOf) (w : Way) → (through_place (on s) o (λ p. access_done j.types block a p w s)).state.loops ≡ s.loops
    pointer_loops block None w = refl
    pointer_loops block (Some p) w = access_loops j.types block p w

  malloc_loops : (to : ℕ) (block : TypeId) (site : Site) (w : Way) → (malloc_done j.types to block site w s).state.loops ≡ s.loops
  malloc_loops to block site way.Null = refl
  malloc_loops to block site way.Made = refl
  malloc_loops to block site _ = refl

  assign_loops : (to : ℕ) (op : Operator) (o : Option Content) → (assign_done to (terms_of o (made_terms op)) o s).state.loops ≡ s.loops
  assign_loops to op None = refl
  assign_loops to op (Some c) = refl

  quotient_loops : (to : ℕ) (p q : Polynomial) (o : Option Content) (t : State) → (quotient_by to p q o t).loops ≡ t.loops
  quotient_loops to p q None t = refl
  quotient_loops to p q (Some c) t = refl

  divided_loops : (to : ℕ) (site : Site) (w : Way) (p q : Polynomial) → (words_divided to site w s p q).state.loops ≡ s.loops
  divided_loops to site way.ByZero p q = refl
  divided_loops to site way.Divided p q = quotient_loops to p q (constant_quotient (word_of p) (word_of q)) (assumed (Unequal q) s)
  divided_loops to site _ p q = refl

  divide_loops : (to : ℕ) (site : Site) (w : Way) (a b : Content) → (divide_done to site a b w s).state.loops ≡ s.loops
  divide_loops to site w a b = divide_cases (λ (d : Done). d.state.loops ≡ s.loops) s to site w a b refl (divided_loops to site w)

  return_loops : (o : Option (Option Content)) → (return_done o s).state.loops ≡ s.loops
  return_loops None = refl
  return_loops (Some r) = refl

module _ (j : JobTree) (s : State) (k k' : List Item) (opens : Opens k s.loops) where
  stay : (t : State) → t.loops ≡ s.loops → Some k ≡ Some k' → Opens k' t.loops
  stay t same e = subst (λ z. Opens z t.loops) (same_Some _ _ e) (subst (Opens k) (sym same) opens)

  -- the open loops after a command are those of the items after it
  command_opens : (c : CommandTree) (w : Way) → items_after s c k ≡ Some k' → Opens k' (act_done j c w s).state.loops
  command_opens (assign to op a b) w e = stay (act_done j (assign to op a b) w s).state (assign_loops j s to op (operation op (operand_content s a) (operand_content s b))) e
  command_opens (unset to) w e = stay (act_done j (unset to) w s).state refl e
  command_opens (read slot site) w e = stay (act_done j (read slot site) w s).state (read_loops j s slot site (content_at s.slots slot) w) e
  command_opens (test to how a b site) w e = stay (act_done j (test to how a b site) w s).state (test_loops j s to site (condition how (operand_content s a) (operand_content s b)) (contrary how (operand_content s a) (operand_content s b)) w) e
  command_opens (choose slot first second) w e =
      let (b, is, same) = mapped (λ b. acts (chosen b first second) k) (outcome_of (content_at s.slots slot)) k' e in subst (λ z. Opens z s.loops) same (acts_open (chosen b first second) k s.loops opens)
  command_opens (loop site head body step) w e =
      subst (λ z. Opens z (s.loops ++ (site, 0) ∷ [])) (same_Some _ _ e) (acts_open head (AfterHead (no_turns site head body step) ∷ k) (s.loops ++ (site, 0) ∷ []) (s.loops, 0, refl, opens))
  command_opens leave w e =
      let (p, is, same) = mapped (λ (place : Turns × List Item). place.1) (leave_to k) k' e in
      let (m, last, rest) = leave_opens k s.loops p opens is in
      subst (λ o. Opens k' (leaving o s).state.loops) (sym last) (subst (λ z. Opens z (all_but_last s.loops)) same rest)
  command_opens (load to at field block site) w e =
      stay (act_done j (load to at field block site) w s).state (pointer_loops j s (load_access to field.0 site) (record { null = λ t. refl; freed = λ t. refl; live = λ n cells t. refl }) block (accessed s.vars block (operand_content s at)) w) e
  command_opens (store at field block from site) w e =
      stay (act_done j (store at field block from site) w s).state
      (pointer_loops j s (store_access field.0 (operand_content s from) site) (record { null = λ t. refl; freed = λ t. refl; live = λ n cells t. refl }) block (accessed s.vars block (operand_content s at)) w) e
  command_opens (malloc to block site) w e = stay (act_done j (malloc to block site) w s).state (malloc_loops j s to block site w) e
  command_opens (free at block site) w e =
      stay (act_done j (free at block site) w s).state (pointer_loops j s (free_access site) (record { null = λ t. refl; freed = λ t. refl; live = λ n cells t. refl }) block (accessed s.vars block (operand_content s at)) w) e
  command_opens (input to site) w e = stay (act_done j (input to site) w s).state refl e
  command_opens (call to proc arguments site) w e = stay (act_done j (call to proc arguments site) w s).state refl e
  command_opens (return from) w e = stay (act_done j (return from) w s).state (return_loops j s (returned s j.body.result from)) e
  command_opens break w e = break_opens k s.loops k' opens e
  command_opens continue w e = continue_opens k s.loops k' opens e
  command_opens (stop number site) w e = stay (act_done j (stop number site) w s).state refl e
  command_opens (divide to a b site) w e = stay (act_done j (divide to a b site) w s).state (divide_loops j s to site w (operand_content s a) (operand_content s b)) e

-- ---- items

behind_is : (s : State) (c : CommandTree) (k : List Item) (t : State) → IsOwn c → at k t ≡ after_command s c k t
behind_is s (call to proc arguments site) k t own = absurd own
behind_is s (assign to op a b) k t own = refl
behind_is s (unset to) k t own = refl
behind_is s (read slot site) k t own = refl
behind_is s (test to how a b site) k t own = refl
behind_is s (choose slot first second) k t own = refl
behind_is s (loop site head body step) k t own = refl
behind_is s leave k t own = refl
behind_is s (load to at' field block site) k t own = refl
behind_is s (store at' field block from site) k t own = refl
behind_is s (malloc to block site) k t own = refl
behind_is s (free at' block site) k t own = refl
behind_is s (input to site) k t own = refl
behind_is s (return from) k t own = refl
behind_is s break k t own = refl
behind_is s continue k t own = refl
behind_is s (stop number site) k t own = refl
behind_is s (divide to a b site) k t own = refl

module _ (j : JobTree) (calls : ProcedureCalls Mark) where
  pub act_good : (s : State) (c : CommandTree) (k : List Item) → IsOwn c → WellFormed j s (Act c ∷ k) →
      Each1 (λ name. Good1 j (Machine j calls (Act c) k s) s (item_act j s (Act c ∷ k) name)) (item_ways j s (Act c ∷ k))
  act_good s c k own well_formed = by (items_after s c k) refl
    where
      well_typed' : WellTyped j.types (begun s)
      well_typed' = record { slots = well_formed.well_typed.slots; atoms = well_formed.well_typed.atoms; own = well_formed.well_typed.own }

      one : (k' : List Item) → items_after s c k ≡ Some k' → (w : Way) → Sound (Does j.types calls c k (begun s)) (begun s) k' (act_done j c w (begun s)).state (act_done j c w (begun s)).outcome →
          ((Unit {1} × WellTyped j.types (act_done j c w (begun s)).state) × CompleteDone j (act_done j c w (begun s))) → Good1 j (Machine j calls (Act c) k s) s (leads s (command_done j c w s) (after_command s c k'))
      one k' e w sound kept =
          let d : Done = act_done j c w (begun s) in
          leads_good j (Machine j calls (Act c) k s) s k' d (after_command s c k') (behind_is s c k' d.state own) d.outcome refl
          (sound_same (Machine j calls (Act c) k s) s s.loops (suc s.steps) k' d.state d.outcome sound)
          (λ g. record { well_typed = kept.0.1; complete = kept.1.1; keeps = after_keeps (λ f. NamedIn f j.body.commands) s c k k' well_formed.keeps.0 well_formed.keeps.1 e; opens = command_opens j (begun s) k k' well_formed.opens c w e })
          kept.0.1
          (command_well j (begun s) well_typed' c w well_formed.keeps.0.0)
          kept.1.1

      by : (o : Option (List Item)) → items_after s c k ≡ o →
          Each1 (λ name. Good1 j (Machine j calls (Act c) k s) s (elim o as (λ _. Leads) [ None ↦ Past s | Some k' ↦ leads s (command_done j c name s) (after_command s c k') ])) (elim o as (λ _. List Way) [ None ↦ [] | Some k' ↦ command_ways j s c ])
      by None e = tt
      by (Some k') e = each1_both _ _ _ (one k' e) (command_ways j s c) (command_leads j calls s k k' well_formed.well_typed well_formed.opens c own well_formed.keeps.0.0 e) (each1_both (λ w. Unit {1} × WellTyped j.types (act_done j c w (begun s)).state) (λ w. CompleteDone j (act_done j c w (begun s)))
          (λ w. (Unit {1} × WellTyped j.types (act_done j c w (begun s)).state) × CompleteDone j (act_done j c w (begun s))) (λ w p q. (p, q)) (command_ways j s c) (command_well_typed j (begun s) well_typed' c well_formed.keeps.0.0) (command_complete j (begun s) well_typed' well_formed.complete c well_formed.keeps.0.0))

  head_good : (s : State) (l : Turns) (k : List Item) → WellFormed j s (AfterHead l ∷ k) → Good1 j (Machine j calls (AfterHead l) k s) s (item_act j s (AfterHead l ∷ k) way.On)
  head_good s l k well_formed = by (nat_lt l.made j.limits.unroll)
    where
      k' : List Item
      k' = acts l.body (AfterBody (one_turn_more l) ∷ k)

      by : (b : Bool) → Good1 j (Machine j calls (AfterHead l) k s) s (leads s (elim b as (λ _. Done) [ true ↦ on (repeat_loop l.site (suc l.made) (marked mark.Iter l.site s)) | false ↦ record { state = s; terms = []; outcome = past } ]) (at (acts l.body (AfterBody (one_turn_more l) ∷ k))))
      by true =
          let t : State = repeat_loop l.site (suc l.made) (marked mark.Iter l.site s) in
          let well_typed : WellTyped j.types t = record { slots = well_formed.well_typed.slots; atoms = well_formed.well_typed.atoms; own = well_formed.well_typed.own } in
          let (rest, m, is, inner) = well_formed.opens in
          let opens : Opens (acts l.body (AfterBody (one_turn_more l) ∷ k)) t.loops =
          acts_open l.body (AfterBody (one_turn_more l) ∷ k) t.loops (rest, suc l.made, ap (λ ls. ls ++ (l.site, suc l.made) ∷ []) (ap all_but_last is ∙ but_last_is rest (l.site, m)), inner) in
          leads_good j (Machine j calls (AfterHead l) k s) s (acts l.body (AfterBody (one_turn_more l) ∷ k)) (on t) (at (acts l.body (AfterBody (one_turn_more l) ∷ k))) refl goes refl
          (sound_plain (Machine j calls (AfterHead l) k s) s s.slots (s.trace ++ record { kind = mark.Iter; site = l.site } ∷ []) t.loops s.steps (acts l.body (AfterBody (one_turn_more l) ∷ k)) goes (λ v further h K g. (tt, g)))
          (λ g. record { well_typed = well_typed; complete = well_formed.complete; keeps = acts_keep (λ f. NamedIn f j.body.commands) l.body (AfterBody (one_turn_more l) ∷ k) well_formed.keeps.0.1 (well_formed.keeps.0, well_formed.keeps.1); opens = opens })
          well_typed tt well_formed.complete
      by false = (tt, tt)

  -- each way of the first item is a step of the machine
  pub item_good : (s : State) (i : Item) (k : List Item) → ((c : CommandTree) → i ≡ Act c → IsOwn c) → WellFormed j s (i ∷ k) →
      Each1 (λ name. Good1 j (Machine j calls i k s) s (item_act j s (i ∷ k) name)) (item_ways j s (i ∷ k))
  item_good s (Act c) k own well_formed = act_good s c k (own c refl) well_formed
  item_good s (AfterHead l) k own well_formed = (head_good s l k well_formed, tt)
  item_good s (AfterBody l) k own well_formed =
      let (rest, m, is, inner) = well_formed.opens in (
        (
          sound_plain (Machine j calls (AfterBody l) k s) s s.slots s.trace s.loops s.steps (acts l.step (AfterStep l ∷ k)) goes (λ v further h K g. g),
          (refl, record { well_typed = well_formed.well_typed; complete = well_formed.complete; keeps = acts_keep (λ f. NamedIn f j.body.commands) l.step (AfterStep l ∷ k) well_formed.keeps.0.2 well_formed.keeps; opens = acts_open l.step (AfterStep l ∷ k) s.loops well_formed.opens }),
        ),
        tt,
      )
  item_good s (AfterStep l) k own well_formed = (
    (
      sound_plain (Machine j calls (AfterStep l) k s) s s.slots s.trace s.loops s.steps (acts l.head (AfterHead l ∷ k)) goes (λ v further h K g. g),
      (refl, record { well_typed = well_formed.well_typed; complete = well_formed.complete; keeps = acts_keep (λ f. NamedIn f j.body.commands) l.head (AfterHead l ∷ k) well_formed.keeps.0.0 well_formed.keeps; opens = acts_open l.head (AfterHead l ∷ k) s.loops well_formed.opens }),
    ),
    tt,
  )
