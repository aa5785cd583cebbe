-- What a walk has entered, and from which table what it is in came. An error out of a call is one that an entry of the
-- callee's table has.
use Rattle.std.proofs.Common.{◌≡◌, ℕ, suc, Bool, true, false, nat_lt, ◌&&◌, ◌⊎◌, inl, inr, Option, Some, None, List, [], ◌∷◌, ◌++◌, length, slice_get, refl, sym, ap, ◌∙◌, subst}
use Rattle.px_base.specs.declared.trace.Site.{Site}
use Rattle.px_base.specs.declared.trace.ProcId.{ProcId}
use Rattle.px_base.specs.declared.trace.Kind.{Kind}
use Rattle.px_base.specs.declared.trace.Mark.{Mark}
use Rattle.px_base.specs.declared.trace.MarkKind.{MarkKind}
use Rattle.px_base.specs.declared.trace.MarkKind.TheVariants as mark
use Rattle.px_terms.specs.Polynomials.{Polynomial}
use Rattle.px_terms.specs.declared.conjuncts.Place.{Place as PlaceOf}
use Rattle.px_terms.specs.declared.conjuncts.Place.TheVariants as place
use Rattle.px_terms.specs.declared.conjuncts.Content.{Content}
use Rattle.px_core.specs.CommandTree.{CommandTree, assign, unset, read, test, choose, loop, leave, load, store, malloc, free, input, call, return, break, continue, stop, divide}
use Rattle.px_core.specs.Control.{Turns, Item, Act, AfterHead, AfterBody, AfterStep, acts, one_turn_more}
use Rattle.px_core.specs.declared.command.Operand.{Operand}
use Rattle.px_entry.specs.declared.atoms.Atom.{Atom}
use Rattle.px_entry.specs.declared.entries.Entry.{Entry}
use Rattle.px_entry.specs.declared.entries.Exit.{Exit}
use Rattle.px_entry.specs.declared.entries.Exit.TheVariants.{Ok, Error}
use Rattle.px_entry.specs.declared.tables.LongKind.{LongKind}
use Rattle.px_entry.specs.Cases.{is_freed}
use Rattle.px_entry.specs.Regular.{is_regular}
use Rattle.px_callgraph.specs.declared.states.State.{State}
use Rattle.px_callgraph.specs.declared.states.Way.{Way}
use Rattle.px_callgraph.specs.declared.states.Way.TheVariants as way
use Rattle.px_callgraph.specs.JobTree.{JobTree, callee_in}
use Rattle.px_callgraph.specs.States.{Outcome, goes, ends, past, drops, Done, on, marked, begun, with_variables}
use Rattle.px_callgraph.specs.Accesses.{meet_live, meet_freed}
use Rattle.px_callgraph.specs.Commands.{repeat_loop, command_done}
use Rattle.px_callgraph.specs.Renaming.{Substitution, place_through, stand_from, new_variables}
use Rattle.px_callgraph.specs.Calls.{Calling, Stage, choosing, matching, unfit, entry_in, fits_arguments, choose_entry, take_atom, take_case, meet_required, assume_entry, leave_atoms, add_trace, result_through, keep_result, end_call, entry_terms, stand_all}
use Rattle.px_callgraph.specs.declared.outcomes.StepOutcome.TheVariants.{Next, Ends, Cut, Past}
use Rattle.px_callgraph.specs.Alternatives.{Walk, Leads, passes, limited, led, within_limits, leads, at, items_after, after_command, item_act, going_on, choosing_act, stage_act, act}
use Rattle.px_truth.proofs.OpenCalls.{IsClosed, Opens, entering, leaving, closed_append, left_closed}
use Rattle.px_truth.proofs.PlainMarks.{IsPlain, Marks, IsOwn, act_marks}

-- ---- entries

-- an entry that returns has closed all calls, and one that ends in an error closes none that isn't its own
abbrev pub FitsExit : Exit → List Mark → Type 0
FitsExit Ok t = IsClosed t
FitsExit (Error kind site) t = (more : List ProcId) × Opens more t

-- the entries in the tables of the callees are so
abbrev pub TablesFit : JobTree → Type 0
TablesFit j = (f : ProcId) (n : ℕ) (x : Entry) → entry_in (callee_in j.callees f) n ≡ Some x → FitsExit x.exit x.trace

-- A trace is that of an error in a call that was entered and not left: the callee's table has an entry with this error,
-- and its trace stands after the mark.
pub record EndsInside (j : JobTree) (kind : Kind) (site : Site) (t : List Mark) : Type 0 where
  pub before : List Mark
  pub proc : ProcId
  pub from : Site
  pub number : ℕ
  pub entry : Entry
  pub closed : IsClosed before
  pub is : entry_in (callee_in j.callees proc) number ≡ Some entry
  pub exit : entry.exit ≡ Error kind site
  pub trace : t ≡ (before ++ entering proc from) ++ entry.trace

-- ---- what holds on the way

module _ (j : JobTree) where
  abbrev pub HasEntered : ProcId → List Mark → Type 0
  HasEntered g t = (before : List Mark) × (site : Site) × IsClosed before × (t ≡ before ++ entering g site)

  abbrev pub FitsStage : ProcId → List Mark → Stage → Type 0
  FitsStage g t choosing = HasEntered g t
  FitsStage g t (matching x σ rest used) = HasEntered g t × (n : ℕ) × (entry_in (callee_in j.callees g) n ≡ Some x)
  FitsStage g t unfit = Unit {0}

  abbrev pub FitsCall : List Mark → Option (Calling × Stage) → Type 0
  FitsCall t None = IsClosed t
  FitsCall t (Some c) = FitsStage c.0.proc t c.1

  abbrev pub FitsEnd : List Mark → Exit → Type 0
  FitsEnd t Ok = IsClosed t
  FitsEnd t (Error kind site) = IsClosed t ⊎ EndsInside j kind site t

  abbrev pub Fits : Leads → Type 0
  Fits (Next w) = FitsCall w.state.trace w.call
  Fits (Ends s exit result) = FitsEnd s.trace exit
  Fits (Cut s gap) = Unit {0}
  Fits (Past s) = Unit {0}

  closed_end : (t : List Mark) (e : Exit) → IsClosed t → FitsEnd t e
  closed_end t Ok c = c
  closed_end t (Error kind site) c = inl c

  limited_fits : (s : State) (a : Leads) (o : Option LongKind) → Fits a → Fits (limited s a o)
  limited_fits s a None h = h
  limited_fits s a (Some k) h = tt

  leads_fits : (s : State) (d : Done) (go : State → Walk) → (d.outcome ≡ goes → Fits (Next (go d.state))) →
      ((e : Exit) (r : Option Content) → d.outcome ≡ ends e r → FitsEnd d.state.trace e) → Fits (leads s d go)
  leads_fits s d go next last = by d.outcome refl
    where
      by : (o : Outcome) → d.outcome ≡ o → Fits (within_limits s d go o)
      by goes e = limited_fits s (led s d go goes) (passes d) (next e)
      by (ends x r) e = limited_fits s (led s d go (ends x r)) (passes d) (last x r e)
      by past e = tt
      by (drops word) e = limited_fits s (led s d go (drops word)) (passes d) tt

  -- ---- items of control

  plain_closed : (kind : MarkKind) (site : Site) → IsPlain kind → IsClosed (record { kind = kind; site = site } ∷ [])
  plain_closed mark.Then site p n = refl
  plain_closed mark.Else site p n = refl
  plain_closed mark.Iter site p n = refl
  plain_closed mark.Done site p n = refl
  plain_closed mark.Got site p n = refl
  plain_closed mark.NoBlock site p n = refl
  plain_closed mark.Input site p n = refl
  plain_closed mark.Access site p n = refl
  plain_closed mark.Freed site p n = refl
  plain_closed mark.FreeNull site p n = refl
  plain_closed (mark.Enter g) site p n = absurd p
  plain_closed mark.Leave site p n = absurd p

  marks_closed : (t u : List Mark) → Marks t u → IsClosed t → IsClosed u
  marks_closed t u (inl e) c = subst IsClosed (sym e) c
  marks_closed t u (inr (kind, site, plain, e)) c =
      subst IsClosed (sym e) (closed_append t (record { kind = kind; site = site } ∷ []) c (plain_closed kind site plain))

  -- where a command other than a call leads
  own_fits : (s : State) (c : CommandTree) (k : List Item) (w : Way) → IsOwn c → ((t : State) → at k t ≡ after_command s c k t) → IsClosed s.trace →
      Fits (leads s (command_done j c w s) (after_command s c k))
  own_fits s c k w own is closed =
      let d : Done = command_done j c w s in
      let items_after : IsClosed d.state.trace = marks_closed s.trace d.state.trace (act_marks j c w (begun s) own) closed in
      leads_fits s d (after_command s c k) (λ e. subst (λ (z : Walk). Fits (Next z)) (is d.state) items_after) (λ e r o. closed_end d.state.trace e items_after)

  call_fits : (s : State) (to : Option ℕ) (proc : ProcId) (arguments : List Operand) (site : Site) (k : List Item) (w : Way) → IsClosed s.trace →
      Fits (leads s (command_done j (call to proc arguments site) w s) (after_command s (call to proc arguments site) k))
  call_fits s to proc arguments site k w closed =
      leads_fits s (command_done j (call to proc arguments site) w s) (after_command s (call to proc arguments site) k) (λ e. (s.trace, site, closed, refl)) (λ e r o. cc)

  command_fits : (s : State) (c : CommandTree) (k : List Item) (w : Way) → IsClosed s.trace → Fits (leads s (command_done j c w s) (after_command s c k))
  command_fits s (call to proc arguments site) k w h = call_fits s to proc arguments site k w h
  command_fits s (assign to op a b) k w h = own_fits s (assign to op a b) k w tt (λ t. refl) h
  command_fits s (unset to) k w h = own_fits s (unset to) k w tt (λ t. refl) h
  command_fits s (read slot site) k w h = own_fits s (read slot site) k w tt (λ t. refl) h
  command_fits s (test to how a b site) k w h = own_fits s (test to how a b site) k w tt (λ t. refl) h
  command_fits s (choose slot first second) k w h = own_fits s (choose slot first second) k w tt (λ t. refl) h
  command_fits s (loop site head body step) k w h = own_fits s (loop site head body step) k w tt (λ t. refl) h
  command_fits s leave k w h = own_fits s leave k w tt (λ t. refl) h
  command_fits s (load to a field block site) k w h = own_fits s (load to a field block site) k w tt (λ t. refl) h
  command_fits s (store a field block from site) k w h = own_fits s (store a field block from site) k w tt (λ t. refl) h
  command_fits s (malloc to block site) k w h = own_fits s (malloc to block site) k w tt (λ t. refl) h
  command_fits s (free a block site) k w h = own_fits s (free a block site) k w tt (λ t. refl) h
  command_fits s (input to site) k w h = own_fits s (input to site) k w tt (λ t. refl) h
  command_fits s (return from) k w h = own_fits s (return from) k w tt (λ t. refl) h
  command_fits s break k w h = own_fits s break k w tt (λ t. refl) h
  command_fits s continue k w h = own_fits s continue k w tt (λ t. refl) h
  command_fits s (stop number site) k w h = own_fits s (stop number site) k w tt (λ t. refl) h
  command_fits s (divide to a b site) k w h = own_fits s (divide to a b site) k w tt (λ t. refl) h

  turn_fits : (s : State) (l : Turns) (k : List Item) (b : Bool) → IsClosed s.trace → Fits (leads s (elim b as (λ _. Done) [
    | true ↦ on (repeat_loop l.site (suc l.made) (marked mark.Iter l.site s))
    | false ↦ record { state = s; terms = []; outcome = past }
  ]) (at k))
  turn_fits s l k false h = tt
  turn_fits s l k true h =
      leads_fits s (on (repeat_loop l.site (suc l.made) (marked mark.Iter l.site s))) (at k)
      (λ e. closed_append s.trace (record { kind = mark.Iter; site = l.site } ∷ []) h (plain_closed mark.Iter l.site tt)) (λ e r o. cc)

  item_fits : (s : State) (k : List Item) (w : Way) → IsClosed s.trace → Fits (item_act j s k w)
  item_fits s [] w h = h
  item_fits s (Act c ∷ k) w h = by (items_after s c k)
    where
      by : (o : Option (List Item)) → Fits (elim o as (λ _. Leads) [ None ↦ Past s | Some k' ↦ leads s (command_done j c w s) (after_command s c k') ])
      by None = tt
      by (Some k') = command_fits s c k' w h
  item_fits s (AfterHead l ∷ k) w h = turn_fits s l (acts l.body (AfterBody (one_turn_more l) ∷ k)) (nat_lt l.made j.limits.unroll) h
  item_fits s (AfterBody l ∷ k) w h = h
  item_fits s (AfterStep l ∷ k) w h = h

  -- ---- calls that are going on

  entry_fits : (s : State) (c : Calling) (k : List Item) (n : ℕ) (o : Option Entry) → entry_in (callee_in j.callees c.proc) n ≡ o → HasEntered c.proc s.trace →
      Fits (Next (going_on c k s (choose_entry j.types s c.arguments o)))
  entry_fits s c k n None e h = tt
  entry_fits s c k n (Some x) e h = by (is_regular j.types (length c.arguments) x && fits_arguments s.vars c.arguments x)
    where
      by : (b : Bool) → Fits (Next (going_on c k s (elim b as (λ _. Stage) [ true ↦ matching x (stand_from 0 c.arguments) x.pre [] | false ↦ unfit ])))
      by true = (h, n, e)
      by false = tt

  choosing_fits : (s : State) (c : Calling) (k : List Item) (w : Way) → HasEntered c.proc s.trace → Fits (choosing_act j s c k w)
  choosing_fits s c k (way.Entry n) h = entry_fits s c k n (entry_in (callee_in j.callees c.proc) n) refl h
  choosing_fits s c k way.Drop h = tt
  choosing_fits s c k way.ByZero h = tt
  choosing_fits s c k way.Divided h = tt
  choosing_fits s c k way.Null h = tt
  choosing_fits s c k way.MissingLive h = tt
  choosing_fits s c k way.MissingFreed h = tt
  choosing_fits s c k way.Missing h = tt
  choosing_fits s c k way.On h = tt
  choosing_fits s c k way.Then h = tt
  choosing_fits s c k way.Else h = tt
  choosing_fits s c k way.Made h = tt
  choosing_fits s c k way.Written h = tt
  choosing_fits s c k way.Unwritten h = tt
  choosing_fits s c k (way.Atom n) h = tt

  -- a case goes on with the entry, and adds no mark
  abbrev GoesWith : Entry → Stage → Type 0
  GoesWith x choosing = ⊥
  GoesWith x (matching y σ rest used) = y ≡ x
  GoesWith x unfit = Unit {0}

  abbrev CaseOf : Entry → State → State → Stage → Type 0
  CaseOf x s t stage = (t.trace ≡ s.trace) × GoesWith x stage

  take_is : (x : Entry) (σ : Substitution) (rest : List Atom) (used : List ℕ) (p : Atom) (n : ℕ) (a : PlaceOf) (o : Option Atom) (s : State) →
      CaseOf x s (take_atom x σ rest used p n a o s).state (take_atom x σ rest used p n a o s).stage
  take_is x σ rest used p n a None s = (refl, tt)
  take_is x σ rest used p n a (Some b) s = (refl, refl)

  meet_is : (p : Atom) (a : PlaceOf) (s : State) → (meet_required j.types p a s).trace ≡ s.trace
  meet_is p place.Null s = refl
  meet_is p (place.Var v) s = by (is_freed p.state)
    where
      by : (b : Bool) → (elim b as (λ _. State) [ true ↦ meet_freed p.block v s | false ↦ meet_live j.types p.block v s ]).trace ≡ s.trace
      by true = refl
      by false = refl

  case_is : (x : Entry) (σ : Substitution) (rest : List Atom) (used : List ℕ) (p : Atom) (w : Way) (o : Option PlaceOf) (s : State) →
      CaseOf x s (take_case j.types x σ rest used p w o s).state (take_case j.types x σ rest used p w o s).stage
  case_is x σ rest used p (way.Atom n) (Some a) s = take_is x σ rest used p n a (slice_get s.atoms n) s
  case_is x σ rest used p way.Missing (Some a) s =
      let m : State = meet_required j.types p a s in
      let t = take_is x σ rest used p (length s.atoms) a (slice_get m.atoms (length s.atoms)) m in (t.0 ∙ meet_is p a s, t.1)
  case_is x σ rest used p (way.Atom n) None s = (refl, tt)
  case_is x σ rest used p way.Missing None s = (refl, tt)
  case_is x σ rest used p way.Null o s = (refl, tt)
  case_is x σ rest used p way.MissingLive o s = (refl, tt)
  case_is x σ rest used p way.MissingFreed o s = (refl, tt)
  case_is x σ rest used p way.On o s = (refl, tt)
  case_is x σ rest used p way.Then o s = (refl, tt)
  case_is x σ rest used p way.Else o s = (refl, tt)
  case_is x σ rest used p way.Made o s = (refl, tt)
  case_is x σ rest used p way.Written o s = (refl, tt)
  case_is x σ rest used p way.Unwritten o s = (refl, tt)
  case_is x σ rest used p (way.Entry n) o s = (refl, tt)
  case_is x σ rest used p way.Drop o s = (refl, tt)
  case_is x σ rest used p way.ByZero o s = (refl, tt)
  case_is x σ rest used p way.Divided o s = (refl, tt)

  stage_on : (g : ProcId) (x : Entry) (s t : State) (n : ℕ) (stage : Stage) → HasEntered g s.trace → entry_in (callee_in j.callees g) n ≡ Some x → CaseOf x s t stage → FitsStage g t.trace stage
  stage_on g x s t n choosing h e c = absurd c.1
  stage_on g x s t n (matching y σ rest used) h e c =
      (subst (HasEntered g) (sym c.0) h, n, e ∙ ap Some (sym c.1))
  stage_on g x s t n unfit h e c = tt

  -- ---- what follows the last case

  kept_trace : (o : Option ℕ) (c : Content) (s : State) → (keep_result o c s).trace ≡ s.trace
  kept_trace None c s = refl
  kept_trace (Some to) c s = refl

  module _ (tables : TablesFit j) where
    end_fits : (s : State) (c : Calling) (k : List Item) (x : Entry) (n : ℕ) (σ : Substitution) (terms : List Polynomial) (t u : State) → HasEntered c.proc t.trace → u.trace ≡ t.trace ++ x.trace →
        entry_in (callee_in j.callees c.proc) n ≡ Some x → (e : Exit) → x.exit ≡ e → Fits (leads s (end_call c σ x.result e terms u) (at k))
    end_fits s c k x n σ terms t u (before, site, closed, is) more at' Ok e =
        let d : Done = end_call c σ x.result Ok terms u in
        let trace : d.state.trace ≡ ((before ++ entering c.proc site) ++ x.trace) ++ leaving c.site =
        kept_trace c.to (result_through σ x.result) (marked mark.Leave c.site u) ∙ ap (λ z. z ++ leaving c.site) (more ∙ ap (λ z. z ++ x.trace) is) in
        leads_fits s d (at k)
        (λ o. subst IsClosed (sym trace) (left_closed before x.trace c.proc site c.site closed (subst (λ z. FitsExit z x.trace) e (tables c.proc n x at'))))
        (λ e r o. cc)
    end_fits s c k x n σ terms t u (before, site, closed, is) more at' (Error kind place) e =
        let d : Done = end_call c σ x.result (Error kind place) terms u in
        let inside : EndsInside j kind place u.trace =
        record { before = before; proc = c.proc; from = site; number = n; entry = x; closed = closed; is = at'; exit = e; trace = more ∙ ap (λ z. z ++ x.trace) is } in
        leads_fits s d (at k) (λ o. cc) (λ f r o. subst (λ z. FitsEnd u.trace z) (exit_is (Error kind place) f None r o) (inr inside))
      where
        exit_is : (e f : Exit) (p r : Option Content) → ends e p ≡ ends f r → e ≡ f
        exit_is e f p r o = cc

    stage_fits : (s : State) (c : Calling) (k : List Item) (stage : Stage) (w : Way) → FitsStage c.proc s.trace stage → Fits (stage_act j s c k stage w)
    stage_fits s c k choosing w h = choosing_fits s c k w h
    stage_fits s c k (matching x σ [] used) w (h, n, e) =
        let all : Substitution = stand_all x σ s in
        end_fits s c k x n all (entry_terms x all) s (add_trace x.trace (leave_atoms x all used (assume_entry x all (with_variables (new_variables x.vars) s)))) h refl e x.exit refl
    stage_fits s c k (matching x σ (p ∷ rest) used) w (h, n, e) =
        let t = take_case j.types x σ rest used p w (place_through σ (place.Var p.place)) s in
        leads_fits s (on t.state) (λ u. going_on c k u t.stage)
        (λ o. stage_on c.proc x s t.state n t.stage h e (case_is x σ rest used p w (place_through σ (place.Var p.place)) s)) (λ e r o. cc)
    stage_fits s c k unfit w h = tt

    -- each act leads on so
    pub act_fits : (w : Walk) (name : Way) → Fits (Next w) → Fits (act j w name)
    unfolding act
    act_fits w name h = by w.call h
      where
        by : (o : Option (Calling × Stage)) → FitsCall w.state.trace o →
            Fits (elim o as (λ _. Leads) [ None ↦ item_act j w.state w.control name | Some c ↦ stage_act j w.state c.0 w.control c.1 name ])
        by None h = item_fits w.state w.control name h
        by (Some c) h = stage_fits w.state c.0 w.control c.1 name h
