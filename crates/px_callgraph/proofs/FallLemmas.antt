-- Each act leaves fewer acts.
use Rattle.std.proofs.Common.{◌≡◌, ℕ, zero, suc, ◌+◌, ◌-◌, ◌*◌, ◌<◌, ◌≤◌, List, [], ◌∷◌, length, max, Bool, true, false, nat_lt, nat_eq, Option, Some, None, slice_get, refl, ap, sym, ◌∙◌, arith, subst}
use Rattle.std.specs.Prelude.{fold, option_map, drop, ◌&&◌}
use Rattle.std.proofs.lemmas.List.{length-append}
use Rattle.std.proofs.Math.Nat.{mul-le-mul_left, le-max_left, le-max_right}
use Rattle.std.proofs.lemmas.Bool.{ltb-false}
use Rattle.px_base.specs.declared.trace.ProcId.{ProcId}
use Rattle.px_base.specs.declared.trace.MarkKind.TheVariants as mark
use Rattle.px_terms.specs.declared.conjuncts.Place.{Place as PlaceOf}
use Rattle.px_terms.specs.declared.conjuncts.Place.TheVariants as place
use Rattle.px_terms.specs.declared.conjuncts.Content.{Content}
use Rattle.px_core.specs.CommandTree.{CommandTree, CommandTrees, no_commands, a_command, assign, unset, read, test, choose, loop, leave, load, store, malloc, free, input, call, return, break, continue, stop, divide}
use Rattle.px_core.specs.Control.{Turns, Item, Act, AfterHead, AfterBody, AfterStep, acts, no_turns, one_turn_more, leave_to, break_to, continue_to}
use Rattle.px_entry.specs.declared.atoms.Atom.{Atom}
use Rattle.px_entry.specs.declared.entries.Entry.{Entry}
use Rattle.px_entry.specs.declared.tables.LongKind.{LongKind}
use Rattle.px_entry.specs.declared.tables.LongKind.TheVariants as long
use Rattle.px_entry.specs.Regular.{is_regular}
use Rattle.px_callgraph.specs.declared.jobs.Callee.{Callee}
use Rattle.px_callgraph.specs.declared.jobs.Callee.TheVariants as callee
use Rattle.px_callgraph.specs.declared.states.State.{State}
use Rattle.px_callgraph.specs.declared.states.Way.{Way}
use Rattle.px_callgraph.specs.declared.states.Way.TheVariants as way
use Rattle.px_callgraph.specs.JobTree.{JobTree, callee_in}
use Rattle.px_callgraph.specs.States.{Outcome, goes, ends, past, drops, Done, on, content_at, marked, begun}
use Rattle.px_callgraph.specs.Commands.{outcome_of, repeat_loop, iteration, argument_contents, command_done}
use Rattle.px_callgraph.specs.Renaming.{Substitution, place_through, stand_from}
use Rattle.px_callgraph.specs.Calls.{Calling, Stage, choosing, matching, unfit, entry_in, choose_entry, fits_arguments, take_atom, meet_required, take_case, finish_call}
use Rattle.px_callgraph.specs.declared.outcomes.StepOutcome.TheVariants.{Past}
use Rattle.px_callgraph.specs.Alternatives.{Walk, Leads, limits_of, passes, first_true, limited, led, within_limits, leads, at, chosen, items_after, item_act, going_on, choosing_act, stage_act, act, longest_pre}
use Rattle.px_callgraph.specs.ActsLeft.{most_required, stage_acts, call_acts_left, control_acts, acts_left, FallsBelow}
use Rattle.px_callgraph.specs.Laws.{ActsLessen}
use Rattle.px_callgraph.proofs.GrowLemmas.{Grows, grows_marked, act_grows, case_grows, call_grows, extends_length}

-- ---- numbers

scaled : (k a b : ℕ) → a ≤ b → k * a ≤ k * b
scaled k a b l = mul-le-mul_left k l

scaled_suc : (k a b : ℕ) → a < b → k * a + k ≤ k * b
scaled_suc k a b l = let h : k * suc a ≤ k * b = scaled k (suc a) b (omega arith) in let e : k * suc a ≡ k * a + k = grind arith in omega arith

-- a command began
by_step : (k m a a' b b' c' w' w : ℕ) → k ≡ 3 + m → a' ≤ a → b' < b → c' + w' ≤ (2 + m) + w → (k * a' + k * b') + (c' + w') < (k * a + k * b) + (0 + w)
by_step k m a a' b b' c' w' w e f g h = let x = scaled k a' a f in let y = scaled_suc k b' b g in omega arith

-- a mark was made at the end of a head
by_mark : (k m a a' b b' w : ℕ) → k ≡ 3 + m → a' < a → b' ≤ b → (k * a' + k * b') + (0 + (3 + w)) < (k * a + k * b) + (0 + (1 + w))
by_mark k m a a' b b' w e f g = let x = scaled_suc k a' a f in let y = scaled k b' b g in omega arith

-- a call or a loop goes on
by_stage : (k a a' b b' c' w' c w : ℕ) → a' ≤ a → b' ≤ b → c' + w' < c + w → (k * a' + k * b') + (c' + w') < (k * a + k * b) + (c + w)
by_stage k a a' b b' c' w' c w f g h = let x = scaled k a' a f in let y = scaled k b' b g in omega arith

-- ---- limits

pub none_first : (t : Bool × LongKind) (ts : List (Bool × LongKind)) → first_true (t ∷ ts) ≡ None → (t.0 ≡ false) × (first_true ts ≡ None)
none_first t ts e = by t.0 refl
  where
    by : (b : Bool) → t.0 ≡ b → (t.0 ≡ false) × (first_true ts ≡ None)
    by true h = let n : Some t.1 ≡ None = sym (ap (λ z. elim z as (λ _. Option LongKind) [ true ↦ Some t.1 | false ↦ first_true ts ]) h) ∙ e in absurd (some_none n)
      where
        some_none : Some t.1 ≡ None → ⊥
        some_none n = cc
    by false h = (h, sym (ap (λ z. elim z as (λ _. Option LongKind) [ true ↦ Some t.1 | false ↦ first_true ts ]) h) ∙ e)

-- an act that passes no limit
within : (d : Done) → passes d ≡ None → (length d.state.trace ≤ 256) × (d.state.steps ≤ 4000)
within d e =
    let a = none_first (nat_lt 256 (length d.state.trace), long.Trace) (drop 1 (limits_of d)) e in
    let b = none_first (nat_lt 4000 d.state.steps, long.Steps) (drop 2 (limits_of d)) a.1 in
    (ltb-false 256 (length d.state.trace) a.0, ltb-false 4000 d.state.steps b.0)

module _ (j : JobTree) (n : ℕ) (s : State) (d : Done) (go : State → Walk) where
  pub leads_falls : (passes d ≡ None → acts_left j (go d.state) < n) → FallsBelow j n (leads s d go)
  leads_falls h = by d.outcome
    where
      going : (o : Option LongKind) → passes d ≡ o → FallsBelow j n (limited s (led s d go goes) o)
      going None e = h e
      going (Some k) e = tt

      ending : (e : _) (r : _) (o : Option LongKind) → FallsBelow j n (limited s (led s d go (ends e r)) o)
      ending e r None = tt
      ending e r (Some k) = tt

      dropping : (word : _) (o : Option LongKind) → FallsBelow j n (limited s (led s d go (drops word)) o)
      dropping word None = tt
      dropping word (Some k) = tt

      by : (o : Outcome) → FallsBelow j n (within_limits s d go o)
      by goes = going (passes d) refl
      by (ends e r) = ending e r (passes d)
      by past = tt
      by (drops word) = dropping word (passes d)

-- ---- control

control_more : (cs : CommandTrees) (k : List Item) → control_acts (acts cs k) ≡ control_acts k
control_more no_commands k = refl
control_more (a_command c rest) k = control_more rest k

abbrev IsLight : ℕ → Option (List Item) → Type 0
IsLight n None = Unit {0}
IsLight n (Some k) = control_acts k ≤ n

break_light : (k : List Item) → IsLight (control_acts k) (break_to k)
break_light [] = tt
break_light (Act c ∷ k) = break_light k
break_light (AfterHead l ∷ k) = tt
break_light (AfterBody l ∷ k) = omega arith
break_light (AfterStep l ∷ k) = omega arith

continue_light : (k : List Item) → IsLight (control_acts k) (continue_to k)
continue_light [] = tt
continue_light (Act c ∷ k) = continue_light k
continue_light (AfterHead l ∷ k) = tt
continue_light (AfterBody l ∷ k) = omega arith
continue_light (AfterStep l ∷ k) = tt

leave_light : (k : List Item) → IsLight (control_acts k) (option_map (λ (place : Turns × List Item). place.1) (leave_to k))
leave_light [] = tt
leave_light (Act c ∷ k) = leave_light k
leave_light (AfterHead l ∷ k) = omega arith
leave_light (AfterBody l ∷ k) = tt
leave_light (AfterStep l ∷ k) = tt

choose_light : (o : Option Bool) (first second : CommandTrees) (k : List Item) → IsLight (control_acts k) (option_map (λ b. acts (chosen b first second) k) o)
choose_light None first second k = tt
choose_light (Some true) first second k = let e = control_more first k in omega arith
choose_light (Some false) first second k = let e = control_more second k in omega arith

-- ---- commands

abbrev going_to : Option (Calling × Stage) → List Item → State → Walk
going_to c k t = record { state = t; call = c; control = k }

begun_falls : (j : JobTree) (s : State) (k : List Item) (c : CommandTree) (w : Way) (o : Option (Calling × Stage)) (k' : List Item) →
    call_acts_left j o + control_acts k' ≤ (2 + most_required j.callees) + control_acts k →
    FallsBelow j (acts_left j (at k s)) (leads s (command_done j c w s) (going_to o k'))
unfolding acts_left
begun_falls j s k c w o k' l =
    let d : Done = command_done j c w s in
    let g : Grows (begun s) d.state = act_grows j c w (begun s) in
    leads_falls j _ s d (going_to o k')
    (λ e.
    let i = within d e in
    let t : length s.trace ≤ length d.state.trace = extends_length s.trace _ g.trace in
    let u : suc s.steps ≤ d.state.steps = g.steps in
    by_step (3 + most_required j.callees) (most_required j.callees) (256 - length s.trace) (256 - length d.state.trace) (4000 - s.steps) (4000 - d.state.steps)
    (call_acts_left j o) (control_acts k') (control_acts k) refl (omega (arith, t)) (let v = i.1 in omega (arith, u, v)) l)

-- after a command that opens no call
light_falls : (j : JobTree) (s : State) (k : List Item) (c : CommandTree) (w : Way) (o : Option (List Item)) → IsLight (1 + control_acts k) o →
    FallsBelow j (acts_left j (at k s)) (elim o as (λ _. Leads) [ None ↦ Past s | Some k' ↦ leads s (command_done j c w s) (at k') ])
light_falls j s k c w None l = tt
light_falls j s k c w (Some k') l = begun_falls j s k c w None k' (omega arith)

lighter : (m n : ℕ) (o : Option (List Item)) → m ≤ n → IsLight m o → IsLight n o
lighter m n None l h = tt
lighter m n (Some k) l h = omega arith

command_falls : (j : JobTree) (s : State) (c : CommandTree) (k : List Item) (w : Way) → FallsBelow j (acts_left j (at k s)) (item_act j s (Act c ∷ k) w)
command_falls j s (assign to op a b) k w = begun_falls j s k (assign to op a b) w None k (omega arith)
command_falls j s (unset to) k w = begun_falls j s k (unset to) w None k (omega arith)
command_falls j s (read slot site) k w = begun_falls j s k (read slot site) w None k (omega arith)
command_falls j s (test to how a b site) k w = begun_falls j s k (test to how a b site) w None k (omega arith)
command_falls j s (choose slot first second) k w =
    light_falls j s k (choose slot first second) w (items_after s (choose slot first second) k) (lighter (control_acts k) _ _ (omega arith) (choose_light (outcome_of (content_at s.slots slot)) first second k))
command_falls j s (loop site head body step) k w =
    begun_falls j s k (loop site head body step) w None (acts head (AfterHead (no_turns site head body step) ∷ k))
    (let e = control_more head (AfterHead (no_turns site head body step) ∷ k) in omega arith)
command_falls j s leave k w = light_falls j s k leave w (items_after s leave k) (lighter (control_acts k) _ _ (omega arith) (leave_light k))
command_falls j s (load to at' field block site) k w = begun_falls j s k (load to at' field block site) w None k (omega arith)
command_falls j s (store at' field block from site) k w = begun_falls j s k (store at' field block from site) w None k (omega arith)
command_falls j s (malloc to block site) k w = begun_falls j s k (malloc to block site) w None k (omega arith)
command_falls j s (free at' block site) k w = begun_falls j s k (free at' block site) w None k (omega arith)
command_falls j s (input to site) k w = begun_falls j s k (input to site) w None k (omega arith)
command_falls j s (call to proc arguments site) k w =
    begun_falls j s k (call to proc arguments site) w (Some (record { to = to; proc = proc; arguments = argument_contents s arguments; site = site }, choosing)) k (omega arith)
command_falls j s (return from) k w = begun_falls j s k (return from) w None k (omega arith)
command_falls j s break k w = light_falls j s k break w (break_to k) (lighter (control_acts k) _ _ (omega arith) (break_light k))
command_falls j s continue k w = light_falls j s k continue w (continue_to k) (lighter (control_acts k) _ _ (omega arith) (continue_light k))
command_falls j s (stop word site) k w = begun_falls j s k (stop word site) w None k (omega arith)
command_falls j s (divide to a b site) k w = begun_falls j s k (divide to a b site) w None k (omega arith)

-- ---- loops

head_falls : (j : JobTree) (s : State) (l : Turns) (k : List Item) → FallsBelow j (acts_left j (at (AfterHead l ∷ k) s))
    (leads s (iteration j.limits.unroll l.site l.made s) (at (acts l.body (AfterBody (one_turn_more l) ∷ k))))
unfolding acts_left
head_falls j s l k = by (nat_lt l.made j.limits.unroll)
  where
    k' : List Item
    k' = acts l.body (AfterBody (one_turn_more l) ∷ k)

    kk : ℕ
    kk = 3 + most_required j.callees

    n : ℕ
    n = (kk * (256 - length s.trace) + kk * (4000 - s.steps)) + (0 + (1 + control_acts k))

    once : Done
    once = on (repeat_loop l.site (suc l.made) (marked mark.Iter l.site s))

    by : (b : Bool) → FallsBelow j (acts_left j (at (AfterHead l ∷ k) s))
        (leads s (elim b as (λ _. Done) [ true ↦ once | false ↦ record { state = s; terms = []; outcome = past } ]) (at k'))
    by false = tt
    by true =
        leads_falls j n s once (at k')
        (λ e.
        let i = within once e in
        let g : Grows s (marked mark.Iter l.site s) = grows_marked mark.Iter l.site s in
        let t : length once.state.trace ≡ length s.trace + 1 = length-append s.trace _ in
        subst (λ z. (kk * (256 - length once.state.trace) + kk * (4000 - s.steps)) + (0 + z) < n) (sym (control_more l.body (AfterBody (one_turn_more l) ∷ k)))
        (by_mark (3 + most_required j.callees) (most_required j.callees) (256 - length s.trace) (256 - length once.state.trace) (4000 - s.steps) (4000 - s.steps) (control_acts k)
        refl (let v = i.0 in omega (arith, t, v)) (omega arith)))

pub item_falls : (j : JobTree) (s : State) (k : List Item) (w : Way) → FallsBelow j (acts_left j (at k s)) (item_act j s k w)
unfolding acts_left
item_falls j s [] w = tt
item_falls j s (Act c ∷ k) w = command_falls j s c k w
item_falls j s (AfterHead l ∷ k) w = head_falls j s l k
item_falls j s (AfterBody l ∷ k) w = let e = control_more l.step (AfterStep l ∷ k) in omega (arith, e)
item_falls j s (AfterStep l ∷ k) w = let e = control_more l.head (AfterHead l ∷ k) in omega (arith, e)

-- ---- calls

pub longest_from : (n : ℕ) (xs : List Entry) → n ≤ fold (λ n (x : Entry). max n (length x.pre)) n xs
longest_from n [] = omega arith
longest_from n (x ∷ xs) = let a = le-max_left n (length x.pre) in let b = longest_from (max n (length x.pre)) xs in omega (arith, a, b)

pub entry_shorter : (n i : ℕ) (xs : List Entry) (x : Entry) → slice_get xs i ≡ Some x → length x.pre ≤ fold (λ n (x : Entry). max n (length x.pre)) n xs
entry_shorter n i [] x e = none_some e
  where
    none_some : None ≡ Some x → length x.pre ≤ n
    none_some e = cc
entry_shorter n zero (y ∷ xs) x e =
    subst (λ (z : Entry). length z.pre ≤ fold (λ n (x : Entry). max n (length x.pre)) (max n (length y.pre)) xs) (some_is e)
    (let a = le-max_right n (length y.pre) in let b = longest_from (max n (length y.pre)) xs in omega (arith, a, b))
  where
    some_is : Some y ≡ Some x → y ≡ x
    some_is e = cc
entry_shorter n (suc i) (y ∷ xs) x e = entry_shorter (max n (length y.pre)) i xs x e

pub shorter_in : (c : Callee) (n : ℕ) (x : Entry) → entry_in c n ≡ Some x → length x.pre ≤ longest_pre c
shorter_in (callee.Table t) n x e = entry_shorter 0 n t.entries x e
shorter_in callee.Cycle n x e = cc
shorter_in callee.LeftOut n x e = cc
shorter_in callee.Unknown n x e = cc

longest_by : (m n : ℕ) (c d : Callee) (b : Bool) → m ≡ longest_pre c → longest_pre d ≤ n → longest_pre (elim b as (λ _. Callee) [ true ↦ c | false ↦ d ]) ≤ max m n
longest_by m n c d true e l = let a = le-max_left m n in omega (arith, a, e)
longest_by m n c d false e l = let a = le-max_right m n in omega (arith, a, l)

longest_in : (cs : List (ProcId × Callee)) (f : ProcId) → longest_pre (callee_in cs f) ≤ most_required cs
longest_in [] f = omega arith
longest_in (c ∷ rest) f = longest_by (longest_pre c.1) (most_required rest) c.1 (callee_in rest f) (nat_eq c.0.0 f.0) refl (longest_in rest f)

chosen_falls : (j : JobTree) (s : State) (arguments : List Content) (f : ProcId) (o : Option Entry) (n : ℕ) → entry_in (callee_in j.callees f) n ≡ o →
    stage_acts j (choose_entry j.types s arguments o) < 2 + most_required j.callees
chosen_falls j s arguments f None n e = omega arith
chosen_falls j s arguments f (Some x) n e = by (is_regular j.types (length arguments) x && fits_arguments s.vars arguments x)
  where
    by : (b : Bool) → stage_acts j (elim b as (λ _. Stage) [ true ↦ matching x (stand_from 0 arguments) x.pre [] | false ↦ unfit ]) < 2 + most_required j.callees
    by true = let a = shorter_in (callee_in j.callees f) n x e in let b = longest_in j.callees f in omega (arith, a, b)
    by false = omega arith

atom_stage : (j : JobTree) (x : Entry) (σ : Substitution) (rest : List Atom) (used : List ℕ) (p : Atom) (n : ℕ) (a : PlaceOf) (o : Option Atom) (s : State) →
    stage_acts j (take_atom x σ rest used p n a o s).stage ≤ 1 + length rest
atom_stage j x σ rest used p n a None s = omega arith
atom_stage j x σ rest used p n a (Some b) s = omega arith

case_stage : (j : JobTree) (x : Entry) (σ : Substitution) (rest : List Atom) (used : List ℕ) (p : Atom) (w : Way) (o : Option PlaceOf) (s : State) →
    stage_acts j (take_case j.types x σ rest used p w o s).stage ≤ 1 + length rest
case_stage j x σ rest used p (way.Atom n) (Some a) s = atom_stage j x σ rest used p n a (slice_get s.atoms n) s
case_stage j x σ rest used p way.Missing (Some a) s =
    let m : State = meet_required j.types p a s in
    atom_stage j x σ rest used p (length s.atoms) a (slice_get m.atoms (length s.atoms)) m
case_stage j x σ rest used p (way.Atom n) None s = omega arith
case_stage j x σ rest used p way.Missing None s = omega arith
case_stage j x σ rest used p way.Null o s = omega arith
case_stage j x σ rest used p way.MissingLive o s = omega arith
case_stage j x σ rest used p way.MissingFreed o s = omega arith
case_stage j x σ rest used p way.On o s = omega arith
case_stage j x σ rest used p way.Then o s = omega arith
case_stage j x σ rest used p way.Else o s = omega arith
case_stage j x σ rest used p way.Made o s = omega arith
case_stage j x σ rest used p way.Written o s = omega arith
case_stage j x σ rest used p way.Unwritten o s = omega arith
case_stage j x σ rest used p (way.Entry n) o s = omega arith
case_stage j x σ rest used p way.Drop o s = omega arith
case_stage j x σ rest used p way.ByZero o s = omega arith
case_stage j x σ rest used p way.Divided o s = omega arith

module _ (j : JobTree) (s : State) (c : Calling) (k : List Item) where
  choosing_falls : (w : Way) → FallsBelow j (acts_left j (going_on c k s choosing)) (choosing_act j s c k w)
  unfolding acts_left
  choosing_falls (way.Entry n) =
      let o = entry_in (callee_in j.callees c.proc) n in
      let h = chosen_falls j s c.arguments c.proc o n refl in
      by_stage (3 + most_required j.callees) (256 - length s.trace) (256 - length s.trace) (4000 - s.steps) (4000 - s.steps)
      (stage_acts j (choose_entry j.types s c.arguments o)) (control_acts k) (2 + most_required j.callees) (control_acts k) (omega arith) (omega arith) (omega (arith, h))
  choosing_falls way.Drop = tt
  choosing_falls way.ByZero = tt
  choosing_falls way.Divided = tt
  choosing_falls way.Null = tt
  choosing_falls way.MissingLive = tt
  choosing_falls way.MissingFreed = tt
  choosing_falls way.Missing = tt
  choosing_falls way.On = tt
  choosing_falls way.Then = tt
  choosing_falls way.Else = tt
  choosing_falls way.Made = tt
  choosing_falls way.Written = tt
  choosing_falls way.Unwritten = tt
  choosing_falls (way.Atom n) = tt

  pub stage_falls : (stage : Stage) (w : Way) → FallsBelow j (acts_left j (going_on c k s stage)) (stage_act j s c k stage w)
  unfolding acts_left
  stage_falls choosing w = choosing_falls w
  stage_falls (matching x σ [] used) w =
      let d : Done = finish_call c x σ used s in
      let g : Grows s d.state = call_grows c x σ used s in
      let t = extends_length s.trace _ g.trace in let u = g.steps in
      leads_falls j _ s d (at k)
      (λ e. by_stage (3 + most_required j.callees) (256 - length s.trace) (256 - length d.state.trace) (4000 - s.steps) (4000 - d.state.steps) 0 (control_acts k) 1 (control_acts k)
      (omega (arith, t)) (omega (arith, u)) (omega arith))
  stage_falls (matching x σ (p ∷ rest) used) w =
      let taken = take_case j.types x σ rest used p w (place_through σ (place.Var p.place)) s in
      let g : Grows s taken.state = case_grows j.types x σ rest used p w (place_through σ (place.Var p.place)) s in
      let t = extends_length s.trace _ g.trace in let u = g.steps in
      let h = case_stage j x σ rest used p w (place_through σ (place.Var p.place)) s in
      leads_falls j _ s (on taken.state) (λ u. going_on c k u taken.stage)
      (λ e. by_stage (3 + most_required j.callees) (256 - length s.trace) (256 - length taken.state.trace) (4000 - s.steps) (4000 - taken.state.steps)
      (stage_acts j taken.stage) (control_acts k) (1 + suc (length rest)) (control_acts k) (omega (arith, t)) (omega (arith, u)) (omega (arith, h)))
  stage_falls unfit w = tt

pub acts_lessen : ActsLessen
unfolding acts_left act
acts_lessen j w name = by w.call
  where
    by : (o : Option (Calling × Stage)) → FallsBelow j (acts_left j (record { state = w.state; call = o; control = w.control }))
        (elim o as (λ _. Leads) [ None ↦ item_act j w.state w.control name | Some c ↦ stage_act j w.state c.0 w.control c.1 name ])
    by None = item_falls j w.state w.control name
    by (Some c) = stage_falls j w.state c.0 w.control c.1 name
