-- Where a way leads that says a conjunct, this is assumed.
use Rattle.std.proofs.Common.{◌≡◌, ◌||◌, ℕ, ◌+◌, ◌≤◌, Bool, true, false, nat_lt, List, [], ◌∷◌, ◌++◌, length, drop, slice_get, Option, Some, None, pos, refl, ap, ap₂, sym, ◌∙◌, subst, arith, Bor}
use Rattle.std.specs.Prelude.{Contains, is_some, option_map, IfSome}
use Rattle.std.specs.List.{list_any}
use Rattle.std.proofs.lemmas.List.{length_push}
use Rattle.std.proofs.lemmas.List.Elements.{Contains-push}
use Rattle.std.proofs.lemmas.Bool.{ltb-true, ltb-false}
use Rattle.px_base.specs.Bounds.{most_marks}
use Rattle.px_base.specs.declared.trace.Site.{Site}
use Rattle.px_base.specs.declared.trace.FieldId.{FieldId}
use Rattle.px_base.specs.declared.trace.Mark.{Mark}
use Rattle.px_base.specs.declared.trace.MarkKind.{MarkKind}
use Rattle.px_base.specs.declared.trace.MarkKind.TheVariants as mark
use Rattle.px_terms.specs.declared.types.TypeId.{TypeId}
use Rattle.px_terms.specs.declared.types.BlockType.{BlockType}
use Rattle.px_terms.specs.declared.variables.Var.{Var}
use Rattle.px_terms.specs.declared.variables.VarInfo.{VarInfo}
use Rattle.px_terms.specs.declared.conjuncts.Content.{Content}
use Rattle.px_terms.specs.declared.conjuncts.Content.TheVariants.{Word, Cell}
use Rattle.px_terms.specs.declared.conjuncts.Place.{Place}
use Rattle.px_terms.specs.declared.conjuncts.Place.TheVariants as place
use Rattle.px_terms.specs.declared.conjuncts.Conj.{Conj}
use Rattle.px_terms.specs.declared.conjuncts.Conj.TheVariants.{SamePlace, Written, Unwritten}
use Rattle.px_core.specs.declared.command.Comparison.{Comparison}
use Rattle.px_core.specs.declared.command.Operand.{Operand}
use Rattle.px_core.specs.declared.command.Operand.TheVariants as operand
use Rattle.px_core.specs.declared.command.Command.{Command}
use Rattle.px_core.specs.declared.command.Command.TheVariants as C
use Rattle.px_core.specs.CommandTree.{command_tree, read, test, load, store, free}
use Rattle.px_core.specs.Control.{Item, Act}
use Rattle.px_core.proofs.CommandEquations.{tree-Read, tree-Test, tree-Load, tree-Store, tree-Free}
use Rattle.px_entry.specs.declared.atoms.Atom.{Atom}
use Rattle.px_entry.specs.declared.atoms.AtomState.{AtomState}
use Rattle.px_entry.specs.declared.atoms.AtomState.TheVariants.{Live, Freed}
use Rattle.px_entry.specs.declared.tables.LongKind.{LongKind}
use Rattle.px_entry.specs.declared.tables.LongKind.TheVariants as long
use Rattle.px_entry.specs.Sorts.{is_long, is_long_conjunct}
use Rattle.px_entry.specs.Decided.{stands_in, assume}
use Rattle.px_callgraph.specs.declared.states.State.{State}
use Rattle.px_callgraph.specs.declared.states.Way.{Way}
use Rattle.px_callgraph.specs.declared.states.Way.TheVariants as way
use Rattle.px_callgraph.specs.declared.outcomes.StepOutcome.TheVariants.{Next}
use Rattle.px_callgraph.specs.JobTree.{JobTree}
use Rattle.px_callgraph.specs.Calls.{Calling, Stage}
use Rattle.px_callgraph.specs.States.{Outcome, goes, ends, past, drops, Done, on, begun, marked, assumed, set_slot, number, content_at, operand_content}
use Rattle.px_callgraph.specs.Operations.{condition, contrary, conjunct_terms}
use Rattle.px_callgraph.specs.Accesses as spec
use Rattle.px_callgraph.specs.Accesses.{accessed, access_done, use_state, load_access, store_access, free_access}
use Rattle.px_callgraph.specs.Commands.{read_cell, read_done, test_outcome, through_place}
use Rattle.px_callgraph.specs.Alternatives.{Walk, Leads, at, led, leads, act, first_true, passes, limited, within_limits}
use Rattle.px_callgraph.specs.ActsLeft.{state_of}
use Rattle.px_callgraph.proofs.LengthLemmas.{length_set_atom}
use Rattle.px_callgraph.proofs.FallLemmas.{none_first}
use Rattle.px_match.specs.declared.path_limits.Growth.{Growth}
use Rattle.px_match.specs.declared.conditions.Compared.{Compared}
use Rattle.px_match.specs.declared.conditions.Compared.TheVariants.{Assumes}
use Rattle.px_match.specs.Operated.{IsCompared}
use Rattle.px_match.specs.PathLimits.{limits_grown, passes_grown, Grows}
use Rattle.px_match.proofs.PathLimitLemmas.{next, none, goes_on, grown_passes}
use Rattle.px_match.proofs.LongLemmas.{long_terms}
use Rattle.px_steps.proofs.AccessLimits.{NeverPast}
use Rattle.px_walks.specs.declared.control.Upcoming.{Upcoming}
use Rattle.px_walks.specs.declared.control.Upcoming.TheVariants as U
use Rattle.px_walks.specs.Nexts.{IsNext}
use Rattle.px_explore.specs.Said.{Says, one_conjunct, IsNew, MayAdd, told, IsRead, side, IsTested, joined_place, IsJoined}

-- ---- where it is assumed

-- a state with the variables of the one before, and the conjunct
pub record HasSaid (s t : State) (c : Conj) : Type 0 where
  pub vars : t.vars ≡ s.vars
  pub pure : t.pure ≡ assume s.vars s.pure c

says_by : (j : JobTree) (w : Walk) (name : Way) (c : Conj) → IsNew w.state c → HasSaid w.state (state_of (act j w name)) c → Says j w name c
says_by j w name c n h = record { vars = h.vars; conjunct = subst (λ z. Contains z c) (sym (h.pure ∙ n.added)) (Contains-push w.state.pure c) }

-- where no call is going on
pub at_walk : (w : Walk) (k : List Item) (o : Option (Calling × Stage)) → w.call ≡ o → is_some o ≡ false → w.control ≡ k → w ≡ at k w.state
at_walk w k None e n f = ap₂ (λ x y. let v : Walk = record { state = w.state; call = x; control = y } in v) e f
at_walk w k (Some c) e n f = cc

says_at : (j : JobTree) (w : Walk) (k : List Item) (name : Way) (c : Conj) → is_some w.call ≡ false → w.control ≡ k → Says j (at k w.state) name c → Says j w name c
says_at j w k name c e f h = subst (λ z. Says j z name c) (sym (at_walk w k w.call refl e f)) h

-- ---- reads

-- a command with one conjunct and no mark
abbrev unmarked : Growth
unmarked = record { marks = 0; commands = 1; conjuncts = 1; atoms = 0; variables = 0; long_term = false }

fits_fewer : (most a b : ℕ) → b ≤ a → nat_lt most a ≡ false → nat_lt most b ≡ false
fits_fewer most a b l e = by (nat_lt most b) refl
  where
    by : (c : Bool) → nat_lt most b ≡ c → c ≡ false
    by true f = let m = ltb-true most b f in let n = ltb-false most a e in absurd (omega (arith, m, n, l))
    by false f = refl

-- where there is room with a mark, there is room without
room_unmarked : (s : State) → passes_grown s one_conjunct ≡ None → passes_grown s unmarked ≡ None
room_unmarked s e =
    let rest = drop 1 (limits_grown s one_conjunct) in
    let a = none_first (nat_lt most_marks (length s.trace + 1), long.Trace) rest e in
    ap (λ z. elim z as (λ _. Option LongKind) [ true ↦ Some long.Trace | false ↦ first_true rest ]) (fits_fewer most_marks (length s.trace + 1) (length s.trace + 0) (omega arith) a.0) ∙ a.1

-- a read marks nothing, and changes nothing that is assumed
pub record Tells (s : State) (d : Done) : Type 0 where
  pub trace : d.state.trace ≡ s.trace
  pub steps : d.state.steps ≡ s.steps
  pub vars : d.state.vars ≡ s.vars
  pub pure : d.state.pure ≡ s.pure
  pub atoms : d.state.atoms ≡ s.atoms
  pub terms : d.terms ≡ []
  pub bound : NeverPast d.outcome

tell_grows : (s : State) (c : Conj) (d : Done) → IsNew s c → Tells (assumed c (begun s)) d → Grows s unmarked d
tell_grows s c d n t = record {
  marks = ap length t.trace ∙ none (length s.trace);
  commands = t.steps ∙ next s.steps;
  conjuncts = ap length (t.pure ∙ n.added) ∙ length_push s.pure c;
  atoms = ap length t.atoms ∙ none (length s.atoms);
  variables = ap length t.vars ∙ none (length s.vars);
  long_term = ap (list_any is_long) t.terms;
}

-- an act that passes no limit leads to its state
pub led_state : (s : State) (d : Done) (k : List Item) (o : Outcome) → NeverPast o → passes d ≡ None → state_of (within_limits s d (at k) o) ≡ d.state
led_state s d k goes n e = ap (λ z. state_of (limited s (led s d (at k) goes) z)) e
led_state s d k (ends exit result) n e = ap (λ z. state_of (limited s (led s d (at k) (ends exit result)) z)) e
led_state s d k past n e = absurd n
led_state s d k (drops word) n e = absurd n

tell_said : (s : State) (k : List Item) (c : Conj) (d : Done) → IsNew s c → Tells (assumed c (begun s)) d → HasSaid s (state_of (leads s d (at k))) c
tell_said s k c d n t =
    let there : state_of (leads s d (at k)) ≡ d.state = led_state s d k d.outcome t.bound (grown_passes s unmarked d (tell_grows s c d n t) ∙ room_unmarked s n.room) in
    subst (λ (u : State). HasSaid s u c) (sym there) (record { vars = t.vars; pure = t.pure })

cell_told : (s : State) (k : List Item) (slot : ℕ) (site : Site) (x : Var) (i : VarInfo) (o : Option VarInfo) (c : Conj) → o ≡ Some i → Written x ≡ c → IsNew s c →
    HasSaid s (state_of (leads s (read_cell slot x o (begun s)) (at k))) c
cell_told s k slot site x i o c e f n =
    subst (λ z. HasSaid s (state_of (leads s (read_cell slot x z (begun s)) (at k))) c) (sym e)
    (tell_said s k c (read_cell slot x (Some i) (begun s)) n
    (subst (λ (z : Conj). Tells (assumed z (begun s)) (read_cell slot x (Some i) (begun s))) f (record { trace = refl; steps = refl; vars = refl; pure = refl; atoms = refl; terms = refl; bound = tt })))

cell_said : (s : State) (k : List Item) (slot : ℕ) (site : Site) (x : Var) (i : VarInfo) (name : Way) (c : Conj) → slice_get s.vars x.0 ≡ Some i → told x name ≡ Some c → IsNew s c →
    HasSaid s (state_of (leads s (read_done slot site (Cell x) name (begun s)) (at k))) c
cell_said s k slot site x i way.Written c e f n = let same : Written x ≡ c = cc in cell_told s k slot site x i (slice_get s.vars x.0) c e same n
cell_said s k slot site x i way.Unwritten c e f n =
    let same : Unwritten x ≡ c = cc in
    tell_said s k c (read_done slot site (Cell x) way.Unwritten (begun s)) n
    (subst (λ (z : Conj). Tells (assumed z (begun s)) (read_done slot site (Cell x) way.Unwritten (begun s))) same (record { trace = refl; steps = refl; vars = refl; pure = refl; atoms = refl; terms = refl; bound = tt }))
cell_said s k slot site x i way.On c e f n = cc
cell_said s k slot site x i way.Then c e f n = cc
cell_said s k slot site x i way.Else c e f n = cc
cell_said s k slot site x i way.Null c e f n = cc
cell_said s k slot site x i way.Made c e f n = cc
cell_said s k slot site x i (way.Atom m) c e f n = cc
cell_said s k slot site x i way.MissingLive c e f n = cc
cell_said s k slot site x i way.MissingFreed c e f n = cc
cell_said s k slot site x i way.Missing c e f n = cc
cell_said s k slot site x i (way.Entry m) c e f n = cc
cell_said s k slot site x i way.Drop c e f n = cc
cell_said s k slot site x i way.ByZero c e f n = cc
cell_said s k slot site x i way.Divided c e f n = cc

read_says : (j : JobTree) (s : State) (k : List Item) (slot : ℕ) (site : Site) (name : Way) (c : Conj) → IsRead s slot name c → Says j (at (Act (read slot site) ∷ k) s) name c
unfolding act
read_says j s k slot site name c t =
    says_by j (at (Act (read slot site) ∷ k) s) name c t.new
    (subst (λ z. HasSaid s (state_of (leads s (read_done slot site z name (begun s)) (at k))) c) (sym t.cell_is) (cell_said s k slot site t.cell t.info name c t.info_is t.told_is t.new))

-- ---- tests

test_leads : {A : Type 0} (s : State) (to outcome : ℕ) (kind : MarkKind) (site : Site) (c : Conj) (go : State → A) → IsNew s c → is_long_conjunct c ≡ false →
    Next (go (set_slot to (Word (number (pos outcome))) (assumed c (marked kind site (begun s))))) ≡ leads s (test_outcome to outcome (Some c) (marked kind site (begun s))) go
test_leads s to outcome kind site c go n l =
    let u = set_slot to (Word (number (pos outcome))) (assumed c (marked kind site (begun s))) in
    let grows : Grows s one_conjunct (record { state = u; terms = conjunct_terms c; outcome = goes }) = record {
      marks = length_push s.trace (record { kind = kind; site = site });
      commands = next s.steps;
      conjuncts = ap length n.added ∙ length_push s.pure c;
      atoms = none (length s.atoms);
      variables = none (length s.vars);
      long_term = long_terms c ∙ l;
    } in
    goes_on s one_conjunct u (conjunct_terms c) go (sym n.room) grows

pub same_operand : (s : State) (o : Operand) → operand_content (begun s) o ≡ operand_content s o
same_operand s (operand.Slot n) = refl
same_operand s (operand.Word z) = refl
same_operand s operand.Null = refl

test_state : (s : State) (k : List Item) (to outcome : ℕ) (kind : MarkKind) (site : Site) (o : Option Conj) (c : Conj) → o ≡ Some c → IsNew s c → is_long_conjunct c ≡ false →
    HasSaid s (state_of (leads s (test_outcome to outcome o (marked kind site (begun s))) (at k))) c
test_state s k to outcome kind site o c e n l =
    subst (λ z. HasSaid s (state_of (leads s (test_outcome to outcome z (marked kind site (begun s))) (at k))) c) (sym e)
    (subst (λ (z : Leads). HasSaid s (state_of z) c) (test_leads s to outcome kind site c (at k) n l) (record { vars = refl; pure = refl }))

test_says : (j : JobTree) (s : State) (k : List Item) (to : ℕ) (how : Comparison) (a b : Operand) (site : Site) (name : Way) (c : Conj) → IsTested s how a b name c →
    Says j (at (Act (test to how a b site) ∷ k) s) name c
unfolding act
test_says j s k to how a b site way.Then c t =
    says_by j (at (Act (test to how a b site) ∷ k) s) way.Then c t.new
    (test_state s k to 1 mark.Then site _ c (ap₂ (λ x y. condition how x y) (same_operand s a) (same_operand s b) ∙ t.side_is) t.new t.short)
test_says j s k to how a b site way.Else c t =
    says_by j (at (Act (test to how a b site) ∷ k) s) way.Else c t.new
    (test_state s k to 0 mark.Else site _ c (ap₂ (λ x y. contrary how x y) (same_operand s a) (same_operand s b) ∙ t.side_is) t.new t.short)
test_says j s k to how a b site way.On c t = let e = t.side_is in cc
test_says j s k to how a b site way.Null c t = let e = t.side_is in cc
test_says j s k to how a b site way.Made c t = let e = t.side_is in cc
test_says j s k to how a b site way.Written c t = let e = t.side_is in cc
test_says j s k to how a b site way.Unwritten c t = let e = t.side_is in cc
test_says j s k to how a b site (way.Atom n) c t = let e = t.side_is in cc
test_says j s k to how a b site way.MissingLive c t = let e = t.side_is in cc
test_says j s k to how a b site way.MissingFreed c t = let e = t.side_is in cc
test_says j s k to how a b site way.Missing c t = let e = t.side_is in cc
test_says j s k to how a b site (way.Entry n) c t = let e = t.side_is in cc
test_says j s k to how a b site way.Drop c t = let e = t.side_is in cc
test_says j s k to how a b site way.ByZero c t = let e = t.side_is in cc
test_says j s k to how a b site way.Divided c t = let e = t.side_is in cc

-- ---- accesses

-- a use of a block adds a mark, changes nothing that is assumed, and doesn't end beyond the bound or in a drop
pub record Uses (s : State) (d : Done) : Type 0 where
  pub trace : (m : Mark) × (d.state.trace ≡ s.trace ++ m ∷ [])
  pub steps : d.state.steps ≡ s.steps
  pub vars : d.state.vars ≡ s.vars
  pub pure : d.state.pure ≡ s.pure
  pub atoms : length d.state.atoms ≡ length s.atoms
  pub terms : d.terms ≡ []
  pub bound : NeverPast d.outcome

pub record UsesBlocks (a : spec.Access) : Type 0 where
  pub null : (s : State) → Uses s (a.null s)
  pub freed : (s : State) → Uses s (a.freed s)
  pub live : (n : ℕ) (cells : _) (s : State) → Uses s (a.live n cells s)

pub load_uses : (to field : ℕ) (site : Site) → UsesBlocks (load_access to field site)
load_uses to field site = record {
  null = λ s. record { trace = (_, refl); steps = refl; vars = refl; pure = refl; atoms = refl; terms = refl; bound = tt };
  freed = λ s. record { trace = (_, refl); steps = refl; vars = refl; pure = refl; atoms = refl; terms = refl; bound = tt };
  live = λ n cells s. record { trace = (_, refl); steps = refl; vars = refl; pure = refl; atoms = refl; terms = refl; bound = tt };
}

pub store_uses : (field : ℕ) (content : Content) (site : Site) → UsesBlocks (store_access field content site)
store_uses field content site = record {
  null = λ s. record { trace = (_, refl); steps = refl; vars = refl; pure = refl; atoms = refl; terms = refl; bound = tt };
  freed = λ s. record { trace = (_, refl); steps = refl; vars = refl; pure = refl; atoms = refl; terms = refl; bound = tt };
  live = λ n cells s. record { trace = (_, refl); steps = refl; vars = refl; pure = refl; atoms = length_set_atom n _ s.atoms; terms = refl; bound = tt };
}

pub free_uses : (site : Site) → UsesBlocks (free_access site)
free_uses site = record {
  null = λ s. record { trace = (_, refl); steps = refl; vars = refl; pure = refl; atoms = refl; terms = refl; bound = tt };
  freed = λ s. record { trace = (_, refl); steps = refl; vars = refl; pure = refl; atoms = refl; terms = refl; bound = tt };
  live = λ n cells s. record { trace = (_, refl); steps = refl; vars = refl; pure = refl; atoms = length_set_atom n _ s.atoms; terms = refl; bound = tt };
}

use_uses : (a : spec.Access) → UsesBlocks a → (n : ℕ) (state : AtomState) (s : State) → Uses s (use_state a n state s)
use_uses a h n (Live cells) s = h.live n cells s
use_uses a h n Freed s = h.freed s

-- a use of a block where a new conjunct is assumed
use_grows : (s : State) (c : Conj) (d : Done) → IsNew s c → Uses (assumed c (begun s)) d → Grows s one_conjunct d
use_grows s c d n u = record {
  marks = ap length u.trace.1 ∙ length_push s.trace u.trace.0;
  commands = u.steps ∙ next s.steps;
  conjuncts = ap length (u.pure ∙ n.added) ∙ length_push s.pure c;
  atoms = u.atoms ∙ none (length s.atoms);
  variables = ap length u.vars ∙ none (length s.vars);
  long_term = ap (list_any is_long) u.terms;
}

use_said : (s : State) (k : List Item) (c : Conj) (d : Done) → IsNew s c → Uses (assumed c (begun s)) d → HasSaid s (state_of (leads s d (at k))) c
use_said s k c d n u =
    let there : state_of (leads s d (at k)) ≡ d.state = led_state s d k d.outcome u.bound (grown_passes s one_conjunct d (use_grows s c d n u) ∙ n.room) in
    subst (λ (t : State). HasSaid s t c) (sym there) (record { vars = u.vars; pure = u.pure })

atom_said : (a : spec.Access) → UsesBlocks a → (s : State) (k : List Item) (p q : Place) (n : ℕ) (c : Conj) (o : Option Atom) → option_map (λ (b : Atom). place.Var b.place) o ≡ Some q → c ≡ SamePlace p q → IsNew s c →
    HasSaid s (state_of (leads s (spec.reach_atom a p n o (begun s)) (at k))) c
atom_said a h s k p q n c None e f i = cc
atom_said a h s k p q n c (Some b) e f i =
    let same : SamePlace p (place.Var b.place) ≡ c = cc in
    use_said s k c (use_state a n b.state (assumed (SamePlace p (place.Var b.place)) (begun s))) i
    (subst (λ (z : Conj). Uses (assumed z (begun s)) (use_state a n b.state (assumed (SamePlace p (place.Var b.place)) (begun s)))) same
    (use_uses a h n b.state (assumed (SamePlace p (place.Var b.place)) (begun s))))

access_said : (types : List BlockType) (block : TypeId) (a : spec.Access) → UsesBlocks a → (s : State) (k : List Item) (p q : Place) (name : Way) (c : Conj) → joined_place s name ≡ Some q → c ≡ SamePlace p q →
    IsNew s c → HasSaid s (state_of (leads s (access_done types block a p name (begun s)) (at k))) c
access_said types block a h s k p q way.Null c e f n =
    let same : SamePlace p place.Null ≡ c = cc in
    use_said s k c (a.null (assumed (SamePlace p place.Null) (begun s))) n
    (subst (λ (z : Conj). Uses (assumed z (begun s)) (a.null (assumed (SamePlace p place.Null) (begun s)))) same (h.null (assumed (SamePlace p place.Null) (begun s))))
access_said types block a h s k p q (way.Atom i) c e f n = atom_said a h s k p q i c (slice_get s.atoms i) e f n
access_said types block a h s k p q way.On c e f n = cc
access_said types block a h s k p q way.Then c e f n = cc
access_said types block a h s k p q way.Else c e f n = cc
access_said types block a h s k p q way.Made c e f n = cc
access_said types block a h s k p q way.Written c e f n = cc
access_said types block a h s k p q way.Unwritten c e f n = cc
access_said types block a h s k p q way.MissingLive c e f n = cc
access_said types block a h s k p q way.MissingFreed c e f n = cc
access_said types block a h s k p q way.Missing c e f n = cc
access_said types block a h s k p q (way.Entry i) c e f n = cc
access_said types block a h s k p q way.Drop c e f n = cc
access_said types block a h s k p q way.ByZero c e f n = cc
access_said types block a h s k p q way.Divided c e f n = cc

through_said : (types : List BlockType) (block : TypeId) (a : spec.Access) → UsesBlocks a → (s : State) (k : List Item) (o : Option Place) (p q : Place) (name : Way) (c : Conj) →
    o ≡ Some p → joined_place s name ≡ Some q → c ≡ SamePlace p q → IsNew s c →
    HasSaid s (state_of (leads s (through_place (on (begun s)) o (λ p. access_done types block a p name (begun s))) (at k))) c
through_said types block a h s k o p q name c e f g n =
    subst (λ z. HasSaid s (state_of (leads s (through_place (on (begun s)) z (λ p. access_done types block a p name (begun s))) (at k))) c) (sym e) (access_said types block a h s k p q name c f g n)

place_is : (s : State) (block : TypeId) (at : Operand) (p : Place) → accessed s.vars block (operand_content s at) ≡ Some p → accessed s.vars block (operand_content (begun s) at) ≡ Some p
place_is s block at p e = ap (accessed s.vars block) (same_operand s at) ∙ e

load_says : (j : JobTree) (s : State) (k : List Item) (to : ℕ) (from : Operand) (field : FieldId) (block : TypeId) (site : Site) (name : Way) (c : Conj) → IsJoined s block from name c →
    Says j (at (Act (load to from field block site) ∷ k) s) name c
unfolding act
load_says j s k to from field block site name c t =
    says_by j (at (Act (load to from field block site) ∷ k) s) name c t.new
    (through_said j.types block (load_access to field.0 site) (load_uses to field.0 site) s k _ t.first t.second name c (place_is s block from t.first t.first_is) t.second_is t.conjunct_is t.new)

store_says : (j : JobTree) (s : State) (k : List Item) (to : Operand) (field : FieldId) (block : TypeId) (from : Operand) (site : Site) (name : Way) (c : Conj) → IsJoined s block to name c →
    Says j (at (Act (store to field block from site) ∷ k) s) name c
unfolding act
store_says j s k to field block from site name c t =
    says_by j (at (Act (store to field block from site) ∷ k) s) name c t.new
    (through_said j.types block (store_access field.0 (operand_content (begun s) from) site) (store_uses field.0 (operand_content (begun s) from) site) s k _ t.first t.second name c (place_is s block to t.first t.first_is) t.second_is t.conjunct_is t.new)

free_says : (j : JobTree) (s : State) (k : List Item) (from : Operand) (block : TypeId) (site : Site) (name : Way) (c : Conj) → IsJoined s block from name c →
    Says j (at (Act (free from block site) ∷ k) s) name c
unfolding act
free_says j s k from block site name c t =
    says_by j (at (Act (free from block site) ∷ k) s) name c t.new
    (through_said j.types block (free_access site) (free_uses site) s k _ t.first t.second name c (place_is s block from t.first t.first_is) t.second_is t.conjunct_is t.new)

-- ---- what a way says

pub some_weaker : {A : Type 0} (P Q : A → Type 0) (o : Option A) → ((x : A) → P x → Q x) → IfSome o P → IfSome o Q
some_weaker P Q None f h = tt
some_weaker P Q (Some x) f h = f x h

-- by a read
pub told_read : (s : State) (slot : ℕ) (name : Way) (cell : Var) (info : VarInfo) (o : Option Conj) → content_at s.slots slot ≡ Cell cell → slice_get s.vars cell.0 ≡ Some info → o ≡ told cell name →
    IfSome o (λ c. IsNew s c → IsRead s slot name c)
told_read s slot name cell info None e f g = tt
told_read s slot name cell info (Some c) e f g = λ n. record { cell = cell; cell_is = e; info = info; info_is = f; told_is = sym g; new = n }

-- by a test
pub is_tested : (s : State) (how : Comparison) (a b : Operand) (name : Way) (r : Compared) (c : Conj) → r ≡ Assumes c → IsCompared r (side s how a b name) → IsNew s c → IsTested s how a b name c
is_tested s how a b name r c e h n =
    let t : (side s how a b name ≡ Some c) × (is_long_conjunct c ≡ false) = subst (λ z. IsCompared z (side s how a b name)) e h in record { side_is = t.0; short = t.1; new = n }

-- by an access
pub is_joined : (s : State) (block : TypeId) (at : Operand) (name : Way) (p q : Place) → accessed s.vars block (operand_content s at) ≡ Some p → joined_place s name ≡ Some q → IsNew s (SamePlace p q) →
    IsJoined s block at name (SamePlace p q)
is_joined s block at name p q e f n = record { first = p; second = q; first_is = e; second_is = f; conjunct_is = refl; new = n }

-- ---- what is new

-- a conjunct that may be added is new, unless it stands there
pub new_unless : (s : State) (c : Conj) → MayAdd s c → stands_in s.pure c ≡ false → IsNew s c
new_unless s c m e = record { added = ap₂ (λ x y. elim (x || y) as (λ _. List Conj) [ true ↦ s.pure | false ↦ s.pure ++ c ∷ [] ]) m.undecided e; room = m.room }

-- ---- of the command that comes next

pub read_said : (j : JobTree) (s : State) (k : List Item) (command : Command) (slot : ℕ) (site : Site) (name : Way) (c : Conj) → command ≡ C.Read slot site → IsRead s slot name c →
    Says j (at (Act (command_tree command) ∷ k) s) name c
read_said j s k command slot site name c e t =
    subst (λ z. Says j (at (Act z ∷ k) s) name c) (sym (ap command_tree e ∙ tree-Read slot site)) (read_says j s k slot site name c t)

pub test_said : (j : JobTree) (s : State) (k : List Item) (command : Command) (to : ℕ) (how : Comparison) (a b : Operand) (site : Site) (name : Way) (c : Conj) → command ≡ C.Test to how a b site →
    IsTested s how a b name c → Says j (at (Act (command_tree command) ∷ k) s) name c
test_said j s k command to how a b site name c e t =
    subst (λ z. Says j (at (Act z ∷ k) s) name c) (sym (ap command_tree e ∙ tree-Test to how a b site)) (test_says j s k to how a b site name c t)

pub load_said : (j : JobTree) (s : State) (k : List Item) (command : Command) (to : ℕ) (from : Operand) (field : FieldId) (block : TypeId) (site : Site) (name : Way) (c : Conj) →
    command ≡ C.Load to from field block site → IsJoined s block from name c → Says j (at (Act (command_tree command) ∷ k) s) name c
load_said j s k command to from field block site name c e t =
    subst (λ z. Says j (at (Act z ∷ k) s) name c) (sym (ap command_tree e ∙ tree-Load to from field block site)) (load_says j s k to from field block site name c t)

pub store_said : (j : JobTree) (s : State) (k : List Item) (command : Command) (to : Operand) (field : FieldId) (block : TypeId) (from : Operand) (site : Site) (name : Way) (c : Conj) →
    command ≡ C.Store to field block from site → IsJoined s block to name c → Says j (at (Act (command_tree command) ∷ k) s) name c
store_said j s k command to field block from site name c e t =
    subst (λ z. Says j (at (Act z ∷ k) s) name c) (sym (ap command_tree e ∙ tree-Store to field block from site)) (store_says j s k to field block from site name c t)

pub free_said : (j : JobTree) (s : State) (k : List Item) (command : Command) (from : Operand) (block : TypeId) (site : Site) (name : Way) (c : Conj) → command ≡ C.Free from block site →
    IsJoined s block from name c → Says j (at (Act (command_tree command) ∷ k) s) name c
free_said j s k command from block site name c e t =
    subst (λ z. Says j (at (Act z ∷ k) s) name c) (sym (ap command_tree e ∙ tree-Free from block site)) (free_says j s k from block site name c t)

-- where no call is going on
pub next_said : (j : JobTree) (w : Walk) (next : Upcoming) (command : Bor Command) (rest : List Item) (name : Way) (c : Conj) → next ≡ U.Command command → IsNext next w.control rest →
    is_some w.call ≡ false → Says j (at (Act (command_tree command.now) ∷ rest) w.state) name c → Says j w name c
next_said j w next command rest name c e n f h =
    let k : w.control ≡ Act (command_tree command.now) ∷ rest = subst (λ z. IsNext z w.control rest) e n in says_at j w (Act (command_tree command.now) ∷ rest) name c f k h
