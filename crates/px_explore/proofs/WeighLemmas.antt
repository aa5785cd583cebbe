-- What a decision says of the end of a path.
use Rattle.std.proofs.Common.{◌≡◌, ◌↔◌, ℕ, Bool, true, false, List, [], ◌++◌, Option, refl, ap, sym, ◌∙◌, subst, inl, inr}
use Rattle.px_terms.specs.declared.types.Value.{Value}
use Rattle.px_terms.specs.declared.variables.VarInfo.{VarInfo}
use Rattle.px_terms.specs.declared.conjuncts.Content.{Content}
use Rattle.px_terms.specs.declared.conjuncts.Conj.{Conj}
use Rattle.px_entry.specs.declared.entries.Exit.{Exit}
use Rattle.px_solver.specs.Decisions.{IsRefuted, IsDecided}
use Rattle.px_solver.specs.declared.decision.Decision.{Decision}
use Rattle.px_solver.specs.declared.decision.Decision.TheVariants.{Found, Refuted, Undecided}
use Rattle.px_callgraph.specs.declared.states.State.{State}
use Rattle.px_callgraph.specs.JobTree.{JobTree}
use Rattle.px_entry.specs.declared.atoms.Atom.{Atom}
use Rattle.px_symexec.specs.Prefixes.{constraint, stop_of}
use Rattle.px_symexec.specs.Tables.{IsLive, Gives, Misses, entry_of, undecided}
use Rattle.px_explore.specs.declared.stops.Fork.{Fork}
use Rattle.px_explore.specs.declared.stops.Stop.{Stop}
use Rattle.px_explore.specs.declared.stops.Stop.TheVariants as S
use Rattle.px_explore.specs.Stops.{prefix_of}
use Rattle.std.specs.Prelude.{Result, IfOk}
use Rattle.std.specs.List.{list_all}
use Rattle.px_terms.proofs.Tests.{never_both}
use Rattle.px_plain.specs.Held.{HeldItem, held_vars, held_conjuncts}
use Rattle.px_explore.specs.declared.trail.Trail.{Trail}
use Rattle.px_explore.specs.declared.weigh.Weighed.{Weighed}
use Rattle.px_explore.specs.declared.weigh.Weighed.TheVariants as W
use Rattle.px_explore.specs.Trails.{IsOn, IsKept, AreOf, IsBehind, Reaches}
use Rattle.px_explore.specs.Weights.{IsLiveAs, is_placed, WeighsOn}
use Rattle.px_explore.proofs.HeldLemmas.{assumed_refuted, held_refuted}

-- of the constraint of a state
abbrev pub Says : JobTree → State → Decision → Type 0
Says j s d = IsDecided s.vars (constraint s) j.kinds d

pub out : (j : JobTree) (s : State) (d : Decision) → Says j s d → d ≡ Refuted → IsRefuted s.vars (constraint s) j.kinds
out j s d h e = subst (Says j s) e h

pub misses : (j : JobTree) (s : State) (exit : Exit) (result : Option Content) (d : Decision) (hard : List Conj) → Says j s d → d ≡ Undecided hard →
    IsLiveAs j (S.Ended s exit result) (Misses (undecided s hard)) 1
misses j s exit result d hard h e =
    let k : Says j s (Undecided hard) = subst (Says j s) e h in record { live = k.not_refuted; row_is = inr (hard, k, refl); cases_are = refl }

pub gives : (j : JobTree) (s : State) (exit : Exit) (result : Option Content) (d : Decision) (model : List Value) → Says j s d → d ≡ Found model →
    IsLiveAs j (S.Ended s exit result) (Gives (entry_of j s exit result model)) 1
gives j s exit result d model h e =
    let k : Says j s (Found model) = subst (Says j s) e h in record { live = k.not_refuted; row_is = inl (model, k, refl); cases_are = refl }

-- of equal lists and kinds
pub refuted_as : (b : Bool) (vars others : List VarInfo) (cs ds : List Conj) (ks ls : List ℕ) → vars ≡ others → cs ≡ ds → ks ≡ ls →
    (b ≡ true ↔ IsRefuted vars cs ks) → (b ≡ true ↔ IsRefuted others ds ls)
refuted_as b vars others cs ds ks ls v c k h =
    subst (λ z. b ≡ true ↔ IsRefuted z ds ls) v (subst (λ z. b ≡ true ↔ IsRefuted vars z ls) c (subst (λ z. b ≡ true ↔ IsRefuted vars cs z) k h))

-- a point of choice that is refuted isn't live
pub closed : (kinds : List ℕ) (stop : Stop) (f : Fork) (b : Bool) → stop ≡ S.Choice f → (b ≡ true ↔ IsRefuted f.walk.state.vars (constraint f.walk.state) kinds) → b ≡ true → ¬ IsLive kinds (prefix_of stop)
closed kinds stop f b e h t l = subst (λ z. IsLive kinds (prefix_of z)) e l (h.0 t)

-- ---- what is held

-- domains that hold what they held
pub reaches_kept : (old : Trail) (A : List Conj → Type 0) (t : Trail) (D E : List Conj → Type 0) (s : State) → Reaches old A t D s → ((cs : List Conj) → D cs → E cs) → Reaches old A t E s
reaches_kept old A t D E s r k p items at after = let (above, on, of) = r p items at after in (above, record { stacked = on.stacked; conjuncts = k _ on.conjuncts }, of)

pub kept_kept : (t : Trail) (D E : List Conj → Type 0) → IsKept t D → ((cs : List Conj) → D cs → E cs) → IsKept t E
kept_kept t D E (items, on) k = (items, record { stacked = on.stacked; conjuncts = k _ on.conjuncts })

pub reached_items : (old : Trail) (A : List Conj → Type 0) (t : Trail) (D : List Conj → Type 0) (s : State) → IsBehind old A s → Reaches old A t D s → (items : List HeldItem) × IsOn t D items × AreOf s items
reached_items old A t D s (p, items, at, after) r = let (above, on, of) = r p items at after in (above ++ items, on, of)

-- where nothing is opened
pub weighs_closed : (old : Trail) (A : List Conj → Type 0) (t : Trail) (D : List Conj → Type 0) (s : State) → Reaches old A t D s → WeighsOn old A t D s W.Out
weighs_closed old A t D s r p items at after = let (above, on, of) = r p items at after in (above, on, tt)

pub weighs_open : (old : Trail) (A : List Conj → Type 0) (t : Trail) (D : List Conj → Type 0) (f : Fork) → Reaches old A t D f.walk.state → WeighsOn old A t D f.walk.state (W.Open f)
weighs_open old A t D f r = r

-- nothing was reached
pub weighs_nothing : (old : Trail) (A : List Conj → Type 0) (s : State) → WeighsOn old A old A s W.Out
weighs_nothing old A s p items at after = ([], at.on, tt)

-- of the stop that it is
pub weighs_at : (old : Trail) (A : List Conj → Type 0) (t : Trail) (D : List Conj → Type 0) (w : Weighed) (stop other : Stop) → stop ≡ other → WeighsOn old A t D (stop_of (prefix_of other)) w → WeighsOn old A t D (stop_of (prefix_of stop)) w
weighs_at old A t D w stop other e h = subst (λ z. WeighsOn old A t D (stop_of (prefix_of z)) w) (sym e) h

pub behind_at : (t : Trail) (D : List Conj → Type 0) (stop other : Stop) → stop ≡ other → IsBehind t D (stop_of (prefix_of stop)) → IsBehind t D (stop_of (prefix_of other))
behind_at t D stop other e h = subst (λ z. IsBehind t D (stop_of (prefix_of z))) e h

-- ---- refuted

-- where what is held isn't refuted, what is assumed isn't
pub not_refuted : (t : Trail) (D : List Conj → Type 0) (s : State) (ks kinds : List ℕ) (b : Bool) → ((items : List HeldItem) → IsOn t D items → (b ≡ true ↔ IsRefuted (held_vars items) (held_conjuncts items) ks)) →
    b ≡ false → ks ≡ kinds → (items : List HeldItem) × IsOn t D items × AreOf s items → (false ≡ true ↔ IsRefuted s.vars (constraint s) kinds)
not_refuted t D s ks kinds b exactly n e (items, on, of) = (
  λ f. cc,
  λ r. absurd (never_both b ((exactly items on).1 (assumed_refuted s items ks of (subst (IsRefuted s.vars (constraint s)) (sym e) r))) n),
)

-- and where places point to blocks of their types, both are
pub is_refuted_too : (t : Trail) (D : List Conj → Type 0) (s : State) (ks kinds : List ℕ) (b : Bool) → ((items : List HeldItem) → IsOn t D items → (b ≡ true ↔ IsRefuted (held_vars items) (held_conjuncts items) ks)) →
    b ≡ true → ks ≡ kinds → list_all (is_placed s.vars) s.atoms ≡ true → (items : List HeldItem) × IsOn t D items × AreOf s items → (true ≡ true ↔ IsRefuted s.vars (constraint s) kinds)
is_refuted_too t D s ks kinds b exactly y e p (items, on, of) = (λ f. subst (IsRefuted s.vars (constraint s)) e (held_refuted s items ks of p ((exactly items on).0 y)), λ r. refl)

-- of slices
pub placed_as : (vars others : List VarInfo) (atoms more : List Atom) (b : Bool) → vars ≡ others → atoms ≡ more → b ≡ list_all (is_placed vars) atoms → b ≡ true → list_all (is_placed others) more ≡ true
placed_as vars others atoms more b v a h t = sym (ap (λ z. list_all (is_placed z) more) v) ∙ sym (ap (list_all (is_placed vars)) a) ∙ sym h ∙ t

pub open_kinds : (s : State) (kinds : List ℕ) (b : Bool) → (b ≡ true ↔ IsRefuted s.vars (constraint s) kinds) → b ≡ false → ¬ IsRefuted s.vars (constraint s) kinds
open_kinds s kinds b h n r = never_both b (h.1 r) n

-- of equal lists
abbrev pub IsFoundOf : List VarInfo → List Conj → Decision → Type 0
IsFoundOf vars cs d = (kinds : List ℕ) → ¬ IsRefuted vars cs kinds → IsDecided vars cs kinds d

pub found_as : {E : Type 0} (r : Result Decision E) (vars others : List VarInfo) (cs ds : List Conj) → vars ≡ others → cs ≡ ds → IfOk r (IsFoundOf vars cs) → IfOk r (IsFoundOf others ds)
found_as r vars others cs ds v c h = subst (λ z. IfOk r (IsFoundOf z ds)) v (subst (λ z. IfOk r (IsFoundOf vars z)) c h)
