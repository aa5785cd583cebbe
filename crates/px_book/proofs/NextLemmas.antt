-- What the flags say of a desk: which procedures are claimable.
use Rattle.std.proofs.Common.{◌≡◌, ◌≢◌, ◌⊎◌, inl, inr, ℕ, ◌+◌, ◌<◌, ◌≤◌, ◌&&◌, ◌||◌, List, [], ◌∷◌, length, get_or, Bool, true, false, true≢false, not, cond, nat_eq, nat_lt, Option, Some, None, refl, sym, ap, ap₂, subst, ◌∙◌, arith}
use Rattle.std.specs.Prelude.{Contains, option_map}
use Rattle.std.proofs.lemmas.Bool.{and_parts, cases_eq, cases_lt, ltb-true, lt-ltb, ltb-false, eqb-true, eq-eqb, or_cases, or_left, or_right}
use Rattle.std.proofs.lemmas.List.{get_or_default, get_or_past}
use Rattle.px_base.specs.declared.trace.ProcId.{ProcId}
use Rattle.px_core.specs.BodyTree.{BodyTree}
use Rattle.px_callgraph.specs.Callees.{IsCallee, AreTogether}
use Rattle.px_components.specs.Graphs.{IsEdge}
use Rattle.px_callgraph.specs.CallGraphs.{IsGraphOf}
use Rattle.px_pieces.specs.declared.desk.Who.{Who}
use Rattle.px_pieces.specs.declared.desk.Who.TheVariants.{Parent, Worker}
use Rattle.px_pieces.specs.declared.desk.Event.{Event}
use Rattle.px_pieces.specs.declared.desk.Status.{Status}
use Rattle.px_pieces.specs.declared.desk.Status.TheVariants.{Waiting, Held, Settled}
use Rattle.px_pieces.specs.Desk.{Desk, is_of_desk, Awaits, Statuses, replay, IsSettled, MayTake, IsClaimable}
use Rattle.px_book.specs.declared.ready.Ready.{Ready}
use Rattle.px_book.specs.Flags.{flag_at, IsLeast}
use Rattle.px_book.specs.Ready.{status_at, is_unsettled, Blocks, callees_in, IsPast, for_workers, for_parent, is_free, IsReady, is_flagged, lesser, IsLeastOf}
use Rattle.px_book.specs.Rolls.{desk_in, no_bodies, IsNext}
use Rattle.px_book.specs.RollKeeping.{IsKept}
use Rattle.px_book.proofs.Histories.{on_desk, stands_on}

-- a flag that is set has its place
pub set_inside : (flags : List Bool) (f : ℕ) → flag_at flags f ≡ true → f < length flags
set_inside flags f e = elim (cases_lt f (length flags)) [
  | inl l ↦ l
  | inr l ↦ absurd (true≢false (sym e ∙ get_or_past flags f false l))
]

-- the least that is set in one row or the other
none_at : (flags : List Bool) → IsLeast flags None → (f : ℕ) → flag_at flags f ≡ true → ⊥
none_at flags h f e = h f (let z : 0 ≤ f = omega arith in z) (set_inside flags f e) e

pub least_parent : (r : Ready) (a b : Option ℕ) → IsLeast r.workers a → IsLeast r.parent b → IsLeastOf Parent r (lesser a b)
least_parent r None None h k = λ f e. elim (or_cases (flag_at r.workers f) (flag_at r.parent f) e) [ inl q ↦ none_at r.workers h f q | inr q ↦ none_at r.parent k f q ]
least_parent r None (Some n) h k = (
  or_right (flag_at r.workers n) (flag_at r.parent n) k.2,
  λ g l e. elim (or_cases (flag_at r.workers g) (flag_at r.parent g) e) [
    | inl q ↦ none_at r.workers h g q
    | inr q ↦ k.3 g (let z : 0 ≤ g = omega arith in z) l q
  ],
)
least_parent r (Some n) None h k = (
  or_left (flag_at r.workers n) (flag_at r.parent n) h.2,
  λ g l e. elim (or_cases (flag_at r.workers g) (flag_at r.parent g) e) [
    | inl q ↦ h.3 g (let z : 0 ≤ g = omega arith in z) l q
    | inr q ↦ none_at r.parent k g q
  ],
)
least_parent r (Some m) (Some n) h k = by (nat_lt m n) refl
  where
    by : (c : Bool) → nat_lt m n ≡ c → IsLeastOf Parent r (Some (cond c m n))
    by true q = (
      or_left (flag_at r.workers m) (flag_at r.parent m) h.2,
      λ g l e. elim (or_cases (flag_at r.workers g) (flag_at r.parent g) e) [
        | inl i ↦ h.3 g (let z : 0 ≤ g = omega arith in z) l i
        | inr i ↦ k.3 g (let z : 0 ≤ g = omega arith in z) (let s = ltb-true m n q in omega arith) i
      ],
    )
    by false q = (
      or_right (flag_at r.workers n) (flag_at r.parent n) k.2,
      λ g l e. elim (or_cases (flag_at r.workers g) (flag_at r.parent g) e) [
        | inl i ↦ h.3 g (let z : 0 ≤ g = omega arith in z) (let s = ltb-false m n q in omega arith) i
        | inr i ↦ k.3 g (let z : 0 ≤ g = omega arith in z) l i
      ],
    )

-- what a worker may claim, or the parent alone, waits
waits_for_workers : (o : Option Status) → for_workers o ≡ true → (l : ℕ) × (o ≡ Some (Waiting l)) × (l < 3)
waits_for_workers None e = absurd (true≢false (sym e))
waits_for_workers (Some (Waiting l)) e = (l, refl, ltb-true l 3 e)
waits_for_workers (Some (Held t w l)) e = absurd (true≢false (sym e))
waits_for_workers (Some (Settled t w)) e = absurd (true≢false (sym e))

waits_for_parent : (o : Option Status) → for_parent o ≡ true → (l : ℕ) × (o ≡ Some (Waiting l))
waits_for_parent None e = absurd (true≢false (sym e))
waits_for_parent (Some (Waiting l)) e = (l, refl)
waits_for_parent (Some (Held t w l)) e = absurd (true≢false (sym e))
waits_for_parent (Some (Settled t w)) e = absurd (true≢false (sym e))

settled_or_not : (o : Option Status) (x : Status) → o ≡ Some x → (is_unsettled o ≡ true) ⊎ ((t : ℕ) × (w : Who) × (o ≡ Some (Settled t w)))
settled_or_not o (Waiting l) e = inl (ap is_unsettled e)
settled_or_not o (Held t w l) e = inl (ap is_unsettled e)
settled_or_not o (Settled t w) e = inr (t, w, e)

pub unsettled_stands : (o : Option Status) → is_unsettled o ≡ true → (x : Status) × (o ≡ Some x)
unsettled_stands None e = absurd (true≢false (sym e))
unsettled_stands (Some x) e = (x, refl)

may_any : (who : Who) (l : ℕ) → l < 3 → MayTake who l
may_any Parent l k = tt
may_any (Worker n) l k = k

module _ (graph callers : List (List ℕ)) (out : List ProcId) (statuses : List (Option Status)) (r : Ready) (held : List ProcId) (history : List Event)
    (kept : IsKept graph callers out statuses r held history) (bodies : ℕ → Option BodyTree) (is : IsGraphOf bodies graph) where
  abbrev d : Desk
  d = desk_in bodies graph out

  abbrev s : Statuses
  s = replay d history

  at : (f : ℕ) → status_at statuses f ≡ s f
  at f = kept.stands f

  desk_inside : (f : ℕ) → is_of_desk d f ≡ true → f < length graph
  desk_inside f o = ltb-true f (length graph) (and_parts _ _ o).0

  on_it : (f : ℕ) (x : Status) → s f ≡ Some x → is_of_desk d f ≡ true
  on_it f x e = on_desk d history f x e

  -- a procedure with nothing to await has all its callees settled
  free_settled : (f : ℕ) → f < length graph → is_free graph r f ≡ true → (g : ℕ) → Awaits d f g → IsSettled s g
  free_settled f l free g w =
      let (k, m, e) = (is.callees f g).1 w.callee in
      let n : get_or r.passed.items f 0 ≡ length (callees_in graph f) = eqb-true _ _ free in
      let q : get_or (callees_in graph f) k 0 ≡ g = get_or_default (callees_in graph f) k 0 g m ∙ e in
      let (x, stands) = stands_on d history g w.of_desk in
      elim (settled_or_not (s g) x stands) [
        | inl u ↦ absurd ((kept.ready.passed bodies is f l).none k (omega arith)
            (record { unsettled = ap is_unsettled (at (get_or (callees_in graph f) k 0)) ∙ ap (λ z. is_unsettled (s z)) q ∙ u; apart = subst (λ z. ¬ AreTogether bodies f z) (sym q) w.apart }))
        | inr (t, who, c) ↦ record { ticket = t; who = who; settled = c }
      ]

  -- and one whose callees are all settled has nothing to await
  settled_free : (f : ℕ) → f < length graph → ((g : ℕ) → Awaits d f g → IsSettled s g) → is_free graph r f ≡ true
  settled_free f l all = elim (cases_lt (get_or r.passed.items f 0) (length (callees_in graph f))) [
    | inl m ↦ absurd (stuck m ((kept.ready.passed bodies is f l).next m))
    | inr m ↦ (let i = kept.ready.inside f l in eq-eqb _ _ (let e : get_or r.passed.items f 0 ≡ length (callees_in graph f) = omega arith in e))
  ]
    where
      g : ℕ
      g = get_or (callees_in graph f) (get_or r.passed.items f 0) 0

      stuck : get_or r.passed.items f 0 < length (callees_in graph f) → Blocks bodies statuses f g → ⊥
      stuck m b =
          let (x, stands) = unsettled_stands (status_at statuses g) b.unsettled in
          let o = on_it g x (sym (at g) ∙ stands) in
          let c = (is.callees f g).0 (get_or r.passed.items f 0, m, get_or_default (callees_in graph f) (get_or r.passed.items f 0) g 0 m) in
          let q = all g (record { callee = c; of_desk = o; apart = b.apart }) in
          true≢false (sym b.unsettled ∙ ap is_unsettled (at g ∙ q.settled))

  claims : (who : Who) (f l : ℕ) → f < length graph → status_at statuses f ≡ Some (Waiting l) → MayTake who l → is_free graph r f ≡ true → IsClaimable d s who f
  claims who f l i e m free = record { losses = l; waits = sym (at f) ∙ e; may = m; callees = free_settled f i free }

  by_workers : (who : Who) (f : ℕ) → flag_at r.workers f ≡ true → IsClaimable d s who f
  by_workers who f e =
      let i = set_inside r.workers f e in
      let size = kept.ready.sized.workers in
      let l : f < length graph = omega arith in
      let (w, free) = and_parts _ _ (sym (kept.ready.flagged f l).workers ∙ e) in
      let (n, waits, few) = waits_for_workers (status_at statuses f) w in
      claims who f n l waits (may_any who n few) free

  by_parent : (f : ℕ) → flag_at r.parent f ≡ true → IsClaimable d s Parent f
  by_parent f e =
      let i = set_inside r.parent f e in
      let size = kept.ready.sized.parent in
      let l : f < length graph = omega arith in
      let (w, free) = and_parts _ _ (sym (kept.ready.flagged f l).parent ∙ e) in
      let (n, waits) = waits_for_parent (status_at statuses f) w in
      claims Parent f n l waits tt free

  pub flagged_claimable : (who : Who) (f : ℕ) → is_flagged who r f ≡ true → IsClaimable d s who f
  flagged_claimable (Worker n) f e = by_workers (Worker n) f e
  flagged_claimable Parent f e = elim (or_cases (flag_at r.workers f) (flag_at r.parent f) e) [ inl a ↦ by_workers Parent f a | inr a ↦ by_parent f a ]

  worker_flag : (f l : ℕ) → f < length graph → status_at statuses f ≡ Some (Waiting l) → is_free graph r f ≡ true → flag_at r.workers f ≡ nat_lt l 3
  worker_flag f l i e free = (kept.ready.flagged f i).workers ∙ ap₂ (λ a b. a && b) (ap for_workers e) free ∙ and_true (nat_lt l 3)
    where
      and_true : (b : Bool) → (b && true) ≡ b
      and_true true = refl
      and_true false = refl

  parent_flag : (f l : ℕ) → f < length graph → status_at statuses f ≡ Some (Waiting l) → is_free graph r f ≡ true → flag_at r.parent f ≡ not (nat_lt l 3)
  parent_flag f l i e free = (kept.ready.flagged f i).parent ∙ ap₂ (λ a b. a && b) (ap for_parent e) free ∙ and_true (not (nat_lt l 3))
    where
      and_true : (b : Bool) → (b && true) ≡ b
      and_true true = refl
      and_true false = refl

  one_of_two : (b : Bool) → (b || not b) ≡ true
  one_of_two true = refl
  one_of_two false = refl

  pub claimable_flagged : (who : Who) (f : ℕ) → IsClaimable d s who f → is_flagged who r f ≡ true
  claimable_flagged who f c =
      let i = desk_inside f (on_it f (Waiting c.losses) c.waits) in
      let free = settled_free f i c.callees in
      let waits = at f ∙ c.waits in
      by who c.may (worker_flag f c.losses i waits free) (parent_flag f c.losses i waits free)
    where
      by : (who : Who) → MayTake who c.losses → flag_at r.workers f ≡ nat_lt c.losses 3 → flag_at r.parent f ≡ not (nat_lt c.losses 3) → is_flagged who r f ≡ true
      by Parent m a b = ap₂ (λ x y. x || y) a b ∙ one_of_two (nat_lt c.losses 3)
      by (Worker n) m a b = a ∙ lt-ltb c.losses 3 m

  pub next_is : (who : Who) (o : Option ProcId) → IsLeastOf who r (option_map (λ (p : ProcId). p.0) o) → IsNext d s who o
  next_is who None h = λ f c. h f (claimable_flagged who f c)
  next_is who (Some p) h = (flagged_claimable who p.0 h.0, λ g l c. h.1 g l (claimable_flagged who g c))
