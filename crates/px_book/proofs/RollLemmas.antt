-- A roll after one event more.
use Rattle.std.proofs.Common.{◌≡◌, ◌≢◌, ◌↔◌, ◌⊎◌, inl, inr, ℕ, suc, ◌+◌, ◌<◌, ◌≤◌, ◌^◌, List, [], ◌∷◌, ◌++◌, length, set, Bool, true, false, true≢false, cond, nat_eq, Option, Some, None, refl, sym, ap, subst, ◌∙◌, arith, length-set}
use Rattle.std.specs.Prelude.{Contains, option_map}
use Rattle.std.proofs.lemmas.Bool.{cases_eq, cases_lt, eq-eqb}
use Rattle.std.proofs.lemmas.List.{get_or_past}
use Rattle.std.proofs.lemmas.List.Elements.{Contains-append_left, Contains-push}
use Rattle.px_base.specs.declared.trace.ProcId.{ProcId}
use Rattle.px_core.specs.BodyTree.{BodyTree}
use Rattle.px_callgraph.specs.CallGraphs.{IsGraphOf}
use Rattle.px_pieces.specs.declared.desk.Who.{Who}
use Rattle.px_pieces.specs.declared.desk.Lost.{Lost}
use Rattle.px_pieces.specs.declared.desk.Event.{Event}
use Rattle.px_pieces.specs.declared.desk.Event.TheVariants.{Claim, Publish, Lose}
use Rattle.px_pieces.specs.declared.desk.Status.{Status}
use Rattle.px_pieces.specs.declared.desk.Status.TheVariants.{Waiting, Held, Settled}
use Rattle.px_pieces.specs.Desk.{Desk, is_of_desk, start, status_after, replay, IsHeldUnder, IsSettled, MayCome, IsLegal}
use Rattle.px_book.specs.declared.ready.Ready.{Ready}
use Rattle.px_book.specs.Ready.{status_at, is_unsettled, IsReady}
use Rattle.px_book.specs.Rolls.{RollParts, desk_in, no_bodies, statuses_of, AllSettled}
use Rattle.px_book.specs.RollKeeping.{AreCallers, AreHeld, AreAfter, IsKept}
use Rattle.px_book.proofs.Histories.{on_desk, stands_on, replay_more, legal_more, one_held, claim_other, publish_other, lose_other}
use Rattle.px_book.proofs.ReadyLemmas.{at_same, at_other}
use Rattle.px_book.proofs.NextLemmas.{unsettled_stands}

module _ (graph callers : List (List ℕ)) (out : List ProcId) (statuses : List (Option Status)) (r : Ready) (held : List ProcId) (history : List Event)
    (kept : IsKept graph callers out statuses r held history) (p : ProcId) (inside : p.0 < length statuses) where
  abbrev d : Desk
  d = desk_in no_bodies graph out

  -- where the event changes this procedure alone
  after_it : (e : Event) (x y : Status) → status_at statuses p.0 ≡ Some x → status_after x (length history) e p.0 ≡ y →
      ((f : ℕ) → f ≢ p.0 → option_map (λ z. status_after z (length history) e f) (status_at statuses f) ≡ status_at statuses f) →
      AreAfter graph out (history ++ e ∷ []) (set statuses p.0 (Some y))
  after_it e x y was now others f = elim (cases_eq f p.0) [
    | inl q ↦ ap (status_at (set statuses p.0 (Some y))) q ∙ at_same graph statuses p.0 (Some y) inside
        ∙ sym (ap (option_map (λ z. status_after z (length history) e p.0)) (sym (kept.stands p.0) ∙ was) ∙ ap Some now)
        ∙ sym (ap (λ z. z p.0) (replay_more d history e)) ∙ ap (replay d (history ++ e ∷ [])) (sym q)
    | inr n ↦ at_other graph statuses p.0 (Some y) inside f n ∙ sym (others f n) ∙ ap (option_map (λ z. status_after z (length history) e f)) (kept.stands f)
        ∙ sym (ap (λ z. z f) (replay_more d history e))
  ]

  after_legal : (e : Event) → ((bodies : ℕ → Option BodyTree) → IsGraphOf bodies graph → MayCome (desk_in bodies graph out) (replay (desk_in bodies graph out) history) e) →
      (bodies : ℕ → Option BodyTree) → IsGraphOf bodies graph → IsLegal (desk_in bodies graph out) (history ++ e ∷ [])
  after_legal e may bodies is = legal_more (desk_in bodies graph out) history e (kept.legal bodies is) (may bodies is)

  keeps : (e : Event) (y : Status) (s : Ready) (held' : List ProcId) → AreAfter graph out (history ++ e ∷ []) (set statuses p.0 (Some y)) →
      ((bodies : ℕ → Option BodyTree) → IsGraphOf bodies graph → MayCome (desk_in bodies graph out) (replay (desk_in bodies graph out) history) e) →
      IsReady graph (set statuses p.0 (Some y)) s → AreHeld (set statuses p.0 (Some y)) held' →
      IsKept graph callers out (set statuses p.0 (Some y)) s held' (history ++ e ∷ [])
  keeps e y s held' behind may ready held_ = record {
    few = kept.few;
    size = length-set statuses p.0 (Some y) ∙ kept.size;
    turned = kept.turned;
    stands = behind;
    legal = after_legal e may;
    ready = ready;
    listed = held_;
  }

  -- a list that has all but this one
  released : (y : Status) (held' : List ProcId) → ((t : ℕ) (w : Who) (l : ℕ) → Some y ≡ Some (Held t w l) → ⊥) →
      ((q : ProcId) → q ≢ p → Contains held q → Contains held' q) → AreHeld (set statuses p.0 (Some y)) held'
  released y held' not_held others f t w l e = elim (cases_eq f p.0) [
    | inl q ↦ absurd (not_held t w l (sym (at_same graph statuses p.0 (Some y) inside) ∙ ap (status_at (set statuses p.0 (Some y))) (sym q) ∙ e))
    | inr n ↦ (let h = kept.listed f t w l (sym (at_other graph statuses p.0 (Some y) inside f n) ∙ e) in
        (others (record { 0 = f }) (λ z. n (ap (λ (v : ProcId). v.0) z)) h.0, h.1))
  ]

  taken : (n : ℕ) (who : Who) (losses : ℕ) → losses + 1 < 2 ^ 32 → AreHeld (set statuses p.0 (Some (Held n who losses))) (held ++ p ∷ [])
  taken n who losses few f t w l e = elim (cases_eq f p.0) [
    | inl q ↦ (
      subst (λ (z : ℕ). Contains (held ++ p ∷ []) (record { 0 = z })) (sym q) (Contains-push held p),
      (let s : losses ≡ l = same_losses (sym (at_same graph statuses p.0 (Some (Held n who losses)) inside) ∙ ap (status_at (set statuses p.0 (Some (Held n who losses)))) (sym q) ∙ e) in subst (λ z. z + 1 < 2 ^ 32) s few),
    )
    | inr k ↦ (let h = kept.listed f t w l (sym (at_other graph statuses p.0 (Some (Held n who losses)) inside f k) ∙ e) in (Contains-append_left held (p ∷ []) (record { 0 = f }) h.0, h.1))
  ]
    where
      same_losses : Some (Held n who losses) ≡ Some (Held t w l) → losses ≡ l
      same_losses e = cc

  pub keeps_claim : (who : Who) (losses : ℕ) (s : Ready) → status_at statuses p.0 ≡ Some (Waiting losses) → losses + 1 < 2 ^ 32 →
      ((bodies : ℕ → Option BodyTree) → IsGraphOf bodies graph → MayCome (desk_in bodies graph out) (replay (desk_in bodies graph out) history) (Claim who p)) →
      IsReady graph (set statuses p.0 (Some (Held (length history) who losses))) s →
      IsKept graph callers out (set statuses p.0 (Some (Held (length history) who losses))) s (held ++ p ∷ []) (history ++ Claim who p ∷ [])
  keeps_claim who losses s was few may ready = keeps (Claim who p) (Held (length history) who losses) s (held ++ p ∷ [])
      (after_it (Claim who p) (Waiting losses) (Held (length history) who losses) was (ap (λ b. cond b (Held (length history) who losses) (Waiting losses)) (eq-eqb p.0 p.0 refl))
      (λ f n. claim_other (length history) who p f (status_at statuses f) n))
      may ready (taken (length history) who losses few)

  -- nobody else is held under its ticket
  module _ (ticket : ℕ) (who : Who) (losses : ℕ) (was : status_at statuses p.0 ≡ Some (Held ticket who losses)) where
    under : IsHeldUnder (replay d history) ticket p.0
    under = record { who = who; losses = losses; held = sym (kept.stands p.0) ∙ was }

    alone : (f : ℕ) → f ≢ p.0 → (w : Who) (l : ℕ) → status_at statuses f ≡ Some (Held ticket w l) → ⊥
    alone f n w l e = n (one_held d history ticket f p.0 (record { who = w; losses = l; held = sym (kept.stands f) ∙ e }) under)

    pub keeps_publish : (s : Ready) (held' : List ProcId) → ((q : ProcId) → q ≢ p → Contains held q → Contains held' q) →
        IsReady graph (set statuses p.0 (Some (Settled ticket who))) s →
        IsKept graph callers out (set statuses p.0 (Some (Settled ticket who))) s held' (history ++ Publish ticket ∷ [])
    keeps_publish s held' others ready = keeps (Publish ticket) (Settled ticket who) s held'
        (after_it (Publish ticket) (Held ticket who losses) (Settled ticket who) was (ap (λ b. cond b (Settled ticket who) (Held ticket who losses)) (eq-eqb ticket ticket refl))
        (λ f n. publish_other (length history) ticket f (status_at statuses f) (alone f n)))
        (λ bodies is. (p.0, under)) ready (released (Settled ticket who) held' (λ t w l e. cc) others)

    pub keeps_lose : (why : Lost) (s : Ready) (held' : List ProcId) → ((q : ProcId) → q ≢ p → Contains held q → Contains held' q) →
        IsReady graph (set statuses p.0 (Some (Waiting (losses + 1)))) s →
        IsKept graph callers out (set statuses p.0 (Some (Waiting (losses + 1)))) s held' (history ++ Lose ticket why ∷ [])
    keeps_lose why s held' others ready = keeps (Lose ticket why) (Waiting (losses + 1)) s held'
        (after_it (Lose ticket why) (Held ticket who losses) (Waiting (losses + 1)) was
        (ap (λ b. cond b (Waiting (suc losses)) (Held ticket who losses)) (eq-eqb ticket ticket refl) ∙ ap (λ z. Waiting z) (let z : suc losses ≡ losses + 1 = omega arith in z))
        (λ f n. lose_other (length history) ticket f why (status_at statuses f) (alone f n)))
        (λ bodies is. (p.0, under)) ready (released (Waiting (losses + 1)) held' (λ t w l e. cc) others)

-- ---- the start

started : (b : Bool) (t : ℕ) (w : Who) (l : ℕ) → cond b (Some (Waiting 0)) None ≡ Some (Held t w l) → ⊥
started true t w l e = cc
started false t w l e = cc

pub kept_first : (graph callers : List (List ℕ)) (out : List ProcId) (statuses : List (Option Status)) (r : Ready) → length graph < 2 ^ 32 → length statuses ≡ length graph → AreCallers graph callers →
    ((f : ℕ) → status_at statuses f ≡ start (desk_in no_bodies graph out) f) → IsReady graph statuses r → IsKept graph callers out statuses r [] []
kept_first graph callers out statuses r few size turned at ready = record {
  few = few;
  size = size;
  turned = turned;
  stands = at;
  legal = λ bodies is n e q. absurd (nothing n e q);
  ready = ready;
  listed = λ f t w l e. absurd (started (is_of_desk (desk_in no_bodies graph out) f) t w l (sym (at f) ∙ e));
}
  where
    nothing : (n : ℕ) (e : Event) → ◌≡◌ {A = Option Event} None (Some e) → ⊥
    nothing n e q = cc

-- ---- who is left

-- all of the desk are settled where no status is left to be settled
pub all_settled : (graph callers : List (List ℕ)) (out : List ProcId) (statuses : List (Option Status)) (r : Ready) (held : List ProcId) (history : List Event) →
    IsKept graph callers out statuses r held history → ((f : ℕ) → is_unsettled (status_at statuses f) ≡ false) → AllSettled (record { graph = graph; out = out; history = history })
all_settled graph callers out statuses r held history kept none f o =
    let (x, stands) = stands_on (desk_in no_bodies graph out) history f o in
    by x stands (none f)
  where
    by : (x : Status) → replay (desk_in no_bodies graph out) history f ≡ Some x → is_unsettled (status_at statuses f) ≡ false → IsSettled (replay (desk_in no_bodies graph out) history) f
    by (Waiting l) e u = absurd (true≢false (sym (ap is_unsettled (kept.stands f ∙ e)) ∙ u))
    by (Held t w l) e u = absurd (true≢false (sym (ap is_unsettled (kept.stands f ∙ e)) ∙ u))
    by (Settled t w) e u = record { ticket = t; who = w; settled = e }

-- and not, where one is
pub not_all : (graph callers : List (List ℕ)) (out : List ProcId) (statuses : List (Option Status)) (r : Ready) (held : List ProcId) (history : List Event) →
    IsKept graph callers out statuses r held history → (f : ℕ) → is_unsettled (status_at statuses f) ≡ true → AllSettled (record { graph = graph; out = out; history = history }) → ⊥
not_all graph callers out statuses r held history kept f u all =
    let (x, e) = unsettled_stands (status_at statuses f) u in
    let q = all f (on_desk (desk_in no_bodies graph out) history f x (sym (kept.stands f) ∙ e)) in
    true≢false (sym u ∙ ap is_unsettled (kept.stands f ∙ q.settled))

-- ---- what is answered

module _ (graph callers : List (List ℕ)) (out : List ProcId) (statuses : List (Option Status)) (r : Ready) (held : List ProcId) (history : List Event)
    (kept : IsKept graph callers out statuses r held history) where
  abbrev roll : RollParts
  roll = record { graph = graph; out = out; history = history }

  pub under_now : (t f : ℕ) → IsHeldUnder (status_at statuses) t f → IsHeldUnder (statuses_of roll) t f
  under_now t f q = record { who = q.who; losses = q.losses; held = sym (kept.stands f) ∙ q.held }

  pub under_row : (t f : ℕ) → IsHeldUnder (statuses_of roll) t f → IsHeldUnder (status_at statuses) t f
  under_row t f q = record { who = q.who; losses = q.losses; held = kept.stands f ∙ q.held }

  pub decides_settled : (b : Bool) → (b ≡ true → (f : ℕ) → is_unsettled (status_at statuses f) ≡ false) → (b ≡ false → (f : ℕ) × (is_unsettled (status_at statuses f) ≡ true)) →
      (b ≡ true) ↔ AllSettled roll
  decides_settled true all some = (λ e. all_settled graph callers out statuses r held history kept (all refl), λ h. refl)
  decides_settled false all some = (λ e. absurd (true≢false (sym e)), λ h. absurd (let (f, u) = some refl in not_all graph callers out statuses r held history kept f u h))

  pub decides_held : (b : Bool) → (b ≡ true → (t f : ℕ) × IsHeldUnder (status_at statuses) t f) → (b ≡ false → (t f : ℕ) → ¬ IsHeldUnder (status_at statuses) t f) →
      (b ≡ true) ↔ ((t f : ℕ) × IsHeldUnder (statuses_of roll) t f)
  decides_held true some none = (λ e. let (t, f, q) = some refl in (t, f, under_now t f q), λ h. refl)
  decides_held false some none = (λ e. absurd (true≢false (sym e)), λ (t, f, q). absurd (none refl t f (under_row t f q)))

-- one that stands somewhere has its place in the row
pub standing_inside : (statuses : List (Option Status)) (f : ℕ) (x : Status) → status_at statuses f ≡ Some x → f < length statuses
standing_inside statuses f x e = elim (cases_lt f (length statuses)) [
  | inl l ↦ l
  | inr l ↦ absurd (nowhere x (sym (get_or_past statuses f None l) ∙ e))
]
  where
    nowhere : (x : Status) → ◌≡◌ {A = Option Status} None (Some x) → ⊥
    nowhere x e = cc

pub same_ticket : (t u : ℕ) (v w : Who) (l m : ℕ) → Some (Held t v l) ≡ Some (Held u w m) → t ≡ u
same_ticket t u v w l m e = cc
