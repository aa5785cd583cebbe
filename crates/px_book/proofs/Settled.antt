-- What is settled after one event more.
use Rattle.std.proofs.Common.{◌≡◌, ◌⊎◌, inl, inr, ℕ, zero, suc, ◌+◌, ◌<◌, ◌≤◌, List, [], ◌∷◌, ◌++◌, length, take, Bool, true, false, true≢false, cond, nat_eq, Option, Some, None, option_map, refl, sym, ap, subst, ◌∙◌, arith}
use Rattle.std.proofs.lemmas.Bool.{cases_eq, eqb-true, eq-eqb}
use Rattle.std.proofs.lemmas.List.{take_all}
use Rattle.px_base.specs.declared.trace.ProcId.{ProcId}
use Rattle.px_pieces.specs.declared.desk.Who.{Who}
use Rattle.px_pieces.specs.declared.desk.Lost.{Lost}
use Rattle.px_pieces.specs.declared.desk.Event.{Event}
use Rattle.px_pieces.specs.declared.desk.Event.TheVariants.{Claim, Publish, Lose}
use Rattle.px_pieces.specs.declared.desk.Status.{Status}
use Rattle.px_pieces.specs.declared.desk.Status.TheVariants.{Waiting, Held, Settled}
use Rattle.px_pieces.specs.Desk.{Desk, Statuses, status_after, replay, IsHeldUnder, IsSettled, IsLegal}
use Rattle.px_pieces.specs.Histories.{publications, is_settled, settled_below}
use Rattle.px_pieces.proofs.Counts.{as_many_at}
use Rattle.px_book.proofs.Histories.{replay_more}

more_at : (d : Desk) (h : List Event) (e : Event) (f : ℕ) → replay d (h ++ e ∷ []) f ≡ option_map (λ x. status_after x (length h) e f) (replay d h f)
more_at d h e f = ap (λ z. z f) (replay_more d h e)

pub stays_settled : (d : Desk) (h : List Event) (e : Event) (f : ℕ) → IsSettled (replay d h) f → IsSettled (replay d (h ++ e ∷ [])) f
stays_settled d h e f q = record { ticket = q.ticket; who = q.who; settled = more_at d h e f ∙ ap (option_map (λ x. status_after x (length h) e f)) q.settled }

pub published_settled : (d : Desk) (h : List Event) (t f : ℕ) → IsHeldUnder (replay d h) t f → IsSettled (replay d (h ++ Publish t ∷ [])) f
published_settled d h t f q = record {
  ticket = t;
  who = q.who;
  settled = more_at d h (Publish t) f ∙ ap (option_map (λ x. status_after x (length h) (Publish t) f)) q.held
      ∙ ap (λ b. Some (cond b (Settled t q.who) (Held t q.who q.losses))) (eq-eqb t t refl);
}

-- ---- what was settled before

held_or_waits : (b : Bool) (n l t : ℕ) (who w : Who) → Some (cond b (Held n who l) (Waiting l)) ≡ Some (Settled t w) → ⊥
held_or_waits true n l t who w e = cc
held_or_waits false n l t who w e = cc

by_claim : (n : ℕ) (who : Who) (p : ProcId) (f t : ℕ) (w : Who) (o : Option Status) → option_map (λ x. status_after x n (Claim who p) f) o ≡ Some (Settled t w) → o ≡ Some (Settled t w)
by_claim n who p f t w None e = cc
by_claim n who p f t w (Some (Waiting l)) e = absurd (held_or_waits (nat_eq p.0 f) n l t who w e)
by_claim n who p f t w (Some (Held u v l)) e = cc
by_claim n who p f t w (Some (Settled u v)) e = e

waits_or_held : (b : Bool) (u l t : ℕ) (v w : Who) → Some (cond b (Waiting (suc l)) (Held u v l)) ≡ Some (Settled t w) → ⊥
waits_or_held true u l t v w e = cc
waits_or_held false u l t v w e = cc

by_lose : (n u : ℕ) (why : Lost) (f t : ℕ) (w : Who) (o : Option Status) → option_map (λ x. status_after x n (Lose u why) f) o ≡ Some (Settled t w) → o ≡ Some (Settled t w)
by_lose n u why f t w None e = cc
by_lose n u why f t w (Some (Waiting l)) e = cc
by_lose n u why f t w (Some (Held v x l)) e = absurd (waits_or_held (nat_eq u v) v l t x w e)
by_lose n u why f t w (Some (Settled v x)) e = e

by_publish : (n u f t : ℕ) (w : Who) (o : Option Status) → option_map (λ x. status_after x n (Publish u) f) o ≡ Some (Settled t w) →
    (o ≡ Some (Settled t w)) ⊎ ((v : Who) × (l : ℕ) × (o ≡ Some (Held u v l)))
by_publish n u f t w None e = let z : ⊥ = cc in absurd z
by_publish n u f t w (Some (Waiting l)) e = let z : ⊥ = cc in absurd z
by_publish n u f t w (Some (Held v x l)) e = elim (cases_eq u v) [
  | inl q ↦ inr (x, l, ap (λ z. Some (Held z x l)) (sym q))
  | inr q ↦ absurd (apart (nat_eq u v) (λ k. q (eqb-true u v k)) e)
]
  where
    apart : (b : Bool) → (b ≡ true → ⊥) → Some (cond b (Settled v x) (Held v x l)) ≡ Some (Settled t w) → ⊥
    apart true never k = never refl
    apart false never k = cc
by_publish n u f t w (Some (Settled v x)) e = inl e

pub claimed_settled : (d : Desk) (h : List Event) (who : Who) (p : ProcId) (f : ℕ) → IsSettled (replay d (h ++ Claim who p ∷ [])) f → IsSettled (replay d h) f
claimed_settled d h who p f q = record { ticket = q.ticket; who = q.who; settled = by_claim (length h) who p f q.ticket q.who (replay d h f) (sym (more_at d h (Claim who p) f) ∙ q.settled) }

pub lost_settled : (d : Desk) (h : List Event) (t : ℕ) (why : Lost) (f : ℕ) → IsSettled (replay d (h ++ Lose t why ∷ [])) f → IsSettled (replay d h) f
lost_settled d h t why f q = record { ticket = q.ticket; who = q.who; settled = by_lose (length h) t why f q.ticket q.who (replay d h f) (sym (more_at d h (Lose t why) f) ∙ q.settled) }

pub settled_now : (d : Desk) (h : List Event) (t f : ℕ) → IsSettled (replay d (h ++ Publish t ∷ [])) f → IsSettled (replay d h) f ⊎ IsHeldUnder (replay d h) t f
settled_now d h t f q = elim (by_publish (length h) t f q.ticket q.who (replay d h f) (sym (more_at d h (Publish t) f) ∙ q.settled)) [
  | inl e ↦ inl (record { ticket = q.ticket; who = q.who; settled = e })
  | inr (v, l, e) ↦ inr (record { who = v; losses = l; held = e })
]

-- ---- how many are settled

at_most : (n : ℕ) (s : Statuses) → settled_below n s ≤ n
at_most zero s = omega arith
at_most (suc n) s = let r = at_most n s in let o = one (is_settled (s n)) in omega arith
  where
    one : (b : Bool) → cond b 1 0 ≤ 1
    one true = omega arith
    one false = omega arith

zero_of : (b : Bool) → b ≡ false → ◌≡◌ {A = ℕ} (cond b 1 0) 0
zero_of true e = absurd (true≢false e)
zero_of false e = refl

fewer : (n f : ℕ) (s : Statuses) → f < n → is_settled (s f) ≡ false → settled_below n s < n
fewer zero f s l e = omega arith
fewer (suc n) f s l e = elim (cases_eq f n) [
  | inl q ↦ (let r = at_most n s in let z = zero_of (is_settled (s n)) (ap (λ v. is_settled (s v)) (sym q) ∙ e) in omega (arith, r, z))
  | inr k ↦ (let r = fewer n f s (omega arith) e in let o = one (is_settled (s n)) in omega arith)
]
  where
    one : (b : Bool) → cond b 1 0 ≤ 1
    one true = omega arith
    one false = omega arith

-- while one procedure is held, not as many were published as there are
pub more_left : (d : Desk) (h : List Event) (t f : ℕ) → IsLegal d h → f < d.kept → IsHeldUnder (replay d h) t f → publications h < d.kept
more_left d h t f legal l q =
    let whole = take_all (length h) h (omega arith) in
    let same : settled_below d.kept (replay d h) ≡ publications h =
    sym (ap (λ z. settled_below d.kept (replay d z)) whole) ∙ as_many_at d h legal (length h) ∙ ap publications whole in
    let few = fewer d.kept f (replay d h) l (ap is_settled q.held) in
    omega (arith, same, few)

counts_more : (h : List Event) (e : Event) → publications (h ++ e ∷ []) ≡ publications h + publications (e ∷ [])
counts_more [] e = let z : publications (e ∷ []) ≡ 0 + publications (e ∷ []) = omega arith in z
counts_more (Claim who p ∷ h) e = counts_more h e
counts_more (Publish t ∷ h) e = let c = counts_more h e in omega (arith, c)
counts_more (Lose t why ∷ h) e = counts_more h e

pub one_publication : (h : List Event) (t : ℕ) → publications (h ++ Publish t ∷ []) ≡ publications h + 1
one_publication h t = counts_more h (Publish t)

pub no_claim_counts : (h : List Event) (who : Who) (p : ProcId) → publications (h ++ Claim who p ∷ []) ≡ publications h
no_claim_counts h who p = counts_more h (Claim who p) ∙ (let z : publications h + 0 ≡ publications h = omega arith in z)

pub no_loss_counts : (h : List Event) (t : ℕ) (why : Lost) → publications (h ++ Lose t why ∷ []) ≡ publications h
no_loss_counts h t why = counts_more h (Lose t why) ∙ (let z : publications h + 0 ≡ publications h = omega arith in z)
