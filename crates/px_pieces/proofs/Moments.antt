-- What holds of the statuses at each place of a history.
use Rattle.std.proofs.Common.{◌≡◌, ℕ, zero, suc, ◌+◌, ◌-◌, ◌<◌, ◌≤◌, Bool, true, false, nat_eq, cond, List, [], ◌∷◌, take, Option, Some, None, slice_get, option_map, inl, inr, refl, sym, ap, ap₂, subst, ◌∙◌, arith}
use Rattle.std.proofs.lemmas.Bool.{cond_both, cond-true, eqb-true, eq-eqb, cases_order}
use Rattle.std.proofs.lemmas.Option.{same_Some}
use Rattle.px_pieces.specs.declared.desk.Who.{Who}
use Rattle.px_pieces.specs.declared.desk.Event.{Event}
use Rattle.px_pieces.specs.declared.desk.Event.TheVariants.{Claim, Publish, Lose}
use Rattle.px_pieces.specs.declared.desk.Status.{Status}
use Rattle.px_pieces.specs.declared.desk.Status.TheVariants.{Waiting, Held, Settled}
use Rattle.px_pieces.specs.Desk.{Desk, is_of_desk, Awaits, Statuses, start, status_after, after, replay_from, replay, IsHeldUnder, IsSettled, IsLegal}
use Rattle.px_pieces.specs.Histories.{Settles}
use Rattle.px_pieces.proofs.Descent.{held_or_settled}

pub take_no_more : {A : Type 0} (n : ℕ) (xs : List A) → slice_get xs n ≡ None → take (suc n) xs ≡ take n xs
take_no_more zero [] e = refl
take_no_more zero (x ∷ xs) e = cc
take_no_more (suc n) [] e = refl
take_no_more (suc n) (x ∷ xs) e = ap (λ z. x ∷ z) (take_no_more n xs e)

replay_take : (p n : ℕ) (s : Statuses) (h : List Event) (e : Event) → slice_get h n ≡ Some e →
    replay_from p s (take (suc n) h) ≡ after (n + p) e (replay_from p s (take n h))
replay_take p n s [] e q = cc
replay_take p zero s (x ∷ h) e q = ap₂ (λ a b. after a b s) (let z : p ≡ 0 + p = omega arith in z) (same_Some x e q)
replay_take p (suc n) s (x ∷ h) e q =
    replay_take (suc p) n (after p x s) h e q ∙ ap (λ z. after z e (replay_from (suc p) (after p x s) (take n h))) (omega arith)

status_behind : (g : Status → Status) (o : Option Status) (y : Status) → option_map g o ≡ Some y → (x : Status) × (o ≡ Some x) × (g x ≡ y)
status_behind g None y e = cc
status_behind g (Some x) y e = (x, refl, same_Some (g x) y e)

start_is : (b : Bool) (x : Status) → cond b (Some (Waiting 0)) None ≡ Some x → (b ≡ true) × (Waiting 0 ≡ x)
start_is true x e = (refl, same_Some (Waiting 0) x e)
start_is false x e = cc

module _ (d : Desk) (h : List Event) where
  -- the statuses where the event at this place comes
  abbrev pub at : ℕ → Statuses
  at n = replay d (take n h)

  pub at_event : (n : ℕ) (e : Event) → slice_get h n ≡ Some e → at (suc n) ≡ after n e (at n)
  at_event n e q = replay_take 0 n (start d) h e q ∙ ap (λ z. after z e (at n)) (omega arith)

  pub at_end : (n : ℕ) → slice_get h n ≡ None → at (suc n) ≡ at n
  at_end n q = ap (replay d) (take_no_more n h q)

  -- what holds at the start, and is kept by each event, holds of each status at each place
  module _ (Q : ℕ → ℕ → Status → Type 0)
      (begins : (f : ℕ) → is_of_desk d f ≡ true → Q 0 f (Waiting 0))
      (keeps : (n : ℕ) (e : Event) (f : ℕ) (x : Status) → slice_get h n ≡ Some e → at n f ≡ Some x → Q n f x → Q (suc n) f (status_after x n e f))
      (ends : (n f : ℕ) (x : Status) → slice_get h n ≡ None → Q n f x → Q (suc n) f x) where
    next : (n f : ℕ) → ((x : Status) → at n f ≡ Some x → Q n f x) → (o : Option Event) → slice_get h n ≡ o →
        (x : Status) → at (suc n) f ≡ Some x → Q (suc n) f x
    next n f q None g x e = ends n f x g (q x (sym (ap (λ z. z f) (at_end n g)) ∙ e))
    next n f q (Some v) g x e =
        let b = status_behind (λ y. status_after y n v f) (at n f) x (sym (ap (λ z. z f) (at_event n v g)) ∙ e) in
        subst (Q (suc n) f) b.2 (keeps n v f b.0 g b.1 (q b.0 b.1))

    pub each_status : (n f : ℕ) (x : Status) → at n f ≡ Some x → Q n f x
    each_status zero f x e = let b = start_is (is_of_desk d f) x e in subst (Q 0 f) b.1 (begins f b.0)
    each_status (suc n) f x e = next n f (each_status n f) (slice_get h n) refl x e

  -- ---- who stands on the desk

  pub is_on_desk : (n f : ℕ) (x : Status) → at n f ≡ Some x → is_of_desk d f ≡ true
  is_on_desk = each_status (λ n f x. is_of_desk d f ≡ true) (λ f o. o) (λ n e f x g q o. o) (λ n f x g o. o)

  stands_next : (n f : ℕ) (x : Status) → at n f ≡ Some x → (o : Option Event) → slice_get h n ≡ o → (y : Status) × (at (suc n) f ≡ Some y)
  stands_next n f x e None g = (x, ap (λ z. z f) (at_end n g) ∙ e)
  stands_next n f x e (Some v) g = (status_after x n v f, ap (λ z. z f) (at_event n v g) ∙ ap (option_map (λ y. status_after y n v f)) e)

  pub stands : (n f : ℕ) → is_of_desk d f ≡ true → (x : Status) × (at n f ≡ Some x)
  stands zero f o = (Waiting 0, ap (λ z. cond z (Some (Waiting 0)) None) o)
  stands (suc n) f o = let q = stands n f o in stands_next n f q.0 q.1 (slice_get h n) refl

  -- ---- tickets are places of claims

  abbrev pub HasClaim : ℕ → ℕ → Status → Type 0
  HasClaim n f (Waiting losses) = Unit {0}
  HasClaim n f (Held ticket who losses) = (ticket < n) × (slice_get h ticket ≡ Some (Claim who (record { 0 = f })))
  HasClaim n f (Settled ticket who) = (ticket < n) × (slice_get h ticket ≡ Some (Claim who (record { 0 = f })))

  claim_ends : (n f : ℕ) (x : Status) → HasClaim n f x → HasClaim (suc n) f x
  claim_ends n f (Waiting losses) c = tt
  claim_ends n f (Held ticket who losses) (l, c) = (omega arith, c)
  claim_ends n f (Settled ticket who) (l, c) = (omega arith, c)

  claim_keeps : (n : ℕ) (e : Event) (f : ℕ) (x : Status) → slice_get h n ≡ Some e → at n f ≡ Some x → HasClaim n f x → HasClaim (suc n) f (status_after x n e f)
  claim_keeps n (Claim who p) f (Waiting losses) g q c = cond_both (nat_eq p.0 f) (Held n who losses) (Waiting losses) (HasClaim (suc n) f)
      (λ t. (omega arith, g ∙ ap (λ z. Some (Claim who (record { 0 = z }))) (eqb-true p.0 f t))) (λ t. tt)
  claim_keeps n (Publish t) f (Waiting losses) g q c = tt
  claim_keeps n (Lose t why) f (Waiting losses) g q c = tt
  claim_keeps n (Claim who' p) f (Held ticket who losses) g q c = claim_ends n f (Held ticket who losses) c
  claim_keeps n (Publish t) f (Held ticket who losses) g q c = cond_both (nat_eq t ticket) (Settled ticket who) (Held ticket who losses) (HasClaim (suc n) f)
      (λ t. claim_ends n f (Settled ticket who) c) (λ t. claim_ends n f (Held ticket who losses) c)
  claim_keeps n (Lose t why) f (Held ticket who losses) g q c = cond_both (nat_eq t ticket) (Waiting (suc losses)) (Held ticket who losses) (HasClaim (suc n) f)
      (λ t. tt) (λ t. claim_ends n f (Held ticket who losses) c)
  claim_keeps n e f (Settled ticket who) g q c = claim_ends n f (Settled ticket who) c

  pub has_claim : (n f : ℕ) (x : Status) → at n f ≡ Some x → HasClaim n f x
  has_claim = each_status HasClaim (λ f o. tt) claim_keeps (λ n f x g c. claim_ends n f x c)

  abbrev claimed : Option Event → ℕ
  claimed (Some (Claim who p)) = p.0
  claimed (Some (Publish t)) = 0
  claimed (Some (Lose t why)) = 0
  claimed None = 0

  same_claim : (who who' : Who) (f g : ℕ) → Some (Claim who (record { 0 = f })) ≡ Some (Claim who' (record { 0 = g })) → f ≡ g
  same_claim who who' f g e = ap claimed e

  pub one_under : (n ticket f g : ℕ) → IsHeldUnder (at n) ticket f → IsHeldUnder (at n) ticket g → f ≡ g
  one_under n ticket f g a b = same_claim a.who b.who f g (sym (has_claim n f (Held ticket a.who a.losses) a.held).1 ∙ (has_claim n g (Held ticket b.who b.losses) b.held).1)

  -- ---- what is settled stays so

  settled_next : (n f ticket : ℕ) (who : Who) → at n f ≡ Some (Settled ticket who) → (o : Option Event) → slice_get h n ≡ o → at (suc n) f ≡ Some (Settled ticket who)
  settled_next n f ticket who e None g = ap (λ z. z f) (at_end n g) ∙ e
  settled_next n f ticket who e (Some v) g = ap (λ z. z f) (at_event n v g) ∙ ap (option_map (λ y. status_after y n v f)) e

  pub settled_stays : (n f : ℕ) → IsSettled (at n) f → IsSettled (at (suc n)) f
  settled_stays n f q = record { ticket = q.ticket; who = q.who; settled = settled_next n f q.ticket q.who q.settled (slice_get h n) refl }

  settled_on : (k n f : ℕ) → IsSettled (at n) f → IsSettled (at (k + n)) f
  settled_on zero n f q = subst (λ z. IsSettled (at z) f) (let e : n ≡ 0 + n = omega arith in e) q
  settled_on (suc k) n f q = subst (λ z. IsSettled (at z) f) (let e : suc (k + n) ≡ suc k + n = omega arith in e) (settled_stays (k + n) f (settled_on k n f q))

  pub settled_later : (n m f : ℕ) → n ≤ m → IsSettled (at n) f → IsSettled (at m) f
  settled_later n m f l q = subst (λ z. IsSettled (at z) f) (let e : (m - n) + n ≡ m = omega arith in e) (settled_on (m - n) n f q)

  pub settles_is_settled : (n f : ℕ) → Settles d h n f → IsSettled (at (suc n)) f
  settles_is_settled n f q = record {
    ticket = q.ticket;
    who = q.held.who;
    settled =
        ap (λ z. z f) (at_event n (Publish q.ticket) q.event) ∙ ap (option_map (λ y. status_after y n (Publish q.ticket) f)) q.held.held
        ∙ ap Some (cond-true (nat_eq q.ticket q.ticket) _ _ (eq-eqb q.ticket q.ticket refl));
  }

  never_both : (n f ticket : ℕ) → IsSettled (at n) f → IsHeldUnder (at n) ticket f → ⊥
  never_both n f ticket a b = held_or_settled ticket b.who b.losses a.ticket a.who (sym b.held ∙ a.settled)

  pub settles_once : (n m f : ℕ) → Settles d h n f → Settles d h m f → n ≡ m
  settles_once n m f a b = elim (cases_order n m) [
    | inl e ↦ e
    | inr (inl l) ↦ absurd (never_both m f b.ticket (settled_later (suc n) m f (omega arith) (settles_is_settled n f a)) b.held)
    | inr (inr l) ↦ absurd (never_both n f a.ticket (settled_later (suc m) n f (omega arith) (settles_is_settled m f b)) a.held)
  ]

  -- ---- what is settled was published

  abbrev WasSettled : ℕ → ℕ → Status → Type 0
  WasSettled n f (Waiting losses) = Unit {0}
  WasSettled n f (Held ticket who losses) = Unit {0}
  WasSettled n f (Settled ticket who) = (m : ℕ) × (m < n) × Settles d h m f

  was_keeps : (n : ℕ) (e : Event) (f : ℕ) (x : Status) → slice_get h n ≡ Some e → at n f ≡ Some x → WasSettled n f x → WasSettled (suc n) f (status_after x n e f)
  was_keeps n (Claim who p) f (Waiting losses) g q c = cond_both (nat_eq p.0 f) (Held n who losses) (Waiting losses) (WasSettled (suc n) f) (λ t. tt) (λ t. tt)
  was_keeps n (Publish t) f (Waiting losses) g q c = tt
  was_keeps n (Lose t why) f (Waiting losses) g q c = tt
  was_keeps n (Claim who' p) f (Held ticket who losses) g q c = tt
  was_keeps n (Publish t) f (Held ticket who losses) g q c = cond_both (nat_eq t ticket) (Settled ticket who) (Held ticket who losses) (WasSettled (suc n) f)
      (λ b. (n, omega arith, record { ticket = ticket; event = g ∙ ap (λ z. Some (Publish z)) (eqb-true t ticket b); held = record { who = who; losses = losses; held = q } })) (λ b. tt)
  was_keeps n (Lose t why) f (Held ticket who losses) g q c = cond_both (nat_eq t ticket) (Waiting (suc losses)) (Held ticket who losses) (WasSettled (suc n) f) (λ t. tt) (λ t. tt)
  was_keeps n e f (Settled ticket who) g q (m, l, b) = (m, omega arith, b)

  was_ends : (n f : ℕ) (x : Status) → slice_get h n ≡ None → WasSettled n f x → WasSettled (suc n) f x
  was_ends n f (Waiting losses) g c = tt
  was_ends n f (Held ticket who losses) g c = tt
  was_ends n f (Settled ticket who) g (m, l, b) = (m, omega arith, b)

  pub was_settled : (n f : ℕ) → IsSettled (at n) f → (m : ℕ) × (m < n) × Settles d h m f
  was_settled n f q = each_status WasSettled (λ f o. tt) was_keeps was_ends n f (Settled q.ticket q.who) q.settled

  -- ---- callees come first

  claim_of : (n f : ℕ) (q : Settles d h n f) → (q.ticket < n) × (slice_get h q.ticket ≡ Some (Claim q.held.who (record { 0 = f })))
  claim_of n f q = has_claim n f (Held q.ticket q.held.who q.held.losses) q.held.held

  pub after_claim : (n f : ℕ) (q : Settles d h n f) → q.ticket < n
  after_claim n f q = (claim_of n f q).0

  pub after_callees : IsLegal d h → (n f g : ℕ) (q : Settles d h n f) → Awaits d f g → (m : ℕ) × (m < q.ticket) × Settles d h m g
  after_callees legal n f g q w =
      was_settled q.ticket g ((legal q.ticket (Claim q.held.who (record { 0 = f })) (claim_of n f q).1).0.callees g w)
