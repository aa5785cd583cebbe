-- The settled are as many as the publications.
use Rattle.std.proofs.Common.{◌≡◌, ◌≢◌, ℕ, zero, suc, ◌+◌, ◌<◌, true, false, nat_eq, cond, List, [], ◌∷◌, take, Option, Some, None, slice_get, option_map, inl, inr, refl, sym, ap, ap₂, ◌∙◌, arith}
use Rattle.std.proofs.lemmas.Bool.{and_parts, cond_both, cases_eq, eqb-true, ltb-true}
use Rattle.std.proofs.lemmas.Option.{same_Some}
use Rattle.px_base.specs.declared.trace.ProcId.{ProcId}
use Rattle.px_pieces.specs.declared.desk.Who.{Who}
use Rattle.px_pieces.specs.declared.desk.Lost.{Lost}
use Rattle.px_pieces.specs.declared.desk.Event.{Event}
use Rattle.px_pieces.specs.declared.desk.Event.TheVariants.{Claim, Publish, Lose}
use Rattle.px_pieces.specs.declared.desk.Status.{Status}
use Rattle.px_pieces.specs.declared.desk.Status.TheVariants.{Waiting, Held, Settled}
use Rattle.px_pieces.specs.Desk.{Desk, is_of_desk, Statuses, start, status_after, after, IsLegal}
use Rattle.px_pieces.specs.Histories.{publications, is_settled, settled_below}
use Rattle.px_pieces.proofs.Moments.{at, at_event, at_end, is_on_desk, one_under, settles_is_settled, take_no_more}

-- ---- counts below a number

count_same : (k : ℕ) (s s' : Statuses) → ((g : ℕ) → g < k → is_settled (s' g) ≡ is_settled (s g)) → settled_below k s' ≡ settled_below k s
count_same zero s s' e = refl
count_same (suc k) s s' e = ap₂ (λ a b. a + cond b 1 0) (count_same k s s' (λ g l. e g (omega arith))) (e k (omega arith))

-- one for what is settled
abbrev one : Option Status → ℕ
one o = cond (is_settled o) 1 0

count_one : (k f : ℕ) (s s' : Statuses) → f < k → is_settled (s f) ≡ false → is_settled (s' f) ≡ true →
    ((g : ℕ) → g ≢ f → is_settled (s' g) ≡ is_settled (s g)) → settled_below k s' ≡ suc (settled_below k s)
count_one zero f s s' l a b e = absurd (let n : ⊥ = omega arith in n)
count_one (suc k) f s s' l a b e = elim (cases_eq f k) [
  | inl q ↦
      let c = count_same k s s' (λ g m. e g (λ w. let n : ⊥ = omega arith in n)) in
      let x : one (s k) ≡ 0 = ap (λ z. one (s z)) (sym q) ∙ ap (λ z. cond z 1 0) a in
      let y : one (s' k) ≡ 1 = ap (λ z. one (s' z)) (sym q) ∙ ap (λ z. cond z 1 0) b in
      omega (arith, c, x, y)
  | inr n ↦
      let c = count_one k f s s' (omega arith) a b e in
      let r : one (s' k) ≡ one (s k) = ap (λ z. cond z 1 0) (e k (λ q. n (sym q))) in
      omega (arith, c, r)
]

-- ---- what an event does to the count

claim_counts : (n : ℕ) (who : Who) (p : ProcId) (g : ℕ) (o : Option Status) → is_settled (option_map (λ x. status_after x n (Claim who p) g) o) ≡ is_settled o
claim_counts n who p g None = refl
claim_counts n who p g (Some (Waiting l)) = cond_both (nat_eq p.0 g) (Held n who l) (Waiting l) (λ z. is_settled (Some z) ≡ false) (λ t. refl) (λ t. refl)
claim_counts n who p g (Some (Held t w l)) = refl
claim_counts n who p g (Some (Settled t w)) = refl

lose_counts : (n t : ℕ) (why : Lost) (g : ℕ) (o : Option Status) → is_settled (option_map (λ x. status_after x n (Lose t why) g) o) ≡ is_settled o
lose_counts n t why g None = refl
lose_counts n t why g (Some (Waiting l)) = refl
lose_counts n t why g (Some (Held u w l)) = cond_both (nat_eq t u) (Waiting (suc l)) (Held u w l) (λ z. is_settled (Some z) ≡ false) (λ t. refl) (λ t. refl)
lose_counts n t why g (Some (Settled u w)) = refl

publish_counts : (n t g : ℕ) (o : Option Status) → ((w : Who) (l : ℕ) → o ≢ Some (Held t w l)) → is_settled (option_map (λ x. status_after x n (Publish t) g) o) ≡ is_settled o
publish_counts n t g None other = refl
publish_counts n t g (Some (Waiting l)) other = refl
publish_counts n t g (Some (Held u w l)) other = cond_both (nat_eq t u) (Settled u w) (Held u w l) (λ z. is_settled (Some z) ≡ false)
    (λ b. absurd (other w l (ap (λ z. Some (Held z w l)) (sym (eqb-true t u b))))) (λ t. refl)
publish_counts n t g (Some (Settled u w)) other = refl

start_counts : (d : Desk) (k : ℕ) → settled_below k (start d) ≡ 0
start_counts d zero = refl
start_counts d (suc k) =
    let c = start_counts d k in
    let r : one (start d k) ≡ 0 = cond_both (is_of_desk d k) (Some (Waiting 0)) None (λ z. one z ≡ 0) (λ t. refl) (λ t. refl) in omega (arith, c, r)

more_publications : (n : ℕ) (h : List Event) (e : Event) → slice_get h n ≡ Some e → publications (take (suc n) h) ≡ publications (take n h) + publications (e ∷ [])
more_publications n [] e q = cc
more_publications zero (x ∷ h) e q = ap (λ z. publications (z ∷ [])) (same_Some x e q) ∙ (let n : publications (e ∷ []) ≡ 0 + publications (e ∷ []) = omega arith in n)
more_publications (suc n) (Claim who p ∷ h) e q = more_publications n h e q
more_publications (suc n) (Publish t ∷ h) e q = let c = more_publications n h e q in omega (arith, c)
more_publications (suc n) (Lose t why ∷ h) e q = more_publications n h e q

module _ (d : Desk) (h : List Event) (legal : IsLegal d h) where
  step : (n : ℕ) (e : Event) → slice_get h n ≡ Some e → settled_below d.kept (after n e (at d h n)) ≡ settled_below d.kept (at d h n) + publications (e ∷ [])
  step n (Claim who p) g =
      let c = count_same d.kept (at d h n) (after n (Claim who p) (at d h n)) (λ f l. claim_counts n who p f (at d h n f)) in omega (arith, c)
  step n (Lose t why) g =
      let c = count_same d.kept (at d h n) (after n (Lose t why) (at d h n)) (λ f l. lose_counts n t why f (at d h n f)) in omega (arith, c)
  step n (Publish t) g =
      let (f, q) = legal n (Publish t) g in
      let s = settles_is_settled d h n f (record { ticket = t; event = g; held = q }) in
      let c = count_one d.kept f (at d h n) (after n (Publish t) (at d h n))
      (ltb-true f d.kept (and_parts _ _ (is_on_desk d h n f _ q.held)).0)
      (ap is_settled q.held)
      (ap (λ z. is_settled (z f)) (sym (at_event d h n (Publish t) g)) ∙ ap is_settled s.settled)
      (λ k no. publish_counts n t k (at d h n k) (λ w l b. no (one_under d h n t k f (record { who = w; losses = l; held = b }) q))) in
      omega (arith, c)

  next : (n : ℕ) → settled_below d.kept (at d h n) ≡ publications (take n h) → (o : Option Event) → slice_get h n ≡ o →
      settled_below d.kept (at d h (suc n)) ≡ publications (take (suc n) h)
  next n c None g = ap (settled_below d.kept) (at_end d h n g) ∙ c ∙ sym (ap publications (take_no_more n h g))
  next n c (Some e) g = ap (settled_below d.kept) (at_event d h n e g) ∙ step n e g ∙ ap (λ z. z + publications (e ∷ [])) c ∙ sym (more_publications n h e g)

  pub as_many_at : (n : ℕ) → settled_below d.kept (at d h n) ≡ publications (take n h)
  as_many_at zero = start_counts d d.kept
  as_many_at (suc n) = next n (as_many_at n) (slice_get h n) refl
