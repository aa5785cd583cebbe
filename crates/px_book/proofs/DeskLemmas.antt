-- What a legal history says of what is held or settled.
use Rattle.std.proofs.Common.{◌≡◌, ℕ, ◌<◌, cond, Bool, true, false, List, [], ◌∷◌, ◌++◌, length, take, Option, Some, None, option_map, refl, sym, ap, subst, ◌∙◌, inl, inr, arith}
use Rattle.std.specs.Prelude.{slice_get, is_some}
use Rattle.std.proofs.lemmas.Bool.{cases_order, eq-eqb}
use Rattle.std.proofs.lemmas.List.{take_all}
use Rattle.px_base.specs.declared.trace.ProcId.{ProcId}
use Rattle.px_pieces.specs.declared.desk.Who.{Who}
use Rattle.px_pieces.specs.declared.desk.Event.{Event}
use Rattle.px_pieces.specs.declared.desk.Event.TheVariants.{Claim, Publish}
use Rattle.px_pieces.specs.declared.desk.Status.{Status}
use Rattle.px_pieces.specs.declared.desk.Status.TheVariants.{Held, Settled}
use Rattle.px_pieces.specs.Desk.{Desk, is_of_desk, Awaits, Statuses, status_after, replay, IsHeldUnder, IsSettled, IsLegal}
use Rattle.px_pieces.proofs.Moments.{settled_later, has_claim}
use Rattle.px_book.specs.Rolls.{IsNext}
use Rattle.px_book.proofs.Histories.{on_desk, stands_on, replay_more}

whole : (h : List Event) → take (length h) h ≡ h
whole h = take_all (length h) h (omega arith)

-- ---- the claim of what is held or settled

module _ (d : Desk) (h : List Event) where
  abbrev pub ClaimOf : ℕ → ℕ → Who → Type 0
  ClaimOf f ticket who = (ticket < length h) × (slice_get h ticket ≡ Some (Claim who (record { 0 = f })))

  pub claim_of_held : (f ticket : ℕ) (q : IsHeldUnder (replay d h) ticket f) → ClaimOf f ticket q.who
  claim_of_held f ticket q = has_claim d h (length h) f (Held ticket q.who q.losses) (ap (λ z. replay d z f) (whole h) ∙ q.held)

  pub claim_of_settled : (f ticket : ℕ) (who : Who) → replay d h f ≡ Some (Settled ticket who) → ClaimOf f ticket who
  claim_of_settled f ticket who e = has_claim d h (length h) f (Settled ticket who) (ap (λ z. replay d z f) (whole h) ∙ e)

  -- what it awaited is settled
  pub claim_awaited : IsLegal d h → (f ticket : ℕ) (who : Who) → ClaimOf f ticket who → (g : ℕ) → Awaits d f g → IsSettled (replay d h) g
  claim_awaited legal f ticket who (l, e) g w =
      let q = (legal ticket (Claim who (record { 0 = f })) e).0.callees g w in
      subst (λ z. IsSettled (replay d z) g) (whole h) (settled_later d h ticket (length h) g (omega arith) q)

  -- ---- statuses after one event more

  -- what was settled keeps its ticket
  pub settled_before : (e : Event) (f ticket : ℕ) (who : Who) → IsSettled (replay d h) f → replay d (h ++ e ∷ []) f ≡ Some (Settled ticket who) → replay d h f ≡ Some (Settled ticket who)
  settled_before e f ticket who q s =
      q.settled ∙ sym (ap (λ z. z f) (replay_more d h e) ∙ ap (option_map (λ x. status_after x (length h) e f)) q.settled) ∙ s

  -- what is published has its ticket
  pub ticket_published : (under f ticket : ℕ) (who : Who) → IsHeldUnder (replay d h) under f → replay d (h ++ Publish under ∷ []) f ≡ Some (Settled ticket who) → ticket ≡ under
  ticket_published under f ticket who q s =
      same_ticket ticket under who q.who (sym s ∙ ap (λ z. z f) (replay_more d h (Publish under)) ∙ ap (option_map (λ x. status_after x (length h) (Publish under) f)) q.held
      ∙ ap (λ b. Some (cond b (Settled under q.who) (Held under q.who q.losses))) (eq-eqb under under refl))
    where
      same_ticket : (t u : ℕ) (v w : Who) → Some (Settled t v) ≡ Some (Settled u w) → t ≡ u
      same_ticket t u v w e = cc

pub held_not_settled : (s : Statuses) (ticket f : ℕ) → IsHeldUnder s ticket f → IsSettled s f → ⊥
held_not_settled s ticket f a b = apart a.losses b.ticket a.who b.who (sym a.held ∙ b.settled)
  where
    apart : (losses t : ℕ) (v w : Who) → Some (Held ticket v losses) ≡ Some (Settled t w) → ⊥
    apart losses t v w e = cc

-- ---- the next

-- there is one next
pub one_next : (d : Desk) (s : Statuses) (who : Who) (p : ProcId) (o : Option ProcId) → IsNext d s who (Some p) → IsNext d s who o → o ≡ Some p
one_next d s who p None a b = absurd (b p.0 a.0)
one_next d s who p (Some q) a b = elim (cases_order q.0 p.0) [
  | inl e ↦ ap Some (same_proc q p e)
  | inr (inl l) ↦ absurd (a.1 q.0 l b.0)
  | inr (inr l) ↦ absurd (b.1 p.0 l a.0)
]
  where
    same_proc : (q p : ProcId) → q.0 ≡ p.0 → q ≡ p
    same_proc q p e = let r : ℕ → ProcId = λ n. record { 0 = n } in ap r e

-- ---- what stands somewhere

nowhere : (d : Desk) (h : List Event) (f : ℕ) (b : Bool) → is_of_desk d f ≡ b → replay d h f ≡ None → false ≡ b
nowhere d h f true o e = let q = stands_on d h f o in let never : ◌≡◌ {A = Option Status} None (Some q.0) = sym e ∙ q.1 in cc
nowhere d h f false o e = refl

stands_where : (d : Desk) (h : List Event) (f : ℕ) (o : Option Status) → replay d h f ≡ o → is_some o ≡ is_of_desk d f
stands_where d h f (Some x) e = sym (on_desk d h f x e)
stands_where d h f None e = nowhere d h f (is_of_desk d f) refl e

-- a procedure stands somewhere exactly where it is of the desk
pub some_of_desk : (d : Desk) (h : List Event) (f : ℕ) → is_some (replay d h f) ≡ is_of_desk d f
some_of_desk d h f = stands_where d h f (replay d h f) refl
