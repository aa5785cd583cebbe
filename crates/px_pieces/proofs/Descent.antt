-- Where nothing is held and nothing can be claimed, all are settled: what waits has a callee below it that waits.
use Rattle.std.proofs.Common.{◌≡◌, ℕ, zero, suc, ◌<◌, true, Option, Some, ◌⊎◌, inl, inr, refl, sym, subst, ◌∙◌, ◌≢◌, arith}
use Rattle.std.proofs.lemmas.Bool.{and_parts, ltb-true, cases_eq}
use Rattle.px_callgraph.specs.Callees.{Reaches, by_call, by_calls}
use Rattle.px_core.specs.BodyTree.{BodyTree}
use Rattle.px_pieces.specs.declared.desk.Who.TheVariants.{Parent}
use Rattle.px_pieces.specs.declared.desk.Who.{Who}
use Rattle.px_pieces.specs.declared.desk.Status.{Status}
use Rattle.px_pieces.specs.declared.desk.Status.TheVariants.{Waiting, Held, Settled}
use Rattle.px_pieces.specs.Desk.{Desk, is_of_desk, Awaits, Statuses, IsHeldUnder, IsSettled, IsClaimable}

pub reaches_on : {bodies : ℕ → Option BodyTree} {f g h : ℕ} → Reaches bodies f g → Reaches bodies g h → Reaches bodies f h
reaches_on (by_call c) r = by_calls c r
reaches_on (by_calls c q) r = by_calls c (reaches_on q r)

-- reached, and not reaching back
pub record IsBelow (d : Desk) (f g : ℕ) : Type 0 where
  pub reaches : Reaches d.bodies f g
  pub back : ¬ Reaches d.bodies g f

below_on : (d : Desk) (f g h : ℕ) → IsBelow d f g → IsBelow d g h → IsBelow d f h
below_on d f g h a b = record { reaches = reaches_on a.reaches b.reaches; back = λ r. b.back (reaches_on r a.reaches) }

awaited_below : (d : Desk) (f g : ℕ) → Awaits d f g → IsBelow d f g
awaited_below d f g w = record { reaches = by_call w.callee; back = λ r. w.apart (by_call w.callee, r) }

-- itself, or below
abbrev IsWithin : Desk → ℕ → ℕ → Type 0
IsWithin d f g = (g ≡ f) ⊎ IsBelow d f g

within_below : (d : Desk) (f g h : ℕ) → IsBelow d f g → IsWithin d g h → IsBelow d f h
within_below d f g h a (inl e) = subst (λ z. IsBelow d f z) (sym e) a
within_below d f g h a (inr b) = below_on d f g h a b

below_within : (d : Desk) (f g h : ℕ) → IsWithin d f g → IsBelow d g h → IsBelow d f h
below_within d f g h (inl e) b = subst (λ z. IsBelow d z h) e b
below_within d f g h (inr a) b = below_on d f g h a b

never_below_itself : (d : Desk) (f g : ℕ) → IsBelow d f g → g ≢ f
never_below_itself d f g b e = b.back (subst (λ z. Reaches d.bodies z f) (sym e) (subst (λ z. Reaches d.bodies f z) e b.reaches))

pub waiting_or_settled : (l t : ℕ) (w : Who) → Some (Waiting l) ≡ Some (Settled t w) → ⊥
waiting_or_settled l t w e = cc

pub held_or_settled : (t : ℕ) (w : Who) (l t' : ℕ) (w' : Who) → Some (Held t w l) ≡ Some (Settled t' w') → ⊥
held_or_settled t w l t' w' e = cc

module _ (d : Desk) (s : Statuses)
    (stands : (f : ℕ) → is_of_desk d f ≡ true → (x : Status) × (s f ≡ Some x))
    (unheld : (ticket f : ℕ) → ¬ IsHeldUnder s ticket f)
    (unclaimed : (f : ℕ) → ¬ IsClaimable d s Parent f) where
  by_status : (f : ℕ) (x : Status) → s f ≡ Some x → ((g : ℕ) → Awaits d f g → IsSettled s g) → IsSettled s f
  by_status f (Waiting losses) e w = absurd (unclaimed f (record { losses = losses; waits = e; may = tt; callees = w }))
  by_status f (Held ticket who losses) e w = absurd (unheld ticket f (record { who = who; losses = losses; held = e }))
  by_status f (Settled ticket who) e w = record { ticket = ticket; who = who; settled = e }

  decided : (f : ℕ) (x : Status) → s f ≡ Some x → IsSettled s f ⊎ ¬ IsSettled s f
  decided f (Waiting losses) e = inr (λ h. waiting_or_settled losses h.ticket h.who (sym e ∙ h.settled))
  decided f (Held ticket who losses) e = inr (λ h. held_or_settled ticket who losses h.ticket h.who (sym e ∙ h.settled))
  decided f (Settled ticket who) e = inl (record { ticket = ticket; who = who; settled = e })

  is_decided : (f : ℕ) → is_of_desk d f ≡ true → IsSettled s f ⊎ ¬ IsSettled s f
  is_decided f o = let q = stands f o in decided f q.0 q.1

  -- what isn't settled, of itself and below, has a number below n
  abbrev IsBounded : ℕ → ℕ → Type 0
  IsBounded n f = (g : ℕ) → is_of_desk d g ≡ true → IsWithin d f g → ¬ IsSettled s g → g < n

  -- the greatest is settled, where all that is bounded below it is
  greatest : (n f : ℕ) → ((g : ℕ) → is_of_desk d g ≡ true → IsBounded n g → IsSettled s g) →
      IsBounded (suc n) f → is_of_desk d n ≡ true → IsWithin d f n → IsSettled s n
  greatest n f below few o w = let q = stands n o in
      by_status n q.0 q.1 (λ g v. below g v.of_desk (λ k ok wk no.
      let b = within_below d n g k (awaited_below d n g v) wk in
      let l = few k ok (inr (below_within d f n k w b)) no in
      let ne = never_below_itself d n k b in omega arith))

  all_below : (n f : ℕ) → is_of_desk d f ≡ true → IsBounded n f → IsSettled s f
  all_below zero f o few = elim (is_decided f o) [ inl h ↦ h | inr not_yet ↦ let l = few f o (inl refl) not_yet in absurd (let n : ⊥ = omega arith in n) ]
  all_below (suc n) f o few = all_below n f o (λ g og w no.
      let l = few g og w no in
      elim (cases_eq g n) [
        | inl e ↦ absurd (no (subst (λ z. IsSettled s z) (sym e)
            (greatest n f (all_below n) few (subst (λ z. is_of_desk d z ≡ true) e og) (subst (λ z. IsWithin d f z) e w))))
        | inr ne ↦ omega arith
      ])

  pub all_are_settled : (f : ℕ) → is_of_desk d f ≡ true → IsSettled s f
  all_are_settled f o = all_below d.kept f o (λ g og w no. ltb-true g d.kept (and_parts _ _ og).0)
