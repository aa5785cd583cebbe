use Rattle.std.proofs.Common.{◌≡◌, ℕ, zero, suc, ◌<◌, true, take, Option, Some, None, inl, inr, refl, sym, ap, subst, true≢false, ◌∙◌, arith}
use Rattle.std.proofs.lemmas.Bool.{and_parts, ltb-true}
use Rattle.px_callgraph.specs.Callees.{IsCallee, Reaches, by_call}
use Rattle.px_pieces.specs.declared.desk.Who.{Who}
use Rattle.px_pieces.specs.declared.desk.Who.TheVariants.{Parent, Worker}
use Rattle.px_pieces.specs.declared.desk.Status.{Status}
use Rattle.px_pieces.specs.declared.desk.Status.TheVariants.{Waiting, Held, Settled}
use Rattle.px_pieces.specs.Desk.{Desk, is_of_desk, Awaits, Statuses, start, replay, IsHeldUnder, IsSettled, MayTake, IsClaimable, IsLegal}
use Rattle.px_pieces.specs.WorkedHistories.{chain_bodies, chain, without_second, chain_history, cycle_bodies, cycle, cycle_history, diamond_bodies, diamond, diamond_history, single, loss_history}
use Rattle.px_pieces.proofs.Descent.{waiting_or_settled, held_or_settled}
use Rattle.px_pieces.proofs.Moments.{is_on_desk}
use Rattle.px_pieces.proofs.LegalLemmas.{is_legal, awaited}
use Rattle.px_pieces.proofs.laws.worked_histories.Goals as goal

held_not_waiting : (t : ℕ) (w : Who) (l l' : ℕ) → Some (Held t w l) ≡ Some (Waiting l') → ⊥
held_not_waiting t w l l' e = cc

settled_not_waiting : (t : ℕ) (w : Who) (l' : ℕ) → Some (Settled t w) ≡ Some (Waiting l') → ⊥
settled_not_waiting t w l' e = cc

settled_not_held : (t : ℕ) (w : Who) (t' : ℕ) (w' : Who) (l : ℕ) → Some (Settled t w) ≡ Some (Held t' w' l) → ⊥
settled_not_held t w t' w' l e = cc

held_is : (t : ℕ) (w : Who) (l : ℕ) (s : Statuses) (f : ℕ) → s f ≡ Some (Held t w l) → IsHeldUnder s t f
held_is t w l s f e = record { who = w; losses = l; held = e }

settled_is : (t : ℕ) (w : Who) (s : Statuses) (f g : ℕ) → s f ≡ Some (Settled t w) → f ≡ g → IsSettled s g
settled_is t w s f g e q = record { ticket = t; who = w; settled = subst (λ z. s z ≡ Some (Settled t w)) q e }

-- what awaits a procedure that isn't settled can't be claimed
module _ (d : Desk) (s : Statuses) (who : Who) (f g : ℕ) (w : Awaits d f g) where
  awaits_waiting : (l : ℕ) → s g ≡ Some (Waiting l) → ¬ IsClaimable d s who f
  awaits_waiting l e c = let q = c.callees g w in waiting_or_settled l q.ticket q.who (sym e ∙ q.settled)

  awaits_held : (t : ℕ) (w : Who) (l : ℕ) → s g ≡ Some (Held t w l) → ¬ IsClaimable d s who f
  awaits_held t v l e c = let q = c.callees g w in held_or_settled t v l q.ticket q.who (sym e ∙ q.settled)

claims_waiting : (d : Desk) (s : Statuses) (who : Who) (f l : ℕ) → s f ≡ Some (Waiting l) → MayTake who l → ((g : ℕ) → Awaits d f g → IsSettled s g) → IsClaimable d s who f
claims_waiting d s who f l e m c = record { losses = l; waits = e; may = m; callees = c }

-- ---- the chain

chain_up : (f g : ℕ) → IsCallee chain_bodies f g → f < g
chain_up zero g (inl e) = omega arith
chain_up zero g (inr b) = absurd b
chain_up (suc zero) g (inl e) = omega arith
chain_up (suc zero) g (inr b) = absurd b
chain_up (suc (suc zero)) g b = absurd b
chain_up (suc (suc (suc n))) g b = absurd b

chain_first : Awaits chain 0 1
chain_first = awaited chain_bodies chain_up 3 0 1 (inl refl) refl

chain_second : Awaits chain 1 2
chain_second = awaited chain_bodies chain_up 3 1 2 (inl refl) refl

chain_least : (g : ℕ) → g < 2 → ¬ IsClaimable chain (start chain) (Worker 0) g
chain_least zero l = awaits_waiting chain (start chain) (Worker 0) 0 1 chain_first 0 refl
chain_least (suc zero) l = awaits_waiting chain (start chain) (Worker 0) 1 2 chain_second 0 refl
chain_least (suc (suc n)) l = absurd (let n : ⊥ = omega arith in n)

chain_next : (g : ℕ) → g < 1 → ¬ IsClaimable chain (replay chain (take 2 chain_history)) Parent g
chain_next zero l = awaits_waiting chain (replay chain (take 2 chain_history)) Parent 0 1 chain_first 0 refl
chain_next (suc n) l = absurd (let n : ⊥ = omega arith in n)

none_less : (d : Desk) (s : Statuses) (who : Who) (g : ℕ) → g < 0 → ¬ IsClaimable d s who g
none_less d s who g l = absurd (let n : ⊥ = omega arith in n)

chain_legal : IsLegal chain chain_history
chain_legal = is_legal chain chain_history (
  (claims_waiting chain (start chain) (Worker 0) 2 0 refl (omega arith) (λ g w. absurd w.callee), chain_least),
  (
    (2, held_is 0 (Worker 0) 0 (replay chain (take 1 chain_history)) 2 refl),
    (
      (
        claims_waiting chain (replay chain (take 2 chain_history)) Parent 1 0 refl tt
            (λ g w. elim w.callee [ inl e ↦ settled_is 0 (Worker 0) (replay chain (take 2 chain_history)) 2 g refl e | inr b ↦ absurd b ]),
        chain_next,
      ),
      (
        (1, held_is 2 Parent 0 (replay chain (take 3 chain_history)) 1 refl),
        (
          (
            claims_waiting chain (replay chain (take 4 chain_history)) (Worker 0) 0 0 refl (omega arith)
                (λ g w. elim w.callee [ inl e ↦ settled_is 2 Parent (replay chain (take 4 chain_history)) 1 g refl e | inr b ↦ absurd b ]),
            none_less chain (replay chain (take 4 chain_history)) (Worker 0),
          ),
          (
            (0, held_is 4 (Worker 0) 0 (replay chain (take 5 chain_history)) 0 refl),
            tt,
          ),
        ),
      ),
    ),
  ),
)

any_may : (who : Who) → MayTake who 0
any_may Parent = tt
any_may (Worker n) = omega arith

-- the second isn't of this desk
not_awaited : (g : ℕ) → Awaits without_second 0 g → ⊥
not_awaited g w = elim w.callee [ inl e ↦ let q = subst (λ z. is_of_desk without_second z ≡ true) (sym e) w.of_desk in true≢false (sym q) | inr b ↦ b ]

pub returns-clause-chain : goal.returns-clause-chain
returns-clause-chain c = record {
  legal = chain_legal;
  end = refl;
  left_out = λ who. claims_waiting without_second (start without_second) who 0 0 refl (any_may who) (λ g w. absurd (not_awaited g w));
}

-- ---- the cycle

cycle_free : (f g : ℕ) → ¬ Awaits cycle f g
cycle_free zero g w = elim w.callee [ inl e ↦ w.apart (by_call w.callee, subst (λ z. Reaches cycle_bodies z 0) e (by_call (inl refl))) | inr b ↦ b ]
cycle_free (suc zero) g w = elim w.callee [ inl e ↦ w.apart (by_call w.callee, subst (λ z. Reaches cycle_bodies z 1) e (by_call (inl refl))) | inr b ↦ b ]
cycle_free (suc (suc n)) g w = w.callee

cycle_least : (g : ℕ) → g < 1 → ¬ IsClaimable cycle (replay cycle (take 1 cycle_history)) (Worker 1) g
cycle_least zero l c = held_not_waiting 0 (Worker 0) 0 c.losses c.waits
cycle_least (suc n) l c = let n : ⊥ = omega arith in n

cycle_legal : IsLegal cycle cycle_history
cycle_legal = is_legal cycle cycle_history (
  (claims_waiting cycle (start cycle) (Worker 0) 0 0 refl (omega arith) (λ g w. absurd (cycle_free 0 g w)), none_less cycle (start cycle) (Worker 0)),
  (
    (claims_waiting cycle (replay cycle (take 1 cycle_history)) (Worker 1) 1 0 refl (omega arith) (λ g w. absurd (cycle_free 1 g w)), cycle_least),
    (
      (1, held_is 1 (Worker 1) 0 (replay cycle (take 2 cycle_history)) 1 refl),
      (
        (0, held_is 0 (Worker 0) 0 (replay cycle (take 3 cycle_history)) 0 refl),
        tt,
      ),
    ),
  ),
)

pub returns-clause-cycle : goal.returns-clause-cycle
returns-clause-cycle c = record { legal = cycle_legal; end = refl }

-- ---- the diamond

diamond_up : (f g : ℕ) → IsCallee diamond_bodies f g → f < g
diamond_up zero g (inl e) = omega arith
diamond_up zero g (inr (inl e)) = omega arith
diamond_up zero g (inr (inr b)) = absurd b
diamond_up (suc zero) g (inl e) = omega arith
diamond_up (suc zero) g (inr b) = absurd b
diamond_up (suc (suc zero)) g (inl e) = omega arith
diamond_up (suc (suc zero)) g (inr b) = absurd b
diamond_up (suc (suc (suc zero))) g b = absurd b
diamond_up (suc (suc (suc (suc n)))) g b = absurd b

top_left : Awaits diamond 0 1
top_left = awaited diamond_bodies diamond_up 4 0 1 (inl refl) refl

left_bottom : Awaits diamond 1 3
left_bottom = awaited diamond_bodies diamond_up 4 1 3 (inl refl) refl

right_bottom : Awaits diamond 2 3
right_bottom = awaited diamond_bodies diamond_up 4 2 3 (inl refl) refl

first_least : (g : ℕ) → g < 3 → ¬ IsClaimable diamond (start diamond) (Worker 0) g
first_least zero l = awaits_waiting diamond (start diamond) (Worker 0) 0 1 top_left 0 refl
first_least (suc zero) l = awaits_waiting diamond (start diamond) (Worker 0) 1 3 left_bottom 0 refl
first_least (suc (suc zero)) l = awaits_waiting diamond (start diamond) (Worker 0) 2 3 right_bottom 0 refl
first_least (suc (suc (suc n))) l = absurd (let n : ⊥ = omega arith in n)

left_least : (g : ℕ) → g < 1 → ¬ IsClaimable diamond (replay diamond (take 2 diamond_history)) (Worker 0) g
left_least zero l = awaits_waiting diamond (replay diamond (take 2 diamond_history)) (Worker 0) 0 1 top_left 0 refl
left_least (suc n) l = absurd (let n : ⊥ = omega arith in n)

right_least : (g : ℕ) → g < 2 → ¬ IsClaimable diamond (replay diamond (take 3 diamond_history)) Parent g
right_least zero l = awaits_held diamond (replay diamond (take 3 diamond_history)) Parent 0 1 top_left 2 (Worker 0) 0 refl
right_least (suc zero) l = λ c. held_not_waiting 2 (Worker 0) 0 c.losses c.waits
right_least (suc (suc n)) l = absurd (let n : ⊥ = omega arith in n)

diamond_legal : IsLegal diamond diamond_history
diamond_legal = is_legal diamond diamond_history (
  (claims_waiting diamond (start diamond) (Worker 0) 3 0 refl (omega arith) (λ g w. absurd w.callee), first_least),
  (
    (3, held_is 0 (Worker 0) 0 (replay diamond (take 1 diamond_history)) 3 refl),
    (
      (
        claims_waiting diamond (replay diamond (take 2 diamond_history)) (Worker 0) 1 0 refl (omega arith)
            (λ g w. elim w.callee [ inl e ↦ settled_is 0 (Worker 0) (replay diamond (take 2 diamond_history)) 3 g refl e | inr b ↦ absurd b ]),
        left_least,
      ),
      (
        (
          claims_waiting diamond (replay diamond (take 3 diamond_history)) Parent 2 0 refl tt
              (λ g w. elim w.callee [ inl e ↦ settled_is 0 (Worker 0) (replay diamond (take 3 diamond_history)) 3 g refl e | inr b ↦ absurd b ]),
          right_least,
        ),
        (
          (2, held_is 3 Parent 0 (replay diamond (take 4 diamond_history)) 2 refl),
          (
            (1, held_is 2 (Worker 0) 0 (replay diamond (take 5 diamond_history)) 1 refl),
            (
              (
                claims_waiting diamond (replay diamond (take 6 diamond_history)) (Worker 0) 0 0 refl (omega arith)
                    (λ g w. elim w.callee [
                      | inl e ↦ settled_is 2 (Worker 0) (replay diamond (take 6 diamond_history)) 1 g refl e
                      | inr (inl e) ↦ settled_is 3 Parent (replay diamond (take 6 diamond_history)) 2 g refl e
                      | inr (inr b) ↦ absurd b
                    ]),
                none_less diamond (replay diamond (take 6 diamond_history)) (Worker 0),
              ),
              (
                (0, held_is 6 (Worker 0) 0 (replay diamond (take 7 diamond_history)) 0 refl),
                tt,
              ),
            ),
          ),
        ),
      ),
    ),
  ),
)

on_desk : (d : Desk) (f : ℕ) → is_of_desk d f ≡ true → f < d.kept
on_desk d f e = ltb-true f d.kept (and_parts _ _ e).0

diamond_waits : (who : Who) (f : ℕ) → ¬ IsClaimable diamond (replay diamond (take 4 diamond_history)) who f
diamond_waits who zero = awaits_held diamond (replay diamond (take 4 diamond_history)) who 0 1 top_left 2 (Worker 0) 0 refl
diamond_waits who (suc zero) = λ c. held_not_waiting 2 (Worker 0) 0 c.losses c.waits
diamond_waits who (suc (suc zero)) = λ c. held_not_waiting 3 Parent 0 c.losses c.waits
diamond_waits who (suc (suc (suc zero))) = λ c. settled_not_waiting 0 (Worker 0) c.losses c.waits
diamond_waits who (suc (suc (suc (suc n)))) = λ c.
    let l = on_desk diamond (suc (suc (suc (suc n)))) (is_on_desk diamond diamond_history 4 (suc (suc (suc (suc n)))) (Waiting c.losses) c.waits) in
    let n : ⊥ = omega arith in n

pub returns-clause-diamond : goal.returns-clause-diamond
returns-clause-diamond c = record { legal = diamond_legal; end = refl; waits = diamond_waits }

-- ---- three losses

loss_legal : IsLegal single loss_history
loss_legal = is_legal single loss_history (
  (claims_waiting single (start single) (Worker 0) 0 0 refl (omega arith) (λ g w. absurd w.callee), none_less single (start single) (Worker 0)),
  (
    (0, held_is 0 (Worker 0) 0 (replay single (take 1 loss_history)) 0 refl),
    (
      (
        claims_waiting single (replay single (take 2 loss_history)) (Worker 1) 0 1 refl (omega arith) (λ g w. absurd w.callee),
        none_less single (replay single (take 2 loss_history)) (Worker 1),
      ),
      (
        (0, held_is 2 (Worker 1) 1 (replay single (take 3 loss_history)) 0 refl),
        (
          (
            claims_waiting single (replay single (take 4 loss_history)) (Worker 2) 0 2 refl (omega arith) (λ g w. absurd w.callee),
            none_less single (replay single (take 4 loss_history)) (Worker 2),
          ),
          (
            (0, held_is 4 (Worker 2) 2 (replay single (take 5 loss_history)) 0 refl),
            (
              (claims_waiting single (replay single (take 6 loss_history)) Parent 0 3 refl tt (λ g w. absurd w.callee), none_less single (replay single (take 6 loss_history)) Parent),
              (
                (0, held_is 6 Parent 3 (replay single (take 7 loss_history)) 0 refl),
                tt,
              ),
            ),
          ),
        ),
      ),
    ),
  ),
)

abbrev losses_of : Option Status → ℕ
losses_of (Some (Waiting l)) = l
losses_of (Some (Held t w l)) = l
losses_of (Some (Settled t w)) = 0
losses_of None = 0

no_worker : (n f : ℕ) → ¬ IsClaimable single (replay single (take 6 loss_history)) (Worker n) f
no_worker n zero = λ c. let e : 3 ≡ c.losses = ap losses_of c.waits in let m = c.may in let n : ⊥ = omega (arith, e, m) in n
no_worker n (suc f) = λ c.
    let l = on_desk single (suc f) (is_on_desk single loss_history 6 (suc f) (Waiting c.losses) c.waits) in let n : ⊥ = omega arith in n

not_held : (f : ℕ) → ¬ IsHeldUnder (replay single loss_history) 6 f
not_held zero = λ q. settled_not_held 6 Parent 6 q.who q.losses q.held
not_held (suc f) = λ q.
    let l = on_desk single (suc f) (is_on_desk single loss_history 8 (suc f) (Held 6 q.who q.losses) q.held) in let n : ⊥ = omega arith in n

pub returns-clause-losses : goal.returns-clause-losses
returns-clause-losses c = record {
  legal = loss_legal;
  thrice = refl;
  no_worker = no_worker;
  end = refl;
  no_second = λ (f, q). not_held f q;
  no_loss = λ (f, q). not_held f q;
}
