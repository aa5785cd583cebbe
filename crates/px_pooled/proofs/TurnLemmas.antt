-- One turn of the parent, and the end of its turns.
use Rattle.std.proofs.Common.{◌≡◌, ◌≢◌, ℕ, zero, suc, ◌+◌, ◌≤◌, Bool, true, false, cond, List, [], ◌∷◌, ◌++◌, length, Some, refl, sym, ap, ◌∙◌, subst, inl, inr, arith}
use Rattle.std.proofs.lemmas.Bool.{cases_eq}
use Rattle.px_entry.specs.declared.tables.Table.{Table}
use Rattle.px_callgraph.specs.declared.jobs.Job.{Job}
use Rattle.px_callgraph.specs.JobTree.{JobTree, job_tree}
use Rattle.px_pieces.specs.declared.desk.Event.{Event}
use Rattle.px_pieces.specs.declared.desk.Event.TheVariants.{Claim, Publish}
use Rattle.px_pieces.specs.declared.desk.Who.TheVariants.{Parent}
use Rattle.px_pieces.specs.declared.desk.Status.TheVariants.{Held, Settled}
use Rattle.px_pieces.specs.Desk.{Statuses, IsHeldUnder, IsClaimable}
use Rattle.px_pieces.specs.Histories.{publications, is_settled, settled_below, DeskHistories}
use Rattle.px_pieces.specs.Pieces.{PieceParts}
use Rattle.px_book.specs.Rolls.{AllSettled}
use Rattle.px_book.specs.Books.{BookParts, roll_in, its_desk, statuses_in, IsGiven, claimed, IsDue, published}
use Rattle.px_book.specs.Soundness.{IsSound}
use Rattle.px_book.specs.Laws.{BooksGoOn, CallsMoveOne, ClaimedJobsStay}
use Rattle.px_book.proofs.Settled.{one_publication, no_claim_counts}
use Rattle.px_pooled.specs.Making.{IsIdle, IsOfParent, AreOfParent, IsTurn}

-- ---- a publication is due

module _ (stay : ClaimedJobsStay) (moves : CallsMoveOne) (b : BookParts) (j : Job) (given : IsGiven b Parent (Some j)) where
  abbrev c : BookParts
  c = claimed b Parent (Some j)

  held : IsHeldUnder (statuses_in c) j.ticket j.proc.0
  held = let (losses, waits, is) = moves.by_claim b Parent j given in record { who = Parent; losses = losses; held = is }

  pub due_now : (on : BooksGoOn) → IsDue c j.ticket (job_tree j)
  due_now on = stay.stays b c Parent j given (on.same c) held

  -- ---- nothing is held after it

  module _ (p : PieceParts) (its : p.job ≡ j) where
    abbrev d : BookParts
    d = published c j.ticket p

    settled_after : statuses_in d p.job.proc.0 ≡ Some (Settled j.ticket Parent)
    settled_after = let (losses, waits, is) = moves.by_claim b Parent j given in
        moves.by_publication c j.ticket p Parent losses (subst (λ (i : Job). statuses_in c i.proc.0 ≡ Some (Held j.ticket Parent losses)) (sym its) is)

    held_piece : IsHeldUnder (statuses_in c) j.ticket p.job.proc.0
    held_piece = subst (λ (i : Job). IsHeldUnder (statuses_in c) j.ticket i.proc.0) (sym its) held

    idle_after : IsIdle b → IsIdle d
    idle_after idle ticket f h = elim (cases_eq f p.job.proc.0) [
      | inl e ↦
          let at : statuses_in d f ≡ Some (Settled j.ticket Parent) = ap (statuses_in d) e ∙ settled_after in
          let two : Some (Held ticket h.who h.losses) ≡ Some (Settled j.ticket Parent) = sym h.held ∙ at in
          let no : ⊥ = cc in no
      | inr n ↦
          let other : f ≢ j.proc.0 = subst (λ (i : Job). f ≢ i.proc.0) its n in
          idle ticket f (record { who = h.who; losses = h.losses; held = sym (moves.beside_claim b Parent j f other) ∙ sym ((moves.beside_publication c j.ticket p f held_piece n).0) ∙ h.held })
    ]

-- ---- all that happened is of the parent

pub one_more_of : (h : List Event) (e : Event) → AreOfParent h → IsOfParent e → AreOfParent (h ++ e ∷ [])
one_more_of [] e all is = (is, tt)
one_more_of (x ∷ h) e all is = (all.0, one_more_of h e all.1 is)

-- ---- one turn

module _ (b c : BookParts) (turn : IsTurn b c) where
  by_turn : (P : BookParts → Type 0) → P (published (claimed b Parent (Some turn.0)) turn.0.ticket turn.1) → P c
  by_turn P h = subst P (sym turn.4) h

  pub turn_sources : c.sources ≡ b.sources
  turn_sources = by_turn (λ (z : BookParts). z.sources ≡ b.sources) refl

  pub turn_graph : c.graph ≡ b.graph
  turn_graph = by_turn (λ (z : BookParts). z.graph ≡ b.graph) refl

  pub turn_alone : AreOfParent b.history → AreOfParent c.history
  turn_alone all = by_turn (λ (z : BookParts). AreOfParent z.history)
      (one_more_of (b.history ++ Claim Parent turn.0.proc ∷ []) (Publish turn.0.ticket) (one_more_of b.history (Claim Parent turn.0.proc) all tt) tt)

  pub turn_counts : publications c.history ≡ publications b.history + 1
  turn_counts = by_turn (λ (z : BookParts). publications z.history ≡ publications b.history + 1)
      (one_publication (b.history ++ Claim Parent turn.0.proc ∷ []) turn.0.ticket ∙ ap (λ n. n + 1) (no_claim_counts b.history Parent turn.0.proc))

  pub turn_idle : ClaimedJobsStay → CallsMoveOne → IsIdle b → IsIdle c
  turn_idle stay moves idle = by_turn IsIdle (idle_after stay moves b turn.0 turn.2 turn.1 turn.3 idle)

-- ---- the end

one_counts : (o : Bool) (m n : ℕ) → m ≤ n → m + cond o 1 0 ≤ suc n
one_counts true m n l = omega arith
one_counts false m n l = omega arith

few_settled : (s : Statuses) (n k : ℕ) → n ≤ k → settled_below n s ≤ k
few_settled s zero k l = omega arith
few_settled s (suc n) zero l = absurd (let no : ⊥ = omega (arith, l) in no)
few_settled s (suc n) (suc k) l = one_counts (is_settled (s n)) (settled_below n s) k (few_settled s n k (omega (arith, l)))

module _ (histories : DeskHistories) (says : JobTree → Table → Type 0) (b : BookParts) (s : IsSound says b) where
  pub all_settled : IsIdle b → ((f : ℕ) → ¬ IsClaimable (its_desk b) (statuses_in b) Parent f) → AllSettled (roll_in b)
  all_settled idle none = (histories (its_desk b) b.history s.legal).all_settled idle none

  -- no more was published than there are procedures
  pub few_publications : publications b.history ≤ length b.graph
  few_publications = let h = histories (its_desk b) b.history s.legal in
      subst (λ n. n ≤ length b.graph) h.as_many (few_settled (statuses_in b) (length b.graph) (length b.graph) (omega arith))
