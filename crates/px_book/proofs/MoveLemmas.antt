-- Each call moves its own procedure alone.
use Rattle.std.proofs.Common.{◌≡◌, ◌≢◌, ℕ, suc, length, cond, Some, refl, sym, ap, ◌∙◌, option_map}
use Rattle.std.proofs.lemmas.Bool.{eq-eqb}
use Rattle.px_callgraph.specs.declared.jobs.Job.{Job}
use Rattle.px_pieces.specs.declared.desk.Who.{Who}
use Rattle.px_pieces.specs.declared.desk.Lost.{Lost}
use Rattle.px_pieces.specs.declared.desk.Event.{Event}
use Rattle.px_pieces.specs.declared.desk.Event.TheVariants.{Claim, Publish, Lose}
use Rattle.px_pieces.specs.declared.desk.Status.TheVariants.{Waiting, Held, Settled}
use Rattle.px_pieces.specs.declared.findings.Part.TheVariants.{Tabled}
use Rattle.px_pieces.specs.Desk.{status_after, IsHeldUnder}
use Rattle.px_pieces.specs.Pieces.{PieceParts}
use Rattle.px_book.proofs.Histories.{replay_more, one_held, claim_other, publish_other, lose_other}
use Rattle.px_book.specs.Books.{BookParts, its_desk, statuses_in, with_event, IsGiven, claimed, published}
use Rattle.px_book.specs.Laws.{CallsMoveOne}
use Rattle.px_jobs.proofs.Places.{set_other}

-- after one event more
next_status : (b : BookParts) (e : Event) (f : ℕ) → statuses_in (with_event b e) f ≡ option_map (λ x. status_after x (length b.history) e f) (statuses_in b f)
next_status b e f = ap (λ z. z f) (replay_more (its_desk b) b.history e)

by_claim : (b : BookParts) (who : Who) (j : Job) → IsGiven b who (Some j) →
    (losses : ℕ) × (statuses_in b j.proc.0 ≡ Some (Waiting losses)) × (statuses_in (claimed b who (Some j)) j.proc.0 ≡ Some (Held j.ticket who losses))
by_claim b who j g =
    let c = g.0.0 in
    let n = length b.history in (
      c.losses,
      c.waits,
      next_status b (Claim who j.proc) j.proc.0 ∙ ap (option_map (λ x. status_after x n (Claim who j.proc) j.proc.0)) c.waits
          ∙ ap (λ t. Some (cond t (Held n who c.losses) (Waiting c.losses))) (eq-eqb j.proc.0 j.proc.0 refl) ∙ ap (λ t. Some (Held t who c.losses)) (sym g.2),
    )

by_publication : (b : BookParts) (under : ℕ) (p : PieceParts) (who : Who) (losses : ℕ) → statuses_in b p.job.proc.0 ≡ Some (Held under who losses) →
    statuses_in (published b under p) p.job.proc.0 ≡ Some (Settled under who)
by_publication b under p who losses e =
    next_status b (Publish under) p.job.proc.0 ∙ ap (option_map (λ x. status_after x (length b.history) (Publish under) p.job.proc.0)) e
    ∙ ap (λ t. Some (cond t (Settled under who) (Held under who losses))) (eq-eqb under under refl)

by_loss : (b : BookParts) (under : ℕ) (why : Lost) (f : ℕ) (who : Who) (losses : ℕ) → statuses_in b f ≡ Some (Held under who losses) → statuses_in (with_event b (Lose under why)) f ≡ Some (Waiting (suc losses))
by_loss b under why f who losses e =
    next_status b (Lose under why) f ∙ ap (option_map (λ x. status_after x (length b.history) (Lose under why) f)) e
    ∙ ap (λ t. Some (cond t (Waiting (suc losses)) (Held under who losses))) (eq-eqb under under refl)

-- nobody else is held under the ticket
other : (b : BookParts) (under f g : ℕ) → IsHeldUnder (statuses_in b) under f → g ≢ f → (who : Who) (losses : ℕ) → statuses_in b g ≡ Some (Held under who losses) → ⊥
other b under f g held n who losses e = n (one_held (its_desk b) b.history under g f (record { who = who; losses = losses; held = e }) held)

pub calls_move_one : CallsMoveOne
calls_move_one = record {
  by_claim = by_claim;
  beside_claim = λ b who j g n. next_status b (Claim who j.proc) g ∙ claim_other (length b.history) who j.proc g (statuses_in b g) n;
  by_publication = by_publication;
  beside_publication = λ b under p g held n. (
    next_status b (Publish under) g ∙ publish_other (length b.history) under g (statuses_in b g) (other b under p.job.proc.0 g held n),
    set_other b.parts p.job.proc.0 g (Tabled p.entries p.drops) n,
  );
  by_loss = by_loss;
  beside_loss = λ b under why f g held n. next_status b (Lose under why) g ∙ lose_other (length b.history) under g why (statuses_in b g) (other b under f g held n);
}
