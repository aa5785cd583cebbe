-- A sound book stays so after a claim or a loss.
use Rattle.std.proofs.Common.{ℕ}
use Rattle.px_entry.specs.declared.tables.Table.{Table}
use Rattle.px_callgraph.specs.JobTree.{JobTree}
use Rattle.px_base.specs.declared.trace.ProcId.{ProcId}
use Rattle.px_pieces.specs.declared.desk.Who.{Who}
use Rattle.px_pieces.specs.declared.desk.Lost.{Lost}
use Rattle.px_pieces.specs.declared.desk.Event.{Event}
use Rattle.px_pieces.specs.declared.desk.Event.TheVariants.{Claim, Lose}
use Rattle.px_pieces.specs.Desk.{IsHeldUnder, IsSettled, MayCome}
use Rattle.px_book.proofs.Histories.{legal_more}
use Rattle.px_book.proofs.Settled.{stays_settled, claimed_settled, lost_settled}
use Rattle.px_book.specs.Books.{BookParts, its_desk, statuses_in, with_event}
use Rattle.px_book.specs.Soundness.{IsSound}
use Rattle.px_book.proofs.DeskLemmas.{settled_before}

module _ (says : JobTree → Table → Type 0) (b : BookParts) (s : IsSound says b) where
  with_it : (e : Event) → MayCome (its_desk b) (statuses_in b) e → ((f : ℕ) → IsSettled (statuses_in (with_event b e)) f → IsSettled (statuses_in b) f) → IsSound says (with_event b e)
  with_it e may before = record {
    graph = s.graph;
    bodies = s.bodies;
    size = s.size;
    legal = legal_more (its_desk b) b.history e s.legal may;
    settled = λ f ticket who q.
        let a = s.settled f ticket who (settled_before (its_desk b) b.history e f ticket who (before f (record { ticket = ticket; who = who; settled = q })) q) in
        record { checked = a.checked; drops = a.drops; part = a.part; answered = a.answered; job = a.job; ticket = a.ticket; derived = a.derived; told = a.told };
    others = λ f l n. s.others f l (λ q. n (stays_settled (its_desk b) b.history e f q));
  }

  pub sound_claim : (who : Who) (p : ProcId) → MayCome (its_desk b) (statuses_in b) (Claim who p) → IsSound says (with_event b (Claim who p))
  sound_claim who p may = with_it (Claim who p) may (λ f q. claimed_settled (its_desk b) b.history who p f q)

  pub sound_loss : (under : ℕ) (why : Lost) (f : ℕ) → IsHeldUnder (statuses_in b) under f → IsSound says (with_event b (Lose under why))
  sound_loss under why f q = with_it (Lose under why) (f, q) (λ g h. lost_settled (its_desk b) b.history under why g h)
