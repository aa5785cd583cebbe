-- A sound book stays so after a publication that is due.
use Rattle.std.proofs.Common.{◌≡◌, ◌≢◌, ◌⊎◌, ℕ, ◌<◌, length, Some, sym, ap, subst, ◌∙◌, inl, inr, length-set}
use Rattle.std.specs.Prelude.{option_and_then}
use Rattle.px_entry.specs.declared.tables.Table.{Table}
use Rattle.px_callgraph.specs.JobTree.{JobTree, job_tree}
use Rattle.px_symexec.specs.One.{IsJob}
use Rattle.px_pieces.specs.declared.desk.Who.{Who}
use Rattle.px_pieces.specs.declared.desk.Event.TheVariants.{Publish}
use Rattle.px_pieces.specs.declared.desk.Status.TheVariants.{Settled}
use Rattle.px_pieces.specs.declared.findings.Part.{Part}
use Rattle.px_pieces.specs.declared.findings.Part.TheVariants.{Tabled}
use Rattle.px_pieces.specs.Desk.{Awaits, IsHeldUnder, IsSettled}
use Rattle.px_pieces.specs.Found.{table_of}
use Rattle.px_pieces.specs.Pieces.{PieceParts, AreOf, IsToldBy, table_from}
use Rattle.px_book.proofs.Histories.{legal_more, one_held, on_desk}
use Rattle.px_book.proofs.Settled.{stays_settled, published_settled, settled_now}
use Rattle.px_jobs.specs.Plans.{tables_at}
use Rattle.px_book.specs.Books.{BookParts, work_in, its_desk, statuses_in, published}
use Rattle.px_book.specs.Soundness.{IsAnswered, IsSound}
use Rattle.px_jobs.proofs.JobLemmas.{jobs_stay}
use Rattle.px_jobs.proofs.Places.{set_same, set_other}
use Rattle.px_book.proofs.DeskLemmas.{claim_of_held, claim_of_settled, claim_awaited, settled_before, ticket_published, held_not_settled}
use Rattle.px_book.proofs.SoundLemmas.{tabled, of_desk}

module _ (says : JobTree → Table → Type 0) (b : BookParts) (s : IsSound says b) (under : ℕ) (p : PieceParts) (held : IsHeldUnder (statuses_in b) under p.job.proc.0) where
  abbrev f : ℕ
  f = p.job.proc.0

  abbrev part : Part
  part = Tabled p.entries p.drops

  abbrev c : BookParts
  c = published b under p

  -- it isn't settled before
  other : (g : ℕ) → IsSettled (statuses_in b) g → g ≢ f
  other g q e = held_not_settled (statuses_in b) under f held (subst (IsSettled (statuses_in b)) e q)

  -- so what is settled keeps its table
  agree : (g : ℕ) → IsSettled (statuses_in b) g → tables_at b.parts g ≡ tables_at c.parts g
  agree g q = ap (option_and_then table_of) (sym (set_other b.parts f g part (other g q)))

  -- and the jobs of what was claimed stay
  moved : (g : ℕ) → ((m : ℕ) → Awaits (its_desk b) g m → IsSettled (statuses_in b) m) → (j : JobTree) → IsJob (work_in b) (tables_at b.parts) g j → IsJob (work_in c) (tables_at c.parts) g j
  moved g all j h =
      jobs_stay (work_in b) g (tables_at b.parts) (tables_at c.parts) (λ m k t n. agree m (all m (record { callee = k; of_desk = of_desk b m t; apart = n }))) j h

  inside : f < length b.parts
  inside = subst (λ z. f < z) (sym s.size) (tabled b f (on_desk (its_desk b) b.history f _ held.held)).0

  module _ (job : IsJob (work_in b) (tables_at b.parts) f (job_tree p.job)) (ticket : p.job.ticket ≡ under) (derived : AreOf (job_tree p.job) p.entries)
      (told : IsToldBy says (job_tree p.job) (table_from p.entries p.drops)) where
    -- its answer is the piece's
    its_answer : IsAnswered says c f under
    its_answer = record {
      checked = p.entries;
      drops = p.drops;
      part = set_same b.parts f part inside;
      answered = job_tree p.job;
      job = moved f (claim_awaited (its_desk b) b.history s.legal f under held.who (claim_of_held (its_desk b) b.history f under held)) (job_tree p.job) job;
      ticket = ticket;
      derived = derived;
      told = told;
    }

    -- the others' answers stay
    answer_stays : (g t : ℕ) (who : Who) → statuses_in b g ≡ Some (Settled t who) → IsAnswered says c g t
    answer_stays g t who e =
        let a = s.settled g t who e in
        record {
          checked = a.checked;
          drops = a.drops;
          part = set_other b.parts f g part (other g (record { ticket = t; who = who; settled = e })) ∙ a.part;
          answered = a.answered;
          job = moved g (claim_awaited (its_desk b) b.history s.legal g t who (claim_of_settled (its_desk b) b.history g t who e)) a.answered a.job;
          ticket = a.ticket;
          derived = a.derived;
          told = a.told;
        }

    answers : (g t : ℕ) (who : Who) → statuses_in c g ≡ Some (Settled t who) → IsSettled (statuses_in b) g ⊎ IsHeldUnder (statuses_in b) under g → IsAnswered says c g t
    answers g t who e (inl q) = answer_stays g t who (settled_before (its_desk b) b.history (Publish under) g t who q e)
    answers g t who e (inr q) =
        let same : f ≡ g = one_held (its_desk b) b.history under f g held q in
        let now : under ≡ t = sym (ticket_published (its_desk b) b.history under g t who q e) in
        subst (λ z. IsAnswered says c g z) now (subst (λ z. IsAnswered says c z under) same its_answer)

    pub sound_published : IsSound says c
    sound_published = record {
      graph = s.graph;
      bodies = s.bodies;
      size = length-set b.parts f part ∙ s.size;
      legal = legal_more (its_desk b) b.history (Publish under) s.legal (f, held);
      settled = λ g t who e. answers g t who e (settled_now (its_desk b) b.history under g (record { ticket = t; who = who; settled = e }));
      others = λ g l n.
          set_other b.parts f g part (λ e. n (subst (IsSettled (statuses_in c)) (sym e) (published_settled (its_desk b) b.history under f held)))
          ∙ s.others g (subst (λ z. g < z) (length-set b.parts f part) l) (λ q. n (stays_settled (its_desk b) b.history (Publish under) g q));
    }
