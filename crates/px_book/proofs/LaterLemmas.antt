-- Later books, and where all are settled by honest pieces.
use Rattle.std.proofs.Common.{◌≡◌, ℕ, Bool, true, false, List, [], ◌∷◌, ◌++◌, length, Option, Some, None, refl, sym, ap, subst, ◌∙◌, inl, inr, append_assoc}
use Rattle.std.specs.Prelude.{slice_get, option_and_then}
use Rattle.std.proofs.lemmas.Bool.{cases_lt, true≢false}
use Rattle.std.proofs.lemmas.List.{append-nil}
use Rattle.std.proofs.lemmas.Option.{slice_get_past}
use Rattle.px_base.specs.declared.trace.ProcId.{ProcId}
use Rattle.px_entry.specs.declared.tables.Table.{Table}
use Rattle.px_callgraph.specs.declared.jobs.Job.{Job}
use Rattle.px_callgraph.specs.JobTree.{JobTree, job_tree}
use Rattle.px_symexec.specs.Tables.{IsTable}
use Rattle.px_symexec.specs.One.{IsJob, IsTableIn}
use Rattle.px_pieces.specs.declared.desk.Who.{Who}
use Rattle.px_pieces.specs.declared.desk.Event.{Event}
use Rattle.px_pieces.specs.declared.desk.Event.TheVariants.{Claim, Publish, Lose}
use Rattle.px_pieces.specs.declared.desk.Status.TheVariants.{Settled}
use Rattle.px_pieces.specs.declared.findings.Part.TheVariants.{Tabled}
use Rattle.px_pieces.specs.Desk.{Desk, is_of_desk, replay, IsHeldUnder, IsSettled}
use Rattle.px_pieces.specs.Found.{table_of}
use Rattle.px_pieces.specs.Pieces.{PieceParts, IsToldBy, table_from}
use Rattle.px_book.specs.Rolls.{desk_in, no_bodies, AllSettled}
use Rattle.px_book.proofs.Histories.{on_desk}
use Rattle.px_book.proofs.Settled.{stays_settled}
use Rattle.px_jobs.specs.Plans.{tables_at}
use Rattle.px_jobs.specs.Sources.{SourceParts, source_work}
use Rattle.px_book.specs.Books.{BookParts, work_in, roll_in, its_desk, statuses_in, with_event, IsGiven, claimed, IsDue, published}
use Rattle.px_book.specs.Soundness.{IsSound}
use Rattle.px_book.specs.Laws.{IsLater, BooksGoOn, ClaimedJobsStay, HonestBooks}
use Rattle.px_jobs.proofs.JobLemmas.{jobs_stay, same_jobs}
use Rattle.px_jobs.proofs.Places.{set_other}
use Rattle.px_book.proofs.DeskLemmas.{claim_of_held, held_not_settled}
use Rattle.px_book.proofs.SoundLemmas.{of_desk, tabled}

-- ---- what is settled stays so

settled_on : (d : Desk) (h more : List Event) (f : ℕ) → IsSettled (replay d h) f → IsSettled (replay d (h ++ more)) f
settled_on d h [] f q = subst (λ z. IsSettled (replay d z) f) (sym (append-nil h)) q
settled_on d h (e ∷ rest) f q = subst (λ z. IsSettled (replay d z) f) (append_assoc h (e ∷ []) rest) (settled_on d (h ++ e ∷ []) rest f (stays_settled d h e f q))

later_settled : (b c : BookParts) → IsLater b c → (f : ℕ) → IsSettled (statuses_in b) f → IsSettled (statuses_in c) f
later_settled b c l f q =
    subst (λ (s : SourceParts). IsSettled (replay (desk_in no_bodies c.graph s.out) c.history) f) (sym l.sources)
    (subst (λ (g : List (List ℕ)). IsSettled (replay (desk_in no_bodies g b.sources.out) c.history) f) (sym l.graph)
    (subst (λ h. IsSettled (replay (desk_in no_bodies b.graph b.sources.out) h) f) (sym l.history) (settled_on (desk_in no_bodies b.graph b.sources.out) b.history l.more f q)))

same : (b : BookParts) → IsLater b b
same b = record { sources = refl; graph = refl; more = []; history = sym (append-nil b.history); parts = λ f q. refl }

more_by : (b : BookParts) (e : Event) → IsLater b (with_event b e)
more_by b e = record { sources = refl; graph = refl; more = e ∷ []; history = refl; parts = λ f q. refl }

by_claim : (b : BookParts) (who : Who) (o : Option Job) → IsLater b (claimed b who o)
by_claim b who None = same b
by_claim b who (Some j) = more_by b (Claim who j.proc)

by_publication : (b : BookParts) (under : ℕ) (p : PieceParts) → IsDue b under (job_tree p.job) → IsLater b (published b under p)
by_publication b under p due = record {
  sources = refl;
  graph = refl;
  more = Publish under ∷ [];
  history = refl;
  parts = λ f q. set_other b.parts p.job.proc.0 f (Tabled p.entries p.drops) (λ e. held_not_settled (statuses_in b) under p.job.proc.0 due.held (subst (IsSettled (statuses_in b)) e q));
}

through : (a b c : BookParts) → IsLater a b → IsLater b c → IsLater a c
through a b c l m = record {
  sources = m.sources ∙ l.sources;
  graph = m.graph ∙ l.graph;
  more = l.more ++ m.more;
  history = m.history ∙ ap (λ z. z ++ m.more) l.history ∙ append_assoc a.history l.more m.more;
  parts = λ f q. m.parts f (later_settled a b l f q) ∙ l.parts f q;
}

pub books_go_on : BooksGoOn
books_go_on = record { same = same; by_claim = by_claim; by_publication = by_publication; by_loss = λ b under why. more_by b (Lose under why); through = through }

-- ---- the job of a claim

-- the event after a history
at_seam : (h : List Event) (e : Event) (more : List Event) → slice_get ((h ++ e ∷ []) ++ more) (length h) ≡ Some e
at_seam [] e more = refl
at_seam (x ∷ h) e more = at_seam h e more

same_claim : (v w : Who) (p q : ProcId) → Some (Claim v p) ≡ Some (Claim w q) → p ≡ q
same_claim v w p q e = cc

module _ (b c : BookParts) (who : Who) (j : Job) (g : IsGiven b who (Some j)) (l : IsLater (claimed b who (Some j)) c) where
  agree : (m : ℕ) → IsSettled (statuses_in b) m → tables_at b.parts m ≡ tables_at c.parts m
  agree m q = ap (option_and_then table_of) (sym (l.parts m (stays_settled (its_desk b) b.history (Claim who j.proc) m q)))

  -- it is the job of its procedure still
  job_later : IsJob (work_in c) (tables_at c.parts) j.proc.0 (job_tree j)
  job_later =
      let h = jobs_stay (work_in b) j.proc.0 (tables_at b.parts) (tables_at c.parts)
      (λ m k t n. agree m (g.0.0.callees m (record { callee = k; of_desk = of_desk b m t; apart = n }))) (job_tree j) g.1 in
      subst (λ (x : SourceParts). IsJob (source_work x (length c.graph)) (tables_at c.parts) j.proc.0 (job_tree j)) (sym l.sources)
      (subst (λ (x : List (List ℕ)). IsJob (source_work b.sources (length x)) (tables_at c.parts) j.proc.0 (job_tree j)) (sym l.graph) h)

  due_later : IsHeldUnder (statuses_in c) j.ticket j.proc.0 → IsDue c j.ticket (job_tree j)
  due_later held = record { held = held; job = job_later; ticket = refl }

  claim_there : slice_get c.history j.ticket ≡ Some (Claim who j.proc)
  claim_there = ap (λ z. slice_get z j.ticket) l.history ∙ ap (slice_get ((b.history ++ Claim who j.proc ∷ []) ++ l.more)) g.2 ∙ at_seam b.history (Claim who j.proc) l.more

  none_else : (i : JobTree) → IsDue c j.ticket i → i ≡ job_tree j
  none_else i due =
      let by = claim_of_held (its_desk c) c.history i.proc.0 j.ticket due.held in
      let proc : i.proc.0 ≡ j.proc.0 = ap (λ (p : ProcId). p.0) (same_claim due.held.who who (record { 0 = i.proc.0 }) j.proc (sym by.1 ∙ claim_there)) in
      same_jobs (work_in c) j.proc.0 (tables_at c.parts) i (job_tree j) (subst (λ z. IsJob (work_in c) (tables_at c.parts) z i) proc due.job) job_later due.ticket

pub claimed_jobs_stay : ClaimedJobsStay
claimed_jobs_stay = record {
  stays = λ b c who j g l held. due_later b c who j g l held;
  alone = λ b c who j i g l due. none_else b c who j g l i due;
}

-- ---- honest books

module _ (b : BookParts) (s : IsSound IsTable b) (all : AllSettled (roll_in b)) where
  own : (j : JobTree) (t : Table) → IsToldBy IsTable j t → IsTable j t
  own j t (inl h) = h
  own j t (inr h) = h

  none_of : (f : ℕ) → is_of_desk (its_desk b) f ≡ false → tables_at b.parts f ≡ None
  none_of f e = elim (cases_lt f (length b.parts)) [
    | inl l ↦ ap (option_and_then table_of) (s.others f l (λ q. true≢false (sym (on_desk (its_desk b) b.history f (Settled q.ticket q.who) q.settled) ∙ e)))
    | inr l ↦ ap (option_and_then table_of) (slice_get_past b.parts f l)
  ]

  one_at : (f : ℕ) (o : Bool) → is_of_desk (its_desk b) f ≡ o → IsTableIn (work_in b) (tables_at b.parts) f (tables_at b.parts f)
  one_at f true e =
      let q = all f e in
      let a = s.settled f q.ticket q.who q.settled in
      subst (λ z. IsTableIn (work_in b) (tables_at b.parts) f z) (sym (ap (option_and_then table_of) a.part)) (tabled b f e, a.answered, a.job, own a.answered (table_from a.checked a.drops) a.told)
  one_at f false e = subst (λ z. IsTableIn (work_in b) (tables_at b.parts) f z) (sym (none_of f e)) (λ t. true≢false (sym (of_desk b f t) ∙ e))

pub honest_books : HonestBooks
honest_books b s all f = one_at b s all f (is_of_desk (its_desk b) f) refl
