-- Laws of books.
use Rattle.std.specs.Prelude.{◌≡◌, ◌≢◌, suc, ℕ, List, ◌++◌, Option, Some, slice_get}
use Rattle.px_callgraph.specs.declared.jobs.Job.{Job}
use Rattle.px_callgraph.specs.JobTree.{JobTree, job_tree}
use Rattle.px_symexec.specs.Tables.{IsTable}
use Rattle.px_symexec.specs.One.{IsOne}
use Rattle.px_pieces.specs.declared.desk.Who.{Who}
use Rattle.px_pieces.specs.declared.desk.Event.{Event}
use Rattle.px_pieces.specs.declared.desk.Lost.{Lost}
use Rattle.px_pieces.specs.declared.desk.Event.TheVariants.{Lose}
use Rattle.px_pieces.specs.declared.desk.Status.TheVariants.{Waiting, Held, Settled}
use Rattle.px_pieces.specs.Desk.{IsHeldUnder, IsSettled}
use Rattle.px_pieces.specs.Pieces.{PieceParts}
use Rattle.px_book.specs.Rolls.{AllSettled}
use Rattle.px_jobs.specs.Plans.{tables_at}
use Rattle.px_book.specs.Books.{BookParts, work_in, roll_in, statuses_in, with_event, IsGiven, claimed, IsDue, published}
use Rattle.px_book.specs.Soundness.{IsSound}

-- the second book is the first one later: there were more events, and what was settled has the same part
pub record IsLater (b c : BookParts) : Type 0 where
  pub sources : c.sources ≡ b.sources
  pub graph : c.graph ≡ b.graph
  pub more : List Event
  pub history : c.history ≡ b.history ++ more
  pub parts : (f : ℕ) → IsSettled (statuses_in b) f → slice_get c.parts f ≡ slice_get b.parts f

-- Each call leaves the book or makes it later, and later than later is later.
pub record BooksGoOn : Type 0 where
  pub same : (b : BookParts) → IsLater b b
  pub by_claim : (b : BookParts) (who : Who) (o : Option Job) → IsLater b (claimed b who o)
  pub by_publication : (b : BookParts) (under : ℕ) (p : PieceParts) → IsDue b under (job_tree p.job) → IsLater b (published b under p)
  pub by_loss : (b : BookParts) (under : ℕ) (why : Lost) → IsLater b (with_event b (Lose under why))
  pub through : (a b c : BookParts) → IsLater a b → IsLater b c → IsLater a c

-- Each call moves its own procedure by one step, and all others stay.
pub record CallsMoveOne : Type 0 where
  -- one that waits is held, as often lost as before
  pub by_claim : (b : BookParts) (who : Who) (j : Job) → IsGiven b who (Some j) →
      (losses : ℕ) × (statuses_in b j.proc.0 ≡ Some (Waiting losses)) × (statuses_in (claimed b who (Some j)) j.proc.0 ≡ Some (Held j.ticket who losses))
  pub beside_claim : (b : BookParts) (who : Who) (j : Job) (g : ℕ) → g ≢ j.proc.0 → statuses_in (claimed b who (Some j)) g ≡ statuses_in b g
  -- one that is held is settled, and its part alone is another
  pub by_publication : (b : BookParts) (under : ℕ) (p : PieceParts) (who : Who) (losses : ℕ) → statuses_in b p.job.proc.0 ≡ Some (Held under who losses) →
      statuses_in (published b under p) p.job.proc.0 ≡ Some (Settled under who)
  pub beside_publication : (b : BookParts) (under : ℕ) (p : PieceParts) (g : ℕ) → IsHeldUnder (statuses_in b) under p.job.proc.0 → g ≢ p.job.proc.0 →
      (statuses_in (published b under p) g ≡ statuses_in b g) × (slice_get (published b under p).parts g ≡ slice_get b.parts g)
  -- one that is held waits, with one loss more
  pub by_loss : (b : BookParts) (under : ℕ) (why : Lost) (f : ℕ) (who : Who) (losses : ℕ) → statuses_in b f ≡ Some (Held under who losses) →
      statuses_in (with_event b (Lose under why)) f ≡ Some (Waiting (suc losses))
  pub beside_loss : (b : BookParts) (under : ℕ) (why : Lost) (f g : ℕ) → IsHeldUnder (statuses_in b) under f → g ≢ f → statuses_in (with_event b (Lose under why)) g ≡ statuses_in b g

-- Whatever comes in between: while a procedure is held, its job is the one that its claim gave, and no other is due.
pub record ClaimedJobsStay : Type 0 where
  pub stays : (b c : BookParts) (who : Who) (j : Job) → IsGiven b who (Some j) → IsLater (claimed b who (Some j)) c → IsHeldUnder (statuses_in c) j.ticket j.proc.0 → IsDue c j.ticket (job_tree j)
  pub alone : (b c : BookParts) (who : Who) (j : Job) (i : JobTree) → IsGiven b who (Some j) → IsLater (claimed b who (Some j)) c → IsDue c j.ticket i → i ≡ job_tree j

-- Where each word is honest and all are settled, the tables are those that one process makes.
abbrev pub HonestBooks : Type 0
HonestBooks = (b : BookParts) → IsSound IsTable b → AllSettled (roll_in b) → IsOne (work_in b) (tables_at b.parts)
