-- What every book keeps.
use Rattle.std.specs.Prelude.{◌≡◌, ℕ, ◌<◌, List, length, Some, slice_get}
use Rattle.px_entry.specs.declared.tables.Gap.{Gap}
use Rattle.px_entry.specs.declared.tables.Table.{Table}
use Rattle.px_callgraph.specs.JobTree.{JobTree}
use Rattle.px_callgraph.specs.CallGraphs.{bodies_in, IsGraphOf}
use Rattle.px_symexec.specs.One.{IsJob}
use Rattle.px_check.specs.declared.checked.Checked.{Checked}
use Rattle.px_pieces.specs.declared.desk.Who.{Who}
use Rattle.px_pieces.specs.declared.desk.Status.TheVariants.{Settled}
use Rattle.px_pieces.specs.declared.findings.Part.TheVariants.{Tabled, LeftOut}
use Rattle.px_pieces.specs.Desk.{IsSettled, IsLegal}
use Rattle.px_pieces.specs.Pieces.{AreOf, IsToldBy, table_from}
use Rattle.px_jobs.specs.Plans.{tables_at}
use Rattle.px_book.specs.Books.{BookParts, work_in, its_desk, statuses_in}

-- a part has the checked entries and the drops that answered the job of f under a ticket, by a word
pub record IsAnswered (says : JobTree → Table → Type 0) (b : BookParts) (f under : ℕ) : Type 0 where
  pub checked : List Checked
  pub drops : List Gap
  pub part : slice_get b.parts f ≡ Some (Tabled checked drops)
  pub answered : JobTree
  pub job : IsJob (work_in b) (tables_at b.parts) f answered
  pub ticket : answered.ticket ≡ under
  pub derived : AreOf answered checked
  pub told : IsToldBy says answered (table_from checked drops)

-- The history is legal; what is settled has the answer to its job, and nothing else has a table.
pub record IsSound (says : JobTree → Table → Type 0) (b : BookParts) : Type 0 where
  pub graph : IsGraphOf (bodies_in b.sources.bodies) b.graph
  pub bodies : length b.sources.bodies ≡ length b.graph
  pub size : length b.parts ≡ length b.graph
  pub legal : IsLegal (its_desk b) b.history
  pub settled : (f ticket : ℕ) (who : Who) → statuses_in b f ≡ Some (Settled ticket who) → IsAnswered says b f ticket
  pub others : (f : ℕ) → f < length b.parts → (IsSettled (statuses_in b) f → ⊥) → slice_get b.parts f ≡ Some LeftOut
