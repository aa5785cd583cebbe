-- What the fields of a book keep.
use Rattle.std.specs.Prelude.{◌≡◌, ℕ, ◌+◌, ◌<◌, List, length}
use Rattle.px_entry.specs.declared.tables.Table.{Table}
use Rattle.px_callgraph.specs.JobTree.{JobTree}
use Rattle.px_pieces.specs.declared.findings.Part.{Part}
use Rattle.px_pieces.specs.Histories.{publications}
use Rattle.px_book.specs.Rolls.{RollParts}
use Rattle.px_jobs.specs.Sources.{SourceParts}
use Rattle.px_book.specs.Books.{BookParts}
use Rattle.px_book.specs.Soundness.{IsSound}

-- the book of these parts
abbrev pub book_of : SourceParts → RollParts → List Part → BookParts
book_of sources roll parts = record { sources = sources; graph = roll.graph; history = roll.history; parts = parts }

-- the book is sound, its ledger counts the publications, and the rest of the ledger has a part for each that is to come
pub record IsKept (says : JobTree → Table → Type 0) (sources : SourceParts) (roll : RollParts) (parts : List Part) (total amount left : ℕ) : Type 0 where
  pub sound : IsSound says (book_of sources roll parts)
  pub out : roll.out ≡ sources.out
  pub counted : total ≡ publications roll.history
  pub spent : amount ≡ 0
  pub enough : length roll.graph < left + publications roll.history
