-- How a program is analysed, and what is told of it.
use Rattle.std.specs.Prelude.{ℕ, List, Bool, Option}
use Rattle.px_base.specs.LimitNumbers.{LimitNumbers}
use Rattle.px_entry.specs.declared.tables.Table.{Table}
use Rattle.px_callgraph.specs.JobTree.{JobTree}
use Rattle.px_pieces.specs.Found.{Found}
use Rattle.px_syntax.specs.ProgramTree.{ProgramTree}
use Rattle.px_text_report.specs.Known.{known}
use Rattle.px_text_report.specs.Reports.{Form}
use Rattle.px_pool.specs.Starts.{Numbers}
use Rattle.px_pooled.specs.Words.{word_of, IsBorneOut}
use Rattle.px_checking.specs.declared.asked.More.{More}
use Rattle.px_checking.specs.After.{IsAfter}
use Rattle.px_checking.specs.Stats.{line_asked}

-- within which limits, by whose word, and what is true of what is found; in what form it is written, what may come after it in the
-- same output, and the line that is told after it
pub record Way : Type 1 where
  pub limits : LimitNumbers
  pub form : Form
  pub word : JobTree → Table → Type 0
  pub backs : Found → Type 0
  pub more : ProgramTree → Found → List ℕ → Type 0
  pub line : Found → Option (List ℕ)

-- that of so many workers, whose links have this word, and the parent; whether the events are counted, and what more is told; what the spawner tells before and after
abbrev pub pooled_way : LimitNumbers → Form → ℕ → Bool → More → (JobTree → Table → Type 0) → Option Numbers → Option Numbers → Way
pooled_way limits form workers stats more says before after =
    record {
      limits = limits;
      form = form;
      word = word_of workers says;
      backs = IsBorneOut workers before after;
      more = λ P f. IsAfter more P (known f);
      line = line_asked stats;
    }
