-- What workers and the program itself find out of a program, over a book, and what is true of its history.
use Rattle.std.specs.Prelude.{◌≡◌, ℕ, zero, suc, ◌+◌, ◌<◌, ◌≤◌, cond, List, length, Option, Some, None, is_some, ⊤}
use Rattle.px_entry.specs.declared.tables.Table.{Table}
use Rattle.px_callgraph.specs.JobTree.{JobTree}
use Rattle.px_pieces.specs.declared.desk.Event.{Event}
use Rattle.px_pieces.specs.Found.{Found, tables_in}
use Rattle.px_pool.specs.Starts.{Numbers}
use Rattle.px_book.specs.Tallies.{by_worker, by_parent, published_by, losses}

-- the word of so many workers: where there are none, nothing but a job's own table is said
abbrev pub word_of : ℕ → (JobTree → Table → Type 0) → JobTree → Table → Type 0
word_of workers says j t = (0 < workers) × says j t

-- how many publications of a history are of workers, and how many of the parent
abbrev pub of_workers : List Event → ℕ
of_workers h = published_by by_worker h h

abbrev pub of_parent : List Event → ℕ
of_parent h = published_by by_parent h h

-- how many of the procedures with numbers below n have a table
abbrev pub tabled_below : ℕ → (ℕ → Option Table) → ℕ
tabled_below zero tables = 0
tabled_below (suc n) tables = tabled_below n tables + cond (is_some (tables n)) 1 0

-- each table was published once, by a worker or the parent
abbrev pub IsCounted : Found → Type 0
IsCounted f = of_workers f.events + of_parent f.events ≡ tabled_below (length f.parts) (tables_in f)

-- from what a spawner told to what it tells, its ended links gave so many whole frames or more, where it tells that
abbrev pub Gave : Option Numbers → Option Numbers → ℕ → Type 0
Gave None None frames = ⊤
Gave None (Some b) frames = ⊥
Gave (Some a) None frames = ⊥
Gave (Some a) (Some b) frames = a.given + frames ≤ b.given

-- Each table was published once; without workers nothing was published by one, nor lost; and workers published no more than whole
-- frames were given.
pub record IsBorneOut (workers : ℕ) (before after : Option Numbers) (f : Found) : Type 0 where
  pub all : IsCounted f
  pub alone : workers ≡ 0 → (of_workers f.events ≡ 0) × (losses f.events ≡ 0)
  pub given : Gave before after (of_workers f.events)
