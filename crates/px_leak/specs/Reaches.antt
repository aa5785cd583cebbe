-- What is reached, as the code keeps it: by components of the graph of pointers.
use Rattle.std.specs.Prelude.{◌≡◌, ℕ, List, length}
use Rattle.px_components.specs.Graphs.{AreComponents}
use Rattle.px_entry.specs.declared.entries.Entry.{Entry}
use Rattle.px_leak.specs.declared.reach.Reach.{Reach}
use Rattle.px_leak.specs.Pointers.{HasPointers}

-- the numbers are those of the components of the entry's pointers
pub record Knows (x : Entry) (r : Reach) : Type 0 where
  pub count : r.count ≡ length x.vars
  pub graph : List (List ℕ)
  pub pointers : HasPointers x graph
  pub components : ℕ
  pub numbers : AreComponents graph r.numbers.items components
