-- What comes next, and then the rest, is all that is to be done.
use Rattle.std.proofs.Common.{◌≡◌, List}
use Rattle.px_core.specs.Control.{Item}
use Rattle.px_walks.specs.declared.control.Upcoming.{Upcoming}
use Rattle.px_walks.specs.declared.control.Upcoming.TheVariants.{Nothing, Command, End}
use Rattle.px_walks.specs.Nexts.{items_from, IsNext}

pub is_items : (next : Upcoming) (all rest : List Item) → IsNext next all rest → all ≡ items_from next rest
is_items Nothing all rest e = e
is_items (Command c) all rest e = e
is_items (End part l) all rest e = e
