use Rattle.std.proofs.Common.{◌≡◌, ℕ, List, length}
use Rattle.std.specs.List.{AllByRecursion}
use Rattle.px_base.specs.Texts.{texts}
use Rattle.px_loading.specs.Stops.{all_read, GivesAll}
use Rattle.px_loading.proofs.inputs.read_all.Given as goal

abbrev pub invariant-loop-i : goal.invariant-loop-i
invariant-loop-i g l =
    let m = g.F.Files in
    GivesAll m.told m.count m.gives l.initial.files l.files (texts l.names) (all_read l.sources.items)
    × (length l.sources.items ≡ l.i)
    × ((p : List ℕ) → m.told l.files p ≡ m.told l.initial.files p)
    × AllByRecursion (λ name. m.allows l.files name) (texts l.names)
    × ((p : List ℕ) → m.allows l.initial.files p → m.allows l.files p)
