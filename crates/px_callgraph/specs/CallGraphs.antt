-- Which lists of callees are the call graph of bodies.
use Rattle.std.specs.Prelude.{◌↔◌, ℕ, ◌<◌, List, All, AllPairs, slice_get, Option, option_map}
use Rattle.px_core.specs.declared.body.Body.{Body}
use Rattle.px_core.specs.BodyTree.{BodyTree, body_tree}
use Rattle.px_components.specs.Graphs.{IsEdge}
use Rattle.px_callgraph.specs.Callees.{IsCallee}

-- the body of a procedure, by its place in a list
abbrev pub bodies_in : List Body → ℕ → Option BodyTree
bodies_in bodies f = option_map body_tree (slice_get bodies f)

-- The lists have the callees of the procedures, each list in the order of their numbers. A procedure without a list calls nobody.
pub record IsGraphOf (bodies : ℕ → Option BodyTree) (graph : List (List ℕ)) : Type 0 where
  pub callees : (f g : ℕ) → IsEdge graph f g ↔ IsCallee bodies f g
  pub rising : All (AllPairs (λ g h. g < h)) graph
