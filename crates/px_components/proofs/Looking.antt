-- What is read of a search.
use Rattle.std.proofs.Common.{◌≡◌, ℕ, ◌-◌, ◌<◌, List, length, get_or, sym, ap, ◌∙◌, arith}
use Rattle.std.proofs.lemmas.List.{get_or_read}
use Rattle.px_components.specs.Searches.{State, node_at, IsSearch}
use Rattle.px_components.specs.declared.search.Node.{Node}
use Rattle.px_components.specs.declared.search.Node.TheVariants.{New}

pub last_read : (xs : List ℕ) (n x : ℕ) → n ≡ length xs → 0 < length xs → x ≡ get_or xs (n - 1) x → x ≡ get_or xs (length xs - 1) 0
last_read xs n x e l h = get_or_read xs (n - 1) x (omega arith) h 0 ∙ ap (λ k. get_or xs (k - 1) 0) e

-- a node that a target leads to
pub node_read : (graph : List (List ℕ)) (s : State) (h : IsSearch graph s) (x : ℕ) (n : Node) → 0 < length s.targets
    → x ≡ get_or s.targets (length s.targets - 1) 0 → n ≡ get_or s.nodes x n → node_at s.nodes x ≡ n
node_read graph s h x n l e f =
    let i = h.inside (length s.targets - 1) 0 (omega arith) in
    let a = h.all_nodes in
    sym (get_or_read s.nodes x n (omega arith) f New)
