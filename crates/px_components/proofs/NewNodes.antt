-- Sums over the new nodes.
use Rattle.std.proofs.Common.{◌≡◌, ℕ, zero, suc, ◌+◌, ◌<◌, List, [], ◌∷◌, length, set, replicate, refl, arith}
use Rattle.px_components.specs.declared.search.Node.{Node}
use Rattle.px_components.specs.declared.search.Node.TheVariants.{New}
use Rattle.px_components.specs.Searches.{node_at, if_new, sum_of_new, new_nodes}

-- one node changed
pub sum_set : (weight : ℕ → ℕ) (nodes : List Node) (x : ℕ) (n : Node) → x < length nodes
    → sum_of_new weight (set nodes x n) + if_new (weight x) (node_at nodes x) ≡ sum_of_new weight nodes + if_new (weight x) n
sum_set weight [] x n l = absurd (omega arith)
sum_set weight (m ∷ nodes) zero n l = omega arith
sum_set weight (m ∷ nodes) (suc x) n l = let h = sum_set (λ y. weight (suc y)) nodes x n (omega arith) in omega arith

pub all_new : (n : ℕ) → new_nodes (replicate n New) ≡ n
all_new zero = refl
all_new (suc n) = let h = all_new n in omega arith
