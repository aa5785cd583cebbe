-- What one written node changes of a forest.
use Rattle.std.proofs.Common.{◌≡◌, ◌≢◌, inl, inr, ℕ, ◌<◌, List, length, sym, subst, arith, get_or-set_other, get_or-set_same}
use Rattle.std.proofs.Math.ListN.{set, length-set}
use Rattle.std.proofs.lemmas.Bool.{cases_eq}
use Rattle.px_plain.specs.declared.nodes.Node.{Node}
use Rattle.px_plain.specs.Forest.{node_at}

pub written_here : (t : List Node) (i : ℕ) (n : Node) → i < length t → node_at (set t i n) i ≡ n
written_here t i n h = get_or-set_same t i n (record { parent = 0; offset = 0 }) h

pub written_there : (t : List Node) (i v : ℕ) (n : Node) → v ≢ i → node_at (set t i n) v ≡ node_at t v
written_there t i v n h = get_or-set_other t i v n (record { parent = 0; offset = 0 }) h

-- what holds of each node holds after a node of which it holds was written
pub each_written : (P : ℕ → Node → Type 0) (t : List Node) (i : ℕ) (n : Node) → P i n → ((v : ℕ) → v < length t → P v (node_at t v)) → (v : ℕ) → v < length (set t i n) → P v (node_at (set t i n) v)
each_written P t i n h k v w =
    let b : v < length t = omega (arith, length-set {A = Node}) in
    elim (cases_eq v i) [
      | inl e ↦ subst (λ x. P x (node_at (set t i n) x)) (sym e) (subst (λ x. P i x) (sym (written_here t i n (subst (λ x. x < length t) e b))) h)
      | inr e ↦ subst (λ x. P v x) (sym (written_there t i v n e)) (k v b)
    ]
