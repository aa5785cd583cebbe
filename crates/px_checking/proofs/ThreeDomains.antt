-- The kinds of the three domains are different.
use Rattle.std.proofs.Common.{◌≡◌, ℕ, List, [], ◌∷◌, ◌++◌, map, refl, sym, subst, arith}
use Rattle.px_checking.specs.Kinds.{AreOwnKinds}

one_two_three : AreOwnKinds (1 ∷ 2 ∷ 3 ∷ [])
one_two_three = (((omega arith, omega arith), ((omega arith, omega arith), ((omega arith, omega arith), tt))), ((refl, (refl, tt)), ((refl, tt), (tt, tt))))

-- three domains that were pushed in this order
pub of_three : {B : Type 0} (number : B → ℕ) (items : List B) (x y z : B) → items ≡ (([] ++ x ∷ []) ++ y ∷ []) ++ z ∷ []
    → number x ≡ 1 → number y ≡ 2 → number z ≡ 3 → AreOwnKinds (map number items)
of_three number items x y z e k l m =
    let three : (number x ∷ number y ∷ number z ∷ []) ≡ (1 ∷ 2 ∷ 3 ∷ []) = cc in
    subst (λ xs. AreOwnKinds (map number xs)) (sym e) (subst AreOwnKinds (sym three) one_two_three)

-- what is told of each value after a table of functions is told of a value after one that is the same
pub behind : {K : Type 0} {V : K → Type 0} (number : (k : K) → V k → ℕ) (i j : K) (n : ℕ) → i ≡ j → ((v : V j) → number j v ≡ n) → (v : V i) → number i v ≡ n
behind {V = V} number i j n e at = subst (λ k. (v : V k) → number k v ≡ n) (sym e) at
