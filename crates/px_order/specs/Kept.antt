-- Which comparisons are kept of conjuncts.
use Rattle.std.specs.Prelude.{◌≡◌, ◌≢◌, ◌↔◌, ◌⊎◌, ℕ, ℤ, List, [], ◌∷◌, ◌++◌, All, length, take, drop}
use Rattle.px_terms.specs.Rules.{HoldsInIntegers}
use Rattle.px_terms.specs.declared.conjuncts.Conj.{Conj}
use Rattle.px_order.specs.declared.comparisons.Comparison.{Comparison}
use Rattle.px_order.specs.declared.kept.Start.{Start}
use Rattle.px_order.specs.Comparisons.{Holds}

-- the comparisons say what the conjunct says of two variables
abbrev pub IsSaidBy : Conj → List Comparison → Type 0
IsSaidBy c ks = (v : ℕ → ℤ) → All (Holds v) ks ↔ HoldsInIntegers v c

-- no start that is the last one has n conjuncts before it
abbrev pub IsNotLast : ℕ → List Start → Type 0
IsNotLast n starts = (front : List Start) (last : Start) → starts ≡ front ++ last ∷ [] → last.conjunct ≢ n

-- the last of the starts, the last one first, is where n conjuncts are before, and from there on the comparisons are what the conjunct says
pub record Begins (c : Conj) (n : ℕ) (starts : List Start) (ks : List Comparison) : Type 0 where
  pub from : ℕ
  pub others : List Start
  pub starts_are : starts ≡ record { conjunct = n; comparison = from } ∷ others
  pub says : IsSaidBy c (drop from ks)

-- the comparisons say what the conjuncts say, the last one first; the starts, the last one first, are those of the conjuncts that say something
abbrev pub AreKept : List Start → List Comparison → List Conj → Type 0
AreKept starts ks [] = (starts ≡ []) × (ks ≡ [])
AreKept starts ks (c ∷ cs) = (IsSaidBy c [] × AreKept starts ks cs)
    ⊎ ((b : Begins c (length cs) starts ks) × AreKept b.others (take b.from ks) cs)
