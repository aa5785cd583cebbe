-- Which bounds are kept.
use Rattle.std.specs.Prelude.{ℕ, List, [], ◌∷◌, Option, Some, None, cond, nat_eq, length}
use Rattle.px_terms.specs.declared.conjuncts.Conj.{Conj}
use Rattle.px_interval.specs.declared.bounds.Bound.{Bound}
use Rattle.px_interval.specs.declared.kept.Kept.{Kept}
use Rattle.px_interval.specs.Bounds.{bound_of}

-- without the last bound, if there are n conjuncts before it
abbrev pub without : ℕ → List Kept → List Kept
without n [] = []
without n (k ∷ ks) = cond (nat_eq k.at n) ks (k ∷ ks)

-- with the bound of a conjunct that has n before it, if it is one
abbrev pub with_bound : Option Bound → ℕ → List Kept → List Kept
with_bound None n ks = ks
with_bound (Some b) n ks = record { bound = b; at = n } ∷ ks

-- the bounds of conjuncts, the last one first
abbrev pub kept_of : List Conj → List Kept
kept_of [] = []
kept_of (c ∷ cs) = with_bound (bound_of c) (length cs) (kept_of cs)
