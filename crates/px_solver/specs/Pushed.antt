-- What domains hold of what a stack holds.
use Rattle.std.specs.Prelude.{List, [], ◌∷◌}
use Rattle.px_terms.specs.declared.conjuncts.Conj.{Conj}
use Rattle.px_plain.specs.Held.{HeldItem, OfVar, OfConj, OfApart}

-- the conjuncts that were pushed as such, the last one first: places apart aren't among them
abbrev pub pushed_conjuncts : List HeldItem → List Conj
pushed_conjuncts [] = []
pushed_conjuncts (OfVar i ∷ items) = pushed_conjuncts items
pushed_conjuncts (OfConj c ∷ items) = c ∷ pushed_conjuncts items
pushed_conjuncts (OfApart x ∷ items) = pushed_conjuncts items
