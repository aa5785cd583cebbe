-- What a stack holds: variables, conjuncts, and places that are said to be apart, the last one first.
use Rattle.std.specs.Prelude.{ℕ, ◌+◌, List, [], ◌∷◌, ◌++◌, map}
use Rattle.px_terms.specs.declared.variables.VarInfo.{VarInfo}
use Rattle.px_terms.specs.declared.conjuncts.Place.{Place}
use Rattle.px_terms.specs.declared.conjuncts.Place.TheVariants as place
use Rattle.px_terms.specs.declared.conjuncts.Conj.{Conj}
use Rattle.px_terms.specs.declared.conjuncts.Conj.TheVariants.{OtherPlace}

pub data HeldItem : Type 0 where
  OfVar : VarInfo → HeldItem
  OfConj : Conj → HeldItem
  -- the place of the variable is the base of a block of its own
  OfApart : ℕ → HeldItem

-- the variables, the first one first
abbrev pub held_vars : List HeldItem → List VarInfo
held_vars [] = []
held_vars (OfVar i ∷ items) = held_vars items ++ i ∷ []
held_vars (OfConj c ∷ items) = held_vars items
held_vars (OfApart x ∷ items) = held_vars items

-- the places that are apart, the last one first
abbrev pub held_apart : List HeldItem → List ℕ
held_apart [] = []
held_apart (OfVar i ∷ items) = held_apart items
held_apart (OfConj c ∷ items) = held_apart items
held_apart (OfApart x ∷ items) = x ∷ held_apart items

abbrev pub place_of_variable : ℕ → Place
place_of_variable x = place.Var (record { 0 = x })

-- the place of x isn't null, nor one of these
abbrev pub apart_conjuncts : ℕ → List ℕ → List Conj
apart_conjuncts x ys = OtherPlace (place_of_variable x) place.Null ∷ map (λ y. OtherPlace (place_of_variable x) (place_of_variable y)) ys

-- the conjuncts, and those that places apart stand for
abbrev pub held_conjuncts : List HeldItem → List Conj
held_conjuncts [] = []
held_conjuncts (OfVar i ∷ items) = held_conjuncts items
held_conjuncts (OfConj c ∷ items) = c ∷ held_conjuncts items
held_conjuncts (OfApart x ∷ items) = apart_conjuncts x (held_apart items) ++ held_conjuncts items

-- how many conjuncts and places apart there are
abbrev pub held_count : List HeldItem → ℕ
held_count [] = 0
held_count (OfVar i ∷ items) = held_count items
held_count (OfConj c ∷ items) = held_count items + 1
held_count (OfApart x ∷ items) = held_count items + 1
