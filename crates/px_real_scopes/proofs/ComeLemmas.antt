-- How far it comes, one after the other.
use Rattle.std.proofs.Common.{◌≡◌, ℕ, ◌+◌, ◌<◌, ◌≤◌, List, ◌∷◌, length, drop, get_or, map, Option, Some, None, Err, ap, sym, ◌∙◌}
use Rattle.std.proofs.lemmas.List.{drop_more, drop_all}
use Rattle.px_expressions.specs.Reading.{or_else}
use Rattle.px_real_declaring.specs.declared.reading.DeclarationFault.{DeclarationFault}
use Rattle.px_real_declaring.specs.declared.reading.DeclarationFault.TheVariants as D
use Rattle.px_real_scopes.specs.Entering.{in_turn}
use Rattle.px_real_scopes.specs.Steps.{Comes}

-- what comes by the first, and what comes of that
pub comes_on : {S U : Type 0} (o : Option S) (st : S) (next : S → Option U) → o ≡ Some st → or_else o next None ≡ next st
comes_on o st next h = ap (λ z. or_else z next None) h

pub stops_there : {S U : Type 0} (o : Option S) (st : S) (new : U) (next : S → Option U) (e : DeclarationFault) → Comes o st (Err e) → Comes (or_else o next None) new (Err e)
stops_there o st new next D.NoMemory h = tt
stops_there o st new next (D.NotADeclaration at) h = ap (λ z. or_else z next None) h
stops_there o st new next (D.Deep at) h = ap (λ z. or_else z next None) h

-- a fault comes of the same
pub same_fault : {S : Type 0} (o q : Option S) (st new : S) (e : DeclarationFault) → o ≡ q → Comes o st (Err e) → Comes q new (Err e)
same_fault o q st new D.NoMemory h g = tt
same_fault o q st new (D.NotADeclaration at) h g = sym h ∙ g
same_fault o q st new (D.Deep at) h g = sym h ∙ g

module _ {A X S : Type 0} (next : S → X → Option S) (view : A → X) (xs : List A) (i : ℕ) (st : S) (o : Option S) (so_far : in_turn next st (map view (drop i xs)) ≡ o) where
  module _ (x : A) (lt : i < length xs) (is : x ≡ get_or xs i x) where
    left_is : or_else (next st (view x)) (λ st1. in_turn next st1 (map view (drop (i + 1) xs))) None ≡ o
    left_is = sym (ap (λ z. in_turn next st (map view z)) (drop_more xs i x lt ∙ ap (λ z. z ∷ drop (i + 1) xs) (sym is))) ∙ so_far

    -- one more
    pub turned : (st1 : S) → next st (view x) ≡ Some st1 → in_turn next st1 (map view (drop (i + 1) xs)) ≡ o
    turned st1 h = sym (comes_on (next st (view x)) st1 (λ st1. in_turn next st1 (map view (drop (i + 1) xs))) h) ∙ left_is

    -- it stops at this one
    pub stopped_at : (st1 new : S) (e : DeclarationFault) → Comes (next st (view x)) st1 (Err e) → Comes o new (Err e)
    stopped_at st1 new e h = same_fault _ o new new e left_is (stops_there (next st (view x)) st1 new (λ st1. in_turn next st1 (map view (drop (i + 1) xs))) e h)

  -- none is left
  pub all_turned : length xs ≤ i → o ≡ Some st
  all_turned le = sym so_far ∙ ap (λ z. in_turn next st (map view z)) (drop_all i xs le)
