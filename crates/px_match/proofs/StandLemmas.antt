-- What cell variables stand for.
use Rattle.std.proofs.Common.{◌≡◌, ◌≤◌, ◌++◌, ℕ, List, [], ◌∷◌, drop, length, refl, ap, sym, ◌∙◌, append-nil}
use Rattle.std.proofs.Math.ListN.{drop_of_length-le}
use Rattle.px_terms.specs.declared.conjuncts.Content.{Content}
use Rattle.px_terms.specs.declared.conjuncts.Content.TheVariants.{Unwritten, Word, Place, Cell}
use Rattle.px_callgraph.specs.Renaming.{Substitution, stand_cells}

-- for nothing where there are no contents
none_left : (ps : List Content) → stand_cells ps [] ≡ []
none_left [] = refl
none_left (Unwritten ∷ ps) = refl
none_left (Word p ∷ ps) = refl
none_left (Place a ∷ ps) = refl
none_left (Cell x ∷ ps) = refl

-- all is there where no contents are left
pub all_stand : (now all : Substitution) (i : ℕ) (ps cs : List Content) → length cs ≤ i → now ++ stand_cells (drop i ps) (drop i cs) ≡ all → now ≡ all
all_stand now all i ps cs l h =
    sym (append-nil now)
    ∙ ap (λ z. now ++ z) (sym (none_left (drop i ps)))
    ∙ ap (λ z. now ++ stand_cells (drop i ps) z) (sym (drop_of_length-le cs l))
    ∙ h
