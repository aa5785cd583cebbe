-- A declarator with something behind it is something.
use Rattle.std.proofs.Common.{◌≡◌, ◌∙◌, true, false, ℕ, List, [], ◌∷◌, length, nat_eq, refl, ap}
use Rattle.px_real_expressions.specs.Lexemes.{Lexeme}
use Rattle.px_real_symbols.specs.Symbols.{held_in}
use Rattle.px_real_declarations.specs.DeclarationTree.{DeclaratorTree, array, function}
use Rattle.px_real_declaring.specs.declared.tree.Suffix.{Suffix}
use Rattle.px_real_declaring.specs.declared.tree.Suffix.TheVariants as X
use Rattle.px_real_declaring.specs.Trees.{all_suffixed}
use Rattle.px_real_types.specs.Declarators.{is_nothing}

module _ (all : List Lexeme) where
  still_something : (d : DeclaratorTree) (ss : List Suffix) → is_nothing d ≡ false → is_nothing (all_suffixed all d ss) ≡ false
  still_something d [] h = h
  still_something d (X.Array site held ∷ ss) h = still_something (array site d (held_in all held)) ss refl
  still_something d (X.Function site held ∷ ss) h = still_something (function site d (held_in all held)) ss refl

  something : (d : DeclaratorTree) (s : Suffix) (ss : List Suffix) → is_nothing (all_suffixed all d (s ∷ ss)) ≡ false
  something d (X.Array site held) ss = still_something (array site d (held_in all held)) ss refl
  something d (X.Function site held) ss = still_something (function site d (held_in all held)) ss refl

-- ---- by what the code sees

pub nothing_alone : (all : List Lexeme) (d : DeclaratorTree) (ss : List Suffix) → ss ≡ [] → is_nothing (all_suffixed all d ss) ≡ is_nothing d
nothing_alone all d [] h = refl
nothing_alone all d (s ∷ ss) h = absurd cc

pub nothing_never : (all : List Lexeme) (d : DeclaratorTree) (ss : List Suffix) (n : ℕ) → n ≡ length ss → false ≡ nat_eq n 0 → is_nothing (all_suffixed all d ss) ≡ false
nothing_never all d [] n e h = let z : false ≡ true = h ∙ ap (λ k. nat_eq k 0) e in absurd cc
nothing_never all d (s ∷ ss) n e h = something all d s ss
