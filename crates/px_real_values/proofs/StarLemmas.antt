-- What stands behind a declarator makes it no star, and takes none away. What one declarator spells.
use Rattle.std.proofs.Common.{◌≡◌, ◌∙◌, Bool, true, false, List, [], ◌∷◌, length, map, get_or, ◌||◌, refl, sym, ap, arith}
use Rattle.px_real_expressions.specs.Lexemes.{Lexeme}
use Rattle.px_real_symbols.specs.Symbols.{held_in}
use Rattle.px_real_declarations.specs.DeclarationTree.{SpecifierTree, DeclaratorTree, array, function, declaration}
use Rattle.px_real_declaring.specs.declared.tree.Suffix.{Suffix}
use Rattle.px_real_declaring.specs.declared.tree.Suffix.TheVariants as X
use Rattle.px_real_declaring.specs.declared.tree.Declared.{Declared}
use Rattle.px_real_declaring.specs.Trees.{all_suffixed, declarator_tree, declared_tree}
use Rattle.px_real_types.specs.Scopes.{Meanings}
use Rattle.px_real_types.specs.Specifiers.{specified}
use Rattle.px_real_types.specs.Declarators.{declared_shape}
use Rattle.px_real_values.specs.Spelled.{is_starred, spelled_in}

module _ (all : List Lexeme) where
  pub starred_kept : (d : DeclaratorTree) (ss : List Suffix) → is_starred (all_suffixed all d ss) ≡ is_starred d
  starred_kept d [] = refl
  starred_kept d (X.Array site held ∷ ss) = starred_kept (array site d (held_in all held)) ss
  starred_kept d (X.Function site held ∷ ss) = starred_kept (function site d (held_in all held)) ss

-- ---- by what the code sees

pub first_true : (r a b : Bool) → r ≡ true → r ≡ a → r ≡ (a || b)
first_true r a b t h = let z : a ≡ true = sym h ∙ t in rw (z, t) refl

pub first_false : (r a b : Bool) → r ≡ false → r ≡ a → b ≡ (a || b)
first_false r a b f h = let z : a ≡ false = sym h ∙ f in rw z refl

-- ---- what is spelled by one that is declared

pub one_declared : (all : List Lexeme) (scope : Meanings) (ss : List SpecifierTree) (xs : List Declared) (x : Declared) → length xs ≡ 1 → x ≡ get_or xs 0 x →
    spelled_in scope (declaration ss (map (declared_tree all) xs)) ≡ record { shape = declared_shape (declared_tree all x) (specified scope ss); is_starred = is_starred (declarator_tree all x.declarator) }
one_declared all scope ss [] x l is = absurd (omega arith)
one_declared all scope ss (y ∷ []) x l is = ap (λ z. record { shape = declared_shape (declared_tree all z) (specified scope ss); is_starred = is_starred (declarator_tree all z.declarator) }) (sym is)
one_declared all scope ss (y ∷ z ∷ zs) x l is = absurd (omega arith)
