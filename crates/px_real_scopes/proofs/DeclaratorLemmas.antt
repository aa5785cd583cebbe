-- Whether a declarator is an array, by what stands behind it.
use Rattle.std.proofs.Common.{◌≡◌, List, [], ◌∷◌, ◌||◌, ◌&&◌, None, is_some, refl, ap, ◌∙◌}
use Rattle.px_real_expressions.specs.Lexemes.{Lexeme}
use Rattle.px_real_symbols.specs.Symbols.{held_in}
use Rattle.px_real_declarations.specs.DeclarationTree.{DeclaratorTree, array, function}
use Rattle.px_real_declaring.specs.declared.tree.Suffix.{Suffix}
use Rattle.px_real_declaring.specs.declared.tree.Suffix.TheVariants as X
use Rattle.px_real_declaring.specs.Trees.{all_suffixed}
use Rattle.px_real_types.specs.Declarators.{bare_name}
use Rattle.px_real_scopes.specs.Knowing.{is_array_of, begins_array}

module _ (all : List Lexeme) where
  array_kept : (d : DeclaratorTree) (ss : List Suffix) → bare_name d ≡ None → is_array_of (all_suffixed all d ss) ≡ is_array_of d
  array_kept d [] h = refl
  array_kept d (X.Array site held ∷ ss) h = array_kept (array site d (held_in all held)) ss refl ∙ ap (λ z. is_some z || is_array_of d) h
  array_kept d (X.Function site held ∷ ss) h = array_kept (function site d (held_in all held)) ss refl

  pub array_behind : (d : DeclaratorTree) (ss : List Suffix) → is_array_of (all_suffixed all d ss) ≡ ((begins_array ss && is_some (bare_name d)) || is_array_of d)
  array_behind d [] = refl
  array_behind d (X.Array site held ∷ ss) = array_kept (array site d (held_in all held)) ss refl
  array_behind d (X.Function site held ∷ ss) = array_kept (function site d (held_in all held)) ss refl
