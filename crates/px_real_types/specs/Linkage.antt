-- What a declaration says of the names of functions beside their types (C11 6.2.2, and GNU C's attributes).
use Rattle.std.specs.Prelude.{ℕ, List, [], ◌∷◌, ◌++◌, Bool, true, false, Option, Some, None, is_some, ◌||◌, if◌then◌else◌}
use Rattle.px_real_declarations.specs.DeclarationTree.{SpecifierTree, keyword, group, DeclaratorTree, no_name, a_name, inner, pointer, array, function, DeclaredTree, DeclarationTree, declaration, assertion}
use Rattle.px_real_declarations.specs.Names.{declared_name}
use Rattle.px_real_types.specs.declared.words.Mark.TheVariants as M
use Rattle.px_real_types.specs.Words.{is_static_word}
use Rattle.px_real_types.specs.Scopes.{any_marks}
use Rattle.px_real_types.specs.Specifiers.{groups_mark}

-- whether `static` is among them
abbrev pub is_static : SpecifierTree → Bool
is_static (keyword word site) = is_static_word word
is_static _ = false

abbrev pub says_static : List SpecifierTree → Bool
says_static [] = false
says_static (s ∷ ss) = if is_static s then true else says_static ss

-- whether an attribute among them makes weak
abbrev pub weakens : SpecifierTree → Bool
weakens (group g) = any_marks M.Weakens g.held
weakens _ = false

abbrev pub any_weakens : List SpecifierTree → Bool
any_weakens [] = false
any_weakens (s ∷ ss) = if weakens s then true else any_weakens ss

-- whether one within the declarator does
abbrev pub declarator_weakens : DeclaratorTree → Bool
declarator_weakens no_name = false
declarator_weakens (a_name word site) = false
declarator_weakens (inner site gs d) = groups_mark M.Weakens gs || declarator_weakens d
declarator_weakens (pointer site ss d) = any_weakens ss || declarator_weakens d
declarator_weakens (array site d held) = declarator_weakens d
declarator_weakens (function site d held) = declarator_weakens d

-- whether it is weak or another's, or has an assembler name
abbrev pub is_weak : Bool → DeclaredTree → Bool
is_weak all x = all || (is_some x.label || ((groups_mark M.Weakens x.before || groups_mark M.Weakens x.after) || declarator_weakens x.declarator))

abbrev pub listed_name : Option (List ℕ) → List (List ℕ)
listed_name (Some word) = word ∷ []
listed_name None = []

abbrev pub weak_name : Bool → DeclaredTree → List (List ℕ)
weak_name all x = if is_weak all x then listed_name (declared_name x.declarator) else []

abbrev pub weak_among : Bool → List DeclaredTree → List (List ℕ)
weak_among all [] = []
weak_among all (x ∷ xs) = weak_name all x ++ weak_among all xs

-- the names that a declaration makes weak
abbrev pub weak_names : DeclarationTree → List (List ℕ)
weak_names (declaration ss xs) = weak_among (any_weakens ss) xs
weak_names (assertion g) = []
