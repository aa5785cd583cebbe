-- The names behind a declaration, as the code says them.
use Rattle.std.specs.Prelude.{◌≡◌, ℕ, List, [], ◌∷◌, map, reverse, Bool, false, None, codes, Result, Ok, Err}
use Rattle.std.specs.Str.{bytes_eq}
use Rattle.px_real_declarations.specs.DeclarationTree.{SpecifierTree, keyword, DeclaratorTree, DeclaredTree, DeclarationTree, declaration, HeadTree}
use Rattle.px_real_declarations.specs.Names.{Names, NamesAfter}
use Rattle.px_real_declaring.specs.declared.reading.DeclarationFault.{DeclarationFault}
use Rattle.px_real_declaring.specs.declared.reading.DeclarationFault.TheVariants as D
use Rattle.px_real_declaring.specs.Items.{nesting_limit}
use Rattle.px_real_names.specs.declared.names.Entry.{Entry}
use Rattle.px_real_names.specs.Enumerated.{struct_limit}

abbrev pub entry_view : Entry → List ℕ × Bool
entry_view e = (e.name, e.is_type)

-- the nearest first
abbrev pub names_view : List Entry → Names
names_view entries = reverse (map entry_view entries)

-- whether it is the word `typedef`
abbrev pub is_typedef_word : SpecifierTree → Bool
is_typedef_word (keyword word s) = bytes_eq word (codes "typedef")
is_typedef_word _ = false

-- what is in scope behind a declaration, where structs and declarators nest no deeper than they are read
abbrev pub Leaves : Names → DeclarationTree → Names → Type 0
Leaves = NamesAfter nesting_limit struct_limit

-- unless memory ran out, nothing is, and what was in scope still is
abbrev pub LeavesNone : Names → DeclarationTree → Names → DeclarationFault → Type 0
LeavesNone names x after D.NoMemory = Unit {0}
LeavesNone names x after e = ((other : Names) → Leaves names x other → ⊥) × (after ≡ names)

abbrev pub IsBehind : Names → DeclarationTree → Names → Result Unit DeclarationFault → Type 0
IsBehind names x after (Ok u) = Leaves names x after
IsBehind names x after (Err e) = LeavesNone names x after e

-- a declarator alone
abbrev pub alone : DeclaratorTree → DeclaredTree
alone d = record { before = []; declarator = d; label = None; after = []; value = None }

-- what a function's head declares: one thing, as a declaration with its specifiers and its declarator would
abbrev pub of_head : HeadTree → DeclarationTree
of_head h = declaration h.specifiers (alone h.declarator ∷ [])
