-- Which words are names of types behind a declaration (C11 6.2.1, 6.7.8).
use Rattle.std.specs.Prelude.{◌≡◌, ℕ, suc, List, [], ◌∷◌, ◌++◌, map, Bool, true, false, Option, Some, None, codes, ◌||◌, if◌then◌else◌}
use Rattle.std.specs.Str.{bytes_eq}
use Rattle.px_base.specs.declared.trace.Site.{Site}
use Rattle.px_real_expressions.specs.Lexemes.{Lexeme}
use Rattle.px_real_declarations.specs.declared.role.Role.TheVariants as R
use Rattle.px_real_declarations.specs.Roles.{role_of}
use Rattle.px_real_declarations.specs.DeclarationTree.{GroupTree, SpecifierTree, keyword, tagged, DeclaratorTree, no_name, a_name, inner, pointer, array, function, DeclaredTree, DeclarationTree, declaration, assertion, EnumeratorTree}
use Rattle.px_real_declarations.specs.Grammar.{Enumerators, Members}

-- the names in scope, the nearest first, and whether each is that of a type
abbrev pub Names : Type 0
Names = List (List ℕ × Bool)

abbrev pub is_type : Names → List ℕ → Bool
is_type [] word = false
is_type (x ∷ names) word = if bytes_eq word x.0 then x.1 else is_type names word

-- the name that a declarator has
abbrev pub declared_name : DeclaratorTree → Option (List ℕ)
declared_name no_name = None
declared_name (a_name word s) = Some word
declared_name (inner s gs d) = declared_name d
declared_name (pointer s ss d) = declared_name d
declared_name (array s d held) = declared_name d
declared_name (function s d held) = declared_name d

-- whether `typedef` is among them
abbrev pub is_typedef : List SpecifierTree → Bool
is_typedef [] = false
is_typedef (keyword word s ∷ ss) = bytes_eq word (codes "typedef") || is_typedef ss
is_typedef (s ∷ ss) = is_typedef ss

abbrev pub with_name : Bool → Option (List ℕ) → Names → Names
with_name kind (Some word) names = (word, kind) ∷ names
with_name kind None names = names

abbrev pub with_declared : Bool → List DeclaredTree → Names → Names
with_declared kind [] names = names
with_declared kind (x ∷ xs) names = with_declared kind xs (with_name kind (declared_name x.declarator) names)

abbrev pub with_enumerators : List (List ℕ) → Names → Names
with_enumerators [] names = names
with_enumerators (word ∷ words) names = with_enumerators words ((word, false) ∷ names)

abbrev pub enumerator_name : EnumeratorTree → List ℕ
enumerator_name e = e.name

-- the specifiers of declarations, one after the other
abbrev pub specifiers_of : List DeclarationTree → List SpecifierTree
specifiers_of [] = []
specifiers_of (declaration ss xs ∷ ds) = ss ++ specifiers_of ds
specifiers_of (assertion g ∷ ds) = specifiers_of ds

-- whether nothing stands between braces of it
abbrev pub is_bare : SpecifierTree → Bool
is_bare (tagged word s gs tag (Some held)) = false
is_bare s = true

-- the enumerators that specifiers declare, those of members among them, where structs stand within one another so deep; it nests in
-- declarators as `n` says
pub data Enumerate (types : List ℕ → Bool) (n : ℕ) : ℕ → List SpecifierTree → List (List ℕ) → Type 0 where
  nothing : {d : ℕ} {ss : List SpecifierTree} {words : List (List ℕ)} → ss ≡ [] → words ≡ [] → Enumerate types n d ss words
  bare : {d : ℕ} {s : SpecifierTree} {ss1 ss : List SpecifierTree} {words : List (List ℕ)} → is_bare s ≡ true → Enumerate types n d ss1 words → ss ≡ s ∷ ss1 → Enumerate types n d ss words
  of_enumeration : {d : ℕ} {word : List ℕ} {s : Site} {gs : List GroupTree} {tag : Option (List ℕ)} {held : List Lexeme} {es : List EnumeratorTree} {ss1 ss : List SpecifierTree} {words1 words : List (List ℕ)} →
      role_of word ≡ R.Enumeration → Enumerators held es → Enumerate types n d ss1 words1 → ss ≡ tagged word s gs tag (Some held) ∷ ss1 → words ≡ map enumerator_name es ++ words1 → Enumerate types n d ss words
  of_record : {d d1 : ℕ} {word : List ℕ} {s : Site} {gs : List GroupTree} {tag : Option (List ℕ)} {held : List Lexeme} {ds : List DeclarationTree} {ss1 ss : List SpecifierTree} {words1 words2 words : List (List ℕ)} →
      role_of word ≡ R.Record → d ≡ suc d1 → Members types n held ds → Enumerate types n d1 (specifiers_of ds) words1 → Enumerate types n d ss1 words2 →
      ss ≡ tagged word s gs tag (Some held) ∷ ss1 → words ≡ words1 ++ words2 → Enumerate types n d ss words

-- the names behind a declaration: enumerators come into scope before what is declared (6.2.1)
pub data NamesAfter (n d : ℕ) (names : Names) : DeclarationTree → Names → Type 0 where
  of_declaration : {x : DeclarationTree} {ss : List SpecifierTree} {xs : List DeclaredTree} {words : List (List ℕ)} {after : Names} →
      x ≡ declaration ss xs → Enumerate (is_type names) n d ss words → after ≡ with_declared (is_typedef ss) xs (with_enumerators words names) → NamesAfter n d names x after
  of_assertion : {x : DeclarationTree} {g : GroupTree} {after : Names} → x ≡ assertion g → after ≡ names → NamesAfter n d names x after
