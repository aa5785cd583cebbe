-- The grammar of declarations (C11 A.2.2), with the forms of GNU C: which lexemes are which tree. Each family is a production.
use Rattle.std.specs.Prelude.{◌≡◌, ℕ, zero, suc, List, [], ◌∷◌, ◌++◌, Bool, true, false, Option, Some, None, is_some, ◌||◌, ◌&&◌, not}
use Rattle.px_real_expressions.specs.Lexemes.{Lexeme, front}
use Rattle.px_real_expressions.specs.Operators.{is_identifier}
use Rattle.px_real_expressions.specs.Grammar.{Gram, Between, IsHeld, MoreItems}
use Rattle.px_real_expressions.specs.declared.terminal.Terminal.{Terminal}
use Rattle.px_real_expressions.specs.declared.terminal.Terminal.TheVariants as T
use Rattle.px_real_declarations.specs.declared.role.Role.{Role}
use Rattle.px_real_declarations.specs.declared.role.Role.TheVariants as R
use Rattle.px_real_declarations.specs.Roles.{role, role_of, same_role, is_plain, is_basic, takes_group, takes_tag, is_qualifier, begins_keyword}
use Rattle.px_real_declarations.specs.Parts.{Part}
use Rattle.px_real_declarations.specs.DeclarationTree.{GroupTree, SpecifierTree, keyword, type_name, group, tagged, any_says, DeclaratorTree, no_name, a_name, inner, pointer, array, function, DeclaredTree, DeclarationTree, declaration, assertion, EnumeratorTree, ParametersTree, parameters, identifiers, HeadTree}

-- the words that are names of types where a declaration begins
abbrev pub Types : Type 0
Types = List ℕ → Bool

abbrev pub is_alone : Role → Bool
is_alone r = is_plain r || is_basic r

-- a keyword of this kind, and what stands in its parentheses
pub data IsGroup (kind : Role → Bool) : List Lexeme → GroupTree → Type 0 where
  is_group : {t o : Lexeme} {ts1 ts a : List Lexeme} {g : GroupTree} →
      kind (role t) ≡ true → Between T.OpenParenthesis T.CloseParenthesis IsHeld ts1 o a → ts ≡ t ∷ ts1 → g ≡ record { word = t.text; site = t.site; held = a } → IsGroup kind ts g

-- x*
pub data Many {A : Type 0} (part : Gram A) : List Lexeme → List A → Type 0 where
  no_more : {ts : List Lexeme} {xs : List A} → ts ≡ [] → xs ≡ [] → Many part ts xs
  one_more : {ts1 ts2 ts : List Lexeme} {x : A} {xs1 xs : List A} → part ts1 x → Many part ts2 xs1 → ts ≡ ts1 ++ ts2 → xs ≡ x ∷ xs1 → Many part ts xs

-- attribute*
abbrev pub Attributes : Gram (List GroupTree)
Attributes = Many (IsGroup (same_role R.Attribute))

-- ---- specifiers

-- the tag of a struct, union or enum, and what stands between its braces (6.7.2.1, 6.7.2.2)
pub data Tag : List Lexeme → Option (List ℕ) → Type 0 where
  no_tag : {ts : List Lexeme} {o : Option (List ℕ)} → ts ≡ [] → o ≡ None → Tag ts o
  a_tag : {t : Lexeme} {ts : List Lexeme} {o : Option (List ℕ)} → is_identifier t.terminal ≡ true → ts ≡ t ∷ [] → o ≡ Some t.text → Tag ts o

pub data Braces : List Lexeme → Option (List Lexeme) → Type 0 where
  no_braces : {ts : List Lexeme} {o : Option (List Lexeme)} → ts ≡ [] → o ≡ None → Braces ts o
  some_braces : {b : Lexeme} {ts a : List Lexeme} {o : Option (List Lexeme)} → Between T.OpenBrace T.CloseBrace IsHeld ts b a → o ≡ Some a → Braces ts o

-- a specifier (6.7); a word is the name of a type only where none was said before it (6.7.2)
pub data IsSpecifier (types : Types) (said : Bool) : List Lexeme → SpecifierTree → Type 0 where
  is_keyword : {t : Lexeme} {ts : List Lexeme} {s : SpecifierTree} → is_alone (role t) ≡ true → ts ≡ t ∷ [] → s ≡ keyword t.text t.site → IsSpecifier types said ts s
  is_type_name : {t : Lexeme} {ts : List Lexeme} {s : SpecifierTree} →
      said ≡ false → is_identifier t.terminal ≡ true → types t.text ≡ true → ts ≡ t ∷ [] → s ≡ type_name t.text t.site → IsSpecifier types said ts s
  is_grouped : {ts : List Lexeme} {g : GroupTree} {s : SpecifierTree} → IsGroup takes_group ts g → s ≡ group g → IsSpecifier types said ts s
  is_tagged : {t : Lexeme} {ts1 ts2 ts3 ts : List Lexeme} {gs : List GroupTree} {tag : Option (List ℕ)} {held : Option (List Lexeme)} {s : SpecifierTree} →
      takes_tag (role t) ≡ true → Attributes ts1 gs → Tag ts2 tag → Braces ts3 held → (is_some tag || is_some held) ≡ true →
      ts ≡ t ∷ ts1 ++ (ts2 ++ ts3) → s ≡ tagged t.text t.site gs tag held → IsSpecifier types said ts s

-- specifier*, where one before them may have said a type
pub data Specifiers (types : Types) : Bool → List Lexeme → List SpecifierTree → Type 0 where
  no_specifier : {said : Bool} {ts : List Lexeme} {ss : List SpecifierTree} → ts ≡ [] → ss ≡ [] → Specifiers types said ts ss
  one_specifier : {said : Bool} {ts1 ts2 ts : List Lexeme} {s : SpecifierTree} {ss1 ss : List SpecifierTree} →
      IsSpecifier types said ts1 s → Specifiers types (any_says said (s ∷ [])) ts2 ss1 → ts ≡ ts1 ++ ts2 → ss ≡ s ∷ ss1 → Specifiers types said ts ss

abbrev pub begins_specifier : Types → Bool → Lexeme → Bool
begins_specifier types said t = begins_keyword (role t) || (not said && (is_identifier t.terminal && types t.text))

-- whether the first token is such a one
abbrev pub begins_with : (Lexeme → Bool) → List Lexeme → Bool
begins_with is [] = false
begins_with is (t ∷ ts) = is t

-- whether it is `_Atomic` alone, and whether the last is
abbrev pub is_atomic : SpecifierTree → Bool
is_atomic (keyword word s) = same_role R.Atomic (role_of word)
is_atomic _ = false

abbrev pub ends_in_atomic : List SpecifierTree → Bool
ends_in_atomic [] = false
ends_in_atomic (s ∷ []) = is_atomic s
ends_in_atomic (s ∷ s1 ∷ ss) = ends_in_atomic (s1 ∷ ss)

-- specifiers go on as long as they can; and `_Atomic` before a parenthesis says a type (6.7.2.4)
pub record EndBefore (types : Types) (ss : List SpecifierTree) (rest : List Lexeme) : Type 0 where
  pub none_begins : begins_with (begins_specifier types (any_says false ss)) rest ≡ false
  pub no_group : ends_in_atomic ss ≡ true → front T.OpenParenthesis rest ≡ None

-- ---- declarators

-- a qualifier, or an attribute, behind a star (6.7.6.1)
pub data IsQualifier : List Lexeme → SpecifierTree → Type 0 where
  is_word : {t : Lexeme} {ts : List Lexeme} {s : SpecifierTree} → is_qualifier (role t) ≡ true → ts ≡ t ∷ [] → s ≡ keyword t.text t.site → IsQualifier ts s
  is_attribute_of : {ts : List Lexeme} {g : GroupTree} {s : SpecifierTree} → IsGroup (same_role R.Attribute) ts g → s ≡ group g → IsQualifier ts s

abbrev pub Qualifiers : Gram (List SpecifierTree)
Qualifiers = Many IsQualifier

-- whether what stands behind a parenthesis, where a name may be missing, is a list of parameters (6.7.6.3)
abbrev pub begins_parameters : Types → List Lexeme → Bool
begins_parameters types [] = true
begins_parameters types (t ∷ ts) = begins_specifier types false t

-- attribute* declarator, in parentheses
pub data Inner (inside : Gram DeclaratorTree) : List Lexeme → List GroupTree → DeclaratorTree → Type 0 where
  is_inside : {ts1 ts2 ts : List Lexeme} {gs : List GroupTree} {d : DeclaratorTree} → Attributes ts1 gs → inside ts2 d → ts ≡ ts1 ++ ts2 → Inner inside ts gs d

-- what a direct-declarator begins with (6.7.6); in a type's name and in a parameter the name may be missing (6.7.7)
pub data Core (types : Types) (may_miss : Bool) (inside : Gram DeclaratorTree) : List Lexeme → DeclaratorTree → Type 0 where
  is_name : {t : Lexeme} {ts : List Lexeme} {d : DeclaratorTree} → is_identifier t.terminal ≡ true → ts ≡ t ∷ [] → d ≡ a_name t.text t.site → Core types may_miss inside ts d
  is_inner : {o : Lexeme} (c : Lexeme) {ts1 ts : List Lexeme} {gs : List GroupTree} {d1 d : DeclaratorTree} →
      o.terminal ≡ T.OpenParenthesis → (may_miss ≡ true → begins_parameters types ts1 ≡ false) → Inner inside ts1 gs d1 → c.terminal ≡ T.CloseParenthesis →
      ts ≡ o ∷ ts1 ++ c ∷ [] → d ≡ inner o.site gs d1 → Core types may_miss inside ts d
  is_nothing : {ts : List Lexeme} {d : DeclaratorTree} → may_miss ≡ true → ts ≡ [] → d ≡ no_name → Core types may_miss inside ts d

-- what stands behind it, after what stands to the left
pub data Behind (types : Types) : DeclaratorTree → List Lexeme → DeclaratorTree → Type 0 where
  nothing_behind : {left d : DeclaratorTree} {ts : List Lexeme} → ts ≡ [] → d ≡ left → Behind types left ts d
  an_array : {left d : DeclaratorTree} {o : Lexeme} {ts1 ts2 ts a : List Lexeme} →
      Between T.OpenBracket T.CloseBracket IsHeld ts1 o a → Behind types (array o.site left a) ts2 d → ts ≡ ts1 ++ ts2 → Behind types left ts d
  a_function : {left d : DeclaratorTree} {o : Lexeme} {ts1 ts2 ts a : List Lexeme} →
      Between T.OpenParenthesis T.CloseParenthesis IsHeld ts1 o a → (left ≡ no_name → begins_parameters types a ≡ true) → Behind types (function o.site left a) ts2 d → ts ≡ ts1 ++ ts2 → Behind types left ts d

-- * qualifier* declarator, or a direct-declarator
pub data DeclaratorOf (types : Types) (may_miss : Bool) (inside : Gram DeclaratorTree) : List Lexeme → DeclaratorTree → Type 0 where
  is_pointer : {t : Lexeme} {ts1 ts2 ts : List Lexeme} {ss : List SpecifierTree} {d1 d : DeclaratorTree} →
      t.terminal ≡ T.Star → Qualifiers ts1 ss → inside ts2 d1 → ts ≡ t ∷ ts1 ++ ts2 → d ≡ pointer t.site ss d1 → DeclaratorOf types may_miss inside ts d
  is_direct : {ts1 ts2 ts : List Lexeme} {d1 d : DeclaratorTree} → Core types may_miss inside ts1 d1 → Behind types d1 ts2 d → ts ≡ ts1 ++ ts2 → DeclaratorOf types may_miss inside ts d

abbrev pub no_declarator : Gram DeclaratorTree
no_declarator ts d = ⊥

-- a declarator, in which so many parentheses and stars stand within one another
unfoldable pub IsDeclarator : Types → Bool → ℕ → Gram DeclaratorTree
IsDeclarator types may_miss zero = no_declarator
IsDeclarator types may_miss (suc n) = DeclaratorOf types may_miss (IsDeclarator types may_miss n)

-- ---- declarations

-- asm ( held )?
pub data Label : List Lexeme → Option GroupTree → Type 0 where
  no_label : {ts : List Lexeme} {o : Option GroupTree} → ts ≡ [] → o ≡ None → Label ts o
  a_label : {ts : List Lexeme} {g : GroupTree} {o : Option GroupTree} → IsGroup (same_role R.Assembler) ts g → o ≡ Some g → Label ts o

-- what stands behind `=` or `:`, if it is there
pub data Value (mark : Terminal) : List Lexeme → Option (List Lexeme) → Type 0 where
  no_value : {ts : List Lexeme} {o : Option (List Lexeme)} → ts ≡ [] → o ≡ None → Value mark ts o
  a_value : {t : Lexeme} {ts1 ts : List Lexeme} {o : Option (List Lexeme)} → t.terminal ≡ mark → Part ts1 → ts ≡ t ∷ ts1 → o ≡ Some ts1 → Value mark ts o

-- attribute* declarator label? attribute* value? (6.7, 6.7.2.1)
pub data IsDeclared (types : Types) (n : ℕ) (mark : Terminal) : List Lexeme → DeclaredTree → Type 0 where
  is_declared : {ts1 : List Lexeme} (ts2 : List Lexeme) {ts3 ts4 ts5 ts : List Lexeme} {gs hs : List GroupTree} {d : DeclaratorTree} {l : Option GroupTree} {v : Option (List Lexeme)} {x : DeclaredTree} →
      Attributes ts1 gs → IsDeclarator types false n ts2 d → Label ts3 l → Attributes ts4 hs → Value mark ts5 v → ts ≡ ts1 ++ (ts2 ++ (ts3 ++ (ts4 ++ ts5))) →
      x ≡ record { before = gs; declarator = d; label = l; after = hs; value = v } → IsDeclared types n mark ts x

-- a member, which may be a width alone (6.7.2.1)
pub data IsMember (types : Types) (n : ℕ) : List Lexeme → DeclaredTree → Type 0 where
  is_member : {ts : List Lexeme} {x : DeclaredTree} → IsDeclared types n T.Colon ts x → IsMember types n ts x
  is_width : {t : Lexeme} {ts1 ts : List Lexeme} {x : DeclaredTree} →
      t.terminal ≡ T.Colon → Part ts1 → ts ≡ t ∷ ts1 → x ≡ record { before = []; declarator = no_name; label = None; after = []; value = Some ts1 } → IsMember types n ts x

-- x (, x)*, or nothing
pub data Listed {A : Type 0} (part : Gram A) : List Lexeme → List A → Type 0 where
  none_listed : {ts : List Lexeme} {xs : List A} → ts ≡ [] → xs ≡ [] → Listed part ts xs
  some_listed : {ts1 ts2 ts : List Lexeme} {x : A} {xs1 xs : List A} → part ts1 x → MoreItems part ts2 xs1 → ts ≡ ts1 ++ ts2 → xs ≡ x ∷ xs1 → Listed part ts xs

-- specifiers and what they are of, without the semicolon; or an assertion (6.7, 6.7.10)
pub data DeclarationOf (types : Types) (part : Gram DeclaredTree) : List Lexeme → DeclarationTree → Type 0 where
  is_declaration : {ts1 ts2 ts : List Lexeme} {s : SpecifierTree} {ss : List SpecifierTree} {xs : List DeclaredTree} {d : DeclarationTree} →
      Specifiers types false ts1 (s ∷ ss) → EndBefore types (s ∷ ss) ts2 → Listed part ts2 xs → ts ≡ ts1 ++ ts2 → d ≡ declaration (s ∷ ss) xs → DeclarationOf types part ts d
  is_assertion_of : {ts : List Lexeme} {g : GroupTree} {d : DeclarationTree} → IsGroup (same_role R.Assertion) ts g → d ≡ assertion g → DeclarationOf types part ts d

-- a declaration, and one of members, where so many parentheses and stars may stand within one another in a declarator
abbrev pub IsDeclaration : Types → ℕ → Gram DeclarationTree
IsDeclaration types n = DeclarationOf types (IsDeclared types n T.Equal)

abbrev pub IsMemberDeclaration : Types → ℕ → Gram DeclarationTree
IsMemberDeclaration types n = DeclarationOf types (IsMember types n)

-- whether it ends in a star behind which no name stands: an attribute that follows is the star's (6.7.6.1)
abbrev pub ends_in_star : DeclaratorTree → Bool
ends_in_star (pointer s ss no_name) = true
ends_in_star (pointer s ss d) = ends_in_star d
ends_in_star _ = false

-- a parameter (6.7.6.3): specifiers, and a declarator whose name may be missing
pub data IsParameter (types : Types) (n : ℕ) : List Lexeme → DeclarationTree → Type 0 where
  is_parameter : {ts1 : List Lexeme} (ts2 : List Lexeme) {ts3 ts : List Lexeme} {s : SpecifierTree} {ss : List SpecifierTree} {gs : List GroupTree} {d : DeclaratorTree} {p : DeclarationTree} →
      Specifiers types false ts1 (s ∷ ss) → EndBefore types (s ∷ ss) (ts2 ++ ts3) → IsDeclarator types true n ts2 d → Attributes ts3 gs → (ends_in_star d ≡ true → gs ≡ []) → ts ≡ ts1 ++ (ts2 ++ ts3) →
      p ≡ declaration (s ∷ ss) (record { before = []; declarator = d; label = None; after = gs; value = None } ∷ []) → IsParameter types n ts p

-- ---- what is held in declarations

-- identifier attribute* value? (6.7.2.2)
pub data IsEnumerator : List Lexeme → EnumeratorTree → Type 0 where
  is_enumerator : {t : Lexeme} {ts1 ts2 ts : List Lexeme} {gs : List GroupTree} {v : Option (List Lexeme)} {e : EnumeratorTree} →
      is_identifier t.terminal ≡ true → Attributes ts1 gs → Value T.Equal ts2 v → ts ≡ t ∷ ts1 ++ ts2 → e ≡ record { name = t.text; site = t.site; attributes = gs; value = v } → IsEnumerator ts e

-- enumerators with commas between, and one behind the last or not
pub data Enumerators : List Lexeme → List EnumeratorTree → Type 0 where
  are_enumerators : {ts : List Lexeme} {es : List EnumeratorTree} → Listed IsEnumerator ts es → Enumerators ts es
  and_a_comma : (c : Lexeme) {ts1 ts : List Lexeme} {e : EnumeratorTree} {es1 es : List EnumeratorTree} → Listed IsEnumerator ts1 (e ∷ es1) → c.terminal ≡ T.Comma → ts ≡ ts1 ++ c ∷ [] → es ≡ e ∷ es1 → Enumerators ts es

-- declarations with a semicolon behind each, and semicolons alone or not
pub data Lines (alone : Bool) (part : Gram DeclarationTree) : List Lexeme → List DeclarationTree → Type 0 where
  no_line : {ts : List Lexeme} {ds : List DeclarationTree} → ts ≡ [] → ds ≡ [] → Lines alone part ts ds
  an_empty_line : {t : Lexeme} {ts1 ts : List Lexeme} {ds : List DeclarationTree} → alone ≡ true → t.terminal ≡ T.Semicolon → Lines alone part ts1 ds → ts ≡ t ∷ ts1 → Lines alone part ts ds
  a_line : (e : Lexeme) {ts1 ts2 ts : List Lexeme} {d : DeclarationTree} {ds1 ds : List DeclarationTree} →
      part ts1 d → e.terminal ≡ T.Semicolon → Lines alone part ts2 ds1 → ts ≡ ts1 ++ e ∷ ts2 → ds ≡ d ∷ ds1 → Lines alone part ts ds

-- what stands between the braces of a struct or union (6.7.2.1): the names of types are those where it begins
abbrev pub Members : Types → ℕ → Gram (List DeclarationTree)
Members types n = Lines true (IsMemberDeclaration types n)

-- (, ...)?
pub data Variadic : List Lexeme → Bool → Type 0 where
  not_variadic : {ts : List Lexeme} {b : Bool} → ts ≡ [] → b ≡ false → Variadic ts b
  is_variadic : {c t : Lexeme} {ts : List Lexeme} {b : Bool} → c.terminal ≡ T.Comma → role t ≡ R.Ellipsis → ts ≡ c ∷ t ∷ [] → b ≡ true → Variadic ts b

-- a name that is no type's
pub data IsOther (types : Types) : List Lexeme → List ℕ → Type 0 where
  is_other : {t : Lexeme} {ts : List Lexeme} {w : List ℕ} → is_identifier t.terminal ≡ true → types t.text ≡ false → ts ≡ t ∷ [] → w ≡ t.text → IsOther types ts w

-- what stands between the parentheses behind a declarator (6.7.6.3): parameters, or names alone where the first is no type's
pub data Parameters (types : Types) (n : ℕ) : List Lexeme → ParametersTree → Type 0 where
  no_parameters : {ts : List Lexeme} {p : ParametersTree} → ts ≡ [] → p ≡ identifiers [] → Parameters types n ts p
  are_parameters : {ts1 ts2 ts : List Lexeme} {d : DeclarationTree} {ds : List DeclarationTree} {b : Bool} {p : ParametersTree} →
      Listed (IsParameter types n) ts1 (d ∷ ds) → Variadic ts2 b → ts ≡ ts1 ++ ts2 → p ≡ parameters (d ∷ ds) b → Parameters types n ts p
  are_names : {ts : List Lexeme} {w : List ℕ} {ws : List (List ℕ)} {p : ParametersTree} → Listed (IsOther types) ts (w ∷ ws) → p ≡ identifiers (w ∷ ws) → Parameters types n ts p

-- ---- functions

-- what stands before a function's body (6.9.1): specifiers, a declarator, and in an old-style definition declarations of its parameters
pub data IsHead (types : Types) (n : ℕ) : List Lexeme → HeadTree → Type 0 where
  is_head : {ts1 : List Lexeme} (ts2 : List Lexeme) {ts3 ts : List Lexeme} {s : SpecifierTree} {ss : List SpecifierTree} {d : DeclaratorTree} {ds : List DeclarationTree} {h : HeadTree} →
      Specifiers types false ts1 (s ∷ ss) → EndBefore types (s ∷ ss) (ts2 ++ ts3) → IsDeclarator types false n ts2 d → Lines false (IsDeclaration types n) ts3 ds → ts ≡ ts1 ++ (ts2 ++ ts3) →
      h ≡ record { specifiers = s ∷ ss; declarator = d; declarations = ds } → IsHead types n ts h
