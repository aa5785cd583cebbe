-- Declarations that were worked by hand: what is in scope behind them.
use Rattle.std.specs.Prelude.{◌≡◌, ℕ, List, [], ◌∷◌, Bool, true, false, Some, None, codes}
use Rattle.px_real_expressions.specs.declared.terminal.Terminal.TheVariants as T
use Rattle.px_real_expressions.specs.Lexemes.{Lexeme}
use Rattle.px_real_declarations.specs.DeclarationTree.{SpecifierTree, keyword, type_name, tagged, DeclaratorTree, a_name, inner, pointer, array, function, DeclarationTree, declaration, HeadTree}
use Rattle.px_real_declarations.specs.WorkedDeclarations.{column, sign, alone}
use Rattle.px_real_types.specs.declared.shape.Base.TheVariants as B
use Rattle.px_real_types.specs.declared.shape.Shape.TheVariants as S
use Rattle.px_real_types.specs.declared.shape.ProfileType.{ProfileType}
use Rattle.px_real_types.specs.declared.known.Known.TheVariants as K
use Rattle.px_real_types.specs.declared.known.Member.{Member}
use Rattle.px_real_types.specs.declared.known.Member.TheVariants as N
use Rattle.px_real_types.specs.Types.{int, struct, pointer_to, unknown, known}
use Rattle.px_real_scopes.specs.Scopes.{FunctionTree, a_type, an_enumerator, an_object, a_function, a_record, an_enumeration, BindingTree, begins_block, of_name, of_tag, of_place, NamedTree, DefinitionTree, Scopes, nothing_in_scope}
use Rattle.px_real_scopes.specs.Lookups.{entered, left}
use Rattle.px_real_scopes.specs.Entering.{in_turn}
use Rattle.px_real_scopes.specs.Behind.{behind, behind_head, behind_parameters, with_local}

-- ---- tokens

abbrev pub name_at : List ℕ → ℕ → Lexeme
name_at text n = record { terminal = T.Name; site = column n; text = text; value = None }

abbrev pub keyword_at : List ℕ → ℕ → Lexeme
keyword_at text n = record { terminal = T.Type; site = column n; text = text; value = None }

abbrev pub constant_at : ℕ → ℕ → Lexeme
constant_at value n = record { terminal = T.Constant; site = column n; text = []; value = Some value }

-- ---- trees

abbrev pub int_word : SpecifierTree
int_word = keyword (codes "int") (column 1)

abbrev pub char_word : SpecifierTree
char_word = keyword (codes "char") (column 1)

abbrev pub typedef_word : SpecifierTree
typedef_word = keyword (codes "typedef") (column 1)

-- `struct`, `union` or `enum` with a tag, or with what stands between its braces
abbrev pub of_its_tag : List ℕ → List ℕ → SpecifierTree
of_its_tag word tag = tagged word (column 9) [] (Some tag) None

abbrev pub of_braces : List ℕ → List ℕ → List Lexeme → SpecifierTree
of_braces word tag held = tagged word (column 9) [] (Some tag) (Some held)

abbrev pub a_word : List ℕ → DeclaratorTree
a_word name = a_name name (column 30)

abbrev pub a_star : DeclaratorTree → DeclaratorTree
a_star d = pointer (column 29) [] d

abbrev pub brackets : DeclaratorTree → DeclaratorTree
brackets d = array (column 31) d []

abbrev pub takes : DeclaratorTree → List Lexeme → DeclaratorTree
takes d held = function (column 31) d held

abbrev pub declares : SpecifierTree → DeclaratorTree → DeclarationTree
declares s d = declaration (s ∷ []) (alone d ∷ [])

-- ---- what is in scope behind declarations, one after the other

abbrev pub Leave : List DeclarationTree → List BindingTree → List Bool → List DefinitionTree → Type 0
Leave ds bs rs fs = in_turn behind (nothing_in_scope []) ds ≡ Some (record { bindings = bs; records = rs; definitions = fs; hidden = [] })

abbrev pub a_member : List ℕ → Member → NamedTree
a_member name m = record { name = name; member = m }

abbrev pub pointed : ProfileType
pointed = pointer_to (struct 0)

-- `{ int v; struct s *n; char c; int a[2]; }`
abbrev pub in_struct : List Lexeme
in_struct =
    keyword_at (codes "int") 18 ∷ name_at (codes "v") 22 ∷ sign T.Semicolon 23 ∷
    keyword_at (codes "struct") 25 ∷ name_at (codes "s") 32 ∷ sign T.Star 34 ∷ name_at (codes "n") 35 ∷ sign T.Semicolon 36 ∷
    keyword_at (codes "char") 38 ∷ name_at (codes "c") 43 ∷ sign T.Semicolon 44 ∷
    keyword_at (codes "int") 46 ∷ name_at (codes "a") 50 ∷ sign T.OpenBracket 51 ∷ constant_at 2 52 ∷ sign T.CloseBracket 53 ∷ sign T.Semicolon 54 ∷ []

abbrev pub members : List NamedTree
members =
    a_member (codes "v") (N.Cell 0 int) ∷ a_member (codes "n") (N.Cell 1 pointed) ∷ a_member (codes "c") (N.Other unknown) ∷
    a_member (codes "a") (N.Other (K.Seen (S.Array B.Int 0))) ∷ []

abbrev pub the_struct : SpecifierTree
the_struct = of_braces (codes "struct") (codes "s") in_struct

-- `struct { int x; union { int y; char z; }; int w : 3; } d`
abbrev pub in_nameless : List Lexeme
in_nameless =
    keyword_at (codes "int") 10 ∷ name_at (codes "x") 14 ∷ sign T.Semicolon 15 ∷
    keyword_at (codes "union") 17 ∷ sign T.OpenBrace 23 ∷ keyword_at (codes "int") 25 ∷ name_at (codes "y") 29 ∷ sign T.Semicolon 30 ∷
    keyword_at (codes "char") 32 ∷ name_at (codes "z") 37 ∷ sign T.Semicolon 38 ∷ sign T.CloseBrace 40 ∷ sign T.Semicolon 41 ∷
    keyword_at (codes "int") 43 ∷ name_at (codes "w") 52 ∷ sign T.Colon 54 ∷ constant_at 3 56 ∷ sign T.Semicolon 57 ∷ []

abbrev pub nameless : SpecifierTree
nameless = tagged (codes "struct") (column 1) [] None (Some in_nameless)

pub record Structs : Type 0 where
  -- `struct s { .. };` and `typedef struct s { .. } T;`
  pub defined : Leave (declaration (the_struct ∷ []) [] ∷ []) (of_tag (codes "s") (a_record 0) ∷ []) (true ∷ []) (record { number = 0; members = members } ∷ [])
  pub with_typedef : Leave (declaration (typedef_word ∷ the_struct ∷ []) (alone (a_word (codes "T")) ∷ []) ∷ [])
      (of_name (codes "T") (a_type (known (struct 0))) ∷ of_tag (codes "s") (a_record 0) ∷ []) (true ∷ []) (record { number = 0; members = members } ∷ [])
  -- `struct s;` and then `struct s { .. } *p;`
  pub defined_later : Leave (declaration (of_its_tag (codes "struct") (codes "s") ∷ []) [] ∷ declares the_struct (a_star (a_word (codes "p"))) ∷ [])
      (of_name (codes "p") (an_object (known pointed) (codes "struct")) ∷ of_tag (codes "s") (a_record 0) ∷ []) (true ∷ []) (record { number = 0; members = members } ∷ [])
  -- `struct s *p;` declares the tag where none is declared, and `struct s x;` then means the same
  pub by_mention : Leave (declares (of_its_tag (codes "struct") (codes "s")) (a_star (a_word (codes "p"))) ∷ declares (of_its_tag (codes "struct") (codes "s")) (a_word (codes "x")) ∷ [])
      (of_name (codes "x") (an_object (known (struct 0)) (codes "struct")) ∷ of_name (codes "p") (an_object (known pointed) (codes "struct")) ∷ of_tag (codes "s") (a_record 0) ∷ [])
      (true ∷ []) []
  -- of a member without a name its members are members, and no cells; a bit-field is no cell
  pub without_a_name : Leave (declares nameless (a_word (codes "d")) ∷ [])
      (of_name (codes "d") (an_object (known (struct 0)) (codes "struct")) ∷ of_place (column 17) 1 ∷ of_place (column 1) 0 ∷ []) (true ∷ false ∷ [])
      (record { number = 0; members = a_member (codes "x") (N.Cell 0 int) ∷ a_member (codes "y") (N.Other (known int)) ∷ a_member (codes "z") (N.Other unknown) ∷ a_member (codes "w") (N.Other (known int)) ∷ [] } ∷
      record { number = 1; members = a_member (codes "y") (N.Other (known int)) ∷ a_member (codes "z") (N.Other unknown) ∷ [] } ∷ [])
  -- what stands between the braces is no member
  pub unread : in_turn behind (nothing_in_scope []) (declaration (of_braces (codes "struct") (codes "s") (sign T.Star 10 ∷ []) ∷ []) [] ∷ []) ≡ None

-- ---- enumerations

-- `{ A, B = 10, C, D = -1, E }`
abbrev pub in_enumeration : List Lexeme
in_enumeration =
    name_at (codes "A") 10 ∷ sign T.Comma 11 ∷ name_at (codes "B") 13 ∷ sign T.Equal 15 ∷ constant_at 10 17 ∷ sign T.Comma 19 ∷ name_at (codes "C") 21 ∷ sign T.Comma 22 ∷
    name_at (codes "D") 24 ∷ sign T.Equal 26 ∷ sign T.Minus 28 ∷ constant_at 1 29 ∷ sign T.Comma 30 ∷ name_at (codes "E") 32 ∷ []

-- `{ A = 2147483647, B }`
abbrev pub at_the_end : List Lexeme
at_the_end = name_at (codes "A") 10 ∷ sign T.Equal 12 ∷ constant_at 2147483647 14 ∷ sign T.Comma 24 ∷ name_at (codes "B") 26 ∷ []

pub record Enumerations : Type 0 where
  pub counted : Leave (declares (of_braces (codes "enum") (codes "e") in_enumeration) (a_word (codes "x")) ∷ [])
      (of_name (codes "x") (an_object unknown (codes "enum")) ∷ of_name (codes "E") (an_enumerator None) ∷ of_name (codes "D") (an_enumerator None) ∷ of_name (codes "C") (an_enumerator (Some 11)) ∷
      of_name (codes "B") (an_enumerator (Some 10)) ∷ of_name (codes "A") (an_enumerator (Some 0)) ∷ of_tag (codes "e") an_enumeration ∷ []) [] []
  pub not_beyond_int : Leave (declaration (tagged (codes "enum") (column 1) [] None (Some at_the_end) ∷ []) [] ∷ [])
      (of_name (codes "B") (an_enumerator None) ∷ of_name (codes "A") (an_enumerator (Some 2147483647)) ∷ []) [] []

-- ---- names

-- `(int, char *c, ...)` and `(void)`
abbrev pub a_list : List Lexeme
a_list =
    keyword_at (codes "int") 32 ∷ sign T.Comma 35 ∷ keyword_at (codes "char") 37 ∷ sign T.Star 42 ∷ name_at (codes "c") 43 ∷ sign T.Comma 44 ∷
    record { terminal = T.Outside; site = column 46; text = codes "..."; value = None } ∷ []

abbrev pub void_list : List Lexeme
void_list = keyword_at (codes "void") 32 ∷ []

abbrev pub Declares : DeclarationTree → FunctionTree → Type 0
Declares t f = in_turn behind (nothing_in_scope []) (t ∷ []) ≡ Some (record (nothing_in_scope []) { bindings = of_name (codes "f") (a_function f (codes "int")) ∷ [] })

pub record Names : Type 0 where
  -- `int x;` `const char *b[2];` `int a[2];` `static y;`
  pub objects : Leave
      (declares int_word (a_word (codes "x")) ∷ declaration (keyword (codes "const") (column 1) ∷ char_word ∷ []) (alone (a_star (brackets (a_word (codes "b")))) ∷ []) ∷
      declares int_word (brackets (a_word (codes "a"))) ∷ declares (keyword (codes "static") (column 1)) (a_word (codes "y")) ∷ [])
      (of_name (codes "y") (an_object unknown (codes "int")) ∷ of_name (codes "a") (an_object (K.Seen (S.Array B.Int 0)) (codes "int")) ∷
      of_name (codes "b") (an_object K.Array (codes "char")) ∷ of_name (codes "x") (an_object (known int) (codes "int")) ∷ []) [] []
  -- `int f(int, char *c, ...);` `int f(void);` `int f();` `int *f(void);`
  pub a_prototype : Declares (declares int_word (takes (a_word (codes "f")) a_list)) (record { parameters = Some int ∷ None ∷ []; takes_more = true; result = Some int })
  pub of_nothing : Declares (declares int_word (takes (a_word (codes "f")) void_list)) (record { parameters = []; takes_more = false; result = Some int })
  pub of_anything : Declares (declares int_word (takes (a_word (codes "f")) [])) (record { parameters = []; takes_more = true; result = Some int })
  pub gives_a_pointer : Declares (declares int_word (a_star (takes (a_word (codes "f")) void_list))) (record { parameters = []; takes_more = false; result = Some (pointer_to int) })
  -- `int (*q)(void);` is no function
  pub a_pointer : Leave (declares int_word (takes (inner (column 28) [] (a_star (a_word (codes "q")))) void_list) ∷ []) (of_name (codes "q") (an_object unknown (codes "int")) ∷ []) [] []
  -- `typedef union u U; U x;` and `typedef char B[2]; B y;`
  pub of_a_union : Leave (declaration (typedef_word ∷ of_its_tag (codes "union") (codes "u") ∷ []) (alone (a_word (codes "U")) ∷ []) ∷ declares (type_name (codes "U") (column 1)) (a_word (codes "x")) ∷ [])
      (of_name (codes "x") (an_object (K.Record 0) (codes "U")) ∷ of_name (codes "U") (a_type (K.Record 0)) ∷ of_tag (codes "u") (a_record 0) ∷ []) (false ∷ []) []
  pub of_an_array : Leave (declaration (typedef_word ∷ char_word ∷ []) (alone (brackets (a_word (codes "B"))) ∷ []) ∷ declares (type_name (codes "B") (column 1)) (a_word (codes "y")) ∷ [])
      (of_name (codes "y") (an_object K.Array (codes "B")) ∷ of_name (codes "B") (a_type K.Array) ∷ []) [] []

-- ---- functions that are defined

-- `int f(a, b) char b;`
abbrev pub old_head : HeadTree
old_head = record {
  specifiers = int_word ∷ [];
  declarator = takes (a_word (codes "f")) (name_at (codes "a") 32 ∷ sign T.Comma 33 ∷ name_at (codes "b") 35 ∷ []);
  declarations = declares char_word (a_word (codes "b")) ∷ [];
}

-- `int f()`
abbrev pub empty_head : HeadTree
empty_head = record { specifiers = int_word ∷ []; declarator = takes (a_word (codes "f")) []; declarations = [] }

abbrev pub Defines : HeadTree → FunctionTree → Type 0
Defines h f = behind_head (nothing_in_scope []) h ≡ Some (record (nothing_in_scope []) { bindings = of_name (codes "f") (a_function f (codes "int")) ∷ [] })

pub record Heads : Type 0 where
  pub in_the_old_style : Defines old_head (record { parameters = Some int ∷ None ∷ []; takes_more = false; result = Some int })
  pub of_no_parameters : Defines empty_head (record { parameters = []; takes_more = false; result = Some int })
  -- `int a[]` as a parameter
  pub an_array : behind_parameters (nothing_in_scope []) (declares int_word (brackets (a_word (codes "a"))))
      ≡ Some (record (nothing_in_scope []) { bindings = of_name (codes "a") (an_object (known (pointer_to int)) (codes "int")) ∷ [] })

-- ---- blocks

abbrev pub outer : Scopes
outer = record { bindings = of_tag (codes "s") (a_record 0) ∷ of_name (codes "T") (a_type (known int)) ∷ []; records = true ∷ []; definitions = []; hidden = [] }

pub record Blocks : Type 0 where
  -- in a block `struct s;` is another one, and `struct s *p;` the one around it
  pub another : behind (entered outer) (declaration (of_its_tag (codes "struct") (codes "s") ∷ []) [])
      ≡ Some (record { bindings = of_tag (codes "s") (a_record 1) ∷ begins_block ∷ outer.bindings; records = true ∷ true ∷ []; definitions = []; hidden = [] })
  pub the_same : behind (entered outer) (declares (of_its_tag (codes "struct") (codes "s")) (a_star (a_word (codes "p"))))
      ≡ Some (record outer { bindings = of_name (codes "p") (an_object (known pointed) (codes "struct")) ∷ begins_block ∷ outer.bindings })
  -- behind the block the names around it mean what they did
  pub behind_it : left (with_local (codes "T") 3 int (entered outer)) ≡ outer
  -- of a struct that is hidden nothing is seen
  pub hidden_one : behind (record outer { hidden = true ∷ [] }) (declares (of_its_tag (codes "struct") (codes "s")) (a_star (a_word (codes "p"))))
      ≡ Some (record outer { bindings = of_name (codes "p") (an_object unknown (codes "struct")) ∷ outer.bindings; hidden = true ∷ [] })

pub record Worked : Type 0 where
  pub structs : Structs
  pub enumerations : Enumerations
  pub names : Names
  pub heads : Heads
  pub blocks : Blocks
