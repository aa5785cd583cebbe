-- The types of functions that declarations and definitions say (C11 6.7.6.3, 6.9.1).
use Rattle.std.specs.Prelude.{ℕ, List, [], ◌∷◌, map, Bool, true, false, ◌&&◌, Option, Some, None, codes, if◌then◌else◌}
use Rattle.std.specs.Str.{bytes_eq}
use Rattle.px_expressions.specs.Reading.{or_else}
use Rattle.px_real_expressions.specs.Lexemes.{Lexeme}
use Rattle.px_real_declarations.specs.DeclarationTree.{SpecifierTree, keyword, DeclaredTree, DeclarationTree, declaration, assertion, ParametersTree, parameters, identifiers, HeadTree}
use Rattle.px_real_declarations.specs.HeldReading.{parameters_at}
use Rattle.px_real_declarations.specs.Names.{declared_name}
use Rattle.px_real_declaring.specs.Items.{nesting_limit}
use Rattle.px_real_types.specs.declared.shape.Shape.{Shape}
use Rattle.px_real_types.specs.declared.shape.ProfileType.{ProfileType}
use Rattle.px_real_types.specs.Shapes.{as_parameter, in_profile}
use Rattle.px_real_types.specs.Specifiers.{specified}
use Rattle.px_real_types.specs.Declarators.{SignatureTree, declared_shape}
use Rattle.px_real_types.specs.Cells.{parameter_of}
use Rattle.px_real_names.specs.Enumerated.{as_whole}
use Rattle.px_real_types.specs.Types.{int}
use Rattle.px_real_types.specs.Declarators.{is_nothing}
use Rattle.px_real_scopes.specs.Scopes.{FunctionTree, Scopes}
use Rattle.px_real_scopes.specs.Lookups.{first_said, are_types, meanings}

abbrev pub is_void_word : SpecifierTree → Bool
is_void_word (keyword word site) = bytes_eq word (codes "void")
is_void_word _ = false

-- `void` alone
abbrev pub is_void : DeclarationTree → Bool
is_void (declaration (s ∷ []) (x ∷ [])) = is_void_word s && is_nothing x.declarator
is_void _ = false

-- which says that there are none
abbrev pub is_none : List DeclarationTree → Bool
is_none (d ∷ []) = is_void d
is_none _ = false

abbrev pub all_types : Scopes → List DeclarationTree → List (Option ProfileType)
all_types st ds = map (parameter_of (meanings st)) ds

abbrev pub parameter_types : Scopes → List DeclarationTree → List (Option ProfileType)
parameter_types st ds = if is_none ds then [] else all_types st ds

-- what stands between the parentheses of a function, where it is read
abbrev pub parameters_in : Scopes → List Lexeme → Option ParametersTree
parameters_in st held = as_whole (parameters_at (are_types st.bindings) nesting_limit held)

-- what takes anything, of which all is erased
abbrev pub open_function : Option ProfileType → FunctionTree
open_function result = record { parameters = []; takes_more = true; result = result }

-- a declaration that lists no parameters leaves open what the function takes
abbrev pub declared_by : Scopes → Option ProfileType → Option ParametersTree → FunctionTree
declared_by st result (Some (parameters ds more)) = record { parameters = parameter_types st ds; takes_more = more; result = result }
declared_by st result _ = open_function result

abbrev pub declared_function : Scopes → SignatureTree → FunctionTree
declared_function st f = declared_by st (in_profile f.gives) (parameters_in st f.parameters)

-- ---- a definition

-- in an old-style definition: the type of the parameter with this name, where it is declared
abbrev pub says_named : List ℕ → Shape → DeclaredTree → List ℕ → Option (Option ProfileType)
says_named word s x name = if bytes_eq word name then Some (in_profile (as_parameter (declared_shape x s))) else None

abbrev pub says_parameter : List ℕ → Shape → DeclaredTree → Option (Option ProfileType)
says_parameter word s x = or_else (declared_name x.declarator) (says_named word s x) None

abbrev pub says_among : List ℕ → Shape → List DeclaredTree → Option (Option ProfileType)
says_among word s xs = first_said (says_parameter word s) xs

abbrev pub says_parameters : Scopes → List ℕ → DeclarationTree → Option (Option ProfileType)
says_parameters st word (declaration ss xs) = says_among word (specified (meanings st) ss) xs
says_parameters st word (assertion g) = None

abbrev pub an_int : Option ProfileType
an_int = Some int

-- an int where it isn't
abbrev pub old_parameter : Scopes → List DeclarationTree → List ℕ → Option ProfileType
old_parameter st ds word = or_else (first_said (says_parameters st word) ds) (λ t. t) an_int

abbrev pub old_parameters : Scopes → List DeclarationTree → List (List ℕ) → List (Option ProfileType)
old_parameters st ds words = map (old_parameter st ds) words

abbrev pub defined_by : Scopes → List DeclarationTree → Option ProfileType → Option ParametersTree → FunctionTree
defined_by st old result (Some (identifiers words)) = record { parameters = old_parameters st old words; takes_more = false; result = result }
defined_by st old result ps = declared_by st result ps

abbrev pub defined_function : Scopes → HeadTree → SignatureTree → FunctionTree
defined_function st h f = defined_by st h.declarations (in_profile f.gives) (parameters_in st f.parameters)
