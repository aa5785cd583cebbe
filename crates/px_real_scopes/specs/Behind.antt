-- What is in scope behind a declaration, a function's head and a parameter (C11 6.2.1, 6.7, 6.9.1).
use Rattle.std.specs.Prelude.{◌≡◌, ℕ, List, [], ◌∷◌, Bool, true, false, Option, Some, None, Result, Ok, Err}
use Rattle.px_expressions.specs.Reading.{or_else}
use Rattle.px_real_declarations.specs.DeclarationTree.{DeclaredTree, DeclarationTree, declaration, assertion, HeadTree}
use Rattle.px_real_declarations.specs.Names.{declared_name, is_typedef}
use Rattle.px_real_declaring.specs.declared.reading.DeclarationFault.{DeclarationFault}
use Rattle.px_real_declaring.specs.declared.reading.DeclarationFault.TheVariants as D
use Rattle.px_real_types.specs.declared.shape.ProfileType.{ProfileType}
use Rattle.px_real_types.specs.Specifiers.{specified}
use Rattle.px_real_types.specs.Declarators.{function_in}
use Rattle.px_real_types.specs.declared.known.Known.{Known}
use Rattle.px_real_types.specs.Types.{unknown}
use Rattle.px_real_scopes.specs.Scopes.{MeaningTree, a_type, an_object, a_function, a_local, of_name, Scopes}
use Rattle.px_real_scopes.specs.Lookups.{seen, meanings}
use Rattle.px_real_scopes.specs.Knowing.{type_word, specified_known, declared_known, parameter_known}
use Rattle.px_real_scopes.specs.Functions.{declared_function, defined_function}
use Rattle.px_real_scopes.specs.Entering.{with_specifiers}

abbrev pub with_name : Option (List ℕ) → MeaningTree → Scopes → Scopes
with_name (Some name) m st = record st { bindings = of_name name m ∷ st.bindings }
with_name None m st = st

-- ---- a declaration

-- what is declared is a type, a function or an object, by what its specifiers say
abbrev pub declared_meaning : Scopes → Bool → Known → List ℕ → DeclaredTree → MeaningTree
declared_meaning st true k word x = a_type (declared_known x k)
declared_meaning st false k word x = or_else (function_in x.declarator (seen k)) (λ f. a_function (declared_function st f) word) (an_object (declared_known x k) word)

-- each name is in scope behind its declarator
abbrev pub with_one : Bool → Known → List ℕ → Scopes → DeclaredTree → Scopes
with_one is_type k word st x = with_name (declared_name x.declarator) (declared_meaning st is_type k word x) st

abbrev pub with_declared : Bool → Known → List ℕ → Scopes → List DeclaredTree → Scopes
with_declared is_type k word st [] = st
with_declared is_type k word st (x ∷ xs) = with_declared is_type k word (with_one is_type k word st x) xs

abbrev pub declares_none : List DeclaredTree → Bool
declares_none [] = true
declares_none (x ∷ xs) = false

-- first what its specifiers declare, and then its names; nothing is, where what one of its structs, unions or enumerations holds isn't read
abbrev pub behind : Scopes → DeclarationTree → Option Scopes
behind st (declaration ss xs) =
    or_else (with_specifiers (declares_none xs) ss st) (λ st1. Some (with_declared (is_typedef ss) (specified_known st1 ss) (type_word ss) st1 xs)) None
behind st (assertion g) = Some st

-- ---- a function's head

abbrev pub head_meaning : Scopes → HeadTree → MeaningTree
head_meaning st h =
    or_else (function_in h.declarator (specified (meanings st) h.specifiers)) (λ f. a_function (defined_function st h f) (type_word h.specifiers)) (an_object unknown (type_word h.specifiers))

abbrev pub with_head : Scopes → HeadTree → Scopes
with_head st h = with_name (declared_name h.declarator) (head_meaning st h) st

abbrev pub behind_head : Scopes → HeadTree → Option Scopes
behind_head st h = or_else (with_specifiers false h.specifiers st) (λ st1. Some (with_head st1 h)) None

-- ---- a declaration of parameters of a function that is defined: each is an object

abbrev pub with_parameter : Known → List ℕ → Scopes → DeclaredTree → Scopes
with_parameter k word st x = with_name (declared_name x.declarator) (an_object (parameter_known (declared_known x k)) word) st

abbrev pub with_parameters : Known → List ℕ → Scopes → List DeclaredTree → Scopes
with_parameters k word st [] = st
with_parameters k word st (x ∷ xs) = with_parameters k word (with_parameter k word st x) xs

abbrev pub behind_parameters : Scopes → DeclarationTree → Option Scopes
behind_parameters st (declaration ss xs) = or_else (with_specifiers false ss st) (λ st1. Some (with_parameters (specified_known st1 ss) (type_word ss) st1 xs)) None
behind_parameters st (assertion g) = Some st

-- ---- a local of the profile

abbrev pub with_local : List ℕ → ℕ → ProfileType → Scopes → Scopes
with_local name number kind st = with_name (Some name) (a_local number kind) st

-- ---- what the code comes to

-- what is in scope is this; where there is a fault, nothing is, and unless memory ran out, there is none
abbrev pub IsBehind : Option Scopes → Scopes → Scopes → Result Unit DeclarationFault → Type 0
IsBehind o before after (Ok u) = o ≡ Some after
IsBehind o before after (Err D.NoMemory) = after ≡ before
IsBehind o before after (Err (D.NotADeclaration at)) = (o ≡ None) × (after ≡ before)
IsBehind o before after (Err (D.Deep at)) = (o ≡ None) × (after ≡ before)
