-- The types that names of types in expressions spell (C11 6.7.7): a type's name is a parameter that has no name.
use Rattle.std.specs.Prelude.{◌≡◌, List, [], ◌∷◌, Bool, false, ◌||◌, Ok, Err}
use Rattle.px_real_expressions.specs.declared.terminal.Terminal.{Terminal}
use Rattle.px_real_expressions.specs.declared.terminal.Terminal.TheVariants as T
use Rattle.px_real_expressions.specs.Lexemes.{Lexeme}
use Rattle.px_real_expressions.specs.Stops.{Read}
use Rattle.px_real_declarations.specs.DeclarationTree.{DeclaratorTree, no_name, a_name, inner, pointer, array, function, DeclarationTree, declaration}
use Rattle.px_real_declarations.specs.Grammar.{Types, IsParameter}
use Rattle.px_real_declarations.specs.Reading.{parameter_at}
use Rattle.px_real_declaring.specs.Items.{nesting_limit}
use Rattle.px_real_declaring.specs.Whole.{whole_by}
use Rattle.px_real_types.specs.declared.shape.Shape.{Shape}
use Rattle.px_real_types.specs.declared.shape.Shape.TheVariants as S
use Rattle.px_real_types.specs.Scopes.{Meanings}
use Rattle.px_real_types.specs.Specifiers.{specified}
use Rattle.px_real_types.specs.Declarators.{declared_shape, is_nothing}

-- a type, and whether it is written as a pointer, as `T *`
pub record Spelled : Type 0 where
  pub shape : Shape
  pub is_starred : Bool

abbrev pub nothing_seen : Spelled
nothing_seen = record { shape = S.Outside; is_starred = false }

-- whether a star stands nearest to where the name would stand: then the type is a pointer
abbrev pub is_starred : DeclaratorTree → Bool
is_starred no_name = false
is_starred (a_name word site) = false
is_starred (inner site gs d) = is_starred d
is_starred (pointer site ss d) = is_nothing d || is_starred d
is_starred (array site d held) = is_starred d
is_starred (function site d held) = is_starred d

abbrev pub spelled_in : Meanings → DeclarationTree → Spelled
spelled_in scope (declaration ss (x ∷ [])) = record { shape = declared_shape x (specified scope ss); is_starred = is_starred x.declarator }
spelled_in scope _ = nothing_seen

-- what these tokens spell, by the grammar: what isn't read spells nothing that is seen
pub data Spells (scope : Meanings) (types : Types) (ts : List Lexeme) (s : Spelled) : Type 0 where
  spells : {d : DeclarationTree} → IsParameter types nesting_limit ts d → s ≡ spelled_in scope d → Spells scope types ts s
  spells_nothing : ((d : DeclarationTree) → IsParameter types nesting_limit ts d → ⊥) → s ≡ nothing_seen → Spells scope types ts s

-- the same by what is read of them
abbrev pub spelled_of : Meanings → Read DeclarationTree → Spelled
spelled_of scope (Ok x) = spelled_in scope x.0
spelled_of scope (Err e) = nothing_seen

abbrev pub spelled_by : Meanings → Types → List Lexeme → Spelled
spelled_by scope types ts = spelled_of scope (whole_by (parameter_at types nesting_limit) ts)

abbrev pub TypesAreSpelled : Type 0
TypesAreSpelled = (scope : Meanings) (types : Types) (ts : List Lexeme) → Spells scope types ts (spelled_by scope types ts)

-- ---- tokens of declarations know of no names of types; those of expressions do

abbrev pub without_types : Terminal → Terminal
without_types T.TypeName = T.Name
without_types k = k

abbrev pub untabled : Lexeme → Lexeme
untabled t = record t { terminal = without_types t.terminal }
