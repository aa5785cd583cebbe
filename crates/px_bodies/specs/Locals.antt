-- The locals of a function, and which of them a place in its body sees.
use Rattle.std.specs.Prelude.{ℕ, ◌+◌, ◌&&◌, List, [], ◌∷◌, ◌++◌, take, drop, Option, Some, None, bytes_eq, is_none}
use Rattle.px_terms.specs.declared.types.ValueType.{ValueType}
use Rattle.px_syntax.specs.declared.type_name.TypeName.{TypeName}
use Rattle.px_syntax.specs.declared.item.Parameter.{Parameter}
use Rattle.px_bodies.specs.Types.{when, given, is_value}
use Rattle.px_bodies.specs.Environment.{Environment, value_type}

pub record Local : Type 0 where
  pub name : List ℕ
  pub number : ℕ
  pub type : TypeName

-- those that are in scope, the innermost last; the number of the next one; the types of those that were declared
pub record Locals : Type 0 where
  pub visible : List Local
  pub next : ℕ
  pub types : List ValueType

abbrev pub no_locals : Locals
no_locals = record { visible = []; next = 0; types = [] }

abbrev pub or_else : {A : Type 0} → Option A → Option A → Option A
or_else (Some a) o = Some a
or_else None o = o

abbrev pub if_named : List ℕ → Local → Option Local
if_named name l = when (bytes_eq l.name name) l

-- the local that a name means: the last of that name, which hides the others (C17 6.2.1)
abbrev pub named : List ℕ → List Local → Option Local
named name [] = None
named name (l ∷ ls) = or_else (named name ls) (if_named name l)

module _ (env : Environment) where
  -- one more local; the scope's own are those from `outer` on, and it declares a name once (C17 6.7)
  abbrev pub declared : ℕ → Locals → List ℕ → TypeName → Option Locals
  declared outer ls name t = when (is_value t && is_none (named name (drop outer ls.visible)))
      (record { visible = ls.visible ++ record { name = name; number = ls.next; type = t } ∷ []; next = ls.next + 1; types = ls.types ++ value_type env t ∷ [] })

  -- a definition names its parameters (C17 6.9.1)
  abbrev pub typed_parameters : Locals → List Parameter → Option Locals
  typed_parameters ls [] = Some ls
  typed_parameters ls (p ∷ rest) = given p.name (λ name. given (declared 0 ls name p.value) (λ more. typed_parameters more rest))

-- after a scope, only the first `outer` are visible
abbrev pub after_scope : ℕ → Locals → Locals
after_scope outer ls = record ls { visible = take outer ls.visible }
