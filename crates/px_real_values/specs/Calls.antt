-- What calls are.
use Rattle.std.specs.Prelude.{Bool, true, false, List, [], ◌∷◌, ◌++◌, flat_map, Option, Some, None, codes, if◌then◌else◌}
use Rattle.px_base.specs.declared.trace.Site.{Site}
use Rattle.px_terms.specs.declared.types.ValueType.TheVariants as V
use Rattle.px_syntax.specs.TypedTree as T
use Rattle.px_syntax.specs.TypedTree.{Expression, Argument, Arguments}
use Rattle.px_real_types.specs.declared.shape.ProfileType.{ProfileType}
use Rattle.px_real_values.specs.declared.environment.Library.{Library}
use Rattle.px_real_values.specs.declared.environment.Library.TheVariants as L
use Rattle.px_real_types.specs.Types.{int}
use Rattle.px_real_values.specs.Environment.{Environment, Signature, Callee, function, library, no_function, value_type}
use Rattle.px_real_values.specs.Operands.{Operand, of_type, a_block, a_name, parts, needed}
use Rattle.px_real_values.specs.Operators.{outside_of, stopped_at}

-- an argument, with its first token
pub record Given : Type 0 where
  pub first : Site
  pub operand : Operand

-- whether there are as many arguments as parameters, or more where it takes more
abbrev pub fits : List (Option ProfileType) → Bool → List Given → Bool
fits [] more [] = true
fits [] more (x ∷ xs) = more
fits (p ∷ ps) more [] = false
fits (p ∷ ps) more (x ∷ xs) = fits ps more xs

-- ---- arguments in order

module _ (env : Environment) where
  abbrev pub all_parts : List Given → List Expression
  all_parts xs = flat_map (λ x. parts env x.operand) xs

  -- the argument of a parameter, which is erased where that isn't of the profile
  abbrev pub argument : Option ProfileType → Given → Argument
  argument (Some t) x = T.passed (needed env x.first t x.operand)
  argument None x = T.erased (T.expressions_of (parts env x.operand))

  -- those beyond the parameters are erased
  abbrev pub arguments : List (Option ProfileType) → List Given → List Argument
  arguments ps [] = []
  arguments [] (x ∷ xs) = argument None x ∷ arguments [] xs
  arguments (p ∷ ps) (x ∷ xs) = argument p x ∷ arguments ps xs

  -- what a call gives: a value, or outside where the result isn't of the profile
  abbrev pub gives : Signature → Site → Arguments → Option ProfileType → Operand
  gives s at xs (Some t) = of_type t at (T.call s.proc xs (value_type env t) at)
  gives s at xs None = outside_of env (codes "call") at (T.call s.proc xs V.Int at ∷ [])

  abbrev pub function_call : Signature → Site → List Given → Operand
  function_call s at xs = if fits s.parameters s.takes_more xs then gives s at (T.arguments_of (arguments s.parameters xs)) s.result else stopped_at env (codes "call") at (all_parts xs)

  -- `malloc` of the block whose size its argument is, if it is one's
  abbrev pub malloc_call : Site → Option ProfileType → List Given → Operand
  malloc_call at (Some t) xs = a_block t at
  malloc_call at None xs = stopped_at env (codes "malloc") at (all_parts xs)

  abbrev pub input_call : Site → List Given → Operand
  input_call at [] = of_type int at (T.get_char at)
  input_call at xs = stopped_at env (codes "call") at (all_parts xs)

  abbrev pub expect_call : Site → List Given → Operand
  expect_call at (x ∷ y ∷ []) = x.operand
  expect_call at xs = stopped_at env (codes "call") at (all_parts xs)

  abbrev pub library_call : Library → Site → Option ProfileType → List Given → Operand
  library_call L.Malloc at block xs = malloc_call at block xs
  library_call L.Calloc at block xs = stopped_at env (codes "calloc") at (all_parts xs)
  library_call L.Realloc at block xs = stopped_at env (codes "realloc") at (all_parts xs)
  library_call L.Free at block xs = stopped_at env (codes "free") at (all_parts xs)
  library_call L.GetChar at block xs = input_call at xs
  library_call L.Expect at block xs = expect_call at xs
  library_call L.ConstantP at block xs = outside_of env (codes "__builtin_constant_p") at []
  library_call L.ObjectSize at block xs = outside_of env (codes "__builtin_object_size") at []

  -- a call of a name, at its token
  abbrev pub name_call : Callee → Site → Option ProfileType → List Given → Operand
  name_call (function s) at block xs = function_call s at xs
  name_call (library l) at block xs = library_call l at block xs
  name_call no_function at block xs = stopped_at env (codes "call") at (all_parts xs)

  -- a call of anything, at its parenthesis
  abbrev pub call_of : Site → Option ProfileType → List Given → Operand → Operand
  call_of site block xs (a_name callee k word at) = name_call callee at block xs
  call_of site block xs a = stopped_at env (codes "call") site (parts env a ++ all_parts xs)
