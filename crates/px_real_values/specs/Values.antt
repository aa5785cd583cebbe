-- The evaluation of expressions, one case for each kind of expression.
use Rattle.std.specs.Prelude.{ℕ, zero, Bool, true, false, List, [], ◌∷◌, ◌++◌, Option, Some, None, codes, if◌then◌else◌}
use Rattle.std.specs.Str.{bytes_eq}
use Rattle.px_base.specs.declared.trace.Site.{Site}
use Rattle.px_expressions.specs.Reading.{or_else}
use Rattle.px_expressions.specs.Terminals.{is_in}
use Rattle.px_syntax.specs.TypedTree as T
use Rattle.px_syntax.specs.TypedTree.{Expression}
use Rattle.px_real_expressions.specs.declared.operators.Measure.TheVariants as M
use Rattle.px_real_expressions.specs.Lexemes.{Lexeme}
use Rattle.px_real_expressions.specs.ExpressionTree.{ExpressionTree, ExpressionTrees, name, constant, string, parenthesised, statement, literal, form, index, call, member, pointer_member, step, prefixed, label, measure, measure_type, cast, binary, choice, choice_or, assign, no_expressions, an_expression}
use Rattle.px_real_types.specs.declared.shape.ProfileType.{ProfileType}
use Rattle.px_real_types.specs.declared.known.Known.{Known}
use Rattle.px_real_types.specs.declared.known.Known.TheVariants as K
use Rattle.px_real_types.specs.Types.{unknown, element, block_in, number_of}
use Rattle.px_real_values.specs.Environment.{Environment, Meaning, local, enumerator, other, undeclared, no_function, spelled}
use Rattle.px_real_values.specs.Operands.{Operand, of_type, a_null, a_name, unless_stopped, counted, known_of, parts, pointer_parts}
use Rattle.px_real_values.specs.Operators as Op
use Rattle.px_real_values.specs.Operators.{outside_of, stopped_at, object_of, indirected, arrowed, dotted, cast_as, valued_binary, assignment_text, step_text, measure_text}
use Rattle.px_real_values.specs.Calls.{Given, call_of}

-- the first token of an expression
abbrev pub first_site : ExpressionTree → Site
first_site (name word site) = site
first_site (constant value site) = site
first_site (string site) = site
first_site (parenthesised site e) = site
first_site (statement site held) = site
first_site (literal site held values) = site
first_site (form word site held) = site
first_site (index site a i) = first_site a
first_site (call site f es) = first_site f
first_site (member site e field) = first_site e
first_site (pointer_member site e field) = first_site e
first_site (step o site e) = first_site e
first_site (prefixed p site e) = site
first_site (label word site) = site
first_site (measure m site e) = site
first_site (measure_type m site held) = site
first_site (cast site held e) = site
first_site (binary o site a b) = first_site a
first_site (choice site c a b) = first_site c
first_site (choice_or site c b) = first_site c
first_site (assign o site a b) = first_site a

-- the constant 0, in parentheses or not
abbrev pub is_zero : ExpressionTree → Bool
is_zero (constant (Some zero) site) = true
is_zero (parenthesised site e) = is_zero e
is_zero _ = false

-- built-in forms that evaluate nothing and have a value
abbrev pub valued_forms : List (List ℕ)
valued_forms = codes "__builtin_offsetof" ∷ codes "__builtin_types_compatible_p" ∷ []

module _ (env : Environment) where
  -- the block of a type whose size is taken: an int, a pointer, or a struct that is defined
  abbrev pub if_defined : ProfileType → Option ProfileType
  if_defined t = or_else (number_of t) (λ n. if env.is_defined n then Some t else None) (Some t)

  abbrev pub block_of_type : Known → Option ProfileType
  block_of_type k = or_else (block_in k) if_defined None

  abbrev pub shape_known : List Lexeme → Known
  shape_known held = K.Seen ((spelled env held).shape)

  abbrev pub undeclared_name : List ℕ → Site → Operand
  undeclared_name word site = if bytes_eq word (codes "NULL") then a_null (env.word_number word) site else a_name no_function unknown (env.word_number word) site

  abbrev pub numbered : List ℕ → Site → Option ℕ → Operand
  numbered text site (Some n) = counted n (env.word_number text) site
  numbered text site None = outside_of env text site []

  abbrev pub meant : List ℕ → Site → Meaning → Operand
  meant word site (local n t) = of_type t site (T.local n site)
  meant word site (enumerator value) = numbered (codes "enum") site value
  meant word site (other callee k number) = a_name callee k number site
  meant word site undeclared = undeclared_name word site

  abbrev pub formed : List ℕ → Site → Operand
  formed word site = if is_in valued_forms word then outside_of env word site [] else stopped_at env word site []

  -- `p[0]` is `*p`
  abbrev pub indexed : Bool → Site → List Expression → Operand → Operand
  indexed true site i a = indirected env (codes "[") site a
  indexed false site i a = object_of env (element (known_of a)) (codes "[") site (parts env a ++ i)

  abbrev mutual
    pub valued : ExpressionTree → Operand
    valued (name word site) = meant word site (env.meaning word)
    valued (constant value site) = numbered (codes "constant") site value
    valued (string site) = outside_of env (codes "string") site []
    valued (parenthesised site e) = valued e
    valued (statement site held) = stopped_at env (codes "(") site []
    valued (literal site held values) = stopped_at env (codes "(") site []
    valued (form word site held) = formed word site
    valued (index site a i) = unless_stopped (valued a) (indexed (is_zero i) site (parts env (valued i)))
    valued (call site f es) = unless_stopped (valued f) (call_of env site (block_of es) (given es))
    valued (member site e field) = dotted env site field (valued e)
    valued (pointer_member site e field) = unless_stopped (valued e) (arrowed env site field)
    valued (step o site e) = stopped_at env (step_text o) site (pointer_parts env (valued e))
    valued (prefixed p site e) = Op.prefixed env p site (valued e)
    valued (label word site) = outside_of env (codes "&&") site []
    valued (measure m site e) = outside_of env (measure_text m) site []
    valued (measure_type m site held) = outside_of env (measure_text m) site []
    valued (cast site held e) = unless_stopped (valued e) (cast_as env (spelled env held) site)
    valued (binary o site a b) = unless_stopped (valued a) (λ x. valued_binary env o site x (valued b))
    valued (choice site c a b) = unless_stopped (valued c) (λ x. stopped_at env (codes "?") site (parts env x))
    valued (choice_or site c b) = unless_stopped (valued c) (λ x. stopped_at env (codes "?") site (parts env x))
    valued (assign o site a b) = stopped_at env (assignment_text o) site (pointer_parts env (valued a))

    -- arguments in order
    pub given : ExpressionTrees → List Given
    given no_expressions = []
    given (an_expression e rest) = record { first = first_site e; operand = valued e } ∷ given rest

    -- what is known of the type whose size an expression is
    pub measured : ExpressionTree → Option Known
    measured (parenthesised site e) = measured e
    measured (measure M.Size site e) = Some (known_of (valued e))
    measured (measure_type M.Size site held) = Some (shape_known held)
    measured _ = None

    -- the block whose size the only argument is
    pub block_of : ExpressionTrees → Option ProfileType
    block_of (an_expression e no_expressions) = or_else (measured e) block_of_type None
    block_of _ = None
