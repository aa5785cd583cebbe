-- What operators make of their operands.
use Rattle.std.specs.Prelude.{ℕ, Bool, true, false, ◌||◌, List, [], ◌∷◌, ◌++◌, Option, Some, None, codes, if◌then◌else◌}
use Rattle.px_base.specs.declared.trace.Site.{Site}
use Rattle.px_expressions.specs.Reading.{or_else}
use Rattle.px_syntax.specs.declared.typed_expression.Arithmetic.{Arithmetic}
use Rattle.px_syntax.specs.declared.typed_expression.Arithmetic.TheVariants as A
use Rattle.px_syntax.specs.declared.typed_expression.Relation.{Relation}
use Rattle.px_syntax.specs.declared.typed_expression.Relation.TheVariants as R
use Rattle.px_syntax.specs.TypedTree as T
use Rattle.px_syntax.specs.TypedTree.{Expression}
use Rattle.px_real_expressions.specs.declared.operators.Prefix.{Prefix}
use Rattle.px_real_expressions.specs.declared.operators.Prefix.TheVariants as P
use Rattle.px_real_expressions.specs.declared.operators.Operator.{Operator}
use Rattle.px_real_expressions.specs.declared.operators.Operator.TheVariants as O
use Rattle.px_real_expressions.specs.declared.operators.Step.{Step}
use Rattle.px_real_expressions.specs.declared.operators.Step.TheVariants as S
use Rattle.px_real_expressions.specs.declared.operators.Measure.{Measure}
use Rattle.px_real_expressions.specs.declared.operators.Measure.TheVariants as M
use Rattle.px_real_types.specs.declared.shape.ProfileType.{ProfileType}
use Rattle.px_real_types.specs.Shapes.{in_profile}
use Rattle.px_real_types.specs.declared.known.Known.{Known}
use Rattle.px_real_types.specs.declared.known.Known.TheVariants as K
use Rattle.px_real_types.specs.declared.known.Member.{Member}
use Rattle.px_real_types.specs.declared.known.Member.TheVariants as N
use Rattle.px_real_types.specs.Types.{int, struct, pointer_to, is_pointer, is_int, is_value, pointee, number_of, same_type, unknown, known, element, record_in, member_type}
use Rattle.px_real_values.specs.Environment.{Environment, type_id}
use Rattle.px_real_values.specs.Spelled.{Spelled}
use Rattle.px_real_values.specs.Operands.{Operand, of_type, a_zero, a_null, a_test, a_block, a_name, a_member, outside, a_struct, an_object, stopped, first_cell, reached, known_of, typed_value, unless_stopped, malloc_word, parts, pointer_parts, typed_as, deciding}

-- ---- how they are spelled

abbrev pub operator_text : Operator → List ℕ
operator_text O.Multiply = codes "*"
operator_text O.Divide = codes "/"
operator_text O.Remainder = codes "%"
operator_text O.Add = codes "+"
operator_text O.Subtract = codes "-"
operator_text O.ShiftLeft = codes "<<"
operator_text O.ShiftRight = codes ">>"
operator_text O.Less = codes "<"
operator_text O.Greater = codes ">"
operator_text O.LessEqual = codes "<="
operator_text O.GreaterEqual = codes ">="
operator_text O.Equal = codes "=="
operator_text O.NotEqual = codes "!="
operator_text O.BitAnd = codes "&"
operator_text O.BitXor = codes "^"
operator_text O.BitOr = codes "|"
operator_text O.And = codes "&&"
operator_text O.Or = codes "||"
operator_text O.Comma = codes ","

-- `=`, or an operator with it
abbrev pub assignment_text : Option Operator → List ℕ
assignment_text None = codes "="
assignment_text (Some o) = operator_text o ++ codes "="

abbrev pub step_text : Step → List ℕ
step_text S.Increment = codes "++"
step_text S.Decrement = codes "--"

abbrev pub measure_text : Measure → List ℕ
measure_text M.Size = codes "sizeof"
measure_text M.Alignment = codes "_Alignof"

-- ---- types of operands

abbrev pub own_type : Operand → Option ProfileType
own_type (of_type t site e) = Some t
own_type _ = None

abbrev pub is_null : Operand → Bool
is_null (a_null word site) = true
is_null _ = false

-- the type at which `==` and `!=` compare: that of an operand that has one of its own
abbrev pub common_type : Operand → Operand → ProfileType
common_type a b = or_else (own_type a) (λ t. t) (or_else (own_type b) (λ t. t) (if is_null a || is_null b then pointer_to int else int))

-- the type of a member that is looked for, where it is there; of those of an unknown struct nothing is known
abbrev pub found_type : Option (Option Member) → Option Known
found_type None = Some unknown
found_type (Some None) = None
found_type (Some (Some m)) = Some (member_type (Some m))

-- the number of the struct that a pointer points to
abbrev pub struct_behind : ProfileType → Option ℕ
struct_behind t = or_else (pointee t) number_of None

module _ (env : Environment) where
  -- outside with the parts of these operands, in order, and a `Stop` behind them
  abbrev pub outside_of : List ℕ → Site → List Expression → Operand
  outside_of text site ps = outside unknown ps (env.word_number text) site

  abbrev pub stopped_at : List ℕ → Site → List Expression → Operand
  stopped_at text site ps = stopped ps (env.word_number text) site

  -- ---- between operands

  -- both as values of type t, where they are that
  abbrev pub typed_both : ProfileType → Operand → Operand → Option (Expression × Expression)
  typed_both t a b = or_else (typed_as env t a) (λ x. or_else (typed_as env t b) (λ y. Some (x, y)) None) None

  -- of two ints; of other operands outside
  abbrev pub computed : Arithmetic → Operator → Site → Operand → Operand → Operand
  computed op o site a b =
      or_else (typed_both int a b) (λ x. of_type int site (T.arithmetic op x.0 x.1)) (outside_of (operator_text o) site (parts env a ++ parts env b))

  -- the same with a `Stop`
  abbrev pub divided : Arithmetic → Operator → Site → Operand → Operand → Operand
  divided op o site a b =
      or_else (typed_both int a b) (λ x. of_type int site (T.arithmetic op x.0 x.1)) (stopped_at (operator_text o) site (parts env a ++ parts env b))

  -- two values of type t are compared; other operands are outside
  abbrev pub compared : ProfileType → Relation → Operator → Site → Operand → Operand → Operand
  compared t relation o site a b =
      or_else (typed_both t a b) (λ x. a_test (T.compare relation x.0 x.1 site)) (outside_of (operator_text o) site (parts env a ++ parts env b))

  abbrev pub equated : Relation → Relation → Operator → Site → Operand → Operand → Operand
  equated of_ints of_places o site a b = compared (common_type a b) (if is_pointer (common_type a b) then of_places else of_ints) o site a b

  abbrev pub valued_binary : Operator → Site → Operand → Operand → Operand
  valued_binary O.Multiply site a b = computed A.Multiply O.Multiply site a b
  valued_binary O.Divide site a b = divided (A.Divide site) O.Divide site a b
  valued_binary O.Remainder site a b = divided (A.Remainder site) O.Remainder site a b
  valued_binary O.Add site a b = computed A.Add O.Add site a b
  valued_binary O.Subtract site a b = computed A.Subtract O.Subtract site a b
  valued_binary O.Less site a b = compared int R.Less O.Less site a b
  valued_binary O.Greater site a b = compared int R.Greater O.Greater site a b
  valued_binary O.LessEqual site a b = compared int R.AtMost O.LessEqual site a b
  valued_binary O.GreaterEqual site a b = compared int R.AtLeast O.GreaterEqual site a b
  valued_binary O.Equal site a b = equated R.Equal R.SamePlace O.Equal site a b
  valued_binary O.NotEqual site a b = equated R.Unequal R.OtherPlace O.NotEqual site a b
  valued_binary O.And site a b = a_test (T.both (deciding env a) (deciding env b))
  valued_binary O.Or site a b = a_test (T.either (deciding env a) (deciding env b))
  valued_binary O.Comma site a b = stopped_at (operator_text O.Comma) site (parts env a)
  valued_binary O.ShiftLeft site a b = stopped_at (operator_text O.ShiftLeft) site (parts env a ++ parts env b)
  valued_binary O.ShiftRight site a b = stopped_at (operator_text O.ShiftRight) site (parts env a ++ parts env b)
  valued_binary O.BitAnd site a b = outside_of (operator_text O.BitAnd) site (parts env a ++ parts env b)
  valued_binary O.BitXor site a b = outside_of (operator_text O.BitXor) site (parts env a ++ parts env b)
  valued_binary O.BitOr site a b = outside_of (operator_text O.BitOr) site (parts env a ++ parts env b)

  -- ---- before an operand

  abbrev pub negated : Site → Operand → Operand
  negated site a = or_else (typed_as env int a) (λ x. of_type int site (T.negated x)) (outside_of (codes "-") site (parts env a))

  -- `!` takes any value
  abbrev pub opposed : Site → Operand → Operand
  opposed site (a_name callee k word at) = outside_of (codes "!") site []
  opposed site (a_member k e block at word own) = outside_of (codes "!") site (reached k e block at ∷ [])
  opposed site (outside k ps word at) = outside_of (codes "!") site ps
  opposed site (a_block t at) = stopped_at (codes "malloc") at []
  opposed site a = a_test (T.opposite (deciding env a))

  -- what a pointer of type t points to: a value in a cell, or a struct
  abbrev pub pointed_to : List ℕ → Site → Expression → ProfileType → Operand
  pointed_to text site e u = if is_value u
      then of_type u site (T.cell e first_cell (type_id env u) site)
      else or_else (number_of u) (λ n. a_struct n e (env.word_number text) site) (stopped_at text site (e ∷ []))

  -- what isn't understood of an object
  abbrev pub object_of : Known → List ℕ → Site → List Expression → Operand
  object_of k text site ps = an_object k ps (env.word_number text) site

  abbrev pub pointed_by : List ℕ → Site → Operand → ProfileType × Expression → Operand
  pointed_by text site a x = or_else (pointee x.0) (pointed_to text site x.1) (object_of unknown text site (parts env a))

  -- `*p`
  abbrev pub indirected : List ℕ → Site → Operand → Operand
  indirected text site a = or_else (typed_value a) (pointed_by text site a) (object_of (element (known_of a)) text site (parts env a))

  -- an operator that takes the value of its operand
  abbrev pub taking : Prefix → Site → Operand → Operand
  taking P.Indirection site a = indirected (codes "*") site a
  taking P.Minus site a = negated site a
  taking P.Not site a = opposed site a
  taking P.Plus site a = outside_of (codes "+") site (parts env a)
  taking P.Complement site a = outside_of (codes "~") site (parts env a)
  taking P.Real site a = outside_of (codes "__real__") site (parts env a)
  taking P.Imaginary site a = outside_of (codes "__imag__") site (parts env a)
  taking _ site a = a

  -- an address and a step need the pointer to their operand, the others its value
  abbrev pub prefixed : Prefix → Site → Operand → Operand
  prefixed P.Address site a = outside_of (codes "&") site (pointer_parts env a)
  prefixed P.Increment site a = stopped_at (codes "++") site (pointer_parts env a)
  prefixed P.Decrement site a = stopped_at (codes "--") site (pointer_parts env a)
  prefixed P.Extension site a = a
  prefixed p site a = unless_stopped a (taking p site)

  -- ---- members

  -- of the struct with this number that `e` points to: a cell, or what is outside; one that isn't there is a `Stop`
  abbrev pub member_at : ℕ → List ℕ → Site → Expression → Option Member → Operand
  member_at n text site e (Some (N.Cell number kind)) = of_type kind site (T.cell e (record { 0 = number }) (type_id env (struct n)) site)
  member_at n text site e (Some (N.Other k)) = a_member k e (type_id env (struct n)) site (env.word_number text) site
  member_at n text site e None = stopped_at text site (e ∷ [])

  -- the member with this name of a struct or union, if it is known which one that is
  abbrev pub member_in : List ℕ → Known → Option (Option Member)
  member_in name k = or_else (record_in k) (λ n. Some (env.member n name)) None

  -- what is made of a member of what is outside, by its type; one that isn't there is a `Stop`
  abbrev pub known_member : Site → List Expression → (Known → Operand) → Option (Option Member) → Operand
  known_member site ps on m = or_else (found_type m) on (stopped_at (codes ".") site ps)

  abbrev pub behind : List ℕ → Site → List ℕ → Operand → ProfileType × Expression → Operand
  behind text site name a x = or_else (struct_behind x.0) (λ n. member_at n text site x.1 (env.member n name)) (object_of unknown text site (parts env a))

  -- `p->m`
  abbrev pub arrowed : Site → List ℕ → Operand → Operand
  arrowed site name a = or_else (typed_value a) (behind (codes "->") site name a)
      (object_of (or_else (member_in name (element (known_of a))) member_type unknown) (codes "->") site (parts env a))

  -- `s.m`
  abbrev pub dotted : Site → List ℕ → Operand → Operand
  dotted site name (a_struct n e word at) = member_at n (codes ".") site e (env.member n name)
  dotted site name (an_object k ps word at) = an_object (or_else (member_in name k) member_type unknown) ps word at
  dotted site name (a_member k e block access word at) =
      known_member site (reached k e block access ∷ []) (λ m. a_member m e block access (env.word_number (codes ".")) site) (member_in name k)
  dotted site name (stopped ps word at) = stopped ps word at
  dotted site name a = known_member site (parts env a) (λ m. outside m (parts env a) (env.word_number (codes ".")) site) (member_in name (known_of a))

  -- ---- casts

  abbrev pub cast_word : ℕ
  cast_word = env.word_number (codes "cast")

  -- to a type of the profile: the value where it is of that type, and null where it is a constant that may be
  abbrev pub cast_to : ProfileType → Site → Operand → Operand
  cast_to t site (of_type u at e) = if same_type t u then of_type u at e else outside (known t) (e ∷ []) cast_word site
  cast_to t site (a_zero at) = if is_pointer t then of_type t site T.null else a_zero at
  cast_to t site (a_null word at) = if is_pointer t then of_type t site T.null else outside (known t) [] cast_word site
  cast_to t site (a_test c) = if is_int t then a_test c else outside (known t) (T.truth c ∷ []) cast_word site
  cast_to t site (a_block u at) = if same_type t (pointer_to u) then of_type t at (T.allocate (type_id env u) at) else stopped [] (malloc_word env) at
  cast_to t site a = outside (known t) (parts env a) cast_word site

  -- to another type: null stays null behind a star
  abbrev pub cast_away : Spelled → Site → Operand → Operand
  cast_away s site (a_zero at) = if s.is_starred then a_null cast_word site else outside (K.Seen s.shape) [] cast_word site
  cast_away s site (a_null word at) = if s.is_starred then a_null cast_word site else outside (K.Seen s.shape) [] cast_word site
  cast_away s site (a_block u at) = stopped [] (malloc_word env) at
  cast_away s site a = outside (K.Seen s.shape) (parts env a) cast_word site

  abbrev pub cast_as : Spelled → Site → Operand → Operand
  cast_as s site a = or_else (in_profile s.shape) (λ t. cast_to t site a) (cast_away s site a)
