-- An expression with its type, and how it agrees with a type that is wanted.
use Rattle.std.specs.Prelude.{is_some, ℕ, Bool, true, ◌&&◌, ◌||◌, pos, List, [], ◌∷◌, Option, Some, None, cond, nat_lt, nat_eq}
use Rattle.px_base.specs.declared.trace.Site.{Site}
use Rattle.px_syntax.specs.declared.type_name.TypeName.{TypeName}
use Rattle.px_syntax.specs.declared.typed_expression.Arithmetic.{Arithmetic}
use Rattle.px_syntax.specs.declared.typed_expression.Relation.{Relation}
use Rattle.px_syntax.specs.TypedTree as T
use Rattle.px_syntax.specs.TypedTree.{Expression, Condition, Place}
use Rattle.px_bodies.specs.Types.{when, given, int, pointer_to, is_pointer, is_int, is_value, pointee, struct_tag, same_type}
use Rattle.px_bodies.specs.Environment.{Environment, type_id, field_from}

pub data Typed : Type 0 where
  -- an int or a pointer of this type
  of_type : TypeName → Expression → Typed
  -- the word `NULL`: null of each pointer type
  a_null : Typed
  -- the constant 0: an int, and null of each pointer type
  a_zero : Typed
  -- a comparison, `&&`, `||` or `!`: an int by its outcome
  a_test : Condition → Typed

-- ---- agreement (C17 6.5.16.1, 6.5.2.2, 6.8.6.4)

-- as a value of type t: what has that type, or null where t is a pointer
abbrev pub as_type : TypeName → Typed → Option Expression
as_type t (of_type u e) = when (same_type t u) e
as_type t a_null = when (is_pointer t) T.null
as_type t a_zero = cond (is_pointer t) (Some T.null) (when (is_int t) (T.constant (pos 0)))
as_type t (a_test c) = when (is_int t) (T.truth c)

-- as a value of whatever type it has
abbrev pub as_value : Typed → Expression
as_value (of_type t e) = e
as_value a_null = T.null
as_value a_zero = T.constant (pos 0)
as_value (a_test c) = T.truth c

-- as an argument: of the next parameter's type, or of any where no parameters are known
abbrev pub as_argument : Option (List TypeName) → Typed → Option Expression
as_argument None a = Some (as_value a)
as_argument (Some []) a = None
as_argument (Some (t ∷ ts)) a = as_type t a

-- as a condition; the site is that of the expression
abbrev pub as_condition : Site → Typed → Condition
as_condition site (of_type t e) = cond (is_pointer t) (T.pointer e site) (T.word e site)
as_condition site a_null = T.pointer T.null site
as_condition site a_zero = T.word (T.constant (pos 0)) site
as_condition site (a_test c) = c

-- what stands on the left of an assignment (C17 6.3.2.1): a local or a cell, and its type
abbrev pub as_place : Typed → Option (TypeName × Place)
as_place (of_type t (T.local n site)) = Some (t, T.local_place n site)
as_place (of_type t (T.cell e field block site)) = Some (t, T.cell_place e field block site)
as_place _ = None

-- what `free` takes, with its block type; null counts as `int *`
abbrev pub as_freed : Typed → Option (TypeName × Expression)
as_freed (of_type t e) = given (pointee t) (λ u. Some (u, e))
as_freed a_null = Some (int, T.null)
as_freed a_zero = Some (int, T.null)
as_freed (a_test c) = None

-- ---- operators

-- a constant is an int (C17 6.4.4.1)
abbrev pub typed_constant : ℕ → Option Typed
typed_constant n = cond (nat_eq n 0) (Some a_zero) (when (nat_lt n 2147483648) (of_type int (T.constant (pos n))))

-- `+`, `-`, `*`, `/` and `%` take ints (C17 6.5.5, 6.5.6)
abbrev pub typed_arithmetic : Arithmetic → Typed → Typed → Option Typed
typed_arithmetic operator a b = given (as_type int a) (λ x. given (as_type int b) (λ y. Some (of_type int (T.arithmetic operator x y))))

-- unary minus takes an int (C17 6.5.3.3)
abbrev pub typed_minus : Typed → Option Typed
typed_minus a = given (as_type int a) (λ x. Some (of_type int (T.negated x)))

-- `<`, `<=`, `>` and `>=` take ints (C17 6.5.8)
abbrev pub typed_order : Relation → Site → Typed → Typed → Option Typed
typed_order relation site a b = given (as_type int a) (λ x. given (as_type int b) (λ y. Some (a_test (T.compare relation x y site))))

-- the type at which `==` and `!=` compare: that of an operand that has one of its own
abbrev pub common_type : Typed → Typed → TypeName
common_type (of_type t e) b = t
common_type a (of_type t e) = t
common_type a_null b = pointer_to int
common_type a a_null = pointer_to int
common_type a b = int

abbrev pub compared_at : TypeName → Relation → Relation → Site → Typed → Typed → Option Typed
compared_at t of_ints of_places site a b =
    given (as_type t a) (λ x. given (as_type t b) (λ y. Some (a_test (T.compare (cond (is_pointer t) of_places of_ints) x y site))))

-- `==` and `!=` take two ints or two pointers of one type (C17 6.5.9): the relation of ints, and that of places
abbrev pub typed_equality : Relation → Relation → Site → Typed → Typed → Option Typed
typed_equality of_ints of_places site a b = compared_at (common_type a b) of_ints of_places site a b

-- a cast is to a pointer to the type whose size is taken
abbrev pub is_cast_to : TypeName → Option TypeName → Bool
is_cast_to pointer None = true
is_cast_to pointer (Some cast) = same_type cast pointer

module _ (env : Environment) where
  -- the cell of this type that a pointer to a block names
  abbrev pub typed_cell : TypeName → ℕ → TypeName → Site → Expression → Option Typed
  typed_cell block field t site e = when (is_value t) (of_type t (T.cell e (record { 0 = field }) (type_id env block) site))

  -- unary `*` takes a pointer to a value (C17 6.5.3.2)
  abbrev pub typed_indirection : Site → Typed → Option Typed
  typed_indirection site (of_type t e) = given (pointee t) (λ u. typed_cell u 0 u site e)
  typed_indirection site _ = None

  -- the fields of a struct that is defined
  abbrev pub declared_fields : TypeName → Option (List (List ℕ × TypeName))
  declared_fields t = given (struct_tag t) env.fields

  -- the field of this name of a struct that is defined, and its number
  abbrev pub field_named : List ℕ → TypeName → Option (ℕ × TypeName)
  field_named name t = given (declared_fields t) (field_from 0 name)

  -- `->` takes a pointer to a struct with that field (C17 6.5.2.3)
  abbrev pub typed_arrow : List ℕ → Site → Typed → Option Typed
  typed_arrow name site (of_type t e) = given (pointee t) (λ u. given (field_named name u) (λ f. typed_cell u f.0 f.1 site e))
  typed_arrow name site _ = None

  -- a block may be of an int, a pointer or a struct that is defined
  abbrev pub is_block : TypeName → Bool
  is_block t = is_value t || is_some (declared_fields t)

  abbrev pub typed_malloc : Option TypeName → Site → TypeName → Option Typed
  typed_malloc cast site t = when (is_block t && is_cast_to (pointer_to t) cast) (of_type (pointer_to t) (T.allocate (type_id env t) site))
