-- Expressions that were worked by hand, a case or more for each row of the rules.
--
-- The names are x, a local int; q, a local `int *`; p, a local `struct s *`; gc, a global char; gs, a global struct s; ONE and NEG, enumerators, the
-- second without a value; f, a function of an int and a char that gives an int; h, one declared without parameters that gives nothing. A struct s
-- has the cells v, an int, and n, a `struct s *`; and c, a char, a, an array of ints, and u, a union with an int x and an array d of char.
use Rattle.std.specs.Prelude.{◌≡◌, ℕ, ◌+◌, ◌*◌, pos, List, [], ◌∷◌, length, true, false, Option, Some, None, codes, nat_eq, if◌then◌else◌}
use Rattle.std.specs.Str.{bytes_eq}
use Rattle.px_base.specs.declared.trace.Site.{Site}
use Rattle.px_terms.specs.declared.types.TypeId.{TypeId}
use Rattle.px_terms.specs.declared.types.ValueType.TheVariants as V
use Rattle.px_syntax.specs.declared.typed_expression.Arithmetic.TheVariants as A
use Rattle.px_syntax.specs.declared.typed_expression.Relation.TheVariants as R
use Rattle.px_syntax.specs.TypedTree as T
use Rattle.px_syntax.specs.TypedTree.{Expression}
use Rattle.px_real_expressions.specs.declared.operators.Prefix.TheVariants as P
use Rattle.px_real_expressions.specs.declared.operators.Operator.TheVariants as O
use Rattle.px_real_expressions.specs.declared.operators.Step.TheVariants as S
use Rattle.px_real_expressions.specs.declared.operators.Measure.TheVariants as M
use Rattle.px_real_expressions.specs.ExpressionTree.{ExpressionTree, name, constant, string, parenthesised, statement, literal, form, index, call, member, pointer_member, step, prefixed, measure, binary, choice, assign, no_expressions, an_expression}
use Rattle.px_real_types.specs.declared.shape.Base.{Base}
use Rattle.px_real_types.specs.declared.shape.Base.TheVariants as B
use Rattle.px_real_types.specs.declared.shape.Shape.TheVariants as Sh
use Rattle.px_real_types.specs.declared.shape.ProfileType.{ProfileType}
use Rattle.px_real_types.specs.declared.known.Known.TheVariants as K
use Rattle.px_real_types.specs.declared.known.Member.{Member}
use Rattle.px_real_types.specs.declared.known.Member.TheVariants as N
use Rattle.px_real_values.specs.declared.environment.Library.TheVariants as L
use Rattle.px_real_types.specs.Types.{int, struct, pointer_to, unknown, known}
use Rattle.px_real_values.specs.Spelled.{nothing_seen}
use Rattle.px_real_values.specs.Environment.{Environment, Meaning, local, enumerator, other, undeclared, function, library, no_function}
use Rattle.px_real_values.specs.Operands.{Operand, of_type, a_null, a_test, a_block, a_name, a_member, outside, a_struct, an_object, stopped, stop, parts, needed, deciding, freed}
use Rattle.px_real_values.specs.Operators.{cast_as, indirected}
use Rattle.px_real_values.specs.Values.{valued}

abbrev pub at : ℕ → Site
at column = record { file = 0; line = 1; column = column }

-- ---- what the names mean

-- the number of a word: any will do that tells these apart
abbrev pub w : List ℕ → ℕ
w [] = 0
w (c ∷ cs) = c + 256 * length cs

abbrev pub pointed_struct : ProfileType
pointed_struct = pointer_to (struct 1)

abbrev pub meaning_of : List ℕ → Meaning
meaning_of word =
    if bytes_eq word (codes "x") then local 0 int else
    (if bytes_eq word (codes "p") then local 1 pointed_struct else
    (if bytes_eq word (codes "q") then local 2 (pointer_to int) else
    (if bytes_eq word (codes "gc") then other no_function unknown (w (codes "char")) else
    (if bytes_eq word (codes "gs") then other no_function (known (struct 1)) (w (codes "struct")) else
    (if bytes_eq word (codes "ONE") then enumerator (Some 1) else
    (if bytes_eq word (codes "NEG") then enumerator None else
    (if bytes_eq word (codes "f") then other (function (record { proc = record { 0 = 7 }; parameters = Some int ∷ None ∷ []; takes_more = false; result = Some int })) unknown (w (codes "int")) else
    (if bytes_eq word (codes "h") then other (function (record { proc = record { 0 = 8 }; parameters = []; takes_more = true; result = None })) unknown (w (codes "void")) else
    (if bytes_eq word (codes "malloc") then other (library L.Malloc) unknown (w (codes "void")) else
    (if bytes_eq word (codes "calloc") then other (library L.Calloc) unknown (w (codes "void")) else
    (if bytes_eq word (codes "free") then other (library L.Free) unknown (w (codes "void")) else
    (if bytes_eq word (codes "getchar") then other (library L.GetChar) unknown (w (codes "int")) else
    (if bytes_eq word (codes "expect") then other (library L.Expect) unknown (w (codes "long")) else
    (if bytes_eq word (codes "constant_p") then other (library L.ConstantP) unknown (w (codes "int")) else undeclared))))))))))))))

abbrev pub in_struct : List ℕ → Option Member
in_struct word =
    if bytes_eq word (codes "v") then Some (N.Cell 0 int) else
    (if bytes_eq word (codes "n") then Some (N.Cell 1 pointed_struct) else
    (if bytes_eq word (codes "c") then Some (N.Other unknown) else
    (if bytes_eq word (codes "a") then Some (N.Other (K.Seen (Sh.Array B.Int 0))) else
    (if bytes_eq word (codes "u") then Some (N.Other (K.Record 2)) else None))))

abbrev pub in_union : List ℕ → Option Member
in_union word =
    if bytes_eq word (codes "x") then Some (N.Other (known int)) else
    (if bytes_eq word (codes "d") then Some (N.Other K.Array) else None)

abbrev pub member_of : ℕ → List ℕ → Option Member
member_of n word = if nat_eq n 1 then in_struct word else in_union word

abbrev pub base_number : Base → ℕ
base_number B.Int = 0
base_number (B.Struct n) = n

abbrev pub env : Environment
env = record {
  meaning = meaning_of;
  member = member_of;
  is_defined = λ n. true;
  scope = record { named = λ word. Sh.Outside; tagged = λ tag. Sh.Outside; placed = λ site. Sh.Outside };
  types = λ word. false;
  block_number = λ t. base_number t.base + 10 * t.stars;
  word_number = w;
}

-- ---- trees

abbrev pub x : ℕ → ExpressionTree
x n = name (codes "x") (at n)

abbrev pub y : ℕ → ExpressionTree
y n = name (codes "y") (at n)

abbrev pub p : ℕ → ExpressionTree
p n = name (codes "p") (at n)

abbrev pub q : ℕ → ExpressionTree
q n = name (codes "q") (at n)

abbrev pub gc : ℕ → ExpressionTree
gc n = name (codes "gc") (at n)

abbrev pub gs : ℕ → ExpressionTree
gs n = name (codes "gs") (at n)

abbrev pub getchar : ℕ → ExpressionTree
getchar n = call (at (n + 7)) (name (codes "getchar") (at n)) no_expressions

abbrev pub number : ℕ → ℕ → ExpressionTree
number value n = constant (Some value) (at n)

abbrev pub of_one : ExpressionTree → ℕ → ExpressionTree → ExpressionTree
of_one f n e = call (at n) f (an_expression e no_expressions)

abbrev pub of_two : ExpressionTree → ℕ → ExpressionTree → ExpressionTree → ExpressionTree
of_two f n e e1 = call (at n) f (an_expression e (an_expression e1 no_expressions))

abbrev pub the_x : ℕ → Expression
the_x n = T.local 0 (at n)

abbrev pub the_p : ℕ → Expression
the_p n = T.local 1 (at n)

abbrev pub the_q : ℕ → Expression
the_q n = T.local 2 (at n)

-- the number of a block type
abbrev pub block : ℕ → TypeId
block n = record { 0 = n }

-- a cell of a struct s, and of an int
abbrev pub cell : Expression → ℕ → ℕ → Expression
cell e field n = T.cell e (record { 0 = field }) (block 1) (at n)

abbrev pub int_cell : Expression → ℕ → Expression
int_cell e n = T.cell e (record { 0 = 0 }) (block 0) (at n)

abbrev pub Is : ExpressionTree → Operand → Type 0
Is e a = valued env e ≡ a

-- ---- values

pub record Values : Type 0 where
  pub a_local : Is (x 1) (of_type int (at 1) (the_x 1))
  pub a_constant : Is (number 5 1) (of_type int (at 1) (T.constant (pos 5)))
  pub a_counted : Is (name (codes "ONE") (at 1)) (of_type int (at 1) (T.constant (pos 1)))
  -- `x + 1`, `-x`, `x / 5`
  pub a_sum : Is (binary O.Add (at 3) (x 1) (number 1 5)) (of_type int (at 3) (T.arithmetic A.Add (the_x 1) (T.constant (pos 1))))
  pub a_minus : Is (prefixed P.Minus (at 1) (x 2)) (of_type int (at 1) (T.negated (the_x 2)))
  pub a_quotient : Is (binary O.Divide (at 3) (x 1) (number 5 5)) (of_type int (at 3) (T.arithmetic (A.Divide (at 3)) (the_x 1) (T.constant (pos 5))))
  -- `x < 1`, `p == NULL`, `!x`, `x && p`
  pub an_order : Is (binary O.Less (at 3) (x 1) (number 1 5)) (a_test (T.compare R.Less (the_x 1) (T.constant (pos 1)) (at 3)))
  pub an_equality : Is (binary O.Equal (at 3) (p 1) (name (codes "NULL") (at 6))) (a_test (T.compare R.SamePlace (the_p 1) T.null (at 3)))
  pub an_opposite : Is (prefixed P.Not (at 1) (x 2)) (a_test (T.opposite (T.word (the_x 2) (at 2))))
  pub a_both : Is (binary O.And (at 3) (x 1) (p 6)) (a_test (T.both (T.word (the_x 1) (at 1)) (T.pointer (the_p 6) (at 6))))
  -- `*q`, `q[0]`, `p->n`, `(*p).v`
  pub a_star : Is (prefixed P.Indirection (at 1) (q 2)) (of_type int (at 1) (int_cell (the_q 2) 1))
  pub a_first : Is (index (at 2) (q 1) (number 0 3)) (of_type int (at 2) (int_cell (the_q 1) 2))
  pub an_arrow : Is (pointer_member (at 2) (p 1) (codes "n")) (of_type pointed_struct (at 2) (cell (the_p 1) 1 2))
  pub a_dot : Is (member (at 5) (parenthesised (at 1) (prefixed P.Indirection (at 2) (p 3))) (codes "v")) (of_type int (at 5) (cell (the_p 3) 0 5))

-- ---- null

pub record Nulls : Type 0 where
  pub named : Is (name (codes "NULL") (at 1)) (a_null (w (codes "NULL")) (at 1))
  pub zero_is : needed env (at 1) pointed_struct (valued env (number 0 1)) ≡ T.null
  -- `(void *)0`, `(char *)0`, where a pointer is wanted and elsewhere
  pub starred : cast_as env (record { shape = Sh.Outside; is_starred = true }) (at 1) (valued env (number 0 8)) ≡ a_null (w (codes "cast")) (at 1)
  pub wanted : needed env (at 1) (pointer_to int) (a_null (w (codes "cast")) (at 1)) ≡ T.null
  pub unwanted : needed env (at 1) int (a_null (w (codes "cast")) (at 1)) ≡ stop [] (w (codes "cast")) (at 1)
  -- `(struct s *)0`, and `(struct s *)((void *)0)`
  pub cast_of : cast_as env (record { shape = Sh.Value (B.Struct 1) 1; is_starred = true }) (at 1) (valued env (number 0 12)) ≡ of_type pointed_struct (at 1) T.null
  pub cast_again : cast_as env (record { shape = Sh.Value (B.Struct 1) 1; is_starred = true }) (at 1) (a_null (w (codes "cast")) (at 14)) ≡ of_type pointed_struct (at 1) T.null
  -- `*(int *)0` is an access
  pub null_access : indirected env (codes "*") (at 1) (of_type (pointer_to int) (at 2) T.null) ≡ of_type int (at 1) (int_cell T.null 1)

-- ---- outside, with no parts

pub record Names : Type 0 where
  pub other_name : Is (gc 1) (a_name no_function unknown (w (codes "char")) (at 1))
  pub uncounted : Is (name (codes "NEG") (at 1)) (outside unknown [] (w (codes "enum")) (at 1))
  pub undeclared_one : Is (y 1) (a_name no_function unknown (w (codes "y")) (at 1))
  pub a_string : Is (string (at 1)) (outside unknown [] (w (codes "string")) (at 1))
  pub other_constant : Is (constant None (at 1)) (outside unknown [] (w (codes "constant")) (at 1))
  pub a_size : Is (measure M.Size (at 1) (getchar 8)) (outside unknown [] (w (codes "sizeof")) (at 1))
  pub an_alignment : Is (measure M.Alignment (at 1) (x 9)) (outside unknown [] (w (codes "_Alignof")) (at 1))
  pub is_constant : Is (of_one (name (codes "constant_p") (at 1)) 21 (getchar 22)) (outside unknown [] (w (codes "__builtin_constant_p")) (at 1))
  pub compatible : Is (form (codes "__builtin_types_compatible_p") (at 1) []) (outside unknown [] (w (codes "__builtin_types_compatible_p")) (at 1))
  pub of_object : Is (member (at 3) (gs 1) (codes "v")) (outside (known int) [] (w (codes ".")) (at 3))

-- ---- outside, with parts

pub record Parts : Type 0 where
  -- `p->c`, an access that nobody reads, `p->u.x` too; `p->a` and `p->u.d` are arrays
  pub outside_member : Is (pointer_member (at 2) (p 1) (codes "c")) (a_member unknown (the_p 1) (block 1) (at 2) (w (codes "->")) (at 2))
  pub member_of_member : Is (member (at 5) (pointer_member (at 2) (p 1) (codes "u")) (codes "x")) (a_member (known int) (the_p 1) (block 1) (at 2) (w (codes ".")) (at 5))
  pub array_member : Is (pointer_member (at 2) (p 1) (codes "a")) (a_member (K.Seen (Sh.Array B.Int 0)) (the_p 1) (block 1) (at 2) (w (codes "->")) (at 2))
  pub array_of_member : Is (member (at 5) (pointer_member (at 2) (p 1) (codes "u")) (codes "d")) (a_member K.Array (the_p 1) (block 1) (at 2) (w (codes ".")) (at 5))
  pub an_access : parts env (a_member unknown (the_p 1) (block 1) (at 2) (w (codes "->")) (at 2)) ≡ cell (the_p 1) 0 2 ∷ []
  pub no_access : parts env (a_member K.Array (the_p 1) (block 1) (at 2) (w (codes ".")) (at 5)) ≡ the_p 1 ∷ []
  -- `gc + getchar()`, `!gc`, `~x`, `+x`, `x & gc`, `p < p`, `p + 1`
  pub outside_sum : Is (binary O.Add (at 4) (gc 1) (getchar 6)) (outside unknown (T.get_char (at 6) ∷ []) (w (codes "+")) (at 4))
  pub outside_not : Is (prefixed P.Not (at 1) (gc 2)) (outside unknown [] (w (codes "!")) (at 1))
  pub a_complement : Is (prefixed P.Complement (at 1) (x 2)) (outside unknown (the_x 2 ∷ []) (w (codes "~")) (at 1))
  pub a_plus : Is (prefixed P.Plus (at 1) (x 2)) (outside unknown (the_x 2 ∷ []) (w (codes "+")) (at 1))
  pub a_mask : Is (binary O.BitAnd (at 3) (x 1) (gc 5)) (outside unknown (the_x 1 ∷ []) (w (codes "&")) (at 3))
  pub pointer_order : Is (binary O.Less (at 3) (p 1) (p 5)) (outside unknown (the_p 1 ∷ the_p 5 ∷ []) (w (codes "<")) (at 3))
  pub pointer_sum : Is (binary O.Add (at 3) (p 1) (number 1 5)) (outside unknown (the_p 1 ∷ T.constant (pos 1) ∷ []) (w (codes "+")) (at 3))
  -- `&p->v` is no access, and `&gs.a[getchar()]` reads its index
  pub an_address : Is (prefixed P.Address (at 1) (pointer_member (at 3) (p 2) (codes "v"))) (outside unknown (the_p 2 ∷ []) (w (codes "&")) (at 1))
  pub element_address : Is (prefixed P.Address (at 1) (index (at 6) (member (at 4) (gs 2) (codes "a")) (getchar 7))) (outside unknown (T.get_char (at 7) ∷ []) (w (codes "&")) (at 1))
  -- `(void)x`, and `(int)p`
  pub cast_of_value : cast_as env nothing_seen (at 1) (valued env (x 7)) ≡ outside unknown (the_x 7 ∷ []) (w (codes "cast")) (at 1)
  pub cast_of_pointer : cast_as env (record { shape = Sh.Value B.Int 0; is_starred = false }) (at 1) (valued env (p 6)) ≡ outside (known int) (the_p 6 ∷ []) (w (codes "cast")) (at 1)
  -- `(int)x` is x
  pub own_cast : cast_as env (record { shape = Sh.Value B.Int 0; is_starred = false }) (at 1) (valued env (x 6)) ≡ of_type int (at 6) (the_x 6)

-- ---- where a value is needed

pub record Needs : Type 0 where
  pub of_outside : needed env (at 1) int (valued env (gc 1)) ≡ stop [] (w (codes "char")) (at 1)
  pub of_member : needed env (at 1) int (valued env (pointer_member (at 2) (p 1) (codes "c"))) ≡ stop (cell (the_p 1) 0 2 ∷ []) (w (codes "->")) (at 2)
  pub of_another_type : needed env (at 1) int (valued env (p 1)) ≡ stop (the_p 1 ∷ []) (w (codes "type")) (at 1)
  pub to_decide : deciding env (valued env (gc 1)) ≡ T.word (stop [] (w (codes "char")) (at 1)) (at 1)
  -- `x && gc`
  pub on_the_right : Is (binary O.And (at 3) (x 1) (gc 6)) (a_test (T.both (T.word (the_x 1) (at 1)) (T.word (stop [] (w (codes "char")) (at 6)) (at 6))))
  pub freed_pointer : freed env (at 6) (valued env (p 6)) ≡ (struct 1, the_p 6)
  pub freed_null : freed env (at 6) (valued env (number 0 6)) ≡ (int, T.null)
  pub freed_outside : freed env (at 6) (valued env (gc 6)) ≡ (int, stop [] (w (codes "char")) (at 6))

-- ---- a `Stop`

pub record Stops : Type 0 where
  pub a_selection : Is (form (codes "_Generic") (at 1) []) (stopped [] (w (codes "_Generic")) (at 1))
  -- `gc / x`, `x << 1`, `*gc`, `gc->v`, `(*gc).v`, `q[x]`
  pub outside_quotient : Is (binary O.Divide (at 4) (gc 1) (x 6)) (stopped (the_x 6 ∷ []) (w (codes "/")) (at 4))
  pub a_shift : Is (binary O.ShiftLeft (at 3) (x 1) (number 1 6)) (stopped (the_x 1 ∷ T.constant (pos 1) ∷ []) (w (codes "<<")) (at 3))
  pub outside_star : Is (prefixed P.Indirection (at 1) (gc 2)) (an_object unknown [] (w (codes "*")) (at 1))
  pub outside_arrow : Is (pointer_member (at 3) (gc 1) (codes "v")) (an_object unknown [] (w (codes "->")) (at 3))
  pub outside_dot : Is (member (at 6) (parenthesised (at 1) (prefixed P.Indirection (at 2) (gc 3))) (codes "v")) (an_object unknown [] (w (codes "*")) (at 2))
  pub an_element : Is (index (at 2) (q 1) (x 3)) (an_object (known int) (the_q 1 ∷ the_x 3 ∷ []) (w (codes "[")) (at 2))
  -- `*p` of a struct, and a member that isn't there
  pub a_struct : Is (prefixed P.Indirection (at 1) (p 2)) (a_struct 1 (the_p 2) (w (codes "*")) (at 1))
  pub no_member : Is (pointer_member (at 2) (p 1) (codes "z")) (stopped (the_p 1 ∷ []) (w (codes "->")) (at 2))
  -- `getchar() ? 1 : 2`, `getchar(), x`, `p->v = getchar()`, `x++`, `--x`
  pub a_choice : Is (choice (at 11) (getchar 1) (number 1 13) (number 2 17)) (stopped (T.get_char (at 1) ∷ []) (w (codes "?")) (at 11))
  pub a_comma : Is (binary O.Comma (at 10) (getchar 1) (x 12)) (stopped (T.get_char (at 1) ∷ []) (w (codes ",")) (at 10))
  pub an_assignment : Is (assign None (at 6) (pointer_member (at 2) (p 1) (codes "v")) (getchar 8)) (stopped (the_p 1 ∷ []) (w (codes "=")) (at 6))
  pub an_update : Is (assign (Some O.BitOr) (at 3) (x 1) (number 1 6)) (stopped [] (w (codes "|=")) (at 3))
  pub a_step : Is (step S.Increment (at 2) (x 1)) (stopped [] (w (codes "++")) (at 2))
  pub a_prefix : Is (prefixed P.Decrement (at 1) (x 3)) (stopped [] (w (codes "--")) (at 1))
  pub a_literal : Is (literal (at 1) [] []) (stopped [] (w (codes "(")) (at 1))
  pub a_statement : Is (statement (at 1) []) (stopped [] (w (codes "(")) (at 1))
  -- nothing follows it: `_Generic()[x]`
  pub nothing_follows : Is (index (at 11) (form (codes "_Generic") (at 1) []) (x 12)) (stopped [] (w (codes "_Generic")) (at 1))

-- ---- calls

abbrev pub size_of_block : ℕ → ExpressionTree
size_of_block n = measure M.Size (at n) (prefixed P.Indirection (at (n + 7)) (p (n + 8)))

pub record Calls : Type 0 where
  -- `malloc(sizeof *p)`, where a `struct s *` is wanted or cast to, and elsewhere
  pub a_malloc : Is (of_one (name (codes "malloc") (at 1)) 7 (size_of_block 8)) (a_block (struct 1) (at 1))
  pub wanted : needed env (at 1) pointed_struct (a_block (struct 1) (at 1)) ≡ T.allocate (block 1) (at 1)
  pub cast_to_it : cast_as env (record { shape = Sh.Value (B.Struct 1) 1; is_starred = true }) (at 1) (a_block (struct 1) (at 13)) ≡ of_type pointed_struct (at 13) (T.allocate (block 1) (at 13))
  pub unwanted : needed env (at 1) (pointer_to int) (a_block (struct 1) (at 1)) ≡ stop [] (w (codes "malloc")) (at 1)
  -- `malloc(getchar())`, `calloc(x, 1)`, `free(p)` within an expression
  pub other_malloc : Is (of_one (name (codes "malloc") (at 1)) 7 (getchar 8)) (stopped (T.get_char (at 8) ∷ []) (w (codes "malloc")) (at 1))
  pub a_calloc : Is (of_two (name (codes "calloc") (at 1)) 7 (x 8) (number 1 11)) (stopped (the_x 8 ∷ T.constant (pos 1) ∷ []) (w (codes "calloc")) (at 1))
  pub a_free : Is (of_one (name (codes "free") (at 1)) 5 (p 6)) (stopped (the_p 6 ∷ []) (w (codes "free")) (at 1))
  pub an_input : Is (getchar 1) (of_type int (at 1) (T.get_char (at 1)))
  pub expected : Is (of_two (name (codes "expect") (at 1)) 7 (x 8) (number 0 11)) (of_type int (at 8) (the_x 8))
  -- `f(x, gc)`: the second argument is erased
  pub a_call : Is (of_two (name (codes "f") (at 1)) 2 (x 3) (gc 6)) (of_type int (at 1) (T.call (record { 0 = 7 }) (T.an_argument (T.passed (the_x 3)) (T.an_argument (T.erased T.no_expressions) T.no_arguments)) V.Int (at 1)))
  -- `f(gc, gc)`: the first one is needed
  pub needed_argument : Is (of_two (name (codes "f") (at 1)) 2 (gc 3) (gc 7)) (of_type int (at 1) (T.call (record { 0 = 7 }) (T.an_argument (T.passed (stop [] (w (codes "char")) (at 3))) (T.an_argument (T.erased T.no_expressions) T.no_arguments)) V.Int (at 1)))
  -- `h(gc)` has no result of the profile
  pub no_result : Is (of_one (name (codes "h") (at 1)) 2 (gc 3)) (outside unknown (T.call (record { 0 = 8 }) (T.an_argument (T.erased T.no_expressions) T.no_arguments) V.Int (at 1) ∷ []) (w (codes "call")) (at 1))
  -- `h(getchar())`, `f(getchar(), p->c)`: what isn't passed is evaluated
  pub an_effect : Is (of_one (name (codes "h") (at 1)) 2 (getchar 3)) (outside unknown (T.call (record { 0 = 8 }) (T.an_argument (T.erased (T.an_expression (T.get_char (at 3)) T.no_expressions)) T.no_arguments) V.Int (at 1) ∷ []) (w (codes "call")) (at 1))
  pub effects_in_order : Is (of_two (name (codes "f") (at 1)) 2 (getchar 3) (pointer_member (at 15) (p 14) (codes "c"))) (of_type int (at 1) (T.call (record { 0 = 7 }) (T.an_argument (T.passed (T.get_char (at 3))) (T.an_argument (T.erased (T.an_expression (cell (the_p 14) 0 15) T.no_expressions)) T.no_arguments)) V.Int (at 1)))
  -- `f(x)`, of another number, `y(getchar())`, of no declared name, `gc(x)` and `gc.v(x)`, of anything else
  pub another_number : Is (of_one (name (codes "f") (at 1)) 2 (x 3)) (stopped (the_x 3 ∷ []) (w (codes "call")) (at 1))
  pub of_undeclared : Is (of_one (y 1) 2 (getchar 3)) (stopped (T.get_char (at 3) ∷ []) (w (codes "call")) (at 1))
  pub of_object : Is (of_one (gc 1) 3 (x 4)) (stopped (the_x 4 ∷ []) (w (codes "call")) (at 1))
  pub of_member : Is (of_one (member (at 3) (gs 1) (codes "v")) 5 (x 6)) (stopped (the_x 6 ∷ []) (w (codes "call")) (at 5))

pub record Worked : Type 0 where
  pub values : Values
  pub nulls : Nulls
  pub names : Names
  pub with_parts : Parts
  pub needs : Needs
  pub stops : Stops
  pub calls : Calls
