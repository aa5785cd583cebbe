-- What the trees of a program keep of types, as the typing rules of C and of the profile ask (C17 6.5, 6.8):
-- each local has one type, and each node takes and gives values by their types.
use Rattle.std.specs.Prelude.{◌≡◌, ℕ, Bool, true, false, IsTrue, List, [], ◌∷◌, ◌++◌, Option, Some, None, IfSome, FitsSigned, slice_get, ⊤}
use Rattle.std.specs.Int.{w32}
use Rattle.px_base.specs.declared.trace.FieldId.{FieldId}
use Rattle.px_syntax.specs.declared.typed_expression.Relation.TheVariants as relation
use Rattle.px_syntax.specs.TypedTree.{Expression, constant, null, local, negated, arithmetic, truth, cell, allocate, get_char, call, stop, Expressions, no_expressions, an_expression, Arguments, no_arguments, an_argument, passed, erased, Condition, compare, word, pointer, both, either, opposite, Place, local_place, cell_place, Statement, block, declare, assign, update, run_call, free, input, choose, loop, break, continue, return, evaluate, access, Statements, no_statements, a_statement}
use Rattle.px_syntax.specs.ProgramTree.{ProcedureTree}
use Rattle.px_terms.specs.Types.{types_of}
use Rattle.px_meaning.specs.Values.{TypeId, ValueType, Int, Pointer, BlockType, One, Fields, Opaque}
use Rattle.px_meaning.specs.TypedProgram.{TypedProgram}

-- the type of each local that there is
abbrev pub LocalTypes : Type 0
LocalTypes = ℕ → Option ValueType

-- the type of a cell of blocks of this type, where they have it
abbrev pub type_of_cell : List BlockType → TypeId → FieldId → Option ValueType
type_of_cell types b field = slice_get (types_of (slice_get types b.0)) field.0

-- a block type whose cells are known (C17 6.2.5): `int`, a pointer, or a struct that is defined
abbrev pub IsDefined : Option BlockType → Type 0
IsDefined (Some (One t)) = ⊤
IsDefined (Some (Fields ts)) = ⊤
IsDefined (Some Opaque) = ⊥
IsDefined None = ⊥

-- A call takes what its callee's parameters are, and gives what the callee does, where its value is used
-- as one of this type. A callee that isn't kept takes and gives anything, since it is never executed.
abbrev pub AgreesWith : Option ProcedureTree → List ValueType → Option ValueType → Type 0
AgreesWith None arguments result = ⊤
AgreesWith (Some p) arguments result = (p.parameters ≡ arguments) × IfSome result (λ t. p.result ≡ Some t)

module _ (P : TypedProgram) (locals : LocalTypes) where
  abbrev mutual
    -- the expression has a value of this type
    pub IsOf : ValueType → Expression → Type 0
    IsOf t (constant z) = (t ≡ Int) × FitsSigned w32 z
    IsOf t null = (b : TypeId) × (t ≡ Pointer b)
    IsOf t (local n site) = locals n ≡ Some t
    IsOf t (negated e) = (t ≡ Int) × IsOf Int e
    IsOf t (arithmetic op e f) = (t ≡ Int) × IsOf Int e × IsOf Int f
    IsOf t (truth c) = (t ≡ Int) × IsCondition c
    IsOf t (cell e field b site) = IsOf (Pointer b) e × (type_of_cell P.types b field ≡ Some t)
    IsOf t (allocate b site) = (t ≡ Pointer b) × IsDefined (slice_get P.types b.0)
    IsOf t (get_char site) = t ≡ Int
    IsOf t (call proc es result site) = (t ≡ result) × ((ts : List ValueType) × AreOf ts es × AgreesWith (P.procedures proc.0) ts (Some result))
    IsOf t (stop number site parts) = ArePassed parts

    -- the arguments that are passed have values of these types, in order
    pub AreOf : List ValueType → Arguments → Type 0
    AreOf ts (an_argument (erased parts) rest) = ArePassed parts × AreOf ts rest
    AreOf [] no_arguments = ⊤
    AreOf (t ∷ ts) (an_argument (passed e) rest) = IsOf t e × AreOf ts rest
    AreOf [] (an_argument (passed e) rest) = ⊥
    AreOf (t ∷ ts) no_arguments = ⊥

    -- the expressions keep the rules, where their values aren't read: a call may give none
    pub ArePassed : Expressions → Type 0
    ArePassed no_expressions = ⊤
    ArePassed (an_expression (call proc es result site) rest) = ((ts : List ValueType) × AreOf ts es × AgreesWith (P.procedures proc.0) ts None) × ArePassed rest
    ArePassed (an_expression e rest) = ((t : ValueType) × IsOf t e) × ArePassed rest

    -- two ints are compared, or two pointers to blocks of one type
    pub IsCondition : Condition → Type 0
    IsCondition (compare relation.SamePlace e f site) = (b : TypeId) × IsOf (Pointer b) e × IsOf (Pointer b) f
    IsCondition (compare relation.OtherPlace e f site) = (b : TypeId) × IsOf (Pointer b) e × IsOf (Pointer b) f
    IsCondition (compare relation.Equal e f site) = IsOf Int e × IsOf Int f
    IsCondition (compare relation.Unequal e f site) = IsOf Int e × IsOf Int f
    IsCondition (compare relation.Less e f site) = IsOf Int e × IsOf Int f
    IsCondition (compare relation.Greater e f site) = IsOf Int e × IsOf Int f
    IsCondition (compare relation.AtMost e f site) = IsOf Int e × IsOf Int f
    IsCondition (compare relation.AtLeast e f site) = IsOf Int e × IsOf Int f
    IsCondition (word e site) = IsOf Int e
    IsCondition (pointer e site) = (b : TypeId) × IsOf (Pointer b) e
    IsCondition (both c d) = IsCondition c × IsCondition d
    IsCondition (either c d) = IsCondition c × IsCondition d
    IsCondition (opposite c) = IsCondition c

  -- what is assigned holds values of this type
  abbrev pub IsPlaceOf : ValueType → Place → Type 0
  IsPlaceOf t (local_place n site) = locals n ≡ Some t
  IsPlaceOf t (cell_place e field b site) = IsOf (Pointer b) e × (type_of_cell P.types b field ≡ Some t)

  -- a missing condition keeps the rules
  abbrev pub IsConditionIf : Option Condition → Type 0
  IsConditionIf None = ⊤
  IsConditionIf (Some c) = IsCondition c

  -- a local is declared, with a value of its type where it has one
  abbrev pub IsDeclared : Option ValueType → Option Expression → Type 0
  IsDeclared None e = ⊥
  IsDeclared (Some t) None = ⊤
  IsDeclared (Some t) (Some e) = IsOf t e

  -- `return` has a value exactly where the procedure gives one
  abbrev pub IsReturned : Option ValueType → Option Expression → Type 0
  IsReturned None None = ⊤
  IsReturned None (Some e) = ⊥
  IsReturned (Some t) None = ⊥
  IsReturned (Some t) (Some e) = IsOf t e

  abbrev mutual
    -- the step of a loop only assigns and calls: it declares, chooses, repeats and leaves nothing
    pub IsStep : Statement → Type 0
    IsStep (block statements) = AreSteps statements
    IsStep (assign place e) = ⊤
    IsStep (update op place e) = ⊤
    IsStep (run_call proc es site) = ⊤
    IsStep (free e b site) = ⊤
    IsStep (input site) = ⊤
    IsStep (declare n e) = ⊥
    IsStep (choose c first second) = ⊥
    IsStep (loop site c body step) = ⊥
    IsStep break = ⊥
    IsStep continue = ⊥
    IsStep (return e) = ⊥
    IsStep (evaluate e) = ⊤
    IsStep (access e parts field b site) = ⊤

    pub AreSteps : Statements → Type 0
    AreSteps no_statements = ⊤
    AreSteps (a_statement s rest) = IsStep s × AreSteps rest

  abbrev mutual
    -- a statement of a procedure with this result, in a loop or not, keeps the rules
    pub IsStatement : Option ValueType → Bool → Statement → Type 0
    IsStatement result inside (block statements) = AreStatements result inside statements
    IsStatement result inside (declare n e) = IsDeclared (locals n) e
    IsStatement result inside (assign place e) = (t : ValueType) × IsPlaceOf t place × IsOf t e
    IsStatement result inside (update op place e) = IsPlaceOf Int place × IsOf Int e
    IsStatement result inside (run_call proc es site) = (ts : List ValueType) × AreOf ts es × AgreesWith (P.procedures proc.0) ts None
    IsStatement result inside (free e b site) = IsOf (Pointer b) e
    IsStatement result inside (input site) = ⊤
    IsStatement result inside (choose c first second) = IsCondition c × IsStatement result inside first × IsStatement result inside second
    IsStatement result inside (loop site c body step) = IsConditionIf c × IsStatement result true body × IsStep step × IsStatement result inside step
    IsStatement result inside break = IsTrue inside
    IsStatement result inside continue = IsTrue inside
    IsStatement result inside (return e) = IsReturned result e
    IsStatement result inside (evaluate e) = ArePassed (an_expression e no_expressions)
    IsStatement result inside (access e parts field b site) = IsOf (Pointer b) e × ArePassed parts × ((t : ValueType) × (type_of_cell P.types b field ≡ Some t))

    pub AreStatements : Option ValueType → Bool → Statements → Type 0
    AreStatements result inside no_statements = ⊤
    AreStatements result inside (a_statement s rest) = IsStatement result inside s × AreStatements result inside rest

-- the types of a procedure's locals, the parameters first
abbrev pub local_types : ProcedureTree → LocalTypes
local_types p n = slice_get (p.parameters ++ p.locals) n

-- the procedure keeps the typing rules
abbrev pub IsTypedProcedure : TypedProgram → ProcedureTree → Type 0
IsTypedProcedure P p = IsStatement P (local_types p) p.result false p.body

-- each kept procedure does
abbrev pub KeepsTyping : TypedProgram → Type 0
KeepsTyping P = (f : ℕ) (p : ProcedureTree) → P.procedures f ≡ Some p → IsTypedProcedure P p
