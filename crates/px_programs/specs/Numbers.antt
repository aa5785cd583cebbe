-- The numbers of block types and of callees that stand in what a program has.
use Rattle.std.specs.Prelude.{ℕ, ◌<◌, Option, Some, None, IfSome, ⊤}
use Rattle.std.specs.List.{AllByRecursion}
use Rattle.px_terms.specs.declared.types.ValueType.{ValueType}
use Rattle.px_terms.specs.declared.types.ValueType.TheVariants.{Int, Pointer}
use Rattle.px_terms.specs.declared.types.BlockType.{BlockType}
use Rattle.px_terms.specs.declared.types.BlockType.TheVariants.{One, Fields, Opaque}
use Rattle.px_syntax.specs.TypedTree.{Expression, constant, null, local, negated, arithmetic, truth, cell, allocate, get_char, call, stop, Expressions, no_expressions, an_expression, Arguments, no_arguments, an_argument, passed, erased, Condition, compare, word, pointer, both, either, opposite, Place, local_place, cell_place, Statement, block, declare, assign, update, run_call, free, input, choose, loop, break, continue, return, evaluate, access, Statements, no_statements, a_statement}
use Rattle.px_syntax.specs.ProgramTree.{ProcedureTree}

-- so many block types are listed
module _ (types : ℕ) where
  abbrev pub IsValueListed : ValueType → Type 0
  IsValueListed Int = ⊤
  IsValueListed (Pointer b) = b.0 < types

  abbrev pub IsBlockListed : BlockType → Type 0
  IsBlockListed (One t) = IsValueListed t
  IsBlockListed (Fields ts) = AllByRecursion IsValueListed ts
  IsBlockListed Opaque = ⊤

-- so many functions have names
module _ (names types : ℕ) where
  -- each callee has a name, and each block type is listed
  abbrev mutual
    pub IsListed : Expression → Type 0
    IsListed (constant z) = ⊤
    IsListed null = ⊤
    IsListed (local n site) = ⊤
    IsListed (negated e) = IsListed e
    IsListed (arithmetic op e f) = IsListed e × IsListed f
    IsListed (truth c) = IsTestListed c
    IsListed (cell e field b site) = IsListed e × (b.0 < types)
    IsListed (allocate b site) = b.0 < types
    IsListed (get_char site) = ⊤
    IsListed (call proc es result site) = (proc.0 < names) × AreArgumentsListed es × IsValueListed types result
    IsListed (stop number site parts) = AreListed parts

    pub AreListed : Expressions → Type 0
    AreListed no_expressions = ⊤
    AreListed (an_expression e rest) = IsListed e × AreListed rest

    pub AreArgumentsListed : Arguments → Type 0
    AreArgumentsListed no_arguments = ⊤
    AreArgumentsListed (an_argument (passed e) rest) = IsListed e × AreArgumentsListed rest
    AreArgumentsListed (an_argument (erased parts) rest) = AreListed parts × AreArgumentsListed rest

    pub IsTestListed : Condition → Type 0
    IsTestListed (compare r e f site) = IsListed e × IsListed f
    IsTestListed (word e site) = IsListed e
    IsTestListed (pointer e site) = IsListed e
    IsTestListed (both c d) = IsTestListed c × IsTestListed d
    IsTestListed (either c d) = IsTestListed c × IsTestListed d
    IsTestListed (opposite c) = IsTestListed c

  abbrev pub IsPlaceListed : Place → Type 0
  IsPlaceListed (local_place n site) = ⊤
  IsPlaceListed (cell_place e field b site) = IsListed e × (b.0 < types)

  abbrev pub IsListedIf : Option Expression → Type 0
  IsListedIf None = ⊤
  IsListedIf (Some e) = IsListed e

  abbrev pub IsTestListedIf : Option Condition → Type 0
  IsTestListedIf None = ⊤
  IsTestListedIf (Some c) = IsTestListed c

  abbrev mutual
    pub IsStatementListed : Statement → Type 0
    IsStatementListed (block statements) = AreStatementsListed statements
    IsStatementListed (declare n e) = IsListedIf e
    IsStatementListed (assign place e) = IsPlaceListed place × IsListed e
    IsStatementListed (update op place e) = IsPlaceListed place × IsListed e
    IsStatementListed (run_call proc es site) = (proc.0 < names) × AreArgumentsListed es
    IsStatementListed (free e b site) = IsListed e × (b.0 < types)
    IsStatementListed (input site) = ⊤
    IsStatementListed (choose c first second) = IsTestListed c × IsStatementListed first × IsStatementListed second
    IsStatementListed (loop site c body step) = IsTestListedIf c × IsStatementListed body × IsStatementListed step
    IsStatementListed break = ⊤
    IsStatementListed continue = ⊤
    IsStatementListed (return e) = IsListedIf e
    IsStatementListed (evaluate e) = IsListed e
    IsStatementListed (access e parts field b site) = IsListed e × AreListed parts × (b.0 < types)

    pub AreStatementsListed : Statements → Type 0
    AreStatementsListed no_statements = ⊤
    AreStatementsListed (a_statement s rest) = IsStatementListed s × AreStatementsListed rest

  -- in the types of a procedure and in its body
  pub record IsProcedureListed (p : ProcedureTree) : Type 0 where
    pub parameters : AllByRecursion (IsValueListed types) p.parameters
    pub result : IfSome p.result (IsValueListed types)
    pub locals : AllByRecursion (IsValueListed types) p.locals
    pub body : IsStatementListed p.body
