-- Typed trees of procedures as plain data: names are numbers of locals, procedures and fields, and each
-- access says the type of its block. The locals are numbered in the order of their declarations, the
-- parameters first.
use Rattle.std.specs.Prelude.{ℕ, ℤ, List, [], ◌∷◌, Option}
use Rattle.px_base.specs.declared.trace.Site.{Site}
use Rattle.px_base.specs.declared.trace.ProcId.{ProcId}
use Rattle.px_base.specs.declared.trace.FieldId.{FieldId}
use Rattle.px_terms.specs.declared.types.TypeId.{TypeId}
use Rattle.px_terms.specs.declared.types.ValueType.{ValueType}
use Rattle.px_syntax.specs.declared.typed_expression.Arithmetic.{Arithmetic}
use Rattle.px_syntax.specs.declared.typed_expression.Relation.{Relation}

mutual
  pub data Expression : Type 0 where
    constant : ℤ → Expression
    null : Expression
    -- a local, read at its token
    local : ℕ → Site → Expression
    negated : Expression → Expression
    arithmetic : Arithmetic → Expression → Expression → Expression
    -- the value of `&&`, `||`, `!` or a comparison
    truth : Condition → Expression
    -- `*` or `->` at the operator's token
    cell : Expression → FieldId → TypeId → Site → Expression
    allocate : TypeId → Site → Expression
    get_char : Site → Expression
    -- with the type of the value
    call : ProcId → Arguments → ValueType → Site → Expression
    -- what isn't understood, of any type, by the number of its word; its parts are evaluated for their effects
    stop : ℕ → Site → Expressions → Expression

  pub data Expressions : Type 0 where
    no_expressions : Expressions
    an_expression : Expression → Expressions → Expressions

  pub data Arguments : Type 0 where
    no_arguments : Arguments
    an_argument : Argument → Arguments → Arguments

  pub data Argument : Type 0 where
    passed : Expression → Argument
    -- of a parameter that the procedure doesn't have: its parts are evaluated for their effects, and nothing is passed
    erased : Expressions → Argument

  pub data Condition : Type 0 where
    compare : Relation → Expression → Expression → Site → Condition
    -- any other expression as a condition: a word, or a pointer
    word : Expression → Site → Condition
    pointer : Expression → Site → Condition
    both : Condition → Condition → Condition
    either : Condition → Condition → Condition
    opposite : Condition → Condition

-- what is assigned: a local that is read at its token, or a cell
pub data Place : Type 0 where
  local_place : ℕ → Site → Place
  cell_place : Expression → FieldId → TypeId → Site → Place

mutual
  pub data Statement : Type 0 where
    block : Statements → Statement
    declare : ℕ → Option Expression → Statement
    assign : Place → Expression → Statement
    update : Arithmetic → Place → Expression → Statement
    run_call : ProcId → Arguments → Site → Statement
    free : Expression → TypeId → Site → Statement
    input : Site → Statement
    choose : Condition → Statement → Statement → Statement
    -- `while`, and `for` after its first part: condition, body, step
    loop : Site → Option Condition → Statement → Statement → Statement
    break : Statement
    continue : Statement
    return : Option Expression → Statement
    -- an expression whose value isn't read
    evaluate : Expression → Statement
    -- a member that isn't known is assigned: the pointer to its block is evaluated, and these parts for their effects; then
    -- the block is accessed, as for this cell, and nothing is stored
    access : Expression → Expressions → FieldId → TypeId → Site → Statement

  pub data Statements : Type 0 where
    no_statements : Statements
    a_statement : Statement → Statements → Statements

abbrev pub expressions_of : List Expression → Expressions
expressions_of [] = no_expressions
expressions_of (e ∷ rest) = an_expression e (expressions_of rest)

abbrev pub arguments_of : List Argument → Arguments
arguments_of [] = no_arguments
arguments_of (a ∷ rest) = an_argument a (arguments_of rest)

abbrev pub statements_of : List Statement → Statements
statements_of [] = no_statements
statements_of (s ∷ rest) = a_statement s (statements_of rest)
