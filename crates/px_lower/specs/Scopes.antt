-- What the law of lowering asks of a tree: its locals are those of the procedure, and the step of a loop
-- neither breaks nor continues. Trees that keep the typing rules are such trees.
use Rattle.std.specs.Prelude.{◌≡◌, ℕ, ◌<◌, Bool, true, false, IsTrue, Option, None, Some, ⊤}
use Rattle.px_syntax.specs.TypedTree.{Expression, constant, null, local, negated, arithmetic, truth, cell, allocate, get_char, call, stop, Expressions, no_expressions, an_expression, Arguments, no_arguments, an_argument, passed, erased, Condition, compare, word, pointer, both, either, opposite, Place, local_place, cell_place, Statement, block, declare, assign, update, run_call, free, input, choose, loop, break, continue, return, evaluate, access, Statements, no_statements, a_statement}
use Rattle.px_syntax.specs.ProgramTree.{ProcedureTree}
use Rattle.px_meaning.specs.TypedProgram.{TypedProgram}
use Rattle.px_lower.specs.LoweredProgram.{locals_of}

-- the locals are below m
abbrev mutual
  pub IsWithin : ℕ → Expression → Type 0
  IsWithin m (constant z) = ⊤
  IsWithin m null = ⊤
  IsWithin m (local i site) = i < m
  IsWithin m (negated e) = IsWithin m e
  IsWithin m (arithmetic op a b) = IsWithin m a × IsWithin m b
  IsWithin m (truth c) = IsTestWithin m c
  IsWithin m (cell p field t site) = IsWithin m p
  IsWithin m (allocate t site) = ⊤
  IsWithin m (get_char site) = ⊤
  IsWithin m (call proc arguments result site) = AreArgumentsWithin m arguments
  IsWithin m (stop number site parts) = AreWithin m parts

  pub AreWithin : ℕ → Expressions → Type 0
  AreWithin m no_expressions = ⊤
  AreWithin m (an_expression e rest) = IsWithin m e × AreWithin m rest

  pub AreArgumentsWithin : ℕ → Arguments → Type 0
  AreArgumentsWithin m no_arguments = ⊤
  AreArgumentsWithin m (an_argument (passed e) rest) = IsWithin m e × AreArgumentsWithin m rest
  AreArgumentsWithin m (an_argument (erased parts) rest) = AreWithin m parts × AreArgumentsWithin m rest

  pub IsTestWithin : ℕ → Condition → Type 0
  IsTestWithin m (compare r a b site) = IsWithin m a × IsWithin m b
  IsTestWithin m (word e site) = IsWithin m e
  IsTestWithin m (pointer e site) = IsWithin m e
  IsTestWithin m (both c d) = IsTestWithin m c × IsTestWithin m d
  IsTestWithin m (either c d) = IsTestWithin m c × IsTestWithin m d
  IsTestWithin m (opposite c) = IsTestWithin m c

abbrev pub IsPlaceWithin : ℕ → Place → Type 0
IsPlaceWithin m (local_place i site) = i < m
IsPlaceWithin m (cell_place p field t site) = IsWithin m p

abbrev pub IsWithinIf : ℕ → Option Expression → Type 0
IsWithinIf m None = ⊤
IsWithinIf m (Some e) = IsWithin m e

abbrev pub IsTestWithinIf : ℕ → Option Condition → Type 0
IsTestWithinIf m None = ⊤
IsTestWithinIf m (Some c) = IsTestWithin m c

-- and where `leaves` is false, nothing breaks or continues but in loops that stand in it
abbrev mutual
  pub IsStatementWithin : ℕ → Bool → Statement → Type 0
  IsStatementWithin m leaves (block statements) = AreStatementsWithin m leaves statements
  IsStatementWithin m leaves (declare i e) = (i < m) × IsWithinIf m e
  IsStatementWithin m leaves (assign place e) = IsPlaceWithin m place × IsWithin m e
  IsStatementWithin m leaves (update op place e) = IsPlaceWithin m place × IsWithin m e
  IsStatementWithin m leaves (run_call proc arguments site) = AreArgumentsWithin m arguments
  IsStatementWithin m leaves (free e t site) = IsWithin m e
  IsStatementWithin m leaves (input site) = ⊤
  IsStatementWithin m leaves (choose c first second) = IsTestWithin m c × IsStatementWithin m leaves first × IsStatementWithin m leaves second
  IsStatementWithin m leaves (loop site c body step) = IsTestWithinIf m c × IsStatementWithin m true body × IsStatementWithin m false step
  IsStatementWithin m leaves break = IsTrue leaves
  IsStatementWithin m leaves continue = IsTrue leaves
  IsStatementWithin m leaves (return e) = IsWithinIf m e
  IsStatementWithin m leaves (evaluate e) = IsWithin m e
  IsStatementWithin m leaves (access p parts field t site) = IsWithin m p × AreWithin m parts

  pub AreStatementsWithin : ℕ → Bool → Statements → Type 0
  AreStatementsWithin m leaves no_statements = ⊤
  AreStatementsWithin m leaves (a_statement s rest) = IsStatementWithin m leaves s × AreStatementsWithin m leaves rest

-- each kept procedure is so
abbrev pub KeepsScopes : TypedProgram → Type 0
KeepsScopes P = (f : ℕ) (p : ProcedureTree) → P.procedures f ≡ Some p → IsStatementWithin (locals_of p) true p.body
