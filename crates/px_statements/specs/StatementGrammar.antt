-- The grammar of statements: which lexemes are which tree. Each family is a production.
use Rattle.std.specs.Prelude.{◌≡◌, ℕ, zero, suc, ◌-◌, ◌<◌, List, [], ◌∷◌, ◌++◌, Option, Bool, true, false}
use Rattle.px_expressions.specs.Lexemes.{Lexeme}
use Rattle.px_expressions.specs.declared.terminal.Terminal.TheVariants as T
use Rattle.px_expressions.specs.Grammar.{Gram, Parenthesised, IsExpression}
use Rattle.px_syntax.specs.ExpressionTree.{ExpressionTree}
use Rattle.px_syntax.specs.StatementTree.{DeclarationTree, SimpleTree, FirstTree, StatementTree, statements_of, empty, block, declare, simple_statement, choose, choose_else, while_loop, for_loop, break, continue, return}
use Rattle.px_statements.specs.SimpleGrammar.{IsDeclaration, IsSimple, IsOptional, IsFirst}

-- whether an `else` after the statement would belong to an `if` in it
abbrev pub hangs : StatementTree → Bool
hangs (choose e s) = true
hangs (choose_else e s t) = hangs t
hangs (while_loop w e s) = hangs s
hangs (for_loop w a b c s) = hangs s
hangs _ = false

abbrev pub is_declaration_tree : StatementTree → Bool
is_declaration_tree (declare a) = true
is_declaration_tree _ = false

-- sub: a statement other than a declaration
pub data IsSub (inside : Gram StatementTree) : List Lexeme → StatementTree → Type 0 where
  is_sub : {ts : List Lexeme} {s : StatementTree} → inside ts s → is_declaration_tree s ≡ false → IsSub inside ts s

-- stmt*
pub data AreStatements (inside : Gram StatementTree) : List Lexeme → List StatementTree → Type 0 where
  no_statement : {ts : List Lexeme} {ss : List StatementTree} → ts ≡ [] → ss ≡ [] → AreStatements inside ts ss
  one_statement : {ts1 ts2 ts : List Lexeme} {s : StatementTree} {ss1 ss : List StatementTree} →
      inside ts1 s → AreStatements inside ts2 ss1 → ts ≡ ts1 ++ ts2 → ss ≡ s ∷ ss1 → AreStatements inside ts ss

-- { stmt* }
pub data IsBraced (inside : Gram StatementTree) : List Lexeme → List StatementTree → Type 0 where
  is_braced : {o : Lexeme} (c : Lexeme) {ts1 ts : List Lexeme} {ss : List StatementTree} →
      o.terminal ≡ T.OpenBrace → c.terminal ≡ T.CloseBrace → AreStatements inside ts1 ss → ts ≡ o ∷ ts1 ++ c ∷ [] → IsBraced inside ts ss

-- stmt, where d more may be opened, and `inside` is the grammar of a statement inside one that is opened here
pub data StatementOf (d : ℕ) (inside : Gram StatementTree) : List Lexeme → StatementTree → Type 0 where
  -- ;
  is_empty : {t : Lexeme} {ts : List Lexeme} {s : StatementTree} → t.terminal ≡ T.Semicolon → ts ≡ t ∷ [] → s ≡ empty → StatementOf d inside ts s
  -- { }, in which nothing stands, so that nothing is opened
  is_empty_block : {o c : Lexeme} {ts : List Lexeme} {s : StatementTree} → o.terminal ≡ T.OpenBrace → c.terminal ≡ T.CloseBrace → ts ≡ o ∷ c ∷ [] → s ≡ block (statements_of []) → StatementOf d inside ts s
  -- { stmt* }
  is_block : {ts : List Lexeme} {ss : List StatementTree} {s : StatementTree} → 0 < d → IsBraced inside ts ss → s ≡ block (statements_of ss) → StatementOf d inside ts s
  -- decl ;
  is_declare : {ts1 ts : List Lexeme} {a : DeclarationTree} {s : StatementTree} (t : Lexeme) →
      IsDeclaration d ts1 a → t.terminal ≡ T.Semicolon → ts ≡ ts1 ++ t ∷ [] → s ≡ declare a → StatementOf d inside ts s
  -- simple ;
  is_simple : {ts1 ts : List Lexeme} {a : SimpleTree} {s : StatementTree} (t : Lexeme) →
      IsSimple d ts1 a → t.terminal ≡ T.Semicolon → ts ≡ ts1 ++ t ∷ [] → s ≡ simple_statement a → StatementOf d inside ts s
  -- if ( expr ) sub
  is_if : {t : Lexeme} {ts1 ts2 ts : List Lexeme} {e : ExpressionTree} {s1 s : StatementTree} →
      t.terminal ≡ T.If → 0 < d → Parenthesised (IsExpression (d - 1)) ts1 e → IsSub inside ts2 s1 → ts ≡ t ∷ ts1 ++ ts2 → s ≡ choose e s1 → StatementOf d inside ts s
  -- if ( expr ) sub else sub, where the first is no `if` that the `else` would belong to
  is_if_else : {t : Lexeme} {ts1 ts2 ts3 ts : List Lexeme} {e : ExpressionTree} {s1 s2 s : StatementTree} (l : Lexeme) →
      t.terminal ≡ T.If → l.terminal ≡ T.Else → 0 < d → Parenthesised (IsExpression (d - 1)) ts1 e → IsSub inside ts2 s1 → hangs s1 ≡ false → IsSub inside ts3 s2 →
      ts ≡ t ∷ ts1 ++ (ts2 ++ l ∷ ts3) → s ≡ choose_else e s1 s2 → StatementOf d inside ts s
  -- while ( expr ) sub
  is_while : {t : Lexeme} {ts1 ts2 ts : List Lexeme} {e : ExpressionTree} {s1 s : StatementTree} →
      t.terminal ≡ T.While → 0 < d → Parenthesised (IsExpression (d - 1)) ts1 e → IsSub inside ts2 s1 → ts ≡ t ∷ ts1 ++ ts2 → s ≡ while_loop t.site e s1 → StatementOf d inside ts s
  -- for ( first? ; expr? ; simple? ) sub
  is_for : {t o : Lexeme} {ts1 ts2 ts3 ts4 ts : List Lexeme} {a : Option FirstTree} {b : Option ExpressionTree} {c : Option SimpleTree} {s1 s : StatementTree} →
      t.terminal ≡ T.For → 0 < d → o.terminal ≡ T.OpenParenthesis →
      IsOptional (IsFirst (d - 1)) T.Semicolon ts1 a → IsOptional (IsExpression (d - 1)) T.Semicolon ts2 b → IsOptional (IsSimple (d - 1)) T.CloseParenthesis ts3 c → IsSub inside ts4 s1 →
      ts ≡ t ∷ o ∷ ts1 ++ (ts2 ++ (ts3 ++ ts4)) → s ≡ for_loop t.site a b c s1 → StatementOf d inside ts s
  -- break ;
  is_break : {t u : Lexeme} {ts : List Lexeme} {s : StatementTree} → t.terminal ≡ T.Break → u.terminal ≡ T.Semicolon → ts ≡ t ∷ u ∷ [] → s ≡ break → StatementOf d inside ts s
  -- continue ;
  is_continue : {t u : Lexeme} {ts : List Lexeme} {s : StatementTree} → t.terminal ≡ T.Continue → u.terminal ≡ T.Semicolon → ts ≡ t ∷ u ∷ [] → s ≡ continue → StatementOf d inside ts s
  -- return expr? ;
  is_return : {t : Lexeme} {ts1 ts : List Lexeme} {a : Option ExpressionTree} {s : StatementTree} →
      t.terminal ≡ T.Return → IsOptional (IsExpression d) T.Semicolon ts1 a → ts ≡ t ∷ ts1 → s ≡ return a → StatementOf d inside ts s

-- where d more may be opened
unfoldable pub IsStatement : ℕ → Gram StatementTree
IsStatement zero = StatementOf zero (λ ts s. ⊥)
IsStatement (suc d) = StatementOf (suc d) (IsStatement d)
