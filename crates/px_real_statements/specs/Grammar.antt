-- The grammar of statements (C11 A.2.3), with the forms of GNU C: which lexemes are which tree. Each family is a production.
use Rattle.std.specs.Prelude.{◌≡◌, ℕ, zero, suc, List, [], ◌∷◌, ◌++◌, Bool, true, false, None, if◌then◌else◌}
use Rattle.px_real_expressions.specs.Lexemes.{Lexeme, front}
use Rattle.px_real_expressions.specs.Held.{Balanced}
use Rattle.px_real_expressions.specs.Operators.{is_identifier}
use Rattle.px_real_expressions.specs.Grammar.{Gram, Between, IsHeld}
use Rattle.px_real_expressions.specs.declared.terminal.Terminal.{Terminal}
use Rattle.px_real_expressions.specs.declared.terminal.Terminal.TheVariants as T
use Rattle.px_real_statements.specs.Phrases.{is_loose, Phrase}
use Rattle.px_real_statements.specs.StatementTree.{LabelTree, named, case, default, StatementTree, statements_of, labelled_by, hangs, empty, simple, block, choose, choose_else, switch, while_loop, do_loop, for_loop, goto, break, continue, return, unread}

-- a word that says which statement begins, or `else`
abbrev pub is_statement_word : Terminal → Bool
is_statement_word T.If = true
is_statement_word T.Else = true
is_statement_word T.Switch = true
is_statement_word T.While = true
is_statement_word T.Do = true
is_statement_word T.For = true
is_statement_word T.Goto = true
is_statement_word T.Break = true
is_statement_word T.Continue = true
is_statement_word T.Return = true
is_statement_word T.Case = true
is_statement_word T.Default = true
is_statement_word _ = false

-- what begins a declaration or an expression
abbrev pub begins_simple : Terminal → Bool
begins_simple T.OpenParenthesis = true
begins_simple T.OpenBracket = true
begins_simple k = if is_statement_word k then false else is_loose k

-- a label (6.8.1); its name may be that of a type too (6.2.3)
pub data IsLabel : List Lexeme → LabelTree → Type 0 where
  is_named : {t c : Lexeme} {ts : List Lexeme} {l : LabelTree} → is_identifier t.terminal ≡ true → c.terminal ≡ T.Colon → ts ≡ t ∷ c ∷ [] → l ≡ named t.text t.site → IsLabel ts l
  is_case : {t : Lexeme} (c : Lexeme) {ts1 ts : List Lexeme} {l : LabelTree} → t.terminal ≡ T.Case → Phrase ts1 → c.terminal ≡ T.Colon → ts ≡ t ∷ ts1 ++ c ∷ [] → l ≡ case t.site ts1 → IsLabel ts l
  is_default : {t c : Lexeme} {ts : List Lexeme} {l : LabelTree} → t.terminal ≡ T.Default → c.terminal ≡ T.Colon → ts ≡ t ∷ c ∷ [] → l ≡ default t.site → IsLabel ts l

-- label*
pub data Labels : List Lexeme → List LabelTree → Type 0 where
  no_label : {ts : List Lexeme} {ls : List LabelTree} → ts ≡ [] → ls ≡ [] → Labels ts ls
  one_label : {ts1 ts2 ts : List Lexeme} {l : LabelTree} {ls1 ls : List LabelTree} → IsLabel ts1 l → Labels ts2 ls1 → ts ≡ ts1 ++ ts2 → ls ≡ l ∷ ls1 → Labels ts ls

-- no `else` follows that would belong to an `if` in the statement
abbrev pub EndsBefore : StatementTree → List Lexeme → Type 0
EndsBefore s rest = hangs s ≡ true → front T.Else rest ≡ None

-- no statement begins there
abbrev pub NoneBegins : Gram StatementTree → List Lexeme → Type 0
NoneBegins inside ts = (ts1 ts2 : List Lexeme) (s : StatementTree) → inside ts1 s → ts ≡ ts1 ++ ts2 → EndsBefore s ts2 → ⊥

-- what stands in a block (6.8.2): statements, and where one isn't read, all up to the block's end
pub data Items (inside : Gram StatementTree) : List Lexeme → List StatementTree → Type 0 where
  no_item : {ts : List Lexeme} {ss : List StatementTree} → ts ≡ [] → ss ≡ [] → Items inside ts ss
  an_item : {ts1 ts2 ts : List Lexeme} {s : StatementTree} {ss1 ss : List StatementTree} →
      inside ts1 s → EndsBefore s ts2 → Items inside ts2 ss1 → ts ≡ ts1 ++ ts2 → ss ≡ s ∷ ss1 → Items inside ts ss
  an_unread : {t : Lexeme} {ts1 ts : List Lexeme} {ss : List StatementTree} →
      Balanced ts → NoneBegins inside ts → ts ≡ t ∷ ts1 → ss ≡ unread ts ∷ [] → Items inside ts ss

-- a statement without its labels, where `inside` is the grammar of those within it
pub data Unlabelled (inside : Gram StatementTree) : List Lexeme → StatementTree → Type 0 where
  -- ; (6.8.3)
  is_empty : {t : Lexeme} {ts : List Lexeme} {s : StatementTree} → t.terminal ≡ T.Semicolon → ts ≡ t ∷ [] → s ≡ empty → Unlabelled inside ts s
  -- a declaration (6.7) or an expression (6.8.3)
  is_simple : {t : Lexeme} (e : Lexeme) {ts1 ts : List Lexeme} {s : StatementTree} →
      begins_simple t.terminal ≡ true → Phrase (t ∷ ts1) → e.terminal ≡ T.Semicolon → ts ≡ t ∷ ts1 ++ e ∷ [] → s ≡ simple (t ∷ ts1) → Unlabelled inside ts s
  -- { item* } (6.8.2)
  is_block : {o : Lexeme} {ts : List Lexeme} {ss : List StatementTree} {s : StatementTree} →
      Between T.OpenBrace T.CloseBrace (Items inside) ts o ss → s ≡ block (statements_of ss) → Unlabelled inside ts s
  -- if ( expression ) statement (6.8.4)
  is_if : {t o : Lexeme} {ts1 ts2 ts a : List Lexeme} {s1 s : StatementTree} →
      t.terminal ≡ T.If → Between T.OpenParenthesis T.CloseParenthesis IsHeld ts1 o a → inside ts2 s1 → ts ≡ t ∷ ts1 ++ ts2 → s ≡ choose t.site a s1 → Unlabelled inside ts s
  -- if ( expression ) statement else statement, where the first is no `if` that the `else` would belong to
  is_if_else : {t o : Lexeme} (l : Lexeme) {ts1 ts2 ts3 ts a : List Lexeme} {s1 s2 s : StatementTree} →
      t.terminal ≡ T.If → Between T.OpenParenthesis T.CloseParenthesis IsHeld ts1 o a → inside ts2 s1 → hangs s1 ≡ false → l.terminal ≡ T.Else → inside ts3 s2 →
      ts ≡ t ∷ ts1 ++ (ts2 ++ l ∷ ts3) → s ≡ choose_else t.site a s1 s2 → Unlabelled inside ts s
  -- switch ( expression ) statement (6.8.4)
  is_switch : {t o : Lexeme} {ts1 ts2 ts a : List Lexeme} {s1 s : StatementTree} →
      t.terminal ≡ T.Switch → Between T.OpenParenthesis T.CloseParenthesis IsHeld ts1 o a → inside ts2 s1 → ts ≡ t ∷ ts1 ++ ts2 → s ≡ switch t.site a s1 → Unlabelled inside ts s
  -- while ( expression ) statement (6.8.5)
  is_while : {t o : Lexeme} {ts1 ts2 ts a : List Lexeme} {s1 s : StatementTree} →
      t.terminal ≡ T.While → Between T.OpenParenthesis T.CloseParenthesis IsHeld ts1 o a → inside ts2 s1 → ts ≡ t ∷ ts1 ++ ts2 → s ≡ while_loop t.site a s1 → Unlabelled inside ts s
  -- do statement while ( expression ) ; (6.8.5)
  is_do : {t o : Lexeme} (w e : Lexeme) {ts1 ts2 ts a : List Lexeme} {s1 s : StatementTree} →
      t.terminal ≡ T.Do → inside ts1 s1 → w.terminal ≡ T.While → Between T.OpenParenthesis T.CloseParenthesis IsHeld ts2 o a → e.terminal ≡ T.Semicolon →
      ts ≡ t ∷ ts1 ++ (w ∷ ts2 ++ e ∷ []) → s ≡ do_loop t.site s1 a → Unlabelled inside ts s
  -- for ( declaration or expression? ; expression? ; expression? ) statement (6.8.5)
  is_for : {t o : Lexeme} (e1 e2 c : Lexeme) {ts1 ts2 ts3 ts4 ts : List Lexeme} {s1 s : StatementTree} →
      t.terminal ≡ T.For → o.terminal ≡ T.OpenParenthesis → Phrase ts1 → e1.terminal ≡ T.Semicolon → Phrase ts2 → e2.terminal ≡ T.Semicolon → Phrase ts3 → c.terminal ≡ T.CloseParenthesis → inside ts4 s1 →
      ts ≡ t ∷ o ∷ ts1 ++ e1 ∷ (ts2 ++ e2 ∷ (ts3 ++ c ∷ ts4)) → s ≡ for_loop t.site ts1 ts2 ts3 s1 → Unlabelled inside ts s
  -- goto label ; (6.8.6)
  is_goto : {t : Lexeme} (e : Lexeme) {ts1 ts : List Lexeme} {s : StatementTree} → t.terminal ≡ T.Goto → Phrase ts1 → e.terminal ≡ T.Semicolon → ts ≡ t ∷ ts1 ++ e ∷ [] → s ≡ goto t.site ts1 → Unlabelled inside ts s
  -- break ; and continue ; (6.8.6)
  is_break : {t e : Lexeme} {ts : List Lexeme} {s : StatementTree} → t.terminal ≡ T.Break → e.terminal ≡ T.Semicolon → ts ≡ t ∷ e ∷ [] → s ≡ break t.site → Unlabelled inside ts s
  is_continue : {t e : Lexeme} {ts : List Lexeme} {s : StatementTree} → t.terminal ≡ T.Continue → e.terminal ≡ T.Semicolon → ts ≡ t ∷ e ∷ [] → s ≡ continue t.site → Unlabelled inside ts s
  -- return expression? ; (6.8.6)
  is_return : {t : Lexeme} (e : Lexeme) {ts1 ts : List Lexeme} {s : StatementTree} → t.terminal ≡ T.Return → Phrase ts1 → e.terminal ≡ T.Semicolon → ts ≡ t ∷ ts1 ++ e ∷ [] → s ≡ return t.site ts1 → Unlabelled inside ts s

-- label* statement
pub data StatementOf (inside : Gram StatementTree) : List Lexeme → StatementTree → Type 0 where
  is_labelled : {ts1 ts2 ts : List Lexeme} {ls : List LabelTree} {s1 s : StatementTree} → Labels ts1 ls → Unlabelled inside ts2 s1 → ts ≡ ts1 ++ ts2 → s ≡ labelled_by ls s1 → StatementOf inside ts s

abbrev pub nothing_inside : Gram StatementTree
nothing_inside ts s = ⊥

-- a statement, in which so many stand within one another
unfoldable pub IsStatement : ℕ → Gram StatementTree
IsStatement zero = nothing_inside
IsStatement (suc d) = StatementOf (IsStatement d)

-- what stands between the braces of a function's body, where d statements may stand within one another
abbrev pub IsBody : ℕ → Gram (List StatementTree)
IsBody d = Items (IsStatement d)
