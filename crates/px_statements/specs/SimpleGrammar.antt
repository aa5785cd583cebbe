-- The grammar of declarations and simple statements: which lexemes are which tree. Each family is a production.
use Rattle.std.specs.Prelude.{◌≡◌, ◌≢◌, ℕ, ◌-◌, ◌<◌, List, [], ◌∷◌, ◌++◌, Option, Some, None, true, false}
use Rattle.px_expressions.specs.Lexemes.{Lexeme}
use Rattle.px_expressions.specs.declared.terminal.Terminal.{Terminal}
use Rattle.px_expressions.specs.declared.terminal.Terminal.TheVariants as T
use Rattle.px_expressions.specs.Reading.{chain_limit}
use Rattle.px_statements.specs.SimpleReading.{update_of, opens, is_call_tree}
use Rattle.px_expressions.specs.Grammar.{Gram, IsBase, IsStars, Separated, Members, Primary, IsUnary, IsExpression}
use Rattle.px_syntax.specs.declared.type_name.Base.{Base}
use Rattle.px_syntax.specs.declared.type_name.Declarator.{Declarator}
use Rattle.px_syntax.specs.declared.expression.UnaryOperator.TheVariants as U
use Rattle.px_syntax.specs.declared.expression.BinaryOperator.{BinaryOperator}
use Rattle.px_syntax.specs.ExpressionTree.{ExpressionTree, unary, variable}
use Rattle.px_syntax.specs.StatementTree.{InitTree, DeclarationTree, SimpleTree, assign, update, increment, decrement, a_call, FirstTree, first_declaration, first_simple}

-- declr = star* NAME
pub data IsDeclarator : List Lexeme → Declarator → Type 0 where
  is_declarator : {ts1 ts : List Lexeme} {n : ℕ} {a : Declarator} (t : Lexeme) →
      IsStars ts1 n → t.terminal ≡ T.Name → ts ≡ ts1 ++ t ∷ [] → a ≡ record { stars = n; name = t.text } → IsDeclarator ts a

-- init = declr | declr = expr
pub data IsInit (d : ℕ) : List Lexeme → InitTree → Type 0 where
  plain_init : {ts : List Lexeme} {a : Declarator} {i : InitTree} → IsDeclarator ts a → i ≡ record { declarator = a; value = None } → IsInit d ts i
  valued_init : {ts1 ts : List Lexeme} {a : Declarator} {e : ExpressionTree} {i : InitTree} (t : Lexeme) (ts2 : List Lexeme) →
      IsDeclarator ts1 a → t.terminal ≡ T.Equal → IsExpression d ts2 e → ts ≡ ts1 ++ t ∷ ts2 → i ≡ record { declarator = a; value = Some e } → IsInit d ts i

-- decl = base init (, init)*
pub data IsDeclaration (d : ℕ) : List Lexeme → DeclarationTree → Type 0 where
  is_declaration : {ts1 ts2 ts : List Lexeme} {b : Base} {is : List InitTree} {a : DeclarationTree} →
      IsBase ts1 b → Separated (IsInit d) ts2 is → ts ≡ ts1 ++ ts2 → a ≡ record { base = b; declarators = is } → IsDeclaration d ts a

-- the grammar of a primary, where d more may be opened
abbrev pub PrimaryAt : ℕ → Gram ExpressionTree
PrimaryAt d = Primary d (IsUnary (d - 1))

-- lvalue = NAME | * unary | postfix -> NAME, where the arrows of the last are at most 200
pub data IsLvalue (d : ℕ) : List Lexeme → ExpressionTree → Type 0 where
  is_name : {t : Lexeme} {ts : List Lexeme} {e : ExpressionTree} → t.terminal ≡ T.Name → ts ≡ t ∷ [] → e ≡ variable t.text t.site → IsLvalue d ts e
  is_pointed : {t : Lexeme} {ts1 ts : List Lexeme} {e1 e : ExpressionTree} →
      t.terminal ≡ T.Star → 0 < d → IsUnary (d - 1) ts1 e1 → ts ≡ t ∷ ts1 → e ≡ unary U.Indirection t.site e1 → IsLvalue d ts e
  is_member : {ts1 ts2 ts : List Lexeme} {e1 e : ExpressionTree} →
      PrimaryAt d ts1 e1 → Members chain_limit e1 ts2 e → ts2 ≢ [] → ts ≡ ts1 ++ ts2 → IsLvalue d ts e

pub data IsSimple (d : ℕ) : List Lexeme → SimpleTree → Type 0 where
  -- lvalue = expr
  is_assign : {ts1 ts : List Lexeme} {e1 e2 : ExpressionTree} {a : SimpleTree} (t : Lexeme) (ts2 : List Lexeme) →
      IsLvalue d ts1 e1 → t.terminal ≡ T.Equal → IsExpression d ts2 e2 → ts ≡ ts1 ++ t ∷ ts2 → a ≡ assign e1 e2 → IsSimple d ts a
  -- lvalue += expr, lvalue -= expr, lvalue *= expr
  is_update : {ts1 ts : List Lexeme} {e1 e2 : ExpressionTree} {a : SimpleTree} (t : Lexeme) (ts2 : List Lexeme) (o : BinaryOperator) →
      IsLvalue d ts1 e1 → update_of t.terminal ≡ Some o → IsExpression d ts2 e2 → ts ≡ ts1 ++ t ∷ ts2 → a ≡ update o e1 e2 → IsSimple d ts a
  -- lvalue ++, lvalue --
  is_increment : {ts1 ts : List Lexeme} {e : ExpressionTree} {a : SimpleTree} (t : Lexeme) → IsLvalue d ts1 e → t.terminal ≡ T.PlusPlus → ts ≡ ts1 ++ t ∷ [] → a ≡ increment e → IsSimple d ts a
  is_decrement : {ts1 ts : List Lexeme} {e : ExpressionTree} {a : SimpleTree} (t : Lexeme) → IsLvalue d ts1 e → t.terminal ≡ T.MinusMinus → ts ≡ ts1 ++ t ∷ [] → a ≡ decrement e → IsSimple d ts a
  -- ++ lvalue, -- lvalue
  is_increment_of : {t : Lexeme} {ts1 ts : List Lexeme} {e : ExpressionTree} {a : SimpleTree} → t.terminal ≡ T.PlusPlus → IsLvalue d ts1 e → ts ≡ t ∷ ts1 → a ≡ increment e → IsSimple d ts a
  is_decrement_of : {t : Lexeme} {ts1 ts : List Lexeme} {e : ExpressionTree} {a : SimpleTree} → t.terminal ≡ T.MinusMinus → IsLvalue d ts1 e → ts ≡ t ∷ ts1 → a ≡ decrement e → IsSimple d ts a
  -- a call expression: a primary that is a call, and not in parentheses
  is_a_call : {ts : List Lexeme} {e : ExpressionTree} {a : SimpleTree} → PrimaryAt d ts e → opens ts ≡ false → is_call_tree e ≡ true → a ≡ a_call e → IsSimple d ts a

-- x? and a terminal after it
pub data IsOptional {A : Type 0} (part : Gram A) (k : Terminal) : List Lexeme → Option A → Type 0 where
  is_missing : {t : Lexeme} {ts : List Lexeme} {a : Option A} → t.terminal ≡ k → ts ≡ t ∷ [] → a ≡ None → IsOptional part k ts a
  is_there : {ts1 ts : List Lexeme} {x : A} {a : Option A} (t : Lexeme) → part ts1 x → t.terminal ≡ k → ts ≡ ts1 ++ t ∷ [] → a ≡ Some x → IsOptional part k ts a

-- first = decl | simple
pub data IsFirst (d : ℕ) : List Lexeme → FirstTree → Type 0 where
  is_first_declaration : {ts : List Lexeme} {x : DeclarationTree} {a : FirstTree} → IsDeclaration d ts x → a ≡ first_declaration x → IsFirst d ts a
  is_first_simple : {ts : List Lexeme} {x : SimpleTree} {a : FirstTree} → IsSimple d ts x → a ≡ first_simple x → IsFirst d ts a
