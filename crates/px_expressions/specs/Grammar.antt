-- The grammar of types and expressions: which lexemes are which tree. Each family is a production.
use Rattle.std.specs.Prelude.{◌≡◌, ℕ, zero, suc, ◌<◌, List, [], ◌∷◌, ◌++◌, Option, Some, None}
use Rattle.px_expressions.specs.Lexemes.{Lexeme}
use Rattle.px_expressions.specs.declared.terminal.Terminal.TheVariants as T
use Rattle.px_expressions.specs.Reading.{operator_at, prefix_of, chain_limit, constant_value}
use Rattle.px_syntax.specs.declared.type_name.Base.{Base}
use Rattle.px_syntax.specs.declared.type_name.Base.TheVariants as B
use Rattle.px_syntax.specs.declared.type_name.TypeName.{TypeName}
use Rattle.px_syntax.specs.ExpressionTree.{ExpressionTree, expressions_of, constant, null, variable, unary, binary, member, call, free, get_char, malloc}

abbrev pub Gram : Type 0 → Type 1
Gram A = List Lexeme → A → Type 0

-- (, x)*
pub data MoreItems {A : Type 0} (part : Gram A) : List Lexeme → List A → Type 0 where
  no_item : {ts : List Lexeme} {es : List A} → ts ≡ [] → es ≡ [] → MoreItems part ts es
  an_item : {t : Lexeme} {ts1 ts2 ts : List Lexeme} {e : A} {es1 es : List A} →
      t.terminal ≡ T.Comma → part ts1 e → MoreItems part ts2 es1 → ts ≡ t ∷ ts1 ++ ts2 → es ≡ e ∷ es1 → MoreItems part ts es

-- x (, x)*
pub data Separated {A : Type 0} (part : Gram A) : List Lexeme → List A → Type 0 where
  separated : {ts1 ts2 ts : List Lexeme} {e : A} {es1 es : List A} →
      part ts1 e → MoreItems part ts2 es1 → ts ≡ ts1 ++ ts2 → es ≡ e ∷ es1 → Separated part ts es

-- base = int | struct NAME
pub data IsBase : List Lexeme → Base → Type 0 where
  is_int : {t : Lexeme} {ts : List Lexeme} {b : Base} → t.terminal ≡ T.Int → ts ≡ t ∷ [] → b ≡ B.Int → IsBase ts b
  is_struct : {s n : Lexeme} {ts : List Lexeme} {b : Base} →
      s.terminal ≡ T.Struct → n.terminal ≡ T.Name → ts ≡ s ∷ n ∷ [] → b ≡ B.Struct n.text → IsBase ts b

-- star*, at most two
pub data IsStars : List Lexeme → ℕ → Type 0 where
  no_star : {ts : List Lexeme} {n : ℕ} → ts ≡ [] → n ≡ 0 → IsStars ts n
  one_star : {t : Lexeme} {ts : List Lexeme} {n : ℕ} → t.terminal ≡ T.Star → ts ≡ t ∷ [] → n ≡ 1 → IsStars ts n
  two_stars : {t u : Lexeme} {ts : List Lexeme} {n : ℕ} → t.terminal ≡ T.Star → u.terminal ≡ T.Star → ts ≡ t ∷ u ∷ [] → n ≡ 2 → IsStars ts n

-- base star*
pub data IsType : List Lexeme → TypeName → Type 0 where
  is_type : {ts1 ts2 ts : List Lexeme} {b : Base} {n : ℕ} {a : TypeName} →
      IsBase ts1 b → IsStars ts2 n → ts ≡ ts1 ++ ts2 → a ≡ record { base = b; stars = n } → IsType ts a

-- (op x)* after what stands to the left, at most n times; op is of level k
pub data More (part : Gram ExpressionTree) (k : ℕ) : ℕ → ExpressionTree → List Lexeme → ExpressionTree → Type 0 where
  no_more : {n : ℕ} {left e : ExpressionTree} {ts : List Lexeme} → ts ≡ [] → e ≡ left → More part k n left ts e
  one_more : {n : ℕ} {left right e : ExpressionTree} {t : Lexeme} {ts1 ts2 ts : List Lexeme} (o : _) →
      operator_at k t.terminal ≡ Some o → part ts1 right → More part k n (binary o t.site left right) ts2 e →
      ts ≡ t ∷ ts1 ++ ts2 → More part k (suc n) left ts e

-- x (op x)*
pub data Chain (part : Gram ExpressionTree) (k : ℕ) : List Lexeme → ExpressionTree → Type 0 where
  chain : {first e : ExpressionTree} {ts1 ts2 ts : List Lexeme} →
      part ts1 first → More part k chain_limit first ts2 e → ts ≡ ts1 ++ ts2 → Chain part k ts e

-- 1: prod = unary ((*|/|%) unary)*    2: sum = prod ((+|-) prod)*    3: rel = sum ((<|<=|>|>=) sum)*
-- 4: eq = rel ((==|!=) rel)*          5: and = eq (&& eq)*           6: or = and (|| and)*
abbrev pub Levels : ℕ → Gram ExpressionTree → Gram ExpressionTree
Levels zero part = part
Levels (suc k) part = Chain (Levels k part) (suc k)

-- (-> NAME)* after what stands to the left, at most n times
pub data Members : ℕ → ExpressionTree → List Lexeme → ExpressionTree → Type 0 where
  no_member : {n : ℕ} {left e : ExpressionTree} {ts : List Lexeme} → ts ≡ [] → e ≡ left → Members n left ts e
  a_member : {n : ℕ} {left e : ExpressionTree} {t f : Lexeme} {ts1 ts : List Lexeme} →
      t.terminal ≡ T.Arrow → f.terminal ≡ T.Name → Members n (member left f.text t.site) ts1 e → ts ≡ t ∷ f ∷ ts1 → Members (suc n) left ts e

-- expr,*
pub data Arguments (part : Gram ExpressionTree) : List Lexeme → List ExpressionTree → Type 0 where
  no_arguments : {ts : List Lexeme} {es : List ExpressionTree} → ts ≡ [] → es ≡ [] → Arguments part ts es
  some_arguments : {ts : List Lexeme} {es : List ExpressionTree} → Separated part ts es → Arguments part ts es

-- ( x )
pub data Parenthesised {A : Type 0} (part : Gram A) : List Lexeme → A → Type 0 where
  parenthesised : {o : Lexeme} (c : Lexeme) {ts1 ts : List Lexeme} {a : A} →
      o.terminal ≡ T.OpenParenthesis → c.terminal ≡ T.CloseParenthesis → part ts1 a → ts ≡ o ∷ ts1 ++ c ∷ [] → Parenthesised part ts a

-- malloc ( sizeof ( base star* ) ), with the type of its cast
pub data Allocation (cast : Option TypeName) : List Lexeme → ExpressionTree → Type 0 where
  allocation : {m o z p : Lexeme} (q c : Lexeme) {ts1 ts : List Lexeme} {a : TypeName} {e : ExpressionTree} →
      m.terminal ≡ T.Malloc → o.terminal ≡ T.OpenParenthesis → z.terminal ≡ T.Sizeof → p.terminal ≡ T.OpenParenthesis →
      IsType ts1 a → q.terminal ≡ T.CloseParenthesis → c.terminal ≡ T.CloseParenthesis →
      ts ≡ m ∷ o ∷ z ∷ p ∷ ts1 ++ q ∷ c ∷ [] → e ≡ malloc cast m.site a → Allocation cast ts e

-- primary, where d more parentheses, unary operators and statements may be opened,
-- and `inside` is the grammar of a unary inside one that is opened here
pub data Primary (d : ℕ) (inside : Gram ExpressionTree) : List Lexeme → ExpressionTree → Type 0 where
  -- CONSTANT
  is_constant : {t : Lexeme} {ts : List Lexeme} {e : ExpressionTree} (v : ℕ) →
      t.terminal ≡ T.Constant → constant_value t.text ≡ Some v → ts ≡ t ∷ [] → e ≡ constant v t.site → Primary d inside ts e
  -- NULL
  is_null : {t : Lexeme} {ts : List Lexeme} {e : ExpressionTree} →
      t.terminal ≡ T.Null → ts ≡ t ∷ [] → e ≡ null t.site → Primary d inside ts e
  -- NAME
  is_variable : {t : Lexeme} {ts : List Lexeme} {e : ExpressionTree} →
      t.terminal ≡ T.Name → ts ≡ t ∷ [] → e ≡ variable t.text t.site → Primary d inside ts e
  -- NAME ( expr,* )
  is_call : {t : Lexeme} {ts1 ts : List Lexeme} {es : List ExpressionTree} {e : ExpressionTree} →
      t.terminal ≡ T.Name → 0 < d → Parenthesised (Arguments (Levels 6 inside)) ts1 es →
      ts ≡ t ∷ ts1 → e ≡ call t.text t.site (expressions_of es) → Primary d inside ts e
  -- free ( expr )
  is_free : {t : Lexeme} {ts1 ts : List Lexeme} {e1 e : ExpressionTree} →
      t.terminal ≡ T.Free → 0 < d → Parenthesised (Levels 6 inside) ts1 e1 → ts ≡ t ∷ ts1 → e ≡ free t.site e1 → Primary d inside ts e
  -- getchar ( )
  is_get_char : {t o c : Lexeme} {ts : List Lexeme} {e : ExpressionTree} →
      t.terminal ≡ T.GetChar → o.terminal ≡ T.OpenParenthesis → c.terminal ≡ T.CloseParenthesis → 0 < d →
      ts ≡ t ∷ o ∷ c ∷ [] → e ≡ get_char t.site → Primary d inside ts e
  -- ( expr )
  is_parenthesised : {ts : List Lexeme} {e : ExpressionTree} → 0 < d → Parenthesised (Levels 6 inside) ts e → Primary d inside ts e
  -- malloc ( sizeof ( base star* ) ): two parentheses are open at once
  is_malloc : {ts : List Lexeme} {e : ExpressionTree} → 1 < d → Allocation None ts e → Primary d inside ts e
  -- ( base star* ) malloc ( sizeof ( base star* ) )
  is_cast_malloc : {ts1 ts2 ts : List Lexeme} {a : TypeName} {e : ExpressionTree} →
      1 < d → Parenthesised IsType ts1 a → Allocation (Some a) ts2 e → ts ≡ ts1 ++ ts2 → Primary d inside ts e

-- unary = (-|!|*) unary | primary (-> NAME)*
pub data UnaryOf (d : ℕ) (inside : Gram ExpressionTree) : List Lexeme → ExpressionTree → Type 0 where
  is_prefixed : {t : Lexeme} {ts1 ts : List Lexeme} {e1 e : ExpressionTree} (o : _) →
      prefix_of t.terminal ≡ Some o → 0 < d → inside ts1 e1 → ts ≡ t ∷ ts1 → e ≡ unary o t.site e1 → UnaryOf d inside ts e
  is_postfix : {ts1 ts2 ts : List Lexeme} {e1 e : ExpressionTree} →
      Primary d inside ts1 e1 → Members chain_limit e1 ts2 e → ts ≡ ts1 ++ ts2 → UnaryOf d inside ts e

-- where d more may be opened
unfoldable pub IsUnary : ℕ → Gram ExpressionTree
IsUnary zero = UnaryOf zero (λ ts e. ⊥)
IsUnary (suc d) = UnaryOf (suc d) (IsUnary d)

unfoldable pub IsExpression : ℕ → Gram ExpressionTree
IsExpression d = Levels 6 (IsUnary d)
