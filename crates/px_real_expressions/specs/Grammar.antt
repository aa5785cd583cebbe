-- The grammar of expressions (C11 A.2.1), with the forms of GNU C: which lexemes are which tree. Each family is a production.
use Rattle.std.specs.Prelude.{◌≡◌, ℕ, zero, suc, List, [], ◌∷◌, ◌++◌, true, Option, Some, ◌||◌, not}
use Rattle.px_real_expressions.specs.Lexemes.{Lexeme}
use Rattle.px_real_expressions.specs.declared.terminal.Terminal.{Terminal}
use Rattle.px_real_expressions.specs.declared.terminal.Terminal.TheVariants as T
use Rattle.px_real_expressions.specs.declared.operators.Prefix.{Prefix}
use Rattle.px_real_expressions.specs.declared.operators.Operator.{Operator}
use Rattle.px_real_expressions.specs.declared.operators.Step.{Step}
use Rattle.px_real_expressions.specs.declared.operators.Measure.{Measure}
use Rattle.px_real_expressions.specs.Operators.{begins_type, is_identifier, operator_at, assignment_of, prefix_of, wants_unary, step_of, measure_of}
use Rattle.px_real_expressions.specs.ExpressionTree.{ExpressionTree, expressions_of, is_unary, name, constant, string, parenthesised, statement, literal, form, index, call, member, pointer_member, step, prefixed, label, measure, measure_type, cast, binary, choice, choice_or, assign}
use Rattle.px_real_expressions.specs.Held.{Balanced}

abbrev pub Gram : Type 0 → Type 1
Gram A = List Lexeme → A → Type 0

-- brackets of these terminals, and what stands between them
pub data Between {A : Type 0} (opening ending : Terminal) (part : Gram A) : List Lexeme → Lexeme → A → Type 0 where
  between : {o : Lexeme} (c : Lexeme) {ts1 ts : List Lexeme} {a : A} →
      o.terminal ≡ opening → c.terminal ≡ ending → part ts1 a → ts ≡ o ∷ ts1 ++ c ∷ [] → Between opening ending part ts o a

-- tokens that are held
pub data IsHeld : List Lexeme → List Lexeme → Type 0 where
  is_held : {ts a : List Lexeme} → Balanced ts → a ≡ ts → IsHeld ts a

-- a type's name, held: it begins with a word that begins one (6.7.7)
pub data IsTypeName : List Lexeme → List Lexeme → Type 0 where
  is_type_name : {t : Lexeme} {ts1 ts a : List Lexeme} → begins_type t.terminal ≡ true → Balanced ts → ts ≡ t ∷ ts1 → a ≡ ts → IsTypeName ts a

-- STRING+, after the first
pub data Strings : List Lexeme → Type 0 where
  no_string : {ts : List Lexeme} → ts ≡ [] → Strings ts
  a_string : {t : Lexeme} {ts1 ts : List Lexeme} → t.terminal ≡ T.String → Strings ts1 → ts ≡ t ∷ ts1 → Strings ts

-- (, x)*
pub data MoreItems {A : Type 0} (part : Gram A) : List Lexeme → List A → Type 0 where
  no_item : {ts : List Lexeme} {es : List A} → ts ≡ [] → es ≡ [] → MoreItems part ts es
  an_item : {t : Lexeme} {ts1 ts2 ts : List Lexeme} {e : A} {es1 es : List A} →
      t.terminal ≡ T.Comma → part ts1 e → MoreItems part ts2 es1 → ts ≡ t ∷ ts1 ++ ts2 → es ≡ e ∷ es1 → MoreItems part ts es

-- argument-expression-list? (6.5.2)
pub data Arguments (part : Gram ExpressionTree) : List Lexeme → List ExpressionTree → Type 0 where
  no_arguments : {ts : List Lexeme} {es : List ExpressionTree} → ts ≡ [] → es ≡ [] → Arguments part ts es
  some_arguments : {ts1 ts2 ts : List Lexeme} {e : ExpressionTree} {es1 es : List ExpressionTree} →
      part ts1 e → MoreItems part ts2 es1 → ts ≡ ts1 ++ ts2 → es ≡ e ∷ es1 → Arguments part ts es

-- the grammars of what is opened here: in brackets, behind an operator before an operand, behind `?` and behind an assignment
pub record Inside : Type 1 where
  pub cast_part : Gram ExpressionTree
  pub conditional_part : Gram ExpressionTree
  pub assignment_part : Gram ExpressionTree
  pub expression_part : Gram ExpressionTree

-- primary-expression (6.5.1), generic selections and GNU's forms among them; and compound literals (6.5.2.5)
pub data Primary (i : Inside) : List Lexeme → ExpressionTree → Type 0 where
  is_name : {t : Lexeme} {ts : List Lexeme} {e : ExpressionTree} → t.terminal ≡ T.Name → ts ≡ t ∷ [] → e ≡ name t.text t.site → Primary i ts e
  is_constant : {t : Lexeme} {ts : List Lexeme} {e : ExpressionTree} → t.terminal ≡ T.Constant → ts ≡ t ∷ [] → e ≡ constant t.value t.site → Primary i ts e
  is_string : {t : Lexeme} {ts1 ts : List Lexeme} {e : ExpressionTree} → t.terminal ≡ T.String → Strings ts1 → ts ≡ t ∷ ts1 → e ≡ string t.site → Primary i ts e
  is_form : {t o : Lexeme} {ts1 ts a : List Lexeme} {e : ExpressionTree} →
      t.terminal ≡ T.Form → Between T.OpenParenthesis T.CloseParenthesis IsHeld ts1 o a → ts ≡ t ∷ ts1 → e ≡ form t.text t.site a → Primary i ts e
  is_parenthesised : {o : Lexeme} {ts : List Lexeme} {e1 e : ExpressionTree} →
      Between T.OpenParenthesis T.CloseParenthesis (i.expression_part) ts o e1 → e ≡ parenthesised o.site e1 → Primary i ts e
  is_statement : {o b : Lexeme} {ts a : List Lexeme} {e : ExpressionTree} →
      Between T.OpenParenthesis T.CloseParenthesis (λ us a1. Between T.OpenBrace T.CloseBrace IsHeld us b a1) ts o a → e ≡ statement o.site a → Primary i ts e
  is_literal : {o b : Lexeme} {ts1 ts2 ts a1 a2 : List Lexeme} {e : ExpressionTree} →
      Between T.OpenParenthesis T.CloseParenthesis IsTypeName ts1 o a1 → Between T.OpenBrace T.CloseBrace IsHeld ts2 b a2 →
      ts ≡ ts1 ++ ts2 → e ≡ literal o.site a1 a2 → Primary i ts e

-- what follows a postfix-expression (6.5.2), after what stands to the left
pub data Suffixes (i : Inside) : ExpressionTree → List Lexeme → ExpressionTree → Type 0 where
  no_suffix : {left e : ExpressionTree} {ts : List Lexeme} → ts ≡ [] → e ≡ left → Suffixes i left ts e
  an_index : {left a e : ExpressionTree} {o : Lexeme} {ts1 ts2 ts : List Lexeme} →
      Between T.OpenBracket T.CloseBracket (i.expression_part) ts1 o a → Suffixes i (index o.site left a) ts2 e → ts ≡ ts1 ++ ts2 → Suffixes i left ts e
  a_call : {left e : ExpressionTree} {es : List ExpressionTree} {o : Lexeme} {ts1 ts2 ts : List Lexeme} →
      Between T.OpenParenthesis T.CloseParenthesis (Arguments (i.assignment_part)) ts1 o es → Suffixes i (call o.site left (expressions_of es)) ts2 e → ts ≡ ts1 ++ ts2 → Suffixes i left ts e
  a_member : {left e : ExpressionTree} {t f : Lexeme} {ts1 ts : List Lexeme} →
      t.terminal ≡ T.Dot → is_identifier f.terminal ≡ true → Suffixes i (member t.site left f.text) ts1 e → ts ≡ t ∷ f ∷ ts1 → Suffixes i left ts e
  a_pointer_member : {left e : ExpressionTree} {t f : Lexeme} {ts1 ts : List Lexeme} →
      t.terminal ≡ T.Arrow → is_identifier f.terminal ≡ true → Suffixes i (pointer_member t.site left f.text) ts1 e → ts ≡ t ∷ f ∷ ts1 → Suffixes i left ts e
  a_step : {left e : ExpressionTree} {t : Lexeme} {ts1 ts : List Lexeme} (s : Step) →
      step_of t.terminal ≡ Some s → Suffixes i (step s t.site left) ts1 e → ts ≡ t ∷ ts1 → Suffixes i left ts e

-- unary-expression (6.5.3) and cast-expression (6.5.4)
pub data CastOf (i : Inside) : List Lexeme → ExpressionTree → Type 0 where
  is_postfix : {ts1 ts2 ts : List Lexeme} {e1 e : ExpressionTree} → Primary i ts1 e1 → Suffixes i e1 ts2 e → ts ≡ ts1 ++ ts2 → CastOf i ts e
  is_prefixed : {t : Lexeme} {ts1 ts : List Lexeme} {e1 e : ExpressionTree} (p : Prefix) →
      prefix_of t.terminal ≡ Some p → i.cast_part ts1 e1 → (not (wants_unary p) || is_unary e1) ≡ true → ts ≡ t ∷ ts1 → e ≡ prefixed p t.site e1 → CastOf i ts e
  is_label : {t f : Lexeme} {ts : List Lexeme} {e : ExpressionTree} → t.terminal ≡ T.AndAnd → is_identifier f.terminal ≡ true → ts ≡ t ∷ f ∷ [] → e ≡ label f.text t.site → CastOf i ts e
  is_measure : {t : Lexeme} {ts1 ts : List Lexeme} {e1 e : ExpressionTree} (m : Measure) →
      measure_of t.terminal ≡ Some m → i.cast_part ts1 e1 → is_unary e1 ≡ true → ts ≡ t ∷ ts1 → e ≡ measure m t.site e1 → CastOf i ts e
  is_measure_type : {t o : Lexeme} {ts1 ts a : List Lexeme} {e : ExpressionTree} (m : Measure) →
      measure_of t.terminal ≡ Some m → Between T.OpenParenthesis T.CloseParenthesis IsTypeName ts1 o a → ts ≡ t ∷ ts1 → e ≡ measure_type m t.site a → CastOf i ts e
  is_cast : {o : Lexeme} {ts1 ts2 ts a : List Lexeme} {e1 e : ExpressionTree} →
      Between T.OpenParenthesis T.CloseParenthesis IsTypeName ts1 o a → i.cast_part ts2 e1 → ts ≡ ts1 ++ ts2 → e ≡ cast o.site a e1 → CastOf i ts e

-- (op x)* after what stands to the left; op is of level k
pub data More (part : Gram ExpressionTree) (k : ℕ) : ExpressionTree → List Lexeme → ExpressionTree → Type 0 where
  no_more : {left e : ExpressionTree} {ts : List Lexeme} → ts ≡ [] → e ≡ left → More part k left ts e
  one_more : {left right e : ExpressionTree} {t : Lexeme} {ts1 ts2 ts : List Lexeme} (o : Operator) →
      operator_at k t.terminal ≡ Some o → part ts1 right → More part k (binary o t.site left right) ts2 e → ts ≡ t ∷ ts1 ++ ts2 → More part k left ts e

-- x (op x)*
pub data Chain (part : Gram ExpressionTree) (k : ℕ) : List Lexeme → ExpressionTree → Type 0 where
  chain : {first e : ExpressionTree} {ts1 ts2 ts : List Lexeme} → part ts1 first → More part k first ts2 e → ts ≡ ts1 ++ ts2 → Chain part k ts e

-- 1: multiplicative-expression (6.5.5)  2: additive (6.5.6)  3: shift (6.5.7)  4: relational (6.5.8)  5: equality (6.5.9)
-- 6: AND (6.5.10)  7: exclusive OR (6.5.11)  8: inclusive OR (6.5.12)  9: logical AND (6.5.13)  10: logical OR (6.5.14)
abbrev pub Levels : ℕ → Gram ExpressionTree → Gram ExpressionTree
Levels zero part = part
Levels (suc k) part = Chain (Levels k part) (suc k)

-- conditional-expression (6.5.15); GNU C may leave out the second operand
pub data ConditionalOf (i : Inside) (condition : Gram ExpressionTree) : List Lexeme → ExpressionTree → Type 0 where
  is_condition : {ts : List Lexeme} {e : ExpressionTree} → condition ts e → ConditionalOf i condition ts e
  is_choice : (q c : Lexeme) {ts1 ts2 ts3 ts : List Lexeme} {e1 e2 e3 e : ExpressionTree} →
      condition ts1 e1 → q.terminal ≡ T.Question → i.expression_part ts2 e2 → c.terminal ≡ T.Colon → i.conditional_part ts3 e3 →
      ts ≡ ts1 ++ q ∷ (ts2 ++ c ∷ ts3) → e ≡ choice q.site e1 e2 e3 → ConditionalOf i condition ts e
  is_choice_or : (q c : Lexeme) {ts1 ts2 ts : List Lexeme} {e1 e2 e : ExpressionTree} →
      condition ts1 e1 → q.terminal ≡ T.Question → c.terminal ≡ T.Colon → i.conditional_part ts2 e2 →
      ts ≡ ts1 ++ q ∷ c ∷ ts2 → e ≡ choice_or q.site e1 e2 → ConditionalOf i condition ts e

-- assignment-expression (6.5.16): to the left stands a unary-expression
pub data AssignmentOf (i : Inside) (conditional : Gram ExpressionTree) : List Lexeme → ExpressionTree → Type 0 where
  is_conditional : {ts : List Lexeme} {e : ExpressionTree} → conditional ts e → AssignmentOf i conditional ts e
  is_assignment : (t : Lexeme) {ts1 ts2 ts : List Lexeme} {e1 e2 e : ExpressionTree} (o : Option Operator) →
      conditional ts1 e1 → is_unary e1 ≡ true → assignment_of t.terminal ≡ Some o → i.assignment_part ts2 e2 →
      ts ≡ ts1 ++ t ∷ ts2 → e ≡ assign o t.site e1 e2 → AssignmentOf i conditional ts e

-- the four at one depth, where these are inside; expression (6.5.17) is a chain of commas
abbrev pub conditional_in : Inside → Gram ExpressionTree
conditional_in i = ConditionalOf i (Levels 10 (CastOf i))

abbrev pub assignment_in : Inside → Gram ExpressionTree
assignment_in i = AssignmentOf i (conditional_in i)

abbrev pub expression_in : Inside → Gram ExpressionTree
expression_in i = Chain (assignment_in i) 13

abbrev pub around : Inside → Inside
around i = record { cast_part = CastOf i; conditional_part = conditional_in i; assignment_part = assignment_in i; expression_part = expression_in i }

abbrev pub nothing_inside : Inside
nothing_inside = record { cast_part = λ ts e. ⊥; conditional_part = λ ts e. ⊥; assignment_part = λ ts e. ⊥; expression_part = λ ts e. ⊥ }

-- where so many may be opened
unfoldable pub inside : ℕ → Inside
inside zero = nothing_inside
inside (suc d) = around (inside d)

-- an expression, where d more may be opened
abbrev pub IsExpression : ℕ → Gram ExpressionTree
IsExpression d = (inside (suc d)).expression_part
