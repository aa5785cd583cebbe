-- Calls, by what the code tests of their arguments.
use Rattle.std.proofs.Common.{◌≡◌, ◌≢◌, ◌∙◌, refl, sym, ap, Bool, true, false, suc, ◌<◌, ◌≤◌, List, [], ◌∷◌, map, length, get_or, Option, None, codes, arith}
use Rattle.std.specs.Prelude.{if◌then◌else◌}
use Rattle.px_base.specs.declared.trace.Site.{Site}
use Rattle.px_expressions.specs.Reading.{or_else}
use Rattle.px_syntax.specs.TypedTree as T
use Rattle.px_syntax.specs.TypedTree.{Argument}
use Rattle.px_real_expressions.specs.Lexemes.{Lexeme}
use Rattle.px_real_expressions.specs.ExpressionTree.{expressions_of}
use Rattle.px_real_reading.specs.declared.tree.Expression.{Expression as Tree}
use Rattle.px_real_reading.specs.Trees.{expression_tree}
use Rattle.px_real_types.specs.declared.shape.ProfileType.{ProfileType}
use Rattle.px_real_values.specs.declared.calls.Given.{Given as Kept}
use Rattle.px_real_types.specs.Types.{int}
use Rattle.px_real_values.specs.Environment.{Environment, Signature}
use Rattle.px_real_values.specs.Operands.{of_type}
use Rattle.px_real_values.specs.Operators.{stopped_at}
use Rattle.px_real_values.specs.Calls.{Given, fits, all_parts, arguments, gives, function_call, input_call, expect_call}
use Rattle.px_real_values.specs.Values.{measured, block_of_type, block_of}
use Rattle.px_real_values.specs.Views.{operand_seen, given_seen}

-- ---- as many as there are parameters

pub too_few : (ps : List (Option ProfileType)) (more : Bool) (xs : List Given) → length xs < length ps → fits ps more xs ≡ false
too_few [] more xs l = absurd (omega arith)
too_few (p ∷ ps) more [] l = refl
too_few (p ∷ ps) more (x ∷ xs) l = too_few ps more xs (omega arith)

pub enough : (ps : List (Option ProfileType)) (xs : List Given) → length ps ≤ length xs → fits ps true xs ≡ true
enough [] [] l = refl
enough [] (x ∷ xs) l = refl
enough (p ∷ ps) [] l = absurd (omega arith)
enough (p ∷ ps) (x ∷ xs) l = enough ps xs (omega arith)

pub as_many : (ps : List (Option ProfileType)) (xs : List Given) → length ps ≡ length xs → fits ps false xs ≡ true
as_many [] [] l = refl
as_many [] (x ∷ xs) l = absurd (omega arith)
as_many (p ∷ ps) [] l = absurd (omega arith)
as_many (p ∷ ps) (x ∷ xs) l = as_many ps xs (omega arith)

pub not_as_many : (ps : List (Option ProfileType)) (xs : List Given) → length ps ≢ length xs → fits ps false xs ≡ false
not_as_many [] [] l = absurd (l refl)
not_as_many [] (x ∷ xs) l = refl
not_as_many (p ∷ ps) [] l = refl
not_as_many (p ∷ ps) (x ∷ xs) l = not_as_many ps xs (λ e. l (ap suc e))

pub as_tested : (b : Bool) (ps : List (Option ProfileType)) (xs : List Given) → (b ≡ true → length ps ≡ length xs) → (b ≡ false → length ps ≢ length xs) → b ≡ fits ps false xs
as_tested true ps xs many others = sym (as_many ps xs (many refl))
as_tested false ps xs many others = sym (not_as_many ps xs (others refl))

-- ---- of functions

module _ (env : Environment) (s : Signature) (at : Site) (xs : List Given) where
  pub not_fitting : fits s.parameters s.takes_more xs ≡ false → stopped_at env (codes "call") at (all_parts env xs) ≡ function_call env s at xs
  not_fitting h = sym (ap (λ z. if z then gives env s at (T.arguments_of (arguments env s.parameters xs)) s.result else stopped_at env (codes "call") at (all_parts env xs)) h)

  pub fitting : (es : List Argument) → fits s.parameters s.takes_more xs ≡ true → es ≡ arguments env s.parameters xs → gives env s at (T.arguments_of es) s.result ≡ function_call env s at xs
  fitting es h e =
      ap (λ z. gives env s at (T.arguments_of z) s.result) e
      ∙ sym (ap (λ z. if z then gives env s at (T.arguments_of (arguments env s.parameters xs)) s.result else stopped_at env (codes "call") at (all_parts env xs)) h)

-- ---- of the library

module _ (env : Environment) (at : Site) where
  pub input_alone : (xs : List Kept) → length xs ≡ 0 → of_type int at (T.get_char at) ≡ input_call env at (map given_seen xs)
  input_alone [] l = refl
  input_alone (x ∷ xs) l = absurd (omega arith)

  pub input_with_some : (xs : List Kept) → length xs ≢ 0 → stopped_at env (codes "call") at (all_parts env (map given_seen xs)) ≡ input_call env at (map given_seen xs)
  input_with_some [] l = absurd (l refl)
  input_with_some (x ∷ xs) l = refl

  pub expected_first : (xs : List Kept) (x : Kept) → length xs ≡ 2 → x ≡ get_or xs 0 x → operand_seen x.operand ≡ expect_call env at (map given_seen xs)
  expected_first [] x l is = absurd (omega arith)
  expected_first (a ∷ []) x l is = absurd (omega arith)
  expected_first (a ∷ b ∷ []) x l is = ap (λ z. operand_seen z.operand) is
  expected_first (a ∷ b ∷ c ∷ xs) x l is = absurd (omega arith)

  pub expected_else : (xs : List Kept) → length xs ≢ 2 → stopped_at env (codes "call") at (all_parts env (map given_seen xs)) ≡ expect_call env at (map given_seen xs)
  expected_else [] l = refl
  expected_else (a ∷ []) l = refl
  expected_else (a ∷ b ∷ []) l = absurd (l refl)
  expected_else (a ∷ b ∷ c ∷ xs) l = refl

-- ---- the block whose size is the argument

module _ (env : Environment) (all : List Lexeme) where
  pub block_alone : (xs : List Tree) (x : Tree) → length xs ≡ 1 → x ≡ get_or xs 0 x →
      block_of env (expressions_of (map (expression_tree all) xs)) ≡ or_else (measured env (expression_tree all x)) (block_of_type env) None
  block_alone [] x l is = absurd (omega arith)
  block_alone (a ∷ []) x l is = ap (λ z. or_else (measured env (expression_tree all z)) (block_of_type env) None) (sym is)
  block_alone (a ∷ b ∷ xs) x l is = absurd (omega arith)

  pub no_block : (xs : List Tree) → length xs ≢ 1 → block_of env (expressions_of (map (expression_tree all) xs)) ≡ None
  no_block [] l = refl
  no_block (a ∷ []) l = absurd (omega arith)
  no_block (a ∷ b ∷ xs) l = refl
