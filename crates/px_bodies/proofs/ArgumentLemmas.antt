-- Arguments and the parameters that are left for them.
use Rattle.std.proofs.Common.{◌≡◌, ◌∙◌, refl, sym, ap, ap₂, ℕ, zero, suc, ◌+◌, ◌<◌, ◌≤◌, true, List, [], ◌∷◌, ◌++◌, map, drop, Option, Some, None, option_map, get_or, length, arith, append_assoc}
use Rattle.std.proofs.lemmas.List.{drop_all, drop_more}
use Rattle.std.specs.Borrow.{Bor}
use Rattle.px_base.specs.declared.trace.Site.{Site}
use Rattle.px_syntax.specs.declared.type_name.TypeName.{TypeName}
use Rattle.px_syntax.specs.declared.item.Parameter.{Parameter}
use Rattle.px_syntax.specs.declared.expression.Expression.{Expression as RustExpression}
use Rattle.px_syntax.specs.ExpressionTree.{ExpressionTree, ExpressionTrees, an_expression, call, expression_tree, expressions_of}
use Rattle.px_syntax.specs.StatementTree.{a_call}
use Rattle.px_syntax.specs.TypedTree as T
use Rattle.px_syntax.specs.TypedTree.{Expression, Argument}
use Rattle.px_bodies.specs.Types.{given, when, is_value}
use Rattle.px_bodies.specs.Environment.{Environment, proc_id, value_type}
use Rattle.px_bodies.specs.Typed.{Typed, of_type, as_type, as_argument}
use Rattle.px_bodies.specs.Locals.{Local}
use Rattle.px_bodies.specs.Expressions.{typed, typed_arguments, typed_call, call_type, callable, after_first, none_is_missing}
use Rattle.px_bodies.specs.Statements.{typed_simple}
use Rattle.px_bodies.specs.Operands.{wanted_of}

pub drop-at : {A B : Type 0} (f : A → B) (xs : List A) (i : ℕ) (x : A) → i < length xs → x ≡ get_or xs i x → drop i (map f xs) ≡ f x ∷ drop (suc i) (map f xs)
drop-at f [] i x h e = absurd (omega arith)
drop-at f (y ∷ ys) zero x h e = ap (λ z. f z ∷ map f ys) (sym e)
drop-at f (y ∷ ys) (suc i) x h e = drop-at f ys i x (omega arith) e

pub argument_is : (wanted : Option (Bor (List Parameter))) (place : ℕ) (ps : Bor (List Parameter)) (p : Parameter) (t : TypeName) (a : Typed)
    → wanted ≡ Some ps → place < length ps.now → p ≡ get_or ps.now place p → t ≡ p.value → as_argument (option_map (drop place) (wanted_of wanted)) a ≡ as_type t a
argument_is wanted place ps p t a w l g e =
    ap (λ o. as_argument (option_map (drop place) (wanted_of o)) a) w
    ∙ ap (λ ts. as_argument (Some ts) a) (drop-at (λ (p : Parameter). p.value) ps.now place p l g)
    ∙ ap (λ t. as_type t a) (sym e)

-- ---- the loop over the arguments

drop-drop-one : {A : Type 0} (i : ℕ) (xs : List A) → drop 1 (drop i xs) ≡ drop (i + 1) xs
drop-drop-one zero [] = refl
drop-drop-one zero (x ∷ xs) = refl
drop-drop-one (suc i) [] = let e : suc (suc i) ≡ suc i + 1 = omega arith in ap (λ n. drop n []) e
drop-drop-one (suc i) (x ∷ xs) = let e : suc (i + 1) ≡ suc i + 1 = omega arith in drop-drop-one i xs ∙ ap (λ n. drop n (x ∷ xs)) e

after_first-drop : (i : ℕ) (w : Option (List TypeName)) → after_first (option_map (drop i) w) ≡ option_map (drop (i + 1)) w
after_first-drop i None = refl
after_first-drop i (Some ts) = ap Some (drop-drop-one i ts)

-- the element at i begins what is left
pub drop-next : {A B : Type 0} (f : A → B) (xs : List A) (i : ℕ) (x : A) → i < length xs → x ≡ get_or xs i x → map f (drop i xs) ≡ f x ∷ map f (drop (i + 1) xs)
drop-next f xs i x h e = ap (map f) (drop_more xs i x h) ∙ ap (λ z. f z ∷ map f (drop (i + 1) xs)) (sym e)

-- nothing is left
pub drop-none : {A B : Type 0} (f : A → B) (xs : List A) (i : ℕ) → length xs ≤ i → map f (drop i xs) ≡ []
drop-none f xs i h = ap (map f) (drop_all i xs h)

longer : {A : Type 0} (done : List A) (v : A) (o : Option (List A)) → option_map (λ r. done ++ r) (given o (λ vs. Some (v ∷ vs))) ≡ option_map (λ r. (done ++ v ∷ []) ++ r) o
longer done v None = refl
longer done v (Some vs) = ap Some (sym (append_assoc done (v ∷ []) vs))

module _ (env : Environment) (visible : List Local) where
  -- one argument is typed, and the others are left
  pub arguments-next : (w : Option (List TypeName)) (e : ExpressionTree) (rest : ExpressionTrees) (a : Typed) (v : Expression) → typed env visible e ≡ Some a → as_argument w a ≡ Some v
      → typed_arguments env visible w (an_expression e rest) ≡ given (typed_arguments env visible (after_first w) rest) (λ vs. Some (T.passed v ∷ vs))
  arguments-next w e rest a v h g =
      ap (λ o. given o (λ a. given (as_argument w a) (λ x. given (typed_arguments env visible (after_first w) rest) (λ xs. Some (T.passed x ∷ xs))))) h
      ∙ ap (λ o. given o (λ x. given (typed_arguments env visible (after_first w) rest) (λ xs. Some (T.passed x ∷ xs)))) g

  pub arguments-step : (given_ : List RustExpression) (i : ℕ) (x : RustExpression) (w : Option (List TypeName)) (a : Typed) (v : Expression) (done done' : List Argument) (all : Option (List Argument))
      → i < length given_ → x ≡ get_or given_ i x → typed env visible (expression_tree x) ≡ Some a → as_argument (option_map (drop i) w) a ≡ Some v → done' ≡ done ++ T.passed v ∷ []
      → all ≡ option_map (λ r. done ++ r) (typed_arguments env visible (option_map (drop i) w) (expressions_of (map expression_tree (drop i given_))))
      → all ≡ option_map (λ r. done' ++ r) (typed_arguments env visible (option_map (drop (i + 1)) w) (expressions_of (map expression_tree (drop (i + 1) given_))))
  arguments-step given_ i x w a v done done' all l is h g d before =
      before
      ∙ ap (λ es. option_map (λ r. done ++ r) (typed_arguments env visible (option_map (drop i) w) (expressions_of es))) (drop-next expression_tree given_ i x l is)
      ∙ ap (option_map (λ r. done ++ r)) (arguments-next (option_map (drop i) w) (expression_tree x) (expressions_of (map expression_tree (drop (i + 1) given_))) a v h g)
      ∙ longer done (T.passed v) (typed_arguments env visible (after_first (option_map (drop i) w)) (expressions_of (map expression_tree (drop (i + 1) given_))))
      ∙ ap₂ (λ z w'. option_map (λ r. z ++ r) (typed_arguments env visible w' (expressions_of (map expression_tree (drop (i + 1) given_))))) (sym d) (after_first-drop i w)

  -- a parameter is left without an argument
  pub arguments-missing : (given_ : List RustExpression) (i : ℕ) (w : Option (Bor (List Parameter))) (ps : Bor (List Parameter)) (done : List Argument) (all : Option (List Argument))
      → i ≡ length given_ → w ≡ Some ps → i < length ps.now
      → all ≡ option_map (λ r. done ++ r) (typed_arguments env visible (option_map (drop i) (wanted_of w)) (expressions_of (map expression_tree (drop i given_))))
      → all ≡ None
  arguments-missing given_ i w ps done all l e more before =
      before
      ∙ ap (λ es. option_map (λ r. done ++ r) (typed_arguments env visible (option_map (drop i) (wanted_of w)) (expressions_of es))) (drop-none expression_tree given_ i (omega arith))
      ∙ ap (λ o. option_map (λ r. done ++ r) (none_is_missing (option_map (drop i) (wanted_of o)))) e
      ∙ ap (option_map (λ r. done ++ r)) (missing i (map (λ p. p.value) ps.now) (omega (arith, mapped-length ps.now)))
    where
      mapped-length : (qs : List Parameter) → length (map (λ p. p.value) qs) ≡ length qs
      mapped-length [] = refl
      mapped-length (q ∷ qs) = ap suc (mapped-length qs)

      missing : (i : ℕ) (ts : List TypeName) → i < length ts → none_is_missing (Some (drop i ts)) ≡ None
      missing i [] h = absurd (omega arith)
      missing zero (t ∷ ts) h = refl
      missing (suc i) (t ∷ ts) h = missing i ts (omega arith)

-- the value of a call of this type
pub call-is : (env : Environment) (f : List ℕ) (site : Site) (arguments : List Argument) (t : TypeName) → call_type (env.signature f) ≡ Some t → true ≡ is_value t
    → typed_call env f site arguments ≡ Some (of_type t (T.call (proc_id env f) (T.arguments_of arguments) (value_type env t) site))
call-is env f site arguments t h v =
    ap (λ o. given o (λ t. when (is_value t) (of_type t (T.call (proc_id env f) (T.arguments_of arguments) (value_type env t) site)))) h
    ∙ ap (λ b. when b (of_type t (T.call (proc_id env f) (T.arguments_of arguments) (value_type env t) site))) (sym v)

-- calls, where the parameters of the called name are known
module _ (env : Environment) (visible : List Local) (f : List ℕ) (site : Site) (es : ExpressionTrees) (wanted : Option (List TypeName)) (h : callable env visible f ≡ Some wanted) where
  pub call-typed : typed env visible (call f site es) ≡ given (typed_arguments env visible wanted es) (typed_call env f site)
  call-typed = ap (λ o. given o (λ w. given (typed_arguments env visible w es) (typed_call env f site))) h

  -- one whose result isn't used
  pub run-typed : typed_simple env visible (a_call (call f site es)) ≡ given (typed_arguments env visible wanted es) (λ xs. Some (T.run_call (proc_id env f) (T.arguments_of xs) site))
  run-typed = ap (λ o. given o (λ w. given (typed_arguments env visible w es) (λ xs. Some (T.run_call (proc_id env f) (T.arguments_of xs) site)))) h
