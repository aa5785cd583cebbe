-- Whether a function keeps the rules doesn't depend on the numbers.
use Rattle.std.proofs.Common.{◌≡◌, refl, sym, ap, ap₂, subst, ℕ, ◌+◌, Bool, true, false, ◌&&◌, List, [], ◌∷◌, ◌++◌, length, take, drop, Option, Some, None, option_map, is_some, is_none, pos}
use Rattle.px_base.specs.declared.trace.Site.{Site}
use Rattle.px_syntax.specs.declared.type_name.Base.{Base}
use Rattle.px_syntax.specs.declared.type_name.TypeName.{TypeName}
use Rattle.px_syntax.specs.declared.item.Parameter.{Parameter}
use Rattle.px_syntax.specs.declared.expression.UnaryOperator.{UnaryOperator}
use Rattle.px_syntax.specs.declared.expression.UnaryOperator.TheVariants.{Minus, Not, Indirection}
use Rattle.px_syntax.specs.declared.expression.BinaryOperator.{BinaryOperator}
use Rattle.px_syntax.specs.declared.expression.BinaryOperator.TheVariants as B
use Rattle.px_syntax.specs.declared.typed_expression.Arithmetic.{Arithmetic}
use Rattle.px_syntax.specs.declared.typed_expression.Arithmetic.TheVariants.{Add, Subtract}
use Rattle.px_syntax.specs.declared.typed_expression.Relation.{Relation}
use Rattle.px_syntax.specs.declared.typed_expression.Relation.TheVariants as R
use Rattle.px_syntax.specs.ExpressionTree as E
use Rattle.px_syntax.specs.ExpressionTree.{ExpressionTree, ExpressionTrees}
use Rattle.px_syntax.specs.StatementTree as S
use Rattle.px_syntax.specs.StatementTree.{InitTree, SimpleTree, FirstTree, StatementTree, StatementTrees, statements_of}
use Rattle.px_syntax.specs.TypedTree as T
use Rattle.px_syntax.specs.TypedTree.{Expression, Argument, Condition, Place}
use Rattle.px_bodies.specs.Types.{when, given, int, is_value, is_int, pointee, same_type}
use Rattle.px_bodies.specs.Environment.{Environment, result_of}
use Rattle.px_bodies.specs.Typed.{Typed, of_type, a_null, a_zero, a_test, as_type, as_argument, as_place, as_freed, common_type, compared_at, typed_constant, typed_minus, typed_equality, typed_cell, typed_indirection, field_named, typed_arrow}
use Rattle.px_bodies.specs.Locals.{Local, Locals, named, declared, typed_parameters, after_scope, no_locals}
use Rattle.px_bodies.specs.Expressions.{site_of, typed, typed_variable, typed_unary, typed_binary, typed_arguments, typed_call, typed_as, typed_condition, callable, call_type, after_first, none_is_missing}
use Rattle.px_bodies.specs.Statements.{Passed, PassedAll, Head, typed_place, typed_update, typed_simple, typed_initialiser, typed_local, typed_declarators, typed_first, typed_test, typed_step, typed_head, typed_return, typed_statement, typed_statements, arithmetic_of, in_scope}
use Rattle.px_bodies.specs.Functions.{allowed_result, before_body, NumbersDontMatter}

-- ---- both are there, or neither

abbrev Both : {A B : Type 0} → (A → B → Type 0) → Option A → Option B → Type 0
Both R None None = Unit {0}
Both R (Some a) (Some b) = R a b
Both R None (Some b) = ⊥
Both R (Some a) None = ⊥

abbrev Any : {A B : Type 0} → A → B → Type 0
Any a b = Unit {0}

module _ {A B : Type 0} (Rel : A → B → Type 0) where
  both-some : (o : Option A) (p : Option B) → Both Rel o p → is_some o ≡ is_some p
  both-some None None h = refl
  both-some None (Some b) h = absurd h
  both-some (Some a) None h = absurd h
  both-some (Some a) (Some b) h = refl

  both-when : (b : Bool) (x : A) (y : B) → Rel x y → Both Rel (when b x) (when b y)
  both-when true x y r = r
  both-when false x y r = tt

  module _ {C D : Type 0} (Out : C → D → Type 0) where
    both-given : (o : Option A) (p : Option B) (f : A → Option C) (g : B → Option D) → Both Rel o p → ((a : A) (b : B) → Rel a b → Both Out (f a) (g b)) → Both Out (given o f) (given p g)
    both-given None None f g h on = tt
    both-given None (Some b) f g h on = absurd h
    both-given (Some a) None f g h on = absurd h
    both-given (Some a) (Some b) f g h on = on a b h

    both-map : (o : Option A) (p : Option B) (f : A → C) (g : B → D) → Both Rel o p → ((a : A) (b : B) → Rel a b → Out (f a) (g b)) → Both Out (option_map f o) (option_map g p)
    both-map None None f g h on = tt
    both-map None (Some b) f g h on = absurd h
    both-map (Some a) None f g h on = absurd h
    both-map (Some a) (Some b) f g h on = on a b h

both-same : {A : Type 0} (Rel : A → A → Type 0) → ((a : A) → Rel a a) → (o : Option A) → Both Rel o o
both-same Rel self None = tt
both-same Rel self (Some a) = self a

-- ---- typed expressions of one type

-- a place stays a place
abbrev IsPlaceToo : Expression → Expression → Type 0
IsPlaceToo e f = (t : TypeName) → Both (λ p q. p.0 ≡ q.0) (as_place (of_type t e)) (as_place (of_type t f))

abbrev Alike : Typed → Typed → Type 0
Alike (of_type t e) (of_type u f) = (t ≡ u) × IsPlaceToo e f
Alike (of_type t e) b = ⊥
Alike a_null a_null = Unit {0}
Alike a_null b = ⊥
Alike a_zero a_zero = Unit {0}
Alike a_zero b = ⊥
Alike (a_test c) (a_test d) = Unit {0}
Alike (a_test c) b = ⊥

place-self : (e : Expression) → IsPlaceToo e e
place-self e t = both-same (λ p q. p.0 ≡ q.0) (λ p. refl) (as_place (of_type t e))

alike-self : (a : Typed) → Alike a a
alike-self (of_type t e) = (refl, place-self e)
alike-self a_null = tt
alike-self a_zero = tt
alike-self (a_test c) = tt

-- from one of each kind
alike-elim : (P : Typed → Typed → Type 0) → ((t : TypeName) (e f : Expression) → IsPlaceToo e f → P (of_type t e) (of_type t f)) → P a_null a_null → P a_zero a_zero → ((c d : Condition) → P (a_test c) (a_test d))
    → (a b : Typed) → Alike a b → P a b
alike-elim P on_type on_null on_zero on_test (of_type t e) (of_type u f) h = subst (λ u. P (of_type t e) (of_type u f)) h.0 (on_type t e f h.1)
alike-elim P on_type on_null on_zero on_test (of_type t e) a_null h = absurd h
alike-elim P on_type on_null on_zero on_test (of_type t e) a_zero h = absurd h
alike-elim P on_type on_null on_zero on_test (of_type t e) (a_test d) h = absurd h
alike-elim P on_type on_null on_zero on_test a_null (of_type u f) h = absurd h
alike-elim P on_type on_null on_zero on_test a_null a_null h = on_null
alike-elim P on_type on_null on_zero on_test a_null a_zero h = absurd h
alike-elim P on_type on_null on_zero on_test a_null (a_test d) h = absurd h
alike-elim P on_type on_null on_zero on_test a_zero (of_type u f) h = absurd h
alike-elim P on_type on_null on_zero on_test a_zero a_null h = absurd h
alike-elim P on_type on_null on_zero on_test a_zero a_zero h = on_zero
alike-elim P on_type on_null on_zero on_test a_zero (a_test d) h = absurd h
alike-elim P on_type on_null on_zero on_test (a_test c) (of_type u f) h = absurd h
alike-elim P on_type on_null on_zero on_test (a_test c) a_null h = absurd h
alike-elim P on_type on_null on_zero on_test (a_test c) a_zero h = absurd h
alike-elim P on_type on_null on_zero on_test (a_test c) (a_test d) h = on_test c d

any-self : {A : Type 0} (o : Option A) → Both Any o o
any-self o = both-same Any (λ a. tt) o

as_type-alike : (t : TypeName) (a b : Typed) → Alike a b → Both Any (as_type t a) (as_type t b)
as_type-alike t = alike-elim (λ a b. Both Any (as_type t a) (as_type t b)) (λ u e f p. both-when Any (same_type t u) e f tt) (any-self _) (any-self _) (λ c d. both-when Any (is_int t) (T.truth c) (T.truth d) tt)

as_argument-alike : (w : Option (List TypeName)) (a b : Typed) → Alike a b → Both Any (as_argument w a) (as_argument w b)
as_argument-alike None a b h = tt
as_argument-alike (Some []) a b h = tt
as_argument-alike (Some (t ∷ ts)) a b h = as_type-alike t a b h

place-alike : (a b : Typed) → Alike a b → Both (λ p q. p.0 ≡ q.0) (as_place a) (as_place b)
place-alike = alike-elim (λ a b. Both (λ p q. p.0 ≡ q.0) (as_place a) (as_place b)) (λ t e f p. p t) tt tt (λ c d. tt)

freed-alike : (a b : Typed) → Alike a b → Both Any (as_freed a) (as_freed b)
freed-alike = alike-elim (λ a b. Both Any (as_freed a) (as_freed b)) (λ t e f p. both-given Any Any (pointee t) (pointee t) _ _ (any-self _) (λ a b r. tt)) tt tt (λ c d. tt)

of-int : (e f : Expression) → IsPlaceToo e f → Alike (of_type int e) (of_type int f)
of-int e f p = (refl, p)

minus-alike : (a b : Typed) → Alike a b → Both Alike (typed_minus a) (typed_minus b)
minus-alike a b h = both-given Any Alike (as_type int a) (as_type int b) _ _ (as_type-alike int a b h) (λ x y r. (refl, λ t. tt))

module _ (t : TypeName) (a b c d : Typed) (h : Alike a b) (g : Alike c d) where
  two : (f k : Expression → Expression → Typed) → ((x y z w : Expression) → Alike (f x y) (k z w))
      → Both Alike (given (as_type t a) (λ x. given (as_type t c) (λ y. Some (f x y)))) (given (as_type t b) (λ x. given (as_type t d) (λ y. Some (k x y))))
  two f k on =
      both-given Any Alike (as_type t a) (as_type t b) _ _ (as_type-alike t a b h)
      (λ x z r. both-given Any Alike (as_type t c) (as_type t d) _ _ (as_type-alike t c d g) (λ y w r. on x y z w))

common-alike : (a b : Typed) → Alike a b → (c d : Typed) → Alike c d → common_type a c ≡ common_type b d
common-alike = alike-elim (λ a b. (c d : Typed) → Alike c d → common_type a c ≡ common_type b d)
    (λ t e f p c d h. refl)
    (alike-elim (λ c d. common_type a_null c ≡ common_type a_null d) (λ t e f p. refl) refl refl (λ c d. refl))
    (alike-elim (λ c d. common_type a_zero c ≡ common_type a_zero d) (λ t e f p. refl) refl refl (λ c d. refl))
    (λ x y. alike-elim (λ c d. common_type (a_test x) c ≡ common_type (a_test y) d) (λ t e f p. refl) refl refl (λ c d. refl))

equality-alike : (of_ints of_places : Relation) (site : Site) (a b c d : Typed) → Alike a b → Alike c d → Both Alike (typed_equality of_ints of_places site a c) (typed_equality of_ints of_places site b d)
equality-alike of_ints of_places site a b c d h g =
    subst (λ t. Both Alike (typed_equality of_ints of_places site a c) (compared_at t of_ints of_places site b d)) (common-alike a b h c d g)
    (two (common_type a c) a b c d h g _ _ (λ x y z w. tt))

binary-alike : (operator : BinaryOperator) (site left right : Site) (a b c d : Typed) → Alike a b → Alike c d → Both Alike (typed_binary operator site left right a c) (typed_binary operator site left right b d)
binary-alike B.Multiply site left right a b c d h g = two int a b c d h g _ _ (λ x y z w. (refl, λ t. tt))
binary-alike B.Add site left right a b c d h g = two int a b c d h g _ _ (λ x y z w. (refl, λ t. tt))
binary-alike B.Subtract site left right a b c d h g = two int a b c d h g _ _ (λ x y z w. (refl, λ t. tt))
binary-alike B.Less site left right a b c d h g = two int a b c d h g _ _ (λ x y z w. tt)
binary-alike B.LessEqual site left right a b c d h g = two int a b c d h g _ _ (λ x y z w. tt)
binary-alike B.Greater site left right a b c d h g = two int a b c d h g _ _ (λ x y z w. tt)
binary-alike B.GreaterEqual site left right a b c d h g = two int a b c d h g _ _ (λ x y z w. tt)
binary-alike B.Equal site left right a b c d h g = equality-alike R.Equal R.SamePlace site a b c d h g
binary-alike B.NotEqual site left right a b c d h g = equality-alike R.Unequal R.OtherPlace site a b c d h g
binary-alike B.And site left right a b c d h g = tt
binary-alike B.Or site left right a b c d h g = tt
binary-alike B.Divide site left right a b c d h g = two int a b c d h g _ _ (λ x y z w. (refl, λ t. tt))
binary-alike B.Remainder site left right a b c d h g = two int a b c d h g _ _ (λ x y z w. (refl, λ t. tt))

same-given : {A C D : Type 0} (Out : C → D → Type 0) (o : Option A) (f : A → Option C) (g : A → Option D) → ((a : A) → Both Out (f a) (g a)) → Both Out (given o f) (given o g)
same-given Out None f g on = tt
same-given Out (Some a) f g on = on a

when-same : {A B : Type 0} (Rel : A → B → Type 0) (b c : Bool) (x : A) (y : B) → b ≡ c → Rel x y → Both Rel (when b x) (when c y)
when-same Rel b c x y e r = subst (λ c. Both Rel (when b x) (when c y)) e (both-when Rel b x y r)

-- ---- locals that are alike

abbrev LocalsAlike : Locals → Locals → Type 0
LocalsAlike ls ms = (ls.visible ≡ ms.visible) × (ls.next ≡ ms.next)

abbrev PassedAlike : Passed → Passed → Type 0
PassedAlike p q = LocalsAlike p.after q.after

abbrev AllAlike : PassedAll → PassedAll → Type 0
AllAlike p q = LocalsAlike p.after q.after

abbrev HeadsAlike : Head → Head → Type 0
HeadsAlike p q = LocalsAlike p.after q.after

scope-alike : (n m : ℕ) (ls ms : Locals) → n ≡ m → LocalsAlike ls ms → LocalsAlike (after_scope n ls) (after_scope m ms)
scope-alike n m ls ms e r = (ap₂ (λ n v. take n v) e r.0, r.1)

in_scope-alike : (n m : ℕ) (p q : Option Passed) → n ≡ m → Both PassedAlike p q → Both PassedAlike (in_scope n p) (in_scope m q)
in_scope-alike n m p q e h = both-map PassedAlike PassedAlike p q _ _ h (λ a b r. scope-alike n m a.after b.after e r)

module _ (env : Environment) (types : TypeName → ℕ) (procs : List ℕ → ℕ) where
  abbrev other : Environment
  other = record env { type_number = types; proc_number = procs }

  -- ---- expressions

  cell-alike : (block : TypeName) (k : ℕ) (t : TypeName) (site : Site) (e f : Expression) → Both Alike (typed_cell env block k t site e) (typed_cell other block k t site f)
  cell-alike block k t site e f = both-when Alike (is_value t) _ _ (refl, λ t. refl)

  indirection-alike : (site : Site) (a b : Typed) → Alike a b → Both Alike (typed_indirection env site a) (typed_indirection other site b)
  indirection-alike site = alike-elim (λ a b. Both Alike (typed_indirection env site a) (typed_indirection other site b))
      (λ t e f p. same-given Alike (pointee t) _ _ (λ u. cell-alike u 0 u site e f)) tt tt (λ c d. tt)

  arrow-alike : (name : List ℕ) (site : Site) (a b : Typed) → Alike a b → Both Alike (typed_arrow env name site a) (typed_arrow other name site b)
  arrow-alike name site = alike-elim (λ a b. Both Alike (typed_arrow env name site a) (typed_arrow other name site b))
      (λ t e f p. same-given Alike (pointee t) _ _ (λ u. same-given Alike (field_named env name u) _ _ (λ k. cell-alike u k.0 k.1 site e f))) tt tt (λ c d. tt)

  unary-alike : (operator : UnaryOperator) (site at : Site) (a b : Typed) → Alike a b → Both Alike (typed_unary env operator site at a) (typed_unary other operator site at b)
  unary-alike Minus site at a b h = minus-alike a b h
  unary-alike Not site at a b h = tt
  unary-alike Indirection site at a b h = indirection-alike site a b h

  call-alike : (f : List ℕ) (site : Site) (xs ys : List Argument) → Both Alike (typed_call env f site xs) (typed_call other f site ys)
  call-alike f site xs ys = same-given Alike (call_type (env.signature f)) _ _ (λ t. both-when Alike (is_value t) _ _ (refl, λ t. tt))

  mutual
    typed-alike : (visible : List Local) (e : ExpressionTree) → Both Alike (typed env visible e) (typed other visible e)
    typed-alike visible (E.constant n site) = both-same Alike alike-self (typed_constant n)
    typed-alike visible (E.null site) = tt
    typed-alike visible (E.variable name site) = both-same Alike alike-self (typed_variable visible name site)
    typed-alike visible (E.unary operator site e) = both-given Alike Alike _ _ _ _ (typed-alike visible e) (unary-alike operator site (site_of e))
    typed-alike visible (E.binary operator site a b) =
        both-given Alike Alike _ _ _ _ (typed-alike visible a) (λ x y h. both-given Alike Alike _ _ _ _ (typed-alike visible b)
        (λ z w g. binary-alike operator site (site_of a) (site_of b) x y z w h g))
    typed-alike visible (E.member e field site) = both-given Alike Alike _ _ _ _ (typed-alike visible e) (arrow-alike field site)
    typed-alike visible (E.call f site arguments) =
        same-given Alike (callable env visible f) _ _ (λ wanted. both-given Any Alike _ _ _ _ (arguments-alike visible wanted arguments) (λ xs ys r. call-alike f site xs ys))
    typed-alike visible (E.free site e) = tt
    typed-alike visible (E.get_char site) = (refl, λ t. tt)
    typed-alike visible (E.malloc cast site t) = both-when Alike _ _ _ (refl, λ t. tt)

    arguments-alike : (visible : List Local) (wanted : Option (List TypeName)) (es : ExpressionTrees) → Both Any (typed_arguments env visible wanted es) (typed_arguments other visible wanted es)
    arguments-alike visible wanted E.no_expressions = any-self (none_is_missing wanted)
    arguments-alike visible wanted (E.an_expression e rest) =
        both-given Alike Any _ _ _ _ (typed-alike visible e) (λ a b h. both-given Any Any _ _ _ _ (as_argument-alike wanted a b h)
        (λ x y r. both-given Any Any _ _ _ _ (arguments-alike visible (after_first wanted) rest) (λ xs ys r. tt)))

  as-alike : (v w : List Local) (t u : TypeName) (e : ExpressionTree) → v ≡ w → t ≡ u → Both Any (typed_as env v t e) (typed_as other w u e)
  as-alike v w t u e p q =
      subst (λ w. Both Any (typed_as env v t e) (typed_as other w u e)) p
      (subst (λ u. Both Any (typed_as env v t e) (typed_as other v u e)) q (both-given Alike Any _ _ _ _ (typed-alike v e) (as_type-alike t)))

  condition-alike : (v w : List Local) (e : ExpressionTree) → v ≡ w → Both Any (typed_condition env v e) (typed_condition other w e)
  condition-alike v w e p = subst (λ w. Both Any (typed_condition env v e) (typed_condition other w e)) p (both-map Alike Any _ _ _ _ (typed-alike v e) (λ a b r. tt))

  -- ---- statements without statements in them

  place-alike-at : (v : List Local) (e : ExpressionTree) → Both (λ p q. p.0 ≡ q.0) (typed_place env v e) (typed_place other v e)
  place-alike-at v e = both-given Alike (λ p q. p.0 ≡ q.0) _ _ _ _ (typed-alike v e) place-alike

  update-alike : (operator : Arithmetic) (p q : TypeName × Place) (x y : Expression) → p.0 ≡ q.0 → Both Any (typed_update operator p x) (typed_update operator q y)
  update-alike operator p q x y e = when-same Any (same_type int p.0) (same_type int q.0) _ _ (ap (same_type int) e) tt

  statement-call-alike : (v : List Local) (e : ExpressionTree) → Both Any (typed_simple env v (S.a_call e)) (typed_simple other v (S.a_call e))
  statement-call-alike v (E.call f site arguments) =
      same-given Any (callable env v f) _ _ (λ wanted. both-given Any Any _ _ _ _ (arguments-alike v wanted arguments) (λ xs ys r. tt))
  statement-call-alike v (E.free site e) = both-given Alike Any _ _ _ _ (typed-alike v e) (λ a b h. both-given Any Any _ _ _ _ (freed-alike a b h) (λ p q r. tt))
  statement-call-alike v (E.get_char site) = tt
  statement-call-alike v (E.constant n site) = tt
  statement-call-alike v (E.null site) = tt
  statement-call-alike v (E.variable name site) = tt
  statement-call-alike v (E.unary operator site e) = tt
  statement-call-alike v (E.binary operator site a b) = tt
  statement-call-alike v (E.member e field site) = tt
  statement-call-alike v (E.malloc cast site t) = tt

  simple-alike-at : (v : List Local) (s : SimpleTree) → Both Any (typed_simple env v s) (typed_simple other v s)
  simple-alike-at v (S.assign place value) =
      both-given (λ p q. p.0 ≡ q.0) Any _ _ _ _ (place-alike-at v place) (λ p q r. both-given Any Any _ _ _ _ (as-alike v v p.0 q.0 value refl r) (λ x y r. tt))
  simple-alike-at v (S.update operator place value) =
      same-given Any (arithmetic_of operator) _ _ (λ o. both-given (λ p q. p.0 ≡ q.0) Any _ _ _ _ (place-alike-at v place)
      (λ p q r. both-given Any Any _ _ _ _ (as-alike v v int int value refl refl) (λ x y z. update-alike o p q x y r)))
  simple-alike-at v (S.increment place) = both-given (λ p q. p.0 ≡ q.0) Any _ _ _ _ (place-alike-at v place) (λ p q r. update-alike Add p q (T.constant (pos 1)) (T.constant (pos 1)) r)
  simple-alike-at v (S.decrement place) = both-given (λ p q. p.0 ≡ q.0) Any _ _ _ _ (place-alike-at v place) (λ p q r. update-alike Subtract p q (T.constant (pos 1)) (T.constant (pos 1)) r)
  simple-alike-at v (S.a_call e) = statement-call-alike v e

  simple-alike : (v w : List Local) (s : SimpleTree) → v ≡ w → Both Any (typed_simple env v s) (typed_simple other w s)
  simple-alike v w s p = subst (λ w. Both Any (typed_simple env v s) (typed_simple other w s)) p (simple-alike-at v s)

  -- ---- declarations

  declared-alike : (outer m : ℕ) (ls ms : Locals) (name : List ℕ) (t : TypeName) → outer ≡ m → LocalsAlike ls ms → Both LocalsAlike (declared env outer ls name t) (declared other m ms name t)
  declared-alike outer m ls ms name t e r =
      when-same LocalsAlike _ _ _ _ (ap₂ (λ n v. is_value t && is_none (named name (drop n v))) e r.0)
      (ap₂ (λ v n. v ++ record { name = name; number = n; type = t } ∷ []) r.0 r.1, ap (λ n. n + 1) r.1)

  parameters-alike : (ls ms : Locals) (ps : List Parameter) → LocalsAlike ls ms → Both LocalsAlike (typed_parameters env ls ps) (typed_parameters other ms ps)
  parameters-alike ls ms [] r = r
  parameters-alike ls ms (p ∷ rest) r =
      same-given LocalsAlike p.name _ _ (λ name. both-given LocalsAlike LocalsAlike _ _ _ _ (declared-alike 0 0 ls ms name p.value refl r) (λ a b q. parameters-alike a b rest q))

  initialiser-alike : (v w : List Local) (t : TypeName) (value : Option ExpressionTree) → v ≡ w → Both Any (typed_initialiser env v t value) (typed_initialiser other w t value)
  initialiser-alike v w t None p = tt
  initialiser-alike v w t (Some e) p = both-map Any Any _ _ _ _ (as-alike v w t t e p refl) (λ a b r. tt)

  local-alike : (outer m : ℕ) (ls ms : Locals) (name : List ℕ) (t : TypeName) (value : Option ExpressionTree) → outer ≡ m → LocalsAlike ls ms
      → Both PassedAlike (typed_local env outer ls name t value) (typed_local other m ms name t value)
  local-alike outer m ls ms name t value e r =
      both-given LocalsAlike PassedAlike _ _ _ _ (declared-alike outer m ls ms name t e r)
      (λ a b q. both-given Any PassedAlike _ _ _ _ (initialiser-alike a.visible b.visible t value q.0) (λ x y z. q))

  declarators-alike : (outer m : ℕ) (ls ms : Locals) (base : Base) (ds : List InitTree) → outer ≡ m → LocalsAlike ls ms
      → Both AllAlike (typed_declarators env outer ls base ds) (typed_declarators other m ms base ds)
  declarators-alike outer m ls ms base [] e r = r
  declarators-alike outer m ls ms base (d ∷ rest) e r =
      both-given PassedAlike AllAlike _ _ _ _ (local-alike outer m ls ms d.declarator.name (record { base = base; stars = d.declarator.stars }) d.value e r)
      (λ p q h. both-map AllAlike AllAlike _ _ _ _ (declarators-alike outer m p.after q.after base rest e h) (λ a b z. z))

  -- ---- loops

  first-alike : (outer m : ℕ) (ls ms : Locals) (first : Option FirstTree) → outer ≡ m → LocalsAlike ls ms → Both AllAlike (typed_first env outer ls first) (typed_first other m ms first)
  first-alike outer m ls ms None e r = r
  first-alike outer m ls ms (Some (S.first_declaration d)) e r = declarators-alike outer m ls ms d.base d.declarators e r
  first-alike outer m ls ms (Some (S.first_simple s)) e r = both-map Any AllAlike _ _ _ _ (simple-alike ls.visible ms.visible s r.0) (λ a b z. r)

  test-alike : (v w : List Local) (e : Option ExpressionTree) → v ≡ w → Both Any (typed_test env v e) (typed_test other w e)
  test-alike v w None p = tt
  test-alike v w (Some e) p = both-map Any Any _ _ _ _ (condition-alike v w e p) (λ a b z. tt)

  step-alike : (v w : List Local) (s : Option SimpleTree) → v ≡ w → Both Any (typed_step env v s) (typed_step other w s)
  step-alike v w None p = tt
  step-alike v w (Some s) p = simple-alike v w s p

  head-alike : (ls ms : Locals) (first : Option FirstTree) (e : Option ExpressionTree) (s : Option SimpleTree) → LocalsAlike ls ms → Both HeadsAlike (typed_head env ls first e s) (typed_head other ms first e s)
  head-alike ls ms first e s r =
      both-given AllAlike HeadsAlike _ _ _ _ (first-alike (length ls.visible) (length ms.visible) ls ms first (ap length r.0) r) (λ f g h.
      both-given Any HeadsAlike _ _ _ _ (test-alike f.after.visible g.after.visible e h.0) (λ c d z.
      both-given Any HeadsAlike _ _ _ _ (step-alike f.after.visible g.after.visible s h.0) (λ x y z. h)))

  -- ---- statements

  module _ (returns : Option TypeName) where
    return-alike : (v w : List Local) (e : Option ExpressionTree) → v ≡ w → Both Any (typed_return env returns v e) (typed_return other returns w e)
    return-alike v w None p = any-self _
    return-alike v w (Some e) p = same-given Any returns _ _ (λ t. both-map Any Any _ _ _ _ (as-alike v w t t e p refl) (λ a b z. tt))

    mutual
      statement-alike : (loop : Bool) (outer m : ℕ) (ls ms : Locals) (s : StatementTree) → outer ≡ m → LocalsAlike ls ms
          → Both PassedAlike (typed_statement env returns loop outer ls s) (typed_statement other returns loop m ms s)
      statement-alike loop outer m ls ms S.empty e r = r
      statement-alike loop outer m ls ms (S.block ss) e r =
          in_scope-alike (length ls.visible) (length ms.visible) _ _ (ap length r.0)
          (both-map AllAlike PassedAlike _ _ _ _ (statements-alike loop (length ls.visible) (length ms.visible) ls ms ss (ap length r.0) r) (λ a b z. z))
      statement-alike loop outer m ls ms (S.declare d) e r = both-map AllAlike PassedAlike _ _ _ _ (declarators-alike outer m ls ms d.base d.declarators e r) (λ a b z. z)
      statement-alike loop outer m ls ms (S.simple_statement s) e r = both-map Any PassedAlike _ _ _ _ (simple-alike ls.visible ms.visible s r.0) (λ a b z. r)
      statement-alike loop outer m ls ms (S.choose c s) e r =
          both-given Any PassedAlike _ _ _ _ (condition-alike ls.visible ms.visible c r.0) (λ x y z.
          both-given PassedAlike PassedAlike _ _ _ _ (in_scope-alike (length ls.visible) (length ms.visible) _ _ (ap length r.0) (statement-alike loop (length ls.visible) (length ms.visible) ls ms s (ap length r.0) r)) (λ p q h. h))
      statement-alike loop outer m ls ms (S.choose_else c s t) e r =
          both-given Any PassedAlike _ _ _ _ (condition-alike ls.visible ms.visible c r.0) (λ x y z.
          both-given PassedAlike PassedAlike _ _ _ _ (in_scope-alike (length ls.visible) (length ms.visible) _ _ (ap length r.0) (statement-alike loop (length ls.visible) (length ms.visible) ls ms s (ap length r.0) r)) (λ p q h.
          both-given PassedAlike PassedAlike _ _ _ _ (in_scope-alike (length p.after.visible) (length q.after.visible) _ _ (ap length h.0) (statement-alike loop (length p.after.visible) (length q.after.visible) p.after q.after t (ap length h.0) h)) (λ a b g. g)))
      statement-alike loop outer m ls ms (S.while_loop site c s) e r =
          both-given Any PassedAlike _ _ _ _ (condition-alike ls.visible ms.visible c r.0) (λ x y z.
          both-given PassedAlike PassedAlike _ _ _ _ (in_scope-alike (length ls.visible) (length ms.visible) _ _ (ap length r.0) (statement-alike true (length ls.visible) (length ms.visible) ls ms s (ap length r.0) r)) (λ p q h. h))
      statement-alike loop outer m ls ms (S.for_loop site first c step s) e r =
          both-given HeadsAlike PassedAlike _ _ _ _ (head-alike ls ms first c step r) (λ f g h.
          both-given PassedAlike PassedAlike _ _ _ _ (in_scope-alike (length f.after.visible) (length g.after.visible) _ _ (ap length h.0) (statement-alike true (length f.after.visible) (length g.after.visible) f.after g.after s (ap length h.0) h))
          (λ p q k. scope-alike (length ls.visible) (length ms.visible) p.after q.after (ap length r.0) k))
      statement-alike loop outer m ls ms S.break e r = both-when PassedAlike loop _ _ r
      statement-alike loop outer m ls ms S.continue e r = both-when PassedAlike loop _ _ r
      statement-alike loop outer m ls ms (S.return v) e r = both-map Any PassedAlike _ _ _ _ (return-alike ls.visible ms.visible v r.0) (λ a b z. r)

      statements-alike : (loop : Bool) (outer m : ℕ) (ls ms : Locals) (ss : StatementTrees) → outer ≡ m → LocalsAlike ls ms
          → Both AllAlike (typed_statements env returns loop outer ls ss) (typed_statements other returns loop m ms ss)
      statements-alike loop outer m ls ms S.no_statements e r = r
      statements-alike loop outer m ls ms (S.a_statement s rest) e r =
          both-given PassedAlike AllAlike _ _ _ _ (statement-alike loop outer m ls ms s e r)
          (λ p q h. both-map AllAlike AllAlike _ _ _ _ (statements-alike loop outer m p.after q.after rest e h) (λ a b z. z))

-- the law
pub numbers-dont-matter : NumbersDontMatter
numbers-dont-matter env types procs proc other' site result parameters body =
    sym (both-some Any _ _ (same-given Any (allowed_result (result_of result)) _ _ (λ returns.
    both-given LocalsAlike Any _ _ _ _ (parameters-alike env types procs no_locals no_locals parameters (refl, refl)) (λ ls ms r.
    both-given AllAlike Any _ _ _ _ (statements-alike env types procs returns false 0 0 (before_body ls) (before_body ms) (statements_of body) refl r) (λ a b z. tt)))))
