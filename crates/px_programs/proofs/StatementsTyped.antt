-- A statement keeps the typing rules, where what it mentions is known, and what it declares is among the locals.
use Rattle.std.proofs.Common.{ℕ, Bool, pos, List, [], ◌∷◌, ◌++◌, length, slice_get, is_none, Option, Some, None, option_map, sym, subst}
use Rattle.std.specs.List.{AllByRecursion}
use Rattle.px_terms.specs.declared.types.ValueType.{ValueType}
use Rattle.px_terms.specs.declared.types.ValueType.TheVariants as V
use Rattle.px_syntax.specs.declared.type_name.TypeName.{TypeName}
use Rattle.px_syntax.specs.declared.typed_expression.Arithmetic.{Arithmetic}
use Rattle.px_syntax.specs.declared.typed_expression.Arithmetic.TheVariants.{Add, Subtract}
use Rattle.px_syntax.specs.ExpressionTree as E
use Rattle.px_syntax.specs.ExpressionTree.{ExpressionTree}
use Rattle.px_syntax.specs.StatementTree as S
use Rattle.px_syntax.specs.StatementTree.{SimpleTree}
use Rattle.px_syntax.specs.TypedTree as T
use Rattle.px_syntax.specs.TypedTree.{Expression, Condition, Place, Statement}
use Rattle.px_bodies.specs.Types.{given, int, same_type}
use Rattle.px_bodies.specs.Environment.{Environment, value_type}
use Rattle.px_bodies.specs.Typed.{as_freed}
use Rattle.px_bodies.specs.Locals.{Local, named}
use Rattle.px_bodies.specs.Expressions.{typed, typed_arguments, typed_as, typed_condition, parameters_of}
use Rattle.px_bodies.specs.Statements.{arithmetic_of, typed_place, typed_update, typed_simple, typed_initialiser, typed_test, typed_step, typed_return}
use Rattle.px_typing.specs.Mentions.{Mention, of_expression, of_option, of_simple}
use Rattle.px_meaning.specs.TypedProgram.{TypedProgram}
use Rattle.px_meaning.specs.TreeTypes.{IsConditionIf, IsDeclared, IsStep, IsStatement, AreStatements}
use Rattle.px_programs.specs.Numbers.{IsListedIf, IsTestListedIf, IsStatementListed, AreStatementsListed}
use Rattle.px_programs.proofs.Options.{Holds, on_when_is, on_given, on_given_when, on_any, on_map}
use Rattle.px_programs.proofs.Lists.{all_first, all_second}
use Rattle.px_programs.proofs.TypeWords.{same_type_is, IsListedType}
use Rattle.px_programs.proofs.TypedValues.{one_good, KnownMention, KnownFields, agrees_as_statement, IsGood, IsGoodTest, IsGoodTyped, IsGoodPlace, place_good, IsGoodFreed, freed_good}
use Rattle.px_programs.proofs.LocalsTyped.{IsLocal}
use Rattle.px_programs.proofs.ExpressionsTyped.{AreArguments, typed_good, arguments_good, as_good, condition_good}

module _ (env : Environment) (P : TypedProgram) (names : ℕ) (fields : KnownFields env P names) (ints : IsListedType env P.types int) where
  abbrev pub Known : List Mention → Type 0
  Known ms = AllByRecursion (KnownMention env P names) ms

  pub known_first : (xs ys : List Mention) → Known (xs ++ ys) → Known xs
  known_first xs ys h = all_first (KnownMention env P names) xs ys h

  pub known_second : (xs ys : List Mention) → Known (xs ++ ys) → Known ys
  known_second xs ys h = all_second (KnownMention env P names) xs ys h

  module _ (whole : List ValueType) (returns : Option TypeName) where
    abbrev pub IsGoodStatement : Bool → Statement → Type 0
    IsGoodStatement inside s = IsStatement P (slice_get whole) (option_map (value_type env) returns) inside s × IsStatementListed names (length P.types) s

    abbrev pub AreGoodStatements : Bool → List Statement → Type 0
    AreGoodStatements inside ss =
        AreStatements P (slice_get whole) (option_map (value_type env) returns) inside (T.statements_of ss) × AreStatementsListed names (length P.types) (T.statements_of ss)

    abbrev pub IsGoodStep : Statement → Type 0
    IsGoodStep s = IsStep P (slice_get whole) s × ((inside : Bool) → IsGoodStatement inside s)

    abbrev pub IsGoodValue : TypeName → Option Expression → Type 0
    IsGoodValue t v = IsDeclared P (slice_get whole) (Some (value_type env t)) v × IsListedIf names (length P.types) v

    abbrev pub IsGoodTestIf : Option Condition → Type 0
    IsGoodTestIf c = IsConditionIf P (slice_get whole) c × IsTestListedIf names (length P.types) c

    -- one after others
    pub both_good : (inside : Bool) (before : List Statement) (s : Statement) → AreGoodStatements inside before → IsGoodStatement inside s → AreGoodStatements inside (before ++ s ∷ [])
    both_good inside [] s h k = ((k.0, tt), (k.1, tt))
    both_good inside (x ∷ before) s h k = let r = both_good inside before s (h.0.1, h.1.1) k in ((h.0.0, r.0), (h.1.0, r.1))

    -- ---- statements without statements in them

    module _ (visible : List Local) (fit : AllByRecursion (IsLocal env P.types (slice_get whole)) visible) where
      place_typed : (e : ExpressionTree) → Known (of_expression e) → Holds (IsGoodPlace env P names (slice_get whole)) (typed_place env visible e)
      place_typed e k =
          on_given (IsGoodTyped env P names (slice_get whole)) (IsGoodPlace env P names (slice_get whole)) (typed env visible e) _
          (typed_good env P names fields (slice_get whole) visible fit e k) (place_good env P names (slice_get whole))

      -- what is updated is an int
      updated : (o : Arithmetic) (p : TypeName × Place) (v : Expression) → IsGoodPlace env P names (slice_get whole) p → IsGood env P names (slice_get whole) V.Int v → Holds IsGoodStep (typed_update o p v)
      updated o p v hp hv =
          on_when_is IsGoodStep (same_type int p.0) (T.update o p.1 v) (λ e.
          let place = subst (λ t. IsGoodPlace env P names (slice_get whole) (t, p.1)) (sym (same_type_is int p.0 e)) hp in
          (tt, λ inside. ((place.0, hv.0), (place.1, hv.1))))

      -- `++` and `--`
      stepped : (o : Arithmetic) (place : ExpressionTree) → Known (of_expression place) → Holds IsGoodStep (given (typed_place env visible place) (λ p. typed_update o p (T.constant (pos 1))))
      stepped o place k =
          on_given (IsGoodPlace env P names (slice_get whole)) IsGoodStep (typed_place env visible place) _ (place_typed place k)
          (λ p hp. updated o p (T.constant (pos 1)) hp (one_good env P names (slice_get whole)))

      pub simple_good : (s : SimpleTree) → Known (of_simple s) → Holds IsGoodStep (typed_simple env visible s)
      simple_good (S.assign place value) k =
          on_given (IsGoodPlace env P names (slice_get whole)) IsGoodStep (typed_place env visible place) _ (place_typed place (known_first (of_expression place) (of_expression value) k)) (λ p hp.
          on_given (IsGood env P names (slice_get whole) (value_type env p.0)) IsGoodStep (typed_as env visible p.0 value) _
          (as_good env P names fields (slice_get whole) visible fit p.0 value (known_second (of_expression place) (of_expression value) k))
          (λ v hv. (tt, λ inside. ((value_type env p.0, hp.0, hv.0), (hp.1, hv.1)))))
      simple_good (S.update operator place value) k =
          on_any IsGoodStep (arithmetic_of operator) _ (λ o.
          on_given (IsGoodPlace env P names (slice_get whole)) IsGoodStep (typed_place env visible place) _ (place_typed place (known_first (of_expression place) (of_expression value) k)) (λ p hp.
          on_given (IsGood env P names (slice_get whole) V.Int) IsGoodStep (typed_as env visible int value) _
          (as_good env P names fields (slice_get whole) visible fit int value (known_second (of_expression place) (of_expression value) k)) (λ v hv. updated o p v hp hv)))
      simple_good (S.increment place) k = stepped Add place k
      simple_good (S.decrement place) k = stepped Subtract place k
      simple_good (S.a_call (E.call f site arguments)) k =
          on_given_when IsGoodStep (is_none (named f visible)) (parameters_of (env.signature f)) _
          (on_given (AreArguments env P names fields (slice_get whole) (parameters_of (env.signature f))) IsGoodStep (typed_arguments env visible (parameters_of (env.signature f)) arguments) _
          (arguments_good env P names fields (slice_get whole) visible fit (parameters_of (env.signature f)) arguments k.1)
          (λ xs h. (tt, λ inside. ((h.0, h.1, agrees_as_statement env P names f h.0 k.0 h.3), (k.0.below, h.2)))))
      simple_good (S.a_call (E.free site e)) k =
          on_given (IsGoodTyped env P names (slice_get whole)) IsGoodStep (typed env visible e) _ (typed_good env P names fields (slice_get whole) visible fit e k) (λ a ha.
          on_given (IsGoodFreed env P names (slice_get whole)) IsGoodStep (as_freed a) _ (freed_good env P names (slice_get whole) ints a ha) (λ p hp. (tt, λ inside. (hp.0.0, (hp.0.1, hp.1)))))
      simple_good (S.a_call (E.get_char site)) k = (tt, λ inside. (tt, tt))
      simple_good (S.a_call (E.constant n site)) k = tt
      simple_good (S.a_call (E.null site)) k = tt
      simple_good (S.a_call (E.variable name site)) k = tt
      simple_good (S.a_call (E.unary operator site e)) k = tt
      simple_good (S.a_call (E.binary operator site a b)) k = tt
      simple_good (S.a_call (E.member e field site)) k = tt
      simple_good (S.a_call (E.malloc cast site t)) k = tt

      pub initialiser_good : (t : TypeName) (value : Option ExpressionTree) → Known (of_option of_expression value) → Holds (IsGoodValue t) (typed_initialiser env visible t value)
      initialiser_good t None k = (tt, tt)
      initialiser_good t (Some e) k =
          on_map (IsGood env P names (slice_get whole) (value_type env t)) (IsGoodValue t) (typed_as env visible t e) _ (as_good env P names fields (slice_get whole) visible fit t e k) (λ v h. h)

      pub test_if_good : (e : Option ExpressionTree) → Known (of_option of_expression e) → Holds IsGoodTestIf (typed_test env visible e)
      test_if_good None k = (tt, tt)
      test_if_good (Some e) k =
          on_map (IsGoodTest env P names (slice_get whole)) IsGoodTestIf (typed_condition env visible e) _ (condition_good env P names fields (slice_get whole) visible fit e k) (λ c h. h)

      pub step_good : (s : Option SimpleTree) → Known (of_option of_simple s) → Holds IsGoodStep (typed_step env visible s)
      step_good None k = (tt, λ inside. (tt, tt))
      step_good (Some s) k = simple_good s k

  -- a value exactly where the function gives one
  pub return_good : (whole : List ValueType) (returns : Option TypeName) (visible : List Local) (fit : AllByRecursion (IsLocal env P.types (slice_get whole)) visible) (e : Option ExpressionTree)
      → Known (of_option of_expression e) → Holds (λ s. (inside : Bool) → IsGoodStatement whole returns inside s) (typed_return env returns visible e)
  return_good whole None visible fit None k = λ inside. (tt, tt)
  return_good whole (Some t) visible fit None k = tt
  return_good whole None visible fit (Some e) k = tt
  return_good whole (Some t) visible fit (Some e) k =
      on_map (IsGood env P names (slice_get whole) (value_type env t)) (λ s. (inside : Bool) → IsGoodStatement whole (Some t) inside s) (typed_as env visible t e) _
      (as_good env P names fields (slice_get whole) visible fit t e k) (λ v h. λ inside. h)
