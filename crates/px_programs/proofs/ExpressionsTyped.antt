-- An expression keeps the typing rules, where what it mentions is known.
use Rattle.std.proofs.Common.{ℕ, List, [], ◌∷◌, bytes_eq, is_none, length, Option, Some, None, refl}
use Rattle.std.specs.List.{AllByRecursion}
use Rattle.px_terms.specs.declared.types.ValueType.{ValueType}
use Rattle.px_syntax.specs.declared.type_name.TypeName.{TypeName}
use Rattle.px_syntax.specs.ExpressionTree as E
use Rattle.px_syntax.specs.ExpressionTree.{ExpressionTree, ExpressionTrees}
use Rattle.px_syntax.specs.TypedTree as T
use Rattle.px_syntax.specs.TypedTree.{Argument}
use Rattle.px_bodies.specs.Types.{is_value}
use Rattle.px_bodies.specs.Environment.{Environment, value_type}
use Rattle.px_bodies.specs.Typed.{Typed, as_argument}
use Rattle.px_bodies.specs.Locals.{Local, named, if_named}
use Rattle.px_bodies.specs.Expressions.{site_of, after_first, none_is_missing, parameters_of, call_type, typed, typed_arguments, typed_call, typed_as, typed_condition}
use Rattle.px_typing.specs.Mentions.{Mention, of_expression, of_expressions, of_option, of_type, of_size}
use Rattle.px_meaning.specs.TypedProgram.{TypedProgram}
use Rattle.px_meaning.specs.TreeTypes.{LocalTypes, AreOf}
use Rattle.px_programs.specs.Numbers.{AreArgumentsListed}
use Rattle.px_programs.proofs.Options.{Holds, of_some, on_when, on_or_else, on_given, on_given_is, on_given_when, on_map}
use Rattle.px_programs.proofs.Lists.{all_first, all_second}
use Rattle.px_programs.proofs.TypeWords.{IsKnown, value_listed}
use Rattle.px_programs.proofs.LocalsTyped.{IsLocal}
use Rattle.px_programs.proofs.TypedValues.{Fits, KnownCall, KnownMention, KnownFields, agrees_as_value, IsGood, IsGoodTest, IsGoodTyped, IsArgument, type_good, argument_good, test_good, constant_good, binary_good, unary_good, arrow_good, malloc_good}

module _ (env : Environment) (P : TypedProgram) (names : ℕ) (fields : KnownFields env P names) (locals : LocalTypes) where
  -- the arguments are of these types
  abbrev pub AreArguments : Option (List TypeName) → List Argument → Type 0
  AreArguments wanted es = (ts : List ValueType) × AreOf P locals ts (T.arguments_of es) × AreArgumentsListed names (length P.types) (T.arguments_of es) × Fits env wanted ts

  abbrev pub AreKnown : List Mention → Type 0
  AreKnown ms = AllByRecursion (KnownMention env P names) ms

  abbrev Good : Typed → Type 0
  Good a = IsGoodTyped env P names locals a

  none_missing : (wanted : Option (List TypeName)) → Holds (AreArguments wanted) (none_is_missing wanted)
  none_missing None = ([], tt, tt, tt)
  none_missing (Some []) = ([], tt, tt, refl)
  none_missing (Some (t ∷ ts)) = tt

  module _ (visible : List Local) (fit : AllByRecursion (IsLocal env P.types locals) visible) where
    named_local : (name : List ℕ) (ls : List Local) → AllByRecursion (IsLocal env P.types locals) ls → Holds (IsLocal env P.types locals) (named name ls)
    named_local name [] h = tt
    named_local name (l ∷ ls) h = on_or_else (IsLocal env P.types locals) (named name ls) (if_named name l) (named_local name ls h.1) (on_when (IsLocal env P.types locals) (bytes_eq l.name name) l h.0)

    call_good : (f : List ℕ) (site : _) (es : List Argument) → KnownCall env P names f → AreArguments (parameters_of (env.signature f)) es → Holds Good (typed_call env f site es)
    call_good f site es k h =
        on_given_is Good (call_type (env.signature f)) _ (λ t is.
        let known = of_some (IsKnown env P.types) (call_type (env.signature f)) t is k.result in
        on_when Good (is_value t) _ (known, ((refl, (h.0, h.1, agrees_as_value env P names f h.0 t k h.3 is)), (k.below, h.2, value_listed env P.types t known))))

    mutual
      pub typed_good : (e : ExpressionTree) → AreKnown (of_expression e) → Holds Good (typed env visible e)
      typed_good (E.constant n site) k = constant_good env P names locals n
      typed_good (E.null site) k = tt
      typed_good (E.variable name site) k = on_given (IsLocal env P.types locals) Good (named name visible) _ (named_local name visible fit) (λ l h. (h.0, (h.1, tt)))
      typed_good (E.unary operator site e) k = on_given Good Good (typed env visible e) _ (typed_good e k) (unary_good env P names locals operator site (site_of e))
      typed_good (E.binary operator site a b) k =
          on_given Good Good (typed env visible a) _ (typed_good a (all_first (KnownMention env P names) (of_expression a) (of_expression b) k)) (λ x hx.
          on_given Good Good (typed env visible b) _ (typed_good b (all_second (KnownMention env P names) (of_expression a) (of_expression b) k)) (λ y hy.
          binary_good env P names locals x y hx hy operator site (site_of a) (site_of b)))
      typed_good (E.member e field site) k = on_given Good Good (typed env visible e) _ (typed_good e k) (arrow_good env P names locals fields field site)
      typed_good (E.call f site arguments) k =
          on_given_when Good (is_none (named f visible)) (parameters_of (env.signature f)) _
          (on_given (AreArguments (parameters_of (env.signature f))) Good (typed_arguments env visible (parameters_of (env.signature f)) arguments) _
          (arguments_good (parameters_of (env.signature f)) arguments k.1) (λ es h. call_good f site es k.0 h))
      typed_good (E.free site e) k = tt
      typed_good (E.get_char site) k = (tt, (refl, tt))
      typed_good (E.malloc cast site t) k =
          malloc_good env P names locals cast site t (all_second (KnownMention env P names) (of_option of_type cast) (of_size t) k).0

      pub arguments_good : (wanted : Option (List TypeName)) (es : ExpressionTrees) → AreKnown (of_expressions es) → Holds (AreArguments wanted) (typed_arguments env visible wanted es)
      arguments_good wanted E.no_expressions k = none_missing wanted
      arguments_good wanted (E.an_expression e rest) k =
          on_given Good (AreArguments wanted) (typed env visible e) _ (typed_good e (all_first (KnownMention env P names) (of_expression e) (of_expressions rest) k)) (λ a ha.
          on_given (IsArgument env P names locals wanted) (AreArguments wanted) (as_argument wanted a) _ (argument_good env P names locals wanted a ha) (λ x hx.
          on_given (AreArguments (after_first wanted)) (AreArguments wanted) (typed_arguments env visible (after_first wanted) rest) _
          (arguments_good (after_first wanted) rest (all_second (KnownMention env P names) (of_expression e) (of_expressions rest) k))
          (λ xs hxs. (hx.0 ∷ hxs.0, (hx.1.0, hxs.1), (hx.1.1, hxs.2), hx.2 hxs.0 hxs.3))))

    pub as_good : (t : TypeName) (e : ExpressionTree) → AreKnown (of_expression e) → Holds (IsGood env P names locals (value_type env t)) (typed_as env visible t e)
    as_good t e k = on_given Good (IsGood env P names locals (value_type env t)) (typed env visible e) _ (typed_good e k) (type_good env P names locals t)

    pub condition_good : (e : ExpressionTree) → AreKnown (of_expression e) → Holds (IsGoodTest env P names locals) (typed_condition env visible e)
    condition_good e k = on_map Good (IsGoodTest env P names locals) (typed env visible e) _ (typed_good e k) (test_good env P names locals (site_of e))
