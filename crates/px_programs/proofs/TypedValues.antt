-- What is known of an expression with its type is kept by each use of it.
use Rattle.std.proofs.Common.{◌≡◌, ◌∙◌, ℕ, ◌<◌, Bool, true, false, ◌&&◌, cond, pos, ◌-◌, List, [], ◌∷◌, map, length, nat_eq, nat_lt, Option, Some, None, option_map, IfSome, refl, sym, ap, subst, FitsSigned, w32, arith}
use Rattle.std.specs.Prelude.{⊤}
use Rattle.std.specs.List.{AllByRecursion}
use Rattle.std.proofs.lemmas.Bool.{ltb-true, and_parts}
use Rattle.px_base.specs.declared.trace.Site.{Site}
use Rattle.px_terms.specs.declared.types.ValueType.{ValueType}
use Rattle.px_terms.specs.declared.types.ValueType.TheVariants as V
use Rattle.px_syntax.specs.declared.type_name.TypeName.{TypeName}
use Rattle.px_syntax.specs.declared.typed_expression.Arithmetic.{Arithmetic}
use Rattle.px_syntax.specs.declared.typed_expression.Arithmetic.TheVariants as A
use Rattle.px_syntax.specs.declared.typed_expression.Relation.{Relation}
use Rattle.px_syntax.specs.declared.typed_expression.Relation.TheVariants as R
use Rattle.px_syntax.specs.declared.expression.UnaryOperator.{UnaryOperator}
use Rattle.px_syntax.specs.declared.expression.UnaryOperator.TheVariants.{Minus, Not, Indirection}
use Rattle.px_syntax.specs.declared.expression.BinaryOperator.{BinaryOperator}
use Rattle.px_syntax.specs.declared.expression.BinaryOperator.TheVariants as B
use Rattle.px_syntax.specs.TypedTree as T
use Rattle.px_syntax.specs.TypedTree.{Expression, Condition, Place}
use Rattle.px_syntax.specs.ProgramTree.{ProcedureTree}
use Rattle.px_bodies.specs.Types.{when, given, int, is_pointer, is_int, is_value, pointee, pointer_to, same_type}
use Rattle.px_bodies.specs.Environment.{Environment, Signature, type_id, value_type}
use Rattle.px_bodies.specs.Typed.{Typed, of_type, a_null, a_zero, a_test, as_type, as_value, as_argument, as_condition, as_place, as_freed, typed_constant, typed_minus, common_type, compared_at, typed_cell, typed_indirection, field_named, typed_arrow, typed_malloc, is_block, is_cast_to}
use Rattle.px_bodies.specs.Expressions.{typed_unary, typed_binary, after_first, parameters_of, call_type}
use Rattle.px_typing.specs.Mentions.{Mention, calls, declares, blocks}
use Rattle.px_typing.specs.Programs.{behind}
use Rattle.px_meaning.specs.TypedProgram.{TypedProgram}
use Rattle.px_meaning.specs.TreeTypes.{LocalTypes, IsOf, IsCondition, IsPlaceOf, AgreesWith, IsDefined}
use Rattle.px_programs.specs.Numbers.{IsListed, IsTestListed, IsPlaceListed}
use Rattle.px_programs.proofs.Options.{Holds, on_when, on_when_is, on_cond, on_change, on_given}
use Rattle.px_programs.proofs.TypeWords.{same_type_is, int_value, plain_value, pointer_value, pointing_value, block_defined, IsListedType, IsKnown, IsPointee, IsCellOf, pointee_known, after_last, number_below, value_cell, named_field}

-- ---- what is known of functions and of mentions

-- types are those of these parameters, where parameters are known
abbrev pub Fits : Environment → Option (List TypeName) → List ValueType → Type 0
Fits env None ts = ⊤
Fits env (Some wanted) ts = ts ≡ map (value_type env) wanted

-- a kept procedure is as this signature says
abbrev pub IsAsDeclared : Environment → Option Signature → ProcedureTree → Type 0
IsAsDeclared env o q = (s : Signature) × (o ≡ Some s) × (q.parameters ≡ map (value_type env) s.parameters) × (q.result ≡ option_map (value_type env) s.result)

module _ (env : Environment) (P : TypedProgram) (names : ℕ) where
  pub record KnownCall (f : List ℕ) : Type 0 where
    pub below : env.proc_number f < names
    pub result : Holds (IsKnown env P.types) (call_type (env.signature f))
    pub declared : Holds (IsAsDeclared env (env.signature f)) (P.procedures (env.proc_number f))

  abbrev pub KnownMention : Mention → Type 0
  KnownMention (calls f) = KnownCall f
  KnownMention (declares f) = ⊤
  KnownMention (blocks base n) = AllByRecursion (IsListedType env P.types) (behind base n)

  -- the fields of structs
  abbrev pub KnownFields : Type 0
  KnownFields = (tag : List ℕ) (fs : List (List ℕ × TypeName)) → env.fields tag ≡ Some fs → AllByRecursion (λ f. IsKnown env P.types f.1) fs

  -- a call takes what its callee's parameters are
  agrees : (s : Option Signature) (o : Option ProcedureTree) (ts : List ValueType) (result : Option ValueType) → Holds (IsAsDeclared env s) o → Fits env (parameters_of s) ts
      → ((g : Signature) → s ≡ Some g → (q : ProcedureTree) → q.result ≡ option_map (value_type env) g.result → IfSome result (λ t. q.result ≡ Some t)) → AgreesWith o ts result
  agrees s None ts result h fits on = tt
  agrees s (Some q) ts result h fits on =
      let k = subst (λ o. Fits env (parameters_of o) ts) h.1 fits in
      (h.2 ∙ sym k, on h.0 h.1 q h.3)

  pub agrees_as_statement : (f : List ℕ) (ts : List ValueType) → KnownCall f → Fits env (parameters_of (env.signature f)) ts → AgreesWith (P.procedures (env.proc_number f)) ts None
  agrees_as_statement f ts k fits = agrees (env.signature f) (P.procedures (env.proc_number f)) ts None k.declared fits (λ g is q e. tt)

  pub agrees_as_value : (f : List ℕ) (ts : List ValueType) (t : TypeName) → KnownCall f → Fits env (parameters_of (env.signature f)) ts → call_type (env.signature f) ≡ Some t
      → AgreesWith (P.procedures (env.proc_number f)) ts (Some (value_type env t))
  agrees_as_value f ts t k fits given_type =
      agrees (env.signature f) (P.procedures (env.proc_number f)) ts (Some (value_type env t)) k.declared fits
      (λ g is q e. e ∙ ap (option_map (value_type env)) (sym (ap call_type is) ∙ given_type))

-- ---- expressions

module _ (env : Environment) (P : TypedProgram) (names : ℕ) (locals : LocalTypes) where
  abbrev pub IsGood : ValueType → Expression → Type 0
  IsGood t e = IsOf P locals t e × IsListed names (length P.types) e

  abbrev pub IsGoodTest : Condition → Type 0
  IsGoodTest c = IsCondition P locals c × IsTestListed names (length P.types) c

  abbrev pub IsGoodTyped : Typed → Type 0
  IsGoodTyped (of_type t e) = IsKnown env P.types t × IsGood (value_type env t) e
  IsGoodTyped a_null = ⊤
  IsGoodTyped a_zero = ⊤
  IsGoodTyped (a_test c) = IsGoodTest c

  -- ---- agreement

  small : (n : ℕ) → n < 2147483648 → FitsSigned w32 (pos n)
  small n h = record { sfits = h }

  zero_good : IsGood V.Int (T.constant (pos 0))
  zero_good = ((refl, small 0 (omega arith)), tt)

  pub one_good : IsGood V.Int (T.constant (pos 1))
  one_good = ((refl, small 1 (omega arith)), tt)

  good_at : (t u : ValueType) (e : Expression) → u ≡ t → IsGood t e → IsGood u e
  good_at t u e is h = subst (λ v. IsGood v e) (sym is) h

  null_good : (t : TypeName) → is_pointer t ≡ true → IsGood (value_type env t) T.null
  null_good t h = ((type_id env (record { base = t.base; stars = t.stars - 1 }), pointer_value env t h), tt)

  pub type_good : (t : TypeName) (a : Typed) → IsGoodTyped a → Holds (IsGood (value_type env t)) (as_type t a)
  type_good t (of_type u e) h = on_when_is (IsGood (value_type env t)) (same_type t u) e (λ is. good_at (value_type env u) (value_type env t) e (ap (value_type env) (same_type_is t u is)) h.1)
  type_good t a_null h = on_when_is (IsGood (value_type env t)) (is_pointer t) T.null (null_good t)
  type_good t a_zero h = by (is_pointer t) refl
    where
      by : (b : Bool) → is_pointer t ≡ b → Holds (IsGood (value_type env t)) (cond b (Some T.null) (when (is_int t) (T.constant (pos 0))))
      by true is = null_good t is
      by false is = on_when_is (IsGood (value_type env t)) (is_int t) (T.constant (pos 0)) (λ e. good_at V.Int (value_type env t) (T.constant (pos 0)) (int_value env t e) zero_good)
  type_good t (a_test c) h = on_when_is (IsGood (value_type env t)) (is_int t) (T.truth c) (λ e. ((int_value env t e, h.0), h.1))

  -- some type
  abbrev IsOfSome : Expression → Type 0
  IsOfSome e = (t : ValueType) × IsGood t e

  value_good : (a : Typed) → IsGoodTyped a → IsOfSome (as_value a)
  value_good (of_type t e) h = (value_type env t, h.1)
  value_good a_null h = (V.Pointer (type_id env int), ((type_id env int, refl), tt))
  value_good a_zero h = (V.Int, zero_good)
  value_good (a_test c) h = (V.Int, ((refl, h.0), h.1))

  -- the type of an argument goes before those of the later ones
  abbrev pub IsArgument : Option (List TypeName) → Expression → Type 0
  IsArgument wanted x = (t : ValueType) × IsGood t x × ((ts : List ValueType) → Fits env (after_first wanted) ts → Fits env wanted (t ∷ ts))

  pub argument_good : (wanted : Option (List TypeName)) (a : Typed) → IsGoodTyped a → Holds (IsArgument wanted) (as_argument wanted a)
  argument_good None a h = let v = value_good a h in (v.0, v.1, λ ts k. tt)
  argument_good (Some []) a h = tt
  argument_good (Some (t ∷ wanted)) a h =
      on_change (IsGood (value_type env t)) (IsArgument (Some (t ∷ wanted))) (as_type t a) (type_good t a h) (λ x k. (value_type env t, k, λ ts e. ap (λ l. value_type env t ∷ l) e))

  pub test_good : (site : Site) (a : Typed) → IsGoodTyped a → IsGoodTest (as_condition site a)
  test_good site (of_type t e) h = by (is_pointer t) refl
    where
      by : (b : Bool) → is_pointer t ≡ b → IsGoodTest (cond b (T.pointer e site) (T.word e site))
      by true is = let b = type_id env (record { base = t.base; stars = t.stars - 1 }) in ((b, (good_at (value_type env t) (V.Pointer b) e (sym (pointer_value env t is)) h.1).0), h.1.1)
      by false is = good_at (value_type env t) V.Int e (sym (plain_value env t is)) h.1
  test_good site a_null h = ((type_id env int, (type_id env int, refl)), tt)
  test_good site a_zero h = zero_good
  test_good site (a_test c) h = h

  abbrev pub IsGoodPlace : TypeName × Place → Type 0
  IsGoodPlace p = IsPlaceOf P locals (value_type env p.0) p.1 × IsPlaceListed names (length P.types) p.1

  pub place_good : (a : Typed) → IsGoodTyped a → Holds IsGoodPlace (as_place a)
  place_good (of_type t (T.constant z)) h = tt
  place_good (of_type t T.null) h = tt
  place_good (of_type t (T.local i site)) h = h.1
  place_good (of_type t (T.negated e)) h = tt
  place_good (of_type t (T.arithmetic operator a b)) h = tt
  place_good (of_type t (T.truth c)) h = tt
  place_good (of_type t (T.cell e field block site)) h = h.1
  place_good (of_type t (T.allocate block site)) h = tt
  place_good (of_type t (T.get_char site)) h = tt
  place_good (of_type t (T.call proc es result site)) h = tt
  place_good (of_type t (T.stop number site parts)) h = tt
  place_good a_null h = tt
  place_good a_zero h = tt
  place_good (a_test c) h = tt

  abbrev pub IsGoodFreed : TypeName × Expression → Type 0
  IsGoodFreed p = IsGood (V.Pointer (type_id env p.0)) p.1 × (env.type_number p.0 < length P.types)

  null_freed : IsListedType env P.types int → IsGoodFreed (int, T.null)
  null_freed ints = (((type_id env int, refl), tt), number_below env P.types int ints)

  pub freed_good : IsListedType env P.types int → (a : Typed) → IsGoodTyped a → Holds IsGoodFreed (as_freed a)
  freed_good ints (of_type t e) h =
      on_given (IsPointee env P.types t) IsGoodFreed (pointee t) _ (pointee_known env P.types t h.0)
      (λ u k. (good_at (value_type env t) (V.Pointer (type_id env u)) e (sym k.2) h.1, number_below env P.types u k.0))
  freed_good ints a_null h = null_freed ints
  freed_good ints a_zero h = null_freed ints
  freed_good ints (a_test c) h = tt

  -- ---- operators

  int_good : (e : Expression) → IsGood V.Int e → IsGoodTyped (of_type int e)
  int_good e h = (tt, h)

  pub constant_good : (n : ℕ) → Holds IsGoodTyped (typed_constant n)
  constant_good n =
      on_cond IsGoodTyped (nat_eq n 0) (Some a_zero) _ tt
      (on_when_is IsGoodTyped (nat_lt n 2147483648) (of_type int (T.constant (pos n))) (λ h. int_good (T.constant (pos n)) ((refl, small n (ltb-true n 2147483648 h)), tt)))

  minus_good : (a : Typed) → IsGoodTyped a → Holds IsGoodTyped (typed_minus a)
  minus_good a h = on_given (IsGood V.Int) IsGoodTyped (as_type int a) _ (type_good int a h) (λ x hx. int_good (T.negated x) ((refl, hx.0), hx.1))

  module _ (a b : Typed) (h : IsGoodTyped a) (k : IsGoodTyped b) where
    -- from two ints
    two : (f : Expression → Expression → Typed) → ((x y : Expression) → IsGood V.Int x → IsGood V.Int y → IsGoodTyped (f x y))
        → Holds IsGoodTyped (given (as_type int a) (λ x. given (as_type int b) (λ y. Some (f x y))))
    two f on =
        on_given (IsGood V.Int) IsGoodTyped (as_type int a) _ (type_good int a h) (λ x hx.
        on_given (IsGood V.Int) IsGoodTyped (as_type int b) _ (type_good int b k) (λ y hy. on x y hx hy))

    sum : (o : Arithmetic) (x y : Expression) → IsGood V.Int x → IsGood V.Int y → IsGoodTyped (of_type int (T.arithmetic o x y))
    sum o x y hx hy = int_good (T.arithmetic o x y) ((refl, hx.0, hy.0), (hx.1, hy.1))

    -- two pointers, or two ints
    compared : (t : TypeName) (of_ints of_places : Relation) (site : Site)
        → ((x y : Expression) → IsGood V.Int x → IsGood V.Int y → IsGoodTest (T.compare of_ints x y site))
        → ((x y : Expression) (block : _) → IsGood (V.Pointer block) x → IsGood (V.Pointer block) y → IsGoodTest (T.compare of_places x y site))
        → Holds IsGoodTyped (compared_at t of_ints of_places site a b)
    compared t of_ints of_places site ints places =
        on_given (IsGood (value_type env t)) IsGoodTyped (as_type t a) _ (type_good t a h) (λ x hx.
        on_given (IsGood (value_type env t)) IsGoodTyped (as_type t b) _ (type_good t b k) (λ y hy. by x y hx hy (is_pointer t) refl))
      where
        by : (x y : Expression) → IsGood (value_type env t) x → IsGood (value_type env t) y → (p : Bool) → is_pointer t ≡ p → IsGoodTest (T.compare (cond p of_places of_ints) x y site)
        by x y hx hy true is =
            let e = sym (pointer_value env t is) in
            places x y _ (good_at (value_type env t) _ x e hx) (good_at (value_type env t) _ y e hy)
        by x y hx hy false is =
            let e = sym (plain_value env t is) in
            ints x y (good_at (value_type env t) V.Int x e hx) (good_at (value_type env t) V.Int y e hy)

    pub binary_good : (operator : BinaryOperator) (site left right : Site) → Holds IsGoodTyped (typed_binary operator site left right a b)
    binary_good B.Multiply site left right = two (λ x y. of_type int (T.arithmetic A.Multiply x y)) (sum A.Multiply)
    binary_good B.Add site left right = two (λ x y. of_type int (T.arithmetic A.Add x y)) (sum A.Add)
    binary_good B.Subtract site left right = two (λ x y. of_type int (T.arithmetic A.Subtract x y)) (sum A.Subtract)
    binary_good B.Less site left right = two _ (λ x y hx hy. ((hx.0, hy.0), (hx.1, hy.1)))
    binary_good B.LessEqual site left right = two _ (λ x y hx hy. ((hx.0, hy.0), (hx.1, hy.1)))
    binary_good B.Greater site left right = two _ (λ x y hx hy. ((hx.0, hy.0), (hx.1, hy.1)))
    binary_good B.GreaterEqual site left right = two _ (λ x y hx hy. ((hx.0, hy.0), (hx.1, hy.1)))
    binary_good B.Equal site left right =
        compared (common_type a b) R.Equal R.SamePlace site (λ x y hx hy. ((hx.0, hy.0), (hx.1, hy.1))) (λ x y block hx hy. ((block, hx.0, hy.0), (hx.1, hy.1)))
    binary_good B.NotEqual site left right =
        compared (common_type a b) R.Unequal R.OtherPlace site (λ x y hx hy. ((hx.0, hy.0), (hx.1, hy.1))) (λ x y block hx hy. ((block, hx.0, hy.0), (hx.1, hy.1)))
    binary_good B.And site left right = let x = test_good left a h in let y = test_good right b k in ((x.0, y.0), (x.1, y.1))
    binary_good B.Or site left right = let x = test_good left a h in let y = test_good right b k in ((x.0, y.0), (x.1, y.1))
    binary_good B.Divide site left right = two (λ x y. of_type int (T.arithmetic (A.Divide site) x y)) (sum (A.Divide site))
    binary_good B.Remainder site left right = two (λ x y. of_type int (T.arithmetic (A.Remainder site) x y)) (sum (A.Remainder site))

  -- ---- cells

  -- a pointer to blocks of this type is good
  pointing : (t u : TypeName) (e : Expression) → IsPointee env P.types t u → IsGood (value_type env t) e → IsGood (V.Pointer (type_id env u)) e
  pointing t u e k h = good_at (value_type env t) (V.Pointer (type_id env u)) e (sym k.2) h

  cell_good : (block : TypeName) (f : ℕ × TypeName) (site : Site) (e : Expression) → env.type_number block < length P.types → IsGood (V.Pointer (type_id env block)) e → IsCellOf env P.types block f
      → Holds IsGoodTyped (typed_cell env block f.0 f.1 site e)
  cell_good block f site e below h c = on_when IsGoodTyped (is_value f.1) _ (c.0, ((h.0, c.1), (h.1, below)))

  indirection_good : (site : Site) (a : Typed) → IsGoodTyped a → Holds IsGoodTyped (typed_indirection env site a)
  indirection_good site (of_type t e) h =
      on_given (IsPointee env P.types t) IsGoodTyped (pointee t) _ (pointee_known env P.types t h.0) (λ u k.
      on_when_is IsGoodTyped (is_value u) _ (λ v.
      let p = pointing t u e k h.1 in (k.1, ((p.0, value_cell env P.types u v k.0), (p.1, number_below env P.types u k.0)))))
  indirection_good site a_null h = tt
  indirection_good site a_zero h = tt
  indirection_good site (a_test c) h = tt

  pub arrow_good : KnownFields env P names → (name : List ℕ) (site : Site) (a : Typed) → IsGoodTyped a → Holds IsGoodTyped (typed_arrow env name site a)
  arrow_good fields name site (of_type t e) h =
      on_given (IsPointee env P.types t) IsGoodTyped (pointee t) _ (pointee_known env P.types t h.0) (λ u k.
      on_given (IsCellOf env P.types u) IsGoodTyped (field_named env name u) _ (named_field env P.types fields name u k.0) (λ f c.
      cell_good u f site e (number_below env P.types u k.0) (pointing t u e k h.1) c))
  arrow_good fields name site a_null h = tt
  arrow_good fields name site a_zero h = tt
  arrow_good fields name site (a_test c) h = tt

  pub malloc_good : (cast : Option TypeName) (site : Site) (t : TypeName) → IsKnown env P.types (pointer_to t) → Holds IsGoodTyped (typed_malloc env cast site t)
  malloc_good cast site t h =
      on_when_is IsGoodTyped (is_block env t && is_cast_to (pointer_to t) cast) (of_type (pointer_to t) (T.allocate (type_id env t) site)) (λ is.
      let l = after_last env P.types t.base t.stars h in
      let d = block_defined env t (and_parts (is_block env t) (is_cast_to (pointer_to t) cast) is).0 in
      (h, ((pointing_value env t, subst IsDefined (sym l) d), number_below env P.types t l)))

  pub unary_good : (operator : UnaryOperator) (site at : Site) (a : Typed) → IsGoodTyped a → Holds IsGoodTyped (typed_unary env operator site at a)
  unary_good Minus site at a h = minus_good a h
  unary_good Not site at a h = test_good at a h
  unary_good Indirection site at a h = indirection_good site a h
