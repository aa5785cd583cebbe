-- How statements go on, one after another: what they declare stays among the locals.
use Rattle.std.proofs.Common.{ℕ, Bool, true, false, List, [], ◌∷◌, ◌++◌, length, slice_get, Option, Some, None, option_map, refl, sym, subst}
use Rattle.std.specs.List.{AllByRecursion}
use Rattle.px_terms.specs.declared.types.ValueType.{ValueType}
use Rattle.px_syntax.specs.declared.type_name.Base.{Base}
use Rattle.px_syntax.specs.declared.type_name.TypeName.{TypeName}
use Rattle.px_syntax.specs.ExpressionTree.{ExpressionTree}
use Rattle.px_syntax.specs.StatementTree as S
use Rattle.px_syntax.specs.StatementTree.{InitTree, SimpleTree, FirstTree, StatementTree, StatementTrees}
use Rattle.px_syntax.specs.TypedTree as T
use Rattle.px_syntax.specs.TypedTree.{Expression, Condition, Statement}
use Rattle.px_bodies.specs.Types.{int}
use Rattle.px_bodies.specs.Environment.{Environment, value_type}
use Rattle.px_bodies.specs.Locals.{Locals, declared}
use Rattle.px_bodies.specs.Expressions.{typed_condition}
use Rattle.px_bodies.specs.Statements.{Passed, PassedAll, Head, as_block, as_scope, in_scope, one_before, typed_simple, typed_initialiser, typed_local, typed_declarator, typed_declarators, typed_first, typed_test, typed_step, typed_head, typed_return, typed_statement, typed_statements}
use Rattle.px_typing.specs.Mentions.{Mention, of_expression, of_option, of_simple, of_first, of_declarators, of_statement, of_statements}
use Rattle.px_meaning.specs.TypedProgram.{TypedProgram}
use Rattle.px_meaning.specs.TreeTypes.{IsDeclared}
use Rattle.px_programs.proofs.Options.{Holds, on_given, on_map, on_premise}
use Rattle.px_programs.proofs.Lists.{Begins, begins_self, begins_trans, get_begins}
use Rattle.px_programs.proofs.TypeWords.{IsListedType, IsKnown}
use Rattle.px_programs.proofs.TypedValues.{KnownFields, IsGoodTest}
use Rattle.px_programs.proofs.LocalsTyped.{IsLocal, IsOneMore, AreAt, GoOn, scope_at, visible_at, declared_at}
use Rattle.px_programs.proofs.ExpressionsTyped.{condition_good}
use Rattle.px_programs.proofs.StatementsTyped.{Known, known_first, known_second, IsGoodStatement, AreGoodStatements, IsGoodStep, both_good, simple_good, IsGoodValue, initialiser_good, IsGoodTestIf, test_if_good, step_good, return_good}

module _ (env : Environment) (P : TypedProgram) (names : ℕ) (fields : KnownFields env P names) (ints : IsListedType env P.types int) (before whole : List ValueType) (returns : Option TypeName) where
  abbrev Mentioned : List Mention → Type 0
  Mentioned ms = Known env P names fields ints ms

  abbrev At : Locals → Type 0
  At ls = AreAt env P.types before ls

  abbrev pub Further : Locals → Locals → Type 0
  Further ls after = GoOn env P.types before ls after

  -- the locals are among all
  abbrev Within : Locals → Type 0
  Within ls = Begins (before ++ ls.types) whole

  stay : (ls : Locals) → At ls → Further ls ls
  stay ls k = (k, begins_self (before ++ ls.types))

  go_further : (ls middle after : Locals) → Further ls middle → Further middle after → Further ls after
  go_further ls middle after h k = (k.0, begins_trans (before ++ ls.types) (before ++ middle.types) (before ++ after.types) h.1 k.1)

  earlier : (ls after : Locals) → Further ls after → Within after → Within ls
  earlier ls after h w = begins_trans (before ++ ls.types) (before ++ after.types) whole h.1 w

  abbrev GoodHere : Bool → Statement → Type 0
  GoodHere inside s = IsGoodStatement env P names fields ints whole returns inside s

  abbrev AllGoodHere : Bool → List Statement → Type 0
  AllGoodHere inside ss = AreGoodStatements env P names fields ints whole returns inside ss

  abbrev ValueHere : TypeName → Option Expression → Type 0
  ValueHere t v = IsGoodValue env P names fields ints whole returns t v

  abbrev TestIfHere : Option Condition → Type 0
  TestIfHere c = IsGoodTestIf env P names fields ints whole returns c

  abbrev TestHere : Condition → Type 0
  TestHere c = IsGoodTest env P names (slice_get whole) c

  abbrev StepHere : Statement → Type 0
  StepHere s = IsGoodStep env P names fields ints whole returns s

  -- a statement that keeps the rules, where the locals after it are among all
  abbrev pub IsPassed : Bool → Locals → Passed → Type 0
  IsPassed inside ls p = Further ls p.after × (Within p.after → GoodHere inside p.tree)

  abbrev pub ArePassed : Bool → Locals → PassedAll → Type 0
  ArePassed inside ls all = Further ls all.after × (Within all.after → AllGoodHere inside all.trees)

  abbrev IsHeadPassed : Bool → Locals → Head → Type 0
  IsHeadPassed inside ls h =
      Further ls h.after × (Within h.after → AllGoodHere inside h.trees × TestIfHere h.test × StepHere h.step)

  fit : (ls : Locals) → At ls → Within ls → AllByRecursion (IsLocal env P.types (slice_get whole)) ls.visible
  fit ls k w = visible_at env P.types before whole ls k w

  scope_passed : (inside : Bool) (ls : Locals) (outer : ℕ) (p : Passed) → IsPassed inside ls p → IsPassed inside ls (as_scope outer p)
  scope_passed inside ls outer p h = ((scope_at env P.types before outer p.after h.0.0, h.0.1), h.1)

  in_scope_passed : (inside : Bool) (ls : Locals) (outer : ℕ) (o : Option Passed) → Holds (IsPassed inside ls) o → Holds (IsPassed inside ls) (in_scope outer o)
  in_scope_passed inside ls outer o h = on_map (IsPassed inside ls) (IsPassed inside ls) o _ h (scope_passed inside ls outer)

  block_passed : (inside : Bool) (ls : Locals) (o : Option PassedAll) → Holds (ArePassed inside ls) o → Holds (IsPassed inside ls) (option_map as_block o)
  block_passed inside ls o h = on_map (ArePassed inside ls) (IsPassed inside ls) o _ h (λ all k. k)

  -- one statement and those after it
  first_passed : (inside : Bool) (ls : Locals) (p : Passed) (rest : Option PassedAll) → IsPassed inside ls p → Holds (ArePassed inside p.after) rest
      → Holds (ArePassed inside ls) (option_map (one_before p.tree) rest)
  first_passed inside ls p rest h k =
      on_map (ArePassed inside p.after) (ArePassed inside ls) rest _ k (λ all a. (
        go_further ls p.after all.after h.0 a.0,
        λ w. let x = h.1 (earlier p.after all.after a.0 w) in let xs = a.1 w in ((x.0, xs.0), (x.1, xs.1)),
      ))

  simple_within : (ls : Locals) (s : SimpleTree) → Mentioned (of_simple s) → At ls → Holds (λ tree. Within ls → StepHere tree) (typed_simple env ls.visible s)
  simple_within ls s m k = on_premise StepHere (typed_simple env ls.visible s) (λ w. simple_good env P names fields ints whole returns ls.visible (fit ls k w) s m)

  -- ---- declarations

  local_passed : (inside : Bool) (outer : ℕ) (ls : Locals) (name : List ℕ) (t : TypeName) (value : Option ExpressionTree) → IsKnown env P.types t → Mentioned (of_option of_expression value) → At ls
      → Holds (IsPassed inside ls) (typed_local env outer ls name t value)
  local_passed inside outer ls name t value known m k =
      on_given (IsOneMore env P.types before ls t) (IsPassed inside ls) (declared env outer ls name t) _ (declared_at env P.types before outer ls name t known k) (λ more h.
      on_given (λ v. Within more → ValueHere t v) (IsPassed inside ls) (typed_initialiser env more.visible t value) _
      (on_premise (ValueHere t) (typed_initialiser env more.visible t value) (λ w. initialiser_good env P names fields ints whole returns more.visible (fit more h.0.0 w) t value m)) (λ v hv. (
        h.0,
        λ w. (
          subst (λ o. IsDeclared P (slice_get whole) o v) (sym (get_begins (before ++ more.types) whole ls.next (value_type env t) w h.2)) (hv w).0,
          (hv w).1,
        ),
      )))

  declarators_passed : (inside : Bool) (outer : ℕ) (ls : Locals) (base : Base) (ds : List InitTree) → Mentioned (of_declarators base ds) → At ls
      → Holds (ArePassed inside ls) (typed_declarators env outer ls base ds)
  declarators_passed inside outer ls base [] m k = (stay ls k, λ w. (tt, tt))
  declarators_passed inside outer ls base (d ∷ rest) m k =
      on_given (IsPassed inside ls) (ArePassed inside ls) (typed_declarator env outer ls base d) _
      (local_passed inside outer ls d.declarator.name (record { base = base; stars = d.declarator.stars }) d.value m.0
      (known_first env P names fields ints (of_option of_expression d.value) (of_declarators base rest) m.1) k)
      (λ p h. first_passed inside ls p _ h (declarators_passed inside outer p.after base rest (known_second env P names fields ints (of_option of_expression d.value) (of_declarators base rest) m.1) h.0.0))

  -- ---- the parts of loops

  first_part_passed : (inside : Bool) (outer : ℕ) (ls : Locals) (first : Option FirstTree) → Mentioned (of_option of_first first) → At ls
      → Holds (ArePassed inside ls) (typed_first env outer ls first)
  first_part_passed inside outer ls None m k = (stay ls k, λ w. (tt, tt))
  first_part_passed inside outer ls (Some (S.first_declaration d)) m k = declarators_passed inside outer ls d.base d.declarators m k
  first_part_passed inside outer ls (Some (S.first_simple s)) m k =
      on_map (λ tree. Within ls → StepHere tree) (ArePassed inside ls) (typed_simple env ls.visible s) _ (simple_within ls s m k)
      (λ tree h. (stay ls k, λ w. let g = (h w).1 inside in ((g.0, tt), (g.1, tt))))

  head_passed : (inside : Bool) (ls : Locals) (first : Option FirstTree) (e : Option ExpressionTree) (step : Option SimpleTree)
      → Mentioned (of_option of_first first) → Mentioned (of_option of_expression e) → Mentioned (of_option of_simple step) → At ls
      → Holds (IsHeadPassed inside ls) (typed_head env ls first e step)
  head_passed inside ls first e step mf me ms k =
      on_given (ArePassed inside ls) (IsHeadPassed inside ls) (typed_first env (length ls.visible) ls first) _ (first_part_passed inside (length ls.visible) ls first mf k) (λ f h.
      on_given (λ c. Within f.after → TestIfHere c) (IsHeadPassed inside ls) (typed_test env f.after.visible e) _
      (on_premise TestIfHere (typed_test env f.after.visible e) (λ w. test_if_good env P names fields ints whole returns f.after.visible (fit f.after h.0.0 w) e me)) (λ c hc.
      on_given (λ s. Within f.after → StepHere s) (IsHeadPassed inside ls) (typed_step env f.after.visible step) _
      (on_premise StepHere (typed_step env f.after.visible step) (λ w. step_good env P names fields ints whole returns f.after.visible (fit f.after h.0.0 w) step ms)) (λ s hs.
      (h.0, λ w. (h.1 w, hc w, hs w)))))

  -- ---- statements

  condition_within : (ls : Locals) (e : ExpressionTree) → Mentioned (of_expression e) → At ls → Holds (λ c. Within ls → TestHere c) (typed_condition env ls.visible e)
  condition_within ls e m k =
      on_premise TestHere (typed_condition env ls.visible e) (λ w. condition_good env P names fields (slice_get whole) ls.visible (fit ls k w) e m)

  -- what a branch or a loop's body has in it
  mutual
    statement_passed : (inside : Bool) (outer : ℕ) (ls : Locals) (s : StatementTree) → Mentioned (of_statement s) → At ls
        → Holds (IsPassed inside ls) (typed_statement env returns inside outer ls s)
    statement_passed inside outer ls S.empty m k = (stay ls k, λ w. (tt, tt))
    statement_passed inside outer ls (S.block ss) m k =
        in_scope_passed inside ls (length ls.visible) _ (block_passed inside ls _ (statements_passed inside (length ls.visible) ls ss m k))
    statement_passed inside outer ls (S.declare d) m k = block_passed inside ls _ (declarators_passed inside outer ls d.base d.declarators m k)
    statement_passed inside outer ls (S.simple_statement s) m k =
        on_map (λ tree. Within ls → StepHere tree) (IsPassed inside ls) (typed_simple env ls.visible s) _ (simple_within ls s m k) (λ tree h. (stay ls k, λ w. (h w).1 inside))
    statement_passed inside outer ls (S.choose e s) m k =
        on_given (λ c. Within ls → TestHere c) (IsPassed inside ls) (typed_condition env ls.visible e) _
        (condition_within ls e (known_first env P names fields ints (of_expression e) (of_statement s) m) k) (λ c hc.
        on_given (IsPassed inside ls) (IsPassed inside ls) _ _
        (in_scope_passed inside ls (length ls.visible) _ (statement_passed inside (length ls.visible) ls s (known_second env P names fields ints (of_expression e) (of_statement s) m) k)) (λ p h.
        (h.0, λ w. let t = hc (earlier ls p.after h.0 w) in let g = h.1 w in ((t.0, g.0, tt), (t.1, g.1, tt)))))
    statement_passed inside outer ls (S.choose_else e s t) m k =
        let others = known_second env P names fields ints (of_expression e) (of_statement s ++ of_statement t) m in
        on_given (λ c. Within ls → TestHere c) (IsPassed inside ls) (typed_condition env ls.visible e) _
        (condition_within ls e (known_first env P names fields ints (of_expression e) (of_statement s ++ of_statement t) m) k) (λ c hc.
        on_given (IsPassed inside ls) (IsPassed inside ls) _ _
        (in_scope_passed inside ls (length ls.visible) _ (statement_passed inside (length ls.visible) ls s (known_first env P names fields ints (of_statement s) (of_statement t) others) k)) (λ p h.
        on_given (IsPassed inside p.after) (IsPassed inside ls) _ _
        (in_scope_passed inside p.after (length p.after.visible) _
        (statement_passed inside (length p.after.visible) p.after t (known_second env P names fields ints (of_statement s) (of_statement t) others) h.0.0)) (λ q g. (
          go_further ls p.after q.after h.0 g.0,
          λ w.
              let up = earlier p.after q.after g.0 w in
              let c' = hc (earlier ls p.after h.0 up) in
              let x = h.1 up in
              let y = g.1 w in
              ((c'.0, x.0, y.0), (c'.1, x.1, y.1)),
        ))))
    statement_passed inside outer ls (S.while_loop site e s) m k =
        on_given (λ c. Within ls → TestHere c) (IsPassed inside ls) (typed_condition env ls.visible e) _
        (condition_within ls e (known_first env P names fields ints (of_expression e) (of_statement s) m) k) (λ c hc.
        on_given (IsPassed true ls) (IsPassed inside ls) _ _
        (in_scope_passed true ls (length ls.visible) _ (statement_passed true (length ls.visible) ls s (known_second env P names fields ints (of_expression e) (of_statement s) m) k)) (λ p h.
        (h.0, λ w. let t = hc (earlier ls p.after h.0 w) in let g = h.1 w in ((t.0, g.0, tt, tt), (t.1, g.1, tt)))))
    statement_passed inside outer ls (S.for_loop site first e step s) m k =
        let mf = known_first env P names fields ints (of_option of_first first) (of_option of_expression e ++ (of_option of_simple step ++ of_statement s)) m in
        let m1 = known_second env P names fields ints (of_option of_first first) (of_option of_expression e ++ (of_option of_simple step ++ of_statement s)) m in
        let me = known_first env P names fields ints (of_option of_expression e) (of_option of_simple step ++ of_statement s) m1 in
        let m2 = known_second env P names fields ints (of_option of_expression e) (of_option of_simple step ++ of_statement s) m1 in
        let mp = known_first env P names fields ints (of_option of_simple step) (of_statement s) m2 in
        let mb = known_second env P names fields ints (of_option of_simple step) (of_statement s) m2 in
        on_given (IsHeadPassed inside ls) (IsPassed inside ls) (typed_head env ls first e step) _ (head_passed inside ls first e step mf me mp k) (λ f h.
        on_given (IsPassed true f.after) (IsPassed inside ls) _ _
        (in_scope_passed true f.after (length f.after.visible) _ (statement_passed true (length f.after.visible) f.after s mb h.0.0)) (λ p g.
        scope_passed inside ls (length ls.visible) (as_block (record { trees = f.trees ++ T.loop site f.test p.tree f.step ∷ []; after = p.after })) (
          go_further ls f.after p.after h.0 g.0,
          λ w.
              let head = h.1 (earlier f.after p.after g.0 w) in
              let body = g.1 w in
              let last = head.2.1 inside in
              both_good env P names fields ints whole returns inside f.trees (T.loop site f.test p.tree f.step) head.0 ((head.1.0, body.0, head.2.0, last.0), (head.1.1, body.1, last.1)),
        )))
    statement_passed true outer ls S.break m k = (stay ls k, λ w. (refl, tt))
    statement_passed false outer ls S.break m k = tt
    statement_passed true outer ls S.continue m k = (stay ls k, λ w. (refl, tt))
    statement_passed false outer ls S.continue m k = tt
    statement_passed inside outer ls (S.return e) m k =
        on_map (λ tree. Within ls → (i : Bool) → GoodHere i tree) (IsPassed inside ls) (typed_return env returns ls.visible e) _
        (on_premise (λ tree. (i : Bool) → GoodHere i tree) (typed_return env returns ls.visible e) (λ w. return_good env P names fields ints whole returns ls.visible (fit ls k w) e m))
        (λ tree h. (stay ls k, λ w. h w inside))

    pub statements_passed : (inside : Bool) (outer : ℕ) (ls : Locals) (ss : StatementTrees) → Mentioned (of_statements ss) → At ls
        → Holds (ArePassed inside ls) (typed_statements env returns inside outer ls ss)
    statements_passed inside outer ls S.no_statements m k = (stay ls k, λ w. (tt, tt))
    statements_passed inside outer ls (S.a_statement s rest) m k =
        on_given (IsPassed inside ls) (ArePassed inside ls) (typed_statement env returns inside outer ls s) _
        (statement_passed inside outer ls s (known_first env P names fields ints (of_statement s) (of_statements rest) m) k)
        (λ p h. first_passed inside ls p _ h (statements_passed inside outer p.after rest (known_second env P names fields ints (of_statement s) (of_statements rest) m) h.0.0))
