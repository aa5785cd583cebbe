-- Arguments and statements, one after another.
use Rattle.std.specs.Prelude.{⊤}
use Rattle.std.proofs.Common.{◌≡◌, ◌∙◌, refl, sym, ap, subst, ℕ, ◌+◌, ◌<◌, ◌≤◌, List, [], ◌∷◌, ◌++◌, map, drop, length, get_or, append-nil, append_assoc, Result, Ok, Err, Vec, Global}
use Rattle.std.proofs.lemmas.List.{drop_all}
use Rattle.px_meaning.specs.Values.{BlockType, Value}
use Rattle.px_meaning.specs.Execution.{Locals}
use Rattle.px_syntax.specs.declared.typed_expression.TypedExpression.{TypedExpression}
use Rattle.px_syntax.specs.declared.typed_expression.Argument.{Argument as RustArgument}
use Rattle.px_syntax.specs.declared.typed_expression.Argument.TheVariants as A
use Rattle.px_syntax.specs.declared.typed_statement.TypedStatement.{TypedStatement}
use Rattle.px_syntax.specs.TypedTree.{Arguments, Argument, no_arguments, an_argument, passed, erased, expressions_of, arguments_of, statements_of}
use Rattle.px_syntax.specs.TypedViews.{typed_expression, typed_argument, typed_statement}
use Rattle.px_replay.specs.declared.stop.Stop.{Stop}
use Rattle.px_replay.specs.declared.flow.Flow.{Flow}
use Rattle.px_replay.specs.declared.flow.Flow.TheVariants.{Falls, Breaks, Continues, Returns}
use Rattle.px_replay.specs.Script.{PlainScript, Act, answers, goes_on}
use Rattle.px_replay.specs.TreeReplay.{Ended, CallReplays, StatementReplays, Replays, ReplaysAll, PassesAll, ReplaysStatement, ReplaysStatements, on_fall}
use Rattle.px_replay.specs.ChainReplay.{onto}
use Rattle.px_replay.specs.Interpreted.{given_these}
use Rattle.px_meaning.proofs.TreesSeen.{erased_seen}
use Rattle.px_replay.proofs.ChainLemmas.{rest_is}

onto_some : (values more : List Value) (r : Result (List Value) Stop) → onto values (onto more r) ≡ onto (values ++ more) r
onto_some values more (Ok vs) = ap (λ l. Ok l) (sym (append_assoc values more vs))
onto_some values more (Err d) = refl

onto_nothing : (r : Result (List Value) Stop) → onto [] r ≡ r
onto_nothing (Ok vs) = refl
onto_nothing (Err d) = refl

onto_put : (v : Value) (r : Result (List Value) Stop) (s : PlainScript) → goes_on (λ vs. answers (Ok (v ∷ vs))) r s (onto (v ∷ []) r) s
onto_put v (Ok vs) s = (refl, refl)
onto_put v (Err d) s = (refl, refl)

module _ (types : List BlockType) (calls : CallReplays) where
  -- what doesn't fall through is the end
  pub ends_list : (on : StatementReplays) (flow : Flow) (locals : Locals) (s : PlainScript) → (flow ≡ Falls → ⊥) → on_fall types calls on (flow, locals) s (Ok (flow, locals)) s
  ends_list on Falls locals s not = absurd (not refl)
  ends_list on Breaks locals s not = (refl, refl)
  ends_list on Continues locals s not = (refl, refl)
  ends_list on (Returns v) locals s not = (refl, refl)

  abbrev All : Arguments → Locals → Act (List Value)
  All es locals s r s' = ReplaysAll types calls es locals s r s'

  -- one, and then the rest
  all_one : (a : Argument) (rest : Arguments) (locals : Locals) (more : List Value) (s s1 : PlainScript) (r : Result (List Value) Stop) (s' : PlainScript) →
      All (an_argument a no_arguments) locals s (Ok more) s1 → All rest locals s1 r s' → All (an_argument a rest) locals s (onto more r) s'
  all_one (passed e) rest locals more s s1 r s' (Ok v, s2, a, (Ok vs, s3, (e1, f1), (e2, f2))) k =
      let is : more ≡ v ∷ [] = cc in
      subst (λ m. All (an_argument (passed e) rest) locals s (onto m r) s') (sym is) (Ok v, s2, a, (r, s', subst (λ u. All rest locals u r s') (f2 ∙ f1) k, onto_put v r s'))
  all_one (passed e) rest locals more s s1 r s' (Ok v, s2, a, (Err d, s3, (e1, f1), g)) k = absurd cc
  all_one (passed e) rest locals more s s1 r s' (Err d, s2, a, (e1, f1)) k = absurd cc
  all_one (erased parts) rest locals more s s1 r s' (Ok u, s2, a, (e1, f1)) k =
      let is : more ≡ [] = cc in
      subst (λ m. All (an_argument (erased parts) rest) locals s (onto m r) s') (sym is)
      (Ok u, s2, a, subst (λ q. All rest locals s2 q s') (sym (onto_nothing r)) (subst (λ u. All rest locals u r s') f1 k))
  all_one (erased parts) rest locals more s s1 r s' (Err d, s2, a, (e1, f1)) k = absurd cc

  -- one that ends before the rest
  all_none : (a : Argument) (rest : Arguments) (locals : Locals) (d : Stop) (s s' : PlainScript) → All (an_argument a no_arguments) locals s (Err d) s' → All (an_argument a rest) locals s (Err d) s'
  all_none (passed e) rest locals d s s' (Ok v, s2, a, (Ok vs, s3, (e1, f1), (e2, f2))) = absurd cc
  all_none (passed e) rest locals d s s' (Ok v, s2, a, (Err x, s3, (e1, f1), g)) = absurd cc
  all_none (passed e) rest locals d s s' (Err x, s2, a, g) = (Err x, s2, a, g)
  all_none (erased parts) rest locals d s s' (Ok u, s2, a, (e1, f1)) = absurd cc
  all_none (erased parts) rest locals d s s' (Err x, s2, a, g) = (Err x, s2, a, g)

  -- an argument alone
  pub passed_stops : (a : RustArgument) (v : TypedExpression) → a ≡ A.Passed v → (locals : Locals) (d : Stop) (s s' : PlainScript) →
      Replays types calls (typed_expression v) locals s (Err d) s' → All (an_argument (typed_argument a) no_arguments) locals s (Err d) s'
  passed_stops a v is locals d s s' h = subst (λ a. All (an_argument (typed_argument a) no_arguments) locals s (Err d) s') (sym is) (Err d, s', h, (refl, refl))

  pub passed_goes : (a : RustArgument) (v : TypedExpression) → a ≡ A.Passed v → (locals : Locals) (x : Value) (s s' : PlainScript) →
      Replays types calls (typed_expression v) locals s (Ok x) s' → All (an_argument (typed_argument a) no_arguments) locals s (Ok (x ∷ [])) s'
  passed_goes a v is locals x s s' h =
      subst (λ a. All (an_argument (typed_argument a) no_arguments) locals s (Ok (x ∷ [])) s') (sym is) (Ok x, s', h, (Ok [], s', (refl, refl), (refl, refl)))

  pub erased_done : (a : RustArgument) (es : List TypedExpression) (row : Vec TypedExpression Global) → a ≡ A.Erased row → es ≡ row.items → (locals : Locals) (r : Result ⊤ Stop) (s s' : PlainScript) →
      PassesAll types calls (expressions_of (map typed_expression es)) locals s r s' → All (an_argument (typed_argument a) no_arguments) locals s (given_these [] r) s'
  erased_done a es row is is_es locals r s s' h = subst (λ t. All (an_argument t no_arguments) locals s (given_these [] r) s') (sym (erased_seen a es row is is_es)) (by r h)
    where
      by : (r : Result ⊤ Stop) → PassesAll types calls (expressions_of (map typed_expression es)) locals s r s' → All (an_argument (erased (expressions_of (map typed_expression es))) no_arguments) locals s (given_these [] r) s'
      by (Ok u) h = (Ok u, s', h, (refl, refl))
      by (Err d) h = (Err d, s', h, (refl, refl))

  abbrev rest_of : List RustArgument → Locals → Act (List Value)
  rest_of es locals s r s' = All (arguments_of (map typed_argument es)) locals s r s'

  pub arguments_more : (es all : List RustArgument) (i : ℕ) (e : RustArgument) (locals : Locals) (values more : List Value) (s0 s s1 : PlainScript) (r : Result (List Value) Stop) (s' : PlainScript) →
      i < length es → e ≡ get_or es i e → ((r : Result (List Value) Stop) (s' : PlainScript) → rest_of (drop i es) locals s r s' → rest_of all locals s0 (onto values r) s') →
      All (an_argument (typed_argument e) no_arguments) locals s (Ok more) s1 → rest_of (drop (i + 1) es) locals s1 r s' → rest_of all locals s0 (onto (values ++ more) r) s'
  arguments_more es all i e locals values more s0 s s1 r s' lt is before h k =
      subst (λ u. rest_of all locals s0 u s') (onto_some values more r) (before (onto more r) s'
      (subst (λ l. rest_of l locals s (onto more r) s') (sym (rest_is es i e e lt is)) (all_one (typed_argument e) (arguments_of (map typed_argument (drop (i + 1) es))) locals more s s1 r s' h k)))

  pub arguments_stop : (es : List RustArgument) (i : ℕ) (e : RustArgument) (locals : Locals) (d : Stop) (s s' : PlainScript) →
      i < length es → e ≡ get_or es i e → All (an_argument (typed_argument e) no_arguments) locals s (Err d) s' → rest_of (drop i es) locals s (Err d) s'
  arguments_stop es i e locals d s s' lt is h =
      subst (λ l. rest_of l locals s (Err d) s') (sym (rest_is es i e e lt is)) (all_none (typed_argument e) (arguments_of (map typed_argument (drop (i + 1) es))) locals d s s' h)

  pub arguments_end : (es : List RustArgument) (i : ℕ) (locals : Locals) (s : PlainScript) → length es ≤ i → rest_of (drop i es) locals s (Ok []) s
  arguments_end es i locals s past = subst (λ l. rest_of l locals s (Ok []) s) (sym (drop_all i es past)) (refl, refl)

  pub onto_none : (values : List Value) → onto values (Ok []) ≡ Ok values
  onto_none values = ap (λ l. Ok l) (append-nil values)

  abbrev rest_statements : ℕ → List TypedStatement → StatementReplays
  rest_statements n all locals s r s' = ReplaysStatements types calls n (statements_of (map typed_statement all)) locals s r s'

  pub statements_more : (n : ℕ) (all : List TypedStatement) (i : ℕ) (st : TypedStatement) (locals : Locals) (x : Ended) (s s1 : PlainScript) (r : Result Ended Stop) (s' : PlainScript) →
      i < length all → st ≡ get_or all i st → ReplaysStatement types calls n (typed_statement st) locals s (Ok x) s1 → on_fall types calls (rest_statements n (drop (i + 1) all)) x s1 r s' → rest_statements n (drop i all) locals s r s'
  statements_more n all i st locals x s s1 r s' lt is h k =
      subst (λ l. rest_statements n l locals s r s') (sym (rest_is all i st st lt is)) (Ok x, s1, h, k)

  pub statements_stop : (n : ℕ) (all : List TypedStatement) (i : ℕ) (st : TypedStatement) (locals : Locals) (d : Stop) (s s' : PlainScript) →
      i < length all → st ≡ get_or all i st → ReplaysStatement types calls n (typed_statement st) locals s (Err d) s' → rest_statements n (drop i all) locals s (Err d) s'
  statements_stop n all i st locals d s s' lt is h =
      subst (λ l. rest_statements n l locals s (Err d) s') (sym (rest_is all i st st lt is)) (Err d, s', h, (refl, refl))

  pub statements_end : (n : ℕ) (all : List TypedStatement) (i : ℕ) (locals : Locals) (s : PlainScript) → length all ≤ i → rest_statements n (drop i all) locals s (Ok (Falls, locals)) s
  statements_end n all i locals s past = subst (λ l. rest_statements n l locals s (Ok (Falls, locals)) s) (sym (drop_all i all past)) (refl, refl)
