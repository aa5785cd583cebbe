-- A function keeps the typing rules, where what it mentions is known.
use Rattle.std.proofs.Common.{◌≡◌, ◌∙◌, ℕ, false, List, [], ◌∷◌, ◌++◌, map, length, slice_get, Option, Some, None, option_map, IfSome, append-nil, append_assoc, refl, sym, ap, subst}
use Rattle.std.specs.List.{AllByRecursion}
use Rattle.px_base.specs.declared.trace.Site.{Site}
use Rattle.px_base.specs.declared.trace.ProcId.{ProcId}
use Rattle.px_syntax.specs.declared.type_name.TypeName.{TypeName}
use Rattle.px_syntax.specs.declared.item.ResultType.{ResultType}
use Rattle.px_syntax.specs.declared.item.ResultType.TheVariants.{Void, Value}
use Rattle.px_syntax.specs.declared.item.Parameter.{Parameter}
use Rattle.px_syntax.specs.StatementTree.{StatementTree, statements_of}
use Rattle.px_syntax.specs.ProgramTree.{ProcedureTree}
use Rattle.px_bodies.specs.Types.{int, is_value}
use Rattle.px_bodies.specs.Environment.{Environment, value_type, result_of}
use Rattle.px_bodies.specs.Locals.{Locals, no_locals, declared, typed_parameters}
use Rattle.px_bodies.specs.Statements.{PassedAll, typed_statements}
use Rattle.px_bodies.specs.Functions.{allowed_result, before_body, procedure_of, typed_function}
use Rattle.px_typing.specs.Mentions.{Mention, of_result, of_parameters, of_statements}
use Rattle.px_meaning.specs.TypedProgram.{TypedProgram}
use Rattle.px_meaning.specs.TreeTypes.{IsTypedProcedure}
use Rattle.px_programs.specs.Numbers.{IsProcedureListed, IsValueListed}
use Rattle.px_programs.proofs.Options.{Holds, of_some, on_when, on_given, on_given_is, on_any, on_change}
use Rattle.px_programs.proofs.Lists.{all_first, all_second, begins_self}
use Rattle.px_programs.proofs.TypeWords.{IsListedType, IsKnown, value_listed}
use Rattle.px_programs.proofs.TypedValues.{KnownMention, KnownFields}
use Rattle.px_programs.proofs.LocalsTyped.{IsLocal, AreAt, parameters_at}
use Rattle.px_programs.proofs.BodiesTyped.{ArePassed, statements_passed}

-- ---- what a function says of itself

pub record IsOf (env : Environment) (proc : ProcId) (result : ResultType) (ps : List Parameter) (p : ProcedureTree) : Type 0 where
  pub proc_is : p.proc ≡ proc
  pub parameters : p.parameters ≡ map (λ (q : Parameter). value_type env q.value) ps
  pub result_is : p.result ≡ option_map (value_type env) (result_of result)

module _ (env : Environment) where
  abbrev HaveTypes : Locals → List Parameter → Locals → Type 0
  HaveTypes ls ps more = more.types ≡ ls.types ++ map (λ (q : Parameter). value_type env q.value) ps

  parameter_types : (ls : Locals) (ps : List Parameter) → Holds (HaveTypes ls ps) (typed_parameters env ls ps)
  parameter_types ls [] = sym (append-nil ls.types)
  parameter_types ls (p ∷ rest) =
      let v = value_type env p.value in
      let vs = map (λ (q : Parameter). value_type env q.value) rest in
      on_any (HaveTypes ls (p ∷ rest)) p.name _ (λ name.
      on_given (λ (more : Locals). more.types ≡ ls.types ++ v ∷ []) (HaveTypes ls (p ∷ rest)) (declared env 0 ls name p.value) _ (on_when (λ (more : Locals). more.types ≡ ls.types ++ v ∷ []) _ _ refl) (λ more h.
      on_change (HaveTypes more rest) (HaveTypes ls (p ∷ rest)) (typed_parameters env more rest) (parameter_types more rest)
      (λ last g. g ∙ ap (λ xs. xs ++ vs) h ∙ append_assoc ls.types (v ∷ []) vs)))

  allowed : (r : Option TypeName) → Holds (λ o. o ≡ r) (allowed_result r)
  allowed None = refl
  allowed (Some t) = on_when (λ o. o ≡ Some t) (is_value t) (Some t) refl

  pub function_is : (proc : ProcId) (site : Site) (result : ResultType) (ps : List Parameter) (body : List StatementTree) → Holds (IsOf env proc result ps) (typed_function env proc site result ps body)
  function_is proc site result ps body =
      on_given (λ o. o ≡ result_of result) (IsOf env proc result ps) (allowed_result (result_of result)) _ (allowed (result_of result)) (λ returns r.
      on_given (HaveTypes no_locals ps) (IsOf env proc result ps) (typed_parameters env no_locals ps) _ (parameter_types no_locals ps) (λ ls h.
      on_any (IsOf env proc result ps) (typed_statements env returns false 0 (before_body ls) (statements_of body)) _ (λ all.
      record { proc_is = refl; parameters = h; result_is = ap (option_map (value_type env)) r })))

-- ---- what it keeps

module _ (env : Environment) (P : TypedProgram) (names : ℕ) (fields : KnownFields env P names) (ints : IsListedType env P.types int) where
  abbrev Mentioned : List Mention → Type 0
  Mentioned ms = AllByRecursion (KnownMention env P names) ms

  abbrev pub KeepsRules : ProcedureTree → Type 0
  KeepsRules p = IsTypedProcedure P p × IsProcedureListed names (length P.types) p

  known_parameters : (ps : List Parameter) → Mentioned (of_parameters ps) → AllByRecursion (λ (p : Parameter). IsKnown env P.types p.value) ps
  known_parameters [] h = tt
  known_parameters (p ∷ ps) h = (h.0, known_parameters ps h.1)

  result_listed : (r : Option TypeName) → IfSome r (IsKnown env P.types) → IfSome (option_map (value_type env) r) (IsValueListed (length P.types))
  result_listed None h = tt
  result_listed (Some t) h = value_listed env P.types t h

  known_result : (result : ResultType) → Mentioned (of_result result) → IfSome (result_of result) (IsKnown env P.types)
  known_result Void h = tt
  known_result (Value t) h = h.0

  body_keeps : (proc : ProcId) (site : Site) (returns : Option TypeName) (ls : Locals) (all : PassedAll) (body : List StatementTree) → IfSome returns (IsKnown env P.types)
      → AreAt env P.types [] ls → Mentioned (of_statements (statements_of body)) → typed_statements env returns false 0 (before_body ls) (statements_of body) ≡ Some all
      → KeepsRules (procedure_of env proc site returns ls all)
  body_keeps proc site returns ls all body known k m is =
      let whole = ls.types ++ all.after.types in
      let none : ls.types ++ [] ≡ ls.types = append-nil ls.types in
      let at : AreAt env P.types ls.types (before_body ls) = (
        k.0 ∙ ap length (sym none),
        subst (λ xs. AllByRecursion (IsLocal env P.types (slice_get xs)) ls.visible) (sym none) k.1,
        tt,
      ) in
      let passed = of_some (ArePassed env P names fields ints ls.types whole returns false (before_body ls)) _ all is
      (statements_passed env P names fields ints ls.types whole returns false 0 (before_body ls) (statements_of body) m at) in
      let good = passed.1 (begins_self whole) in
      (good.0, record { parameters = k.2; result = result_listed returns known; locals = passed.0.0.2; body = good.1 })

  pub function_keeps : (proc : ProcId) (site : Site) (result : ResultType) (ps : List Parameter) (body : List StatementTree)
      → Mentioned (of_result result ++ (of_parameters ps ++ of_statements (statements_of body))) → Holds KeepsRules (typed_function env proc site result ps body)
  function_keeps proc site result ps body m =
      let r = all_first (KnownMention env P names) (of_result result) (of_parameters ps ++ of_statements (statements_of body)) m in
      let rest = all_second (KnownMention env P names) (of_result result) (of_parameters ps ++ of_statements (statements_of body)) m in
      let mp = all_first (KnownMention env P names) (of_parameters ps) (of_statements (statements_of body)) rest in
      let mb = all_second (KnownMention env P names) (of_parameters ps) (of_statements (statements_of body)) rest in
      on_given (λ o. o ≡ result_of result) KeepsRules (allowed_result (result_of result)) _ (allowed env (result_of result)) (λ returns e.
      on_given (AreAt env P.types []) KeepsRules (typed_parameters env no_locals ps) _ (parameters_at env P.types no_locals ps (known_parameters ps mp) (refl, tt, tt)) (λ ls k.
      on_given_is KeepsRules (typed_statements env returns false 0 (before_body ls) (statements_of body)) _ (λ all is.
      body_keeps proc site returns ls all body (subst (λ o. IfSome o (IsKnown env P.types)) (sym e) (known_result result r)) k mb is)))
