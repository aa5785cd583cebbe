-- Values that aren't read, one after another.
use Rattle.std.specs.Prelude.{⊤}
use Rattle.std.proofs.Common.{◌≡◌, ◌∙◌, refl, sym, subst, ℕ, ◌+◌, ◌<◌, ◌≤◌, List, map, drop, length, get_or, Result, Ok, Err, Box, Vec, Global}
use Rattle.std.proofs.lemmas.List.{drop_all}
use Rattle.px_meaning.specs.Values.{BlockType}
use Rattle.px_meaning.specs.Execution.{Locals}
use Rattle.px_base.specs.declared.trace.Site.{Site}
use Rattle.px_base.specs.declared.trace.ProcId.{ProcId}
use Rattle.px_base.specs.declared.trace.FieldId.{FieldId}
use Rattle.px_terms.specs.declared.types.TypeId.{TypeId}
use Rattle.px_terms.specs.declared.types.ValueType.{ValueType}
use Rattle.px_syntax.specs.declared.typed_expression.CellLink.{CellLink}
use Rattle.px_syntax.specs.declared.typed_expression.TypedExpression.{TypedExpression, TypedExpression-F, out-TypedExpression, roll-TypedExpression, roll-out-TypedExpression}
use Rattle.px_syntax.specs.declared.typed_expression.TypedExpression.TheVariants as E
use Rattle.px_syntax.specs.declared.typed_expression.Argument.{Argument}
use Rattle.px_syntax.specs.TypedTree.{Expression, constant, null, local, negated, arithmetic, truth, cell, allocate, get_char, call, stop, Expressions, no_expressions, an_expression, expressions_of}
use Rattle.px_syntax.specs.TypedViews.{typed_expression}
use Rattle.px_syntax.proofs.TypedEquations.{typed-Arithmetic, typed-Stop}
use Rattle.px_replay.specs.declared.stop.Stop.{Stop}
use Rattle.px_replay.specs.Script.{PlainScript, Act, answers, and_then}
use Rattle.px_replay.specs.TreeReplay.{CallReplays, reaches, calls_procedure, Replays, PassesAll}
use Rattle.px_replay.proofs.ChainLemmas.{rest_is}

-- nothing after an act
abbrev nothing : {A : Type 0} → A → Act ⊤
nothing v = answers (Ok tt)

-- an act, and another that has its value, in place of nothing after it
then_other : {A : Type 0} (act : Act A) (rest : Act ⊤) (s s1 : PlainScript) (r : Result ⊤ Stop) (s' : PlainScript) → and_then act nothing s (Ok tt) s1 → rest s1 r s' → and_then act (λ v. rest) s r s'
then_other act rest s s1 r s' (Ok v, s2, a, (e, f)) k = (Ok v, s2, a, subst (λ u. rest u r s') f k)
then_other act rest s s1 r s' (Err d, s2, a, (e, f)) k = absurd cc

-- an act, and nothing after it
pub then_nothing : (act : Act ⊤) (s : PlainScript) (r : Result ⊤ Stop) (s' : PlainScript) → act s r s' → and_then act (λ v. answers (Ok tt)) s r s'
then_nothing act s (Ok v) s' a = (Ok v, s', a, (refl, refl))
then_nothing act s (Err d) s' a = (Err d, s', a, (refl, refl))

-- an act that ends before all that is after it
then_none : {A : Type 0} (act : Act A) (rest : Act ⊤) (s : PlainScript) (d : Stop) (s' : PlainScript) → and_then act nothing s (Err d) s' → and_then act (λ v. rest) s (Err d) s'
then_none act rest s d s' (Ok v, s2, a, (e, f)) = absurd cc
then_none act rest s d s' (Err d', s2, a, (e, f)) = (Err d', s2, a, (e, f))

module _ (types : List BlockType) (calls : CallReplays) where
  abbrev Passes : Expressions → Locals → Act ⊤
  Passes es locals s r s' = PassesAll types calls es locals s r s'

  -- one, and then the rest
  passes_one : (e : Expression) (rest : Expressions) (locals : Locals) (s s1 : PlainScript) (r : Result ⊤ Stop) (s' : PlainScript) → Passes (an_expression e no_expressions) locals s (Ok tt) s1 → Passes rest locals s1 r s' → Passes (an_expression e rest) locals s r s'
  passes_one (local n site) rest locals s s1 r s' (e, f) k = subst (λ u. Passes rest locals u r s') f k
  passes_one (cell p field t site) rest locals s s1 r s' (Ok x, s2, a, h) k = (Ok x, s2, a, then_other (reaches x t site) (Passes rest locals) s2 s1 r s' h k)
  passes_one (cell p field t site) rest locals s s1 r s' (Err d, s2, a, (e, f)) k = absurd cc
  passes_one (call proc es result site) rest locals s s1 r s' (Ok vs, s2, a, h) k = (Ok vs, s2, a, then_other (calls_procedure types calls proc site vs) (Passes rest locals) s2 s1 r s' h k)
  passes_one (call proc es result site) rest locals s s1 r s' (Err d, s2, a, (e, f)) k = absurd cc
  passes_one (constant z) rest locals s s1 r s' h k = then_other (Replays types calls (constant z) locals) (Passes rest locals) s s1 r s' h k
  passes_one null rest locals s s1 r s' h k = then_other (Replays types calls null locals) (Passes rest locals) s s1 r s' h k
  passes_one (negated e) rest locals s s1 r s' h k = then_other (Replays types calls (negated e) locals) (Passes rest locals) s s1 r s' h k
  passes_one (arithmetic op a b) rest locals s s1 r s' h k = then_other (Replays types calls (arithmetic op a b) locals) (Passes rest locals) s s1 r s' h k
  passes_one (truth c) rest locals s s1 r s' h k = then_other (Replays types calls (truth c) locals) (Passes rest locals) s s1 r s' h k
  passes_one (allocate t site) rest locals s s1 r s' h k = then_other (Replays types calls (allocate t site) locals) (Passes rest locals) s s1 r s' h k
  passes_one (get_char site) rest locals s s1 r s' h k = then_other (Replays types calls (get_char site) locals) (Passes rest locals) s s1 r s' h k
  passes_one (stop number site parts) rest locals s s1 r s' h k = then_other (Replays types calls (stop number site parts) locals) (Passes rest locals) s s1 r s' h k

  -- one that ends before the rest
  passes_none : (e : Expression) (rest : Expressions) (locals : Locals) (d : Stop) (s s' : PlainScript) → Passes (an_expression e no_expressions) locals s (Err d) s' → Passes (an_expression e rest) locals s (Err d) s'
  passes_none (local n site) rest locals d s s' (e, f) = absurd cc
  passes_none (cell p field t site) rest locals d s s' (Ok x, s2, a, h) = (Ok x, s2, a, then_none (reaches x t site) (Passes rest locals) s2 d s' h)
  passes_none (cell p field t site) rest locals d s s' (Err d', s2, a, h) = (Err d', s2, a, h)
  passes_none (call proc es result site) rest locals d s s' (Ok vs, s2, a, h) = (Ok vs, s2, a, then_none (calls_procedure types calls proc site vs) (Passes rest locals) s2 d s' h)
  passes_none (call proc es result site) rest locals d s s' (Err d', s2, a, h) = (Err d', s2, a, h)
  passes_none (constant z) rest locals d s s' h = then_none (Replays types calls (constant z) locals) (Passes rest locals) s d s' h
  passes_none null rest locals d s s' h = then_none (Replays types calls null locals) (Passes rest locals) s d s' h
  passes_none (negated e) rest locals d s s' h = then_none (Replays types calls (negated e) locals) (Passes rest locals) s d s' h
  passes_none (arithmetic op a b) rest locals d s s' h = then_none (Replays types calls (arithmetic op a b) locals) (Passes rest locals) s d s' h
  passes_none (truth c) rest locals d s s' h = then_none (Replays types calls (truth c) locals) (Passes rest locals) s d s' h
  passes_none (allocate t site) rest locals d s s' h = then_none (Replays types calls (allocate t site) locals) (Passes rest locals) s d s' h
  passes_none (get_char site) rest locals d s s' h = then_none (Replays types calls (get_char site) locals) (Passes rest locals) s d s' h
  passes_none (stop number site parts) rest locals d s s' h = then_none (Replays types calls (stop number site parts) locals) (Passes rest locals) s d s' h

  abbrev passes_from : List TypedExpression → Locals → Act ⊤
  passes_from es locals s r s' = PassesAll types calls (expressions_of (map typed_expression es)) locals s r s'

  pub effects_more : (es : List TypedExpression) (i : ℕ) (e : TypedExpression) (locals : Locals) (s s1 : PlainScript) (r : Result ⊤ Stop) (s' : PlainScript) →
      i < length es → e ≡ get_or es i e → Passes (an_expression (typed_expression e) no_expressions) locals s (Ok tt) s1 → passes_from (drop (i + 1) es) locals s1 r s' → passes_from (drop i es) locals s r s'
  effects_more es i e locals s s1 r s' lt is h k =
      subst (λ l. passes_from l locals s r s') (sym (rest_is es i e e lt is)) (passes_one (typed_expression e) (expressions_of (map typed_expression (drop (i + 1) es))) locals s s1 r s' h k)

  pub effects_stop : (es : List TypedExpression) (i : ℕ) (e : TypedExpression) (locals : Locals) (d : Stop) (s s' : PlainScript) →
      i < length es → e ≡ get_or es i e → Passes (an_expression (typed_expression e) no_expressions) locals s (Err d) s' → passes_from (drop i es) locals s (Err d) s'
  effects_stop es i e locals d s s' lt is h =
      subst (λ l. passes_from l locals s (Err d) s') (sym (rest_is es i e e lt is)) (passes_none (typed_expression e) (expressions_of (map typed_expression (drop (i + 1) es))) locals d s s' h)

  pub effects_end : (es : List TypedExpression) (i : ℕ) (locals : Locals) (s : PlainScript) → length es ≤ i → passes_from (drop i es) locals s (Ok tt) s
  effects_end es i locals s past = subst (λ l. passes_from l locals s (Ok tt) s) (sym (drop_all i es past)) (refl, refl)

  abbrev PassesPlainly : Expression → Locals → PlainScript → Result ⊤ Stop → PlainScript → Type 0
  PassesPlainly e locals s r s' = and_then (Replays types calls e locals) (λ v. answers (Ok tt)) s r s' → Passes (an_expression e no_expressions) locals s r s'

  -- one whose value has no case of its own where it isn't read: all of it is done, and then nothing
  pub passes_plain : (e : TypedExpression) → ((i : ℕ) (site : Site) → e ≡ E.Local i site → ⊥) →
      ((p : Box TypedExpression Global) (row : Vec CellLink Global) (field : FieldId) (block : TypeId) (site : Site) → e ≡ E.Cell p row field block site → ⊥) →
      ((proc : ProcId) (row : Vec Argument Global) (type : ValueType) (site : Site) → e ≡ E.Call proc row type site → ⊥) →
      (locals : Locals) (s : PlainScript) (r : Result ⊤ Stop) (s' : PlainScript) → PassesPlainly (typed_expression e) locals s r s'
  passes_plain e no_local no_cell no_call locals s r s' = by (out-TypedExpression e) (roll-out-TypedExpression e)
    where
      same : (e' : TypedExpression) → e ≡ e' → PassesPlainly (typed_expression e') locals s r s' → PassesPlainly (typed_expression e) locals s r s'
      same e' is f = subst (λ e. PassesPlainly (typed_expression e) locals s r s') (sym is) f

      by : (x : _) → roll-TypedExpression x ≡ e → PassesPlainly (typed_expression e) locals s r s'
      by (TypedExpression-F.Constant z) is = same (E.Constant z) (sym is ∙ E.rolls-Constant z) (λ k. k)
      by TypedExpression-F.Null is = same E.Null (sym is ∙ E.rolls-Null) (λ k. k)
      by (TypedExpression-F.Local i site) is = absurd (no_local i site (sym is ∙ E.rolls-Local i site))
      by (TypedExpression-F.Negate b) is = same (E.Negate b) (sym is ∙ E.rolls-Negate b) (λ k. k)
      by (TypedExpression-F.Arithmetic left row op right) is = same (E.Arithmetic left row op right) (sym is ∙ E.rolls-Arithmetic left row op right) (subst (λ t. PassesPlainly t locals s r s') (sym (typed-Arithmetic left row op right)) (λ k. k))
      by (TypedExpression-F.Truth c) is = same (E.Truth c) (sym is ∙ E.rolls-Truth c) (λ k. k)
      by (TypedExpression-F.Cell p row field block site) is = absurd (no_cell p row field block site (sym is ∙ E.rolls-Cell p row field block site))
      by (TypedExpression-F.Allocate block site) is = same (E.Allocate block site) (sym is ∙ E.rolls-Allocate block site) (λ k. k)
      by (TypedExpression-F.GetChar site) is = same (E.GetChar site) (sym is ∙ E.rolls-GetChar site) (λ k. k)
      by (TypedExpression-F.Call proc row type site) is = absurd (no_call proc row type site (sym is ∙ E.rolls-Call proc row type site))
      by (TypedExpression-F.Stop number site row) is = same (E.Stop number site row) (sym is ∙ E.rolls-Stop number site row) (subst (λ t. PassesPlainly t locals s r s') (sym (typed-Stop number site row)) (λ k. k))
