-- Executions of a tree from states that are the same but for the numbers of blocks: expressions and conditions.
use Rattle.std.proofs.Common.{◌≡◌, ℕ, Bool, true, false, cond, nat_eq, Option, Some, None, List, [], ◌∷◌, ◌++◌, slice_get, refl, sym, ap, ◌∙◌, subst, inl, inr, pos, IsSomeAnd, append_assoc, ℤ, ◌-ℤ◌, ◌*ℤ◌, int_div, if◌then◌else◌}
use Rattle.std.specs.Prelude.{⊤}
use Rattle.std.proofs.lemmas.List.{append_cancel_left}
use Rattle.std.specs.Ordering.{int_eq}
use Rattle.px_base.specs.declared.trace.Site.{Site}
use Rattle.px_base.specs.declared.trace.Kind.TheVariants.{NullDereference, UseAfterFree, UninitialisedRead}
use Rattle.px_base.specs.declared.trace.MarkKind.{MarkKind}
use Rattle.px_base.specs.declared.trace.MarkKind.TheVariants.{Then, Else, Got, NoBlock, Access, Enter, Leave}
use Rattle.px_base.specs.declared.trace.ProcId.{ProcId}
use Rattle.px_base.specs.declared.trace.FieldId.{FieldId}
use Rattle.px_terms.specs.Types.{types_of}
use Rattle.px_core.specs.declared.command.Operator.TheVariants.{Neg}
use Rattle.px_meaning.specs.Values.{TypeId, BlockType, Value, Word, Null, Block, Unwritten}
use Rattle.px_meaning.specs.Heaps.{HeapMap, HeapBlock, HeapBlockState, Live, Freed}
use Rattle.px_meaning.specs.Calls.{Halt, error, outside, Ending, Returned, Failed}
use Rattle.px_meaning.specs.Execution.{Locals, with_local}
use Rattle.px_meaning.specs.Events.{Event, marks, reads, mark, unnumbered}
use Rattle.px_meaning.specs.Operations.{value_at, result_of, wrapped, on_words}
use Rattle.px_meaning.specs.Steps.{ProcedureCalls, marking, by_state, by_pointer, by_written, new_block}
use Rattle.px_syntax.specs.TypedTree.{Expression, constant, null, local, negated, arithmetic, truth, cell, allocate, get_char, call, stop, Expressions, no_expressions, an_expression, Arguments, no_arguments, an_argument, passed, erased, Condition, compare, word, pointer, both, either, opposite}
use Rattle.px_syntax.specs.declared.typed_expression.Arithmetic.{Arithmetic}
use Rattle.px_syntax.specs.declared.typed_expression.Arithmetic.TheVariants.{Add, Subtract, Multiply, Divide, Remainder}
use Rattle.px_meaning.specs.TreeExecution.{Outcome, gives, errs, Outcomes, with_value, by_outcome, Verdict, yes, no, fault, Verdicts, with_verdict, Uses, Loads, division, calculation, Calculates, Reaches, Returns, CallsProcedure, Branches, Evaluates, EvaluatesAll, PassesAll, Tests}
use Rattle.px_meaning.proofs.Taken.{some_to}
use Rattle.px_meaning.proofs.Pairs.{first_or, rest_of, input_in}
use Rattle.px_meaning.proofs.Renamed.{Renaming, SameValue, SameValues, SameState, SamePlaces, Tied, Within, value_wider, same_at, same_unwritten, with_new, tied_new, result_same, words_alike}
use Rattle.px_meaning.proofs.RenamedSteps.{SameEnding, AgreeBut, differ}
use Rattle.px_meaning.proofs.TreeBegins.{Begins, Opens, OpensErr, OpensOn, value_opens, outcome_opens, verdict_opens, uses_begin, loads_begin, calculates_begin, reaches_begin, call_begins, branches_begin, eval_begins, all_begin, passes_begin, test_begins}

abbrev pub un : Event → Event
un e = unnumbered e

abbrev pub SameLocals : Renaming → Locals → Locals → Type 0
SameLocals R l m = (n : ℕ) → SameValue R (l n) (m n)

abbrev pub SameOutcome : Renaming → Outcome → Outcome → Type 0
SameOutcome R (gives v) (gives w) = SameValue R v w
SameOutcome R (errs kind site) (errs kind' site') = (kind ≡ kind') × (site ≡ site')
SameOutcome R _ _ = ⊥

division_same : (R : Renaming) (site : Site) (b : Bool) (z : ℤ) → SameOutcome R (division site (if b then None else Some (wrapped z))) (division site (if b then None else Some (wrapped z)))
division_same R site true z = (refl, refl)
division_same R site false z = refl

-- what is made of words has no number
calculation_same : (R : Renaming) (op : Arithmetic) (x y : ℤ) → SameOutcome R (calculation op x y) (calculation op x y)
calculation_same R Add x y = refl
calculation_same R Subtract x y = refl
calculation_same R Multiply x y = refl
calculation_same R (Divide site) x y = division_same R site (int_eq y (pos 0)) (int_div x y)
calculation_same R (Remainder site) x y = division_same R site (int_eq y (pos 0)) (x -ℤ int_div x y *ℤ y)

abbrev pub SameVerdict : Verdict → Verdict → Type 0
SameVerdict yes yes = ⊤
SameVerdict no no = ⊤
SameVerdict (fault kind site) (fault kind' site') = (kind ≡ kind') × (site ≡ site')
SameVerdict _ _ = ⊥

pub within_on : {R S T : Renaming} → Within R S → Within S T → Within R T
within_on f g m n p = g m n (f m n p)

pub within_refl : (R : Renaming) → Within R R
within_refl R m n p = p

pub locals_wider : (R S : Renaming) → Within R S → (l m : Locals) → SameLocals R l m → SameLocals S l m
locals_wider R S f l m p n = value_wider R S f (l n) (m n) (p n)

pub locals_same_put : (R : Renaming) (l m : Locals) (n : ℕ) (v w : Value) → SameLocals R l m → SameValue R v w → SameLocals R (with_local l n v) (with_local m n w)
locals_same_put R l m n v w p q k = at (nat_eq k n)
  where
    at : (b : Bool) → SameValue R (cond b v (l k)) (cond b w (m k))
    at true = q
    at false = p k

module _ (Z : Type 1) where
  -- where both goals are reached in the same way, but for numbers, Z holds
  abbrev pub Both : Renaming → Outcomes Event → Outcomes Event → Type 1
  Both R G G' = (S : Renaming) → Within R S → (a : List Event) (x y : Outcome) (h i : HeapMap) → SameOutcome S x y → Tied S h i → G a x h → G' a y i → Z

  abbrev pub BothValue : Renaming → (List Event → Value → HeapMap → Type 0) → (List Event → Value → HeapMap → Type 0) → Type 1
  BothValue R G G' = (S : Renaming) → Within R S → (a : List Event) (v w : Value) (h i : HeapMap) → SameValue S v w → Tied S h i → G a v h → G' a w i → Z

  abbrev pub BothValues : Renaming → (List Event → List Value → HeapMap → Type 0) → (List Event → List Value → HeapMap → Type 0) → Type 1
  BothValues R G G' = (S : Renaming) → Within R S → (a : List Event) (vs ws : List Value) (h i : HeapMap) → SameValues S vs ws → Tied S h i → G a vs h → G' a ws i → Z

  abbrev pub BothErr : Renaming → (List Event → Halt → Site → HeapMap → Type 0) → (List Event → Halt → Site → HeapMap → Type 0) → Type 1
  BothErr R G G' = (S : Renaming) → Within R S → (a : List Event) (kind : Halt) (site : Site) (h i : HeapMap) → Tied S h i → G a kind site h → G' a kind site i → Z

  abbrev pub BothOn : Renaming → (List Event → HeapMap → Type 0) → (List Event → HeapMap → Type 0) → Type 1
  BothOn R G G' = (S : Renaming) → Within R S → (a : List Event) (h i : HeapMap) → Tied S h i → G a h → G' a i → Z

  abbrev pub BothVerdict : Renaming → Verdicts Event → Verdicts Event → Type 1
  BothVerdict R G G' = (S : Renaming) → Within R S → (a : List Event) (x y : Verdict) (h i : HeapMap) → SameVerdict x y → Tied S h i → G a x h → G' a y i → Z

  pub both_within : (R S : Renaming) → Within R S → (K L : Outcomes Event) → Both R K L → Both S K L
  both_within R S f K L on T g = on T (within_on f g)

  pub verdict_within : (R S : Renaming) → Within R S → (K L : Verdicts Event) → BothVerdict R K L → BothVerdict S K L
  verdict_within R S f K L on T g = on T (within_on f g)

  pub err_within : (R S : Renaming) → Within R S → (K L : List Event → Halt → Site → HeapMap → Type 0) → BothErr R K L → BothErr S K L
  err_within R S f K L on T g = on T (within_on f g)

  pub on_within : (R S : Renaming) → Within R S → (K L : List Event → HeapMap → Type 0) → BothOn R K L → BothOn S K L
  on_within R S f K L on T g = on T (within_on f g)

  err_both : (R S : Renaming) → Within R S → (err err' : List Event → Halt → Site → HeapMap → Type 0) → BothErr R err err' → (a : List Event) (kind kind' : Halt) (site site' : Site) (h i : HeapMap) → Tied S h i →
      kind ≡ kind' → site ≡ site' → err a kind site h → err' a kind' site' i → Z
  err_both R S f err err' on a kind kind' site site' h i tied e g k k' =
      on S f a kind site h i tied k (subst (λ u. err' a u site i) (sym e) (subst (λ u. err' a kind' u i) (sym g) k'))

  pub value_both : (R : Renaming) (K L : Outcomes Event) (f g : List Event → Value → HeapMap → Type 0) → Both R K L → BothValue R f g → Both R (with_value K f) (with_value L g)
  value_both R K L f g on fg S w a (gives v) (gives v') h i s tied k k' = fg S w a v v' h i s tied k k'
  value_both R K L f g on fg S w a (errs kind site) (errs kind' site') h i s tied k k' = on S w a (errs kind site) (errs kind' site') h i s tied k k'
  value_both R K L f g on fg S w a (gives v) (errs kind site) h i s tied k k' = absurd s
  value_both R K L f g on fg S w a (errs kind site) (gives v) h i s tied k k' = absurd s

  pub outcome_both : (R : Renaming) (err err' : List Event → Halt → Site → HeapMap → Type 0) (f g : List Event → Value → HeapMap → Type 0) → BothErr R err err' → BothValue R f g → Both R (by_outcome err f) (by_outcome err' g)
  outcome_both R err err' f g on fg S w a (gives v) (gives v') h i s tied k k' = fg S w a v v' h i s tied k k'
  outcome_both R err err' f g on fg S w a (errs kind site) (errs kind' site') h i s tied k k' = err_both R S w err err' on a kind kind' site site' h i tied s.0 s.1 k k'
  outcome_both R err err' f g on fg S w a (gives v) (errs kind site) h i s tied k k' = absurd s
  outcome_both R err err' f g on fg S w a (errs kind site) (gives v) h i s tied k k' = absurd s

  pub verdict_both : (R : Renaming) (err err' : List Event → Halt → Site → HeapMap → Type 0) (f f' g g' : List Event → HeapMap → Type 0) → BothErr R err err' → BothOn R f f' → BothOn R g g' →
      BothVerdict R (with_verdict err f g) (with_verdict err' f' g')
  verdict_both R err err' f f' g g' on ff gg S w a yes yes h i s tied k k' = ff S w a h i tied k k'
  verdict_both R err err' f f' g g' on ff gg S w a no no h i s tied k k' = gg S w a h i tied k k'
  verdict_both R err err' f f' g g' on ff gg S w a (fault kind site) (fault kind' site') h i s tied k k' = err_both R S w err err' on a kind kind' site site' h i tied s.0 s.1 k k'
  verdict_both R err err' f f' g g' on ff gg S w a yes no h i s tied k k' = absurd s
  verdict_both R err err' f f' g g' on ff gg S w a yes (fault kind site) h i s tied k k' = absurd s
  verdict_both R err err' f f' g g' on ff gg S w a no yes h i s tied k k' = absurd s
  verdict_both R err err' f f' g g' on ff gg S w a no (fault kind site) h i s tied k k' = absurd s
  verdict_both R err err' f f' g g' on ff gg S w a (fault kind site) yes h i s tied k k' = absurd s
  verdict_both R err err' f f' g g' on ff gg S w a (fault kind site) no h i s tied k k' = absurd s

  pub two_both : {A : Type 0} (o o' : Option A) (P Q : A → Type 0) → ((a b : A) → o ≡ Some a → o' ≡ Some b → P a → Q b → Z) → IsSomeAnd o P → IsSomeAnd o' Q → Z
  two_both None o' P Q f h k = absurd h
  two_both (Some a) None P Q f h k = absurd k
  two_both (Some a) (Some b) P Q f h k = f a b refl refl h k

  written_both : (R : Renaming) (v w : Value) (X X' Y Y' : Type 0) → SameValue R v w → (X → X' → Z) → (Y → Y' → Z) → by_written v X Y → by_written w X' Y' → Z
  written_both R (Word y) (Word z) X X' Y Y' s f g h k = f h k
  written_both R Null Null X X' Y Y' s f g h k = f h k
  written_both R (Block m) (Block n) X X' Y Y' s f g h k = f h k
  written_both R Unwritten Unwritten X X' Y Y' s f g h k = g h k
  written_both R Null (Word z) X X' Y Y' s f g h k = absurd s
  written_both R (Block m) Null X X' Y Y' s f g h k = absurd s
  written_both R Unwritten Null X X' Y Y' s f g h k = absurd s
  written_both R _ _ X X' Y Y' s f g h k = absurd s

  state_both : (R : Renaming) (s t : HeapBlockState) (F F' : Type 0) (G G' : List Value → Type 0) → SameState R s t → (F → F' → Z) →
      ((vs ws : List Value) → SameValues R vs ws → G vs → G' ws → Z) → by_state s F G → by_state t F' G' → Z
  state_both R (Live vs) (Live ws) F F' G G' s f g h k = g vs ws s h k
  state_both R Freed Freed F F' G G' s f g h k = f h k
  state_both R (Live vs) Freed F F' G G' s f g h k = absurd s
  state_both R Freed (Live ws) F F' G G' s f g h k = absurd s

  pub pointer_both : (R : Renaming) (heap heap' : HeapMap) (t : ℕ) (v w : Value) (N N' F F' : Type 0) (G G' : ℕ → List Value → Type 0) → Tied R heap heap' → SameValue R v w →
      (N → N' → Z) → (F → F' → Z) → ((m n : ℕ) (vs ws : List Value) → R m n → SameValues R vs ws → G m vs → G' n ws → Z) →
      by_pointer heap t v N F G → by_pointer heap' t w N' F' G' → Z
  pointer_both R heap heap' t (Word y) w N N' F F' G G' tied s n f g h k = absurd h
  pointer_both R heap heap' t Unwritten w N N' F F' G G' tied s n f g h k = absurd h
  pointer_both R heap heap' t Null Null N N' F F' G G' tied s n f g h k = n h k
  pointer_both R heap heap' t Null (Word z) N N' F F' G G' tied s n f g h k = absurd s
  pointer_both R heap heap' t Null (Block j) N N' F F' G G' tied s n f g h k = absurd s
  pointer_both R heap heap' t Null Unwritten N N' F F' G G' tied s n f g h k = absurd s
  pointer_both R heap heap' t (Block i) (Word z) N N' F F' G G' tied s n f g h k = absurd s
  pointer_both R heap heap' t (Block i) Null N N' F F' G G' tied s n f g h k = absurd s
  pointer_both R heap heap' t (Block i) Unwritten N N' F F' G G' tied s n f g h k = absurd s
  pointer_both R heap heap' t (Block i) (Block j) N N' F F' G G' tied s n f g h k = at (heap i) (heap' j) (tied.blocks i j s) h k
    where
      at : (o o' : Option HeapBlock) → SamePlaces R o o' →
          IsSomeAnd o (λ b. (b.block_type ≡ t) × by_state b.state F (G i)) → IsSomeAnd o' (λ b. (b.block_type ≡ t) × by_state b.state F' (G' j)) → Z
      at (Some b) (Some c) p h k = state_both R b.state c.state F F' (G i) (G' j) p.1 f (λ vs ws q. g i j vs ws s q) h.1 k.1
      at None o' p h k = absurd h
      at (Some b) None p h k = absurd k

module _ (types : List BlockType) (C D : ProcedureCalls Event) (agree : AgreeBut C D) (s t p q : List Event) (eq : s ++ p ≡ t ++ q) (Z : Type 1) where
  -- what is seen after the same beginning goes on in the same way
  pub apart : (so_far m n : List Event) → Begins s (so_far ++ m) → Begins t (so_far ++ n) → (r : List Event) × (u : List Event) × (m ++ r ≡ n ++ u)
  apart so_far m n (r, e) (u, f) = (
    r ++ p,
    u ++ q,
    append_cancel_left so_far (m ++ (r ++ p)) (n ++ (u ++ q))
        (sym (whole so_far m r p) ∙ (ap (λ x. x ++ p) (sym e) ∙ (eq ∙ (ap (λ x. x ++ q) f ∙ whole so_far n u q)))),
  )
    where
      whole : (so_far a r p : List Event) → ((so_far ++ a) ++ r) ++ p ≡ so_far ++ (a ++ (r ++ p))
      whole so_far a r p = append_assoc (so_far ++ a) r p ∙ append_assoc so_far a (r ++ p)

  -- different marks can't both be
  pub not_apart : (so_far : List Event) (j k : MarkKind) (site : Site) → (j ≡ k → ⊥) → Begins s (so_far ++ marking un j site) → Begins t (so_far ++ marking un k site) → Z
  not_apart so_far j k site f b c = let (r, u, e) = apart so_far (marking un j site) (marking un k site) b c in absurd (differ j k site site r u f e)

  pub uses_both : (R : Renaming) (v w : Value) (site : Site) (a : List Event) (h i : HeapMap) (K L : Outcomes Event) → SameValue R v w → Tied R h i → Both Z R K L → Uses un types C v site a h K → Uses un types D w site a i L → Z
  uses_both R v w site a h i K L same tied on k k' =
      written_both Z R v w (K a (gives v) h) (L a (gives w) i) (K a (errs (error UninitialisedRead) site) h) (L a (errs (error UninitialisedRead) site) i) same
      (on R (within_refl R) _ _ _ _ _ same tied) (on R (within_refl R) _ _ _ _ _ (refl, refl) tied) k k'

  pub loads_both : (R : Renaming) (v w : Value) (field : FieldId) (b : TypeId) (site : Site) (a : List Event) (h i : HeapMap) (K L : Outcomes Event) → SameValue R v w → Tied R h i → Both Z R K L →
      Loads un types C v field b site a h K → Loads un types D w field b site a i L → Z
  loads_both R v w field b site a h i K L same tied on k k' =
      pointer_both Z R h i b.0 v w (K (a ++ marking un Access site) (errs (error NullDereference) site) h) (L (a ++ marking un Access site) (errs (error NullDereference) site) i)
      (K (a ++ marking un Access site) (errs (error UseAfterFree) site) h) (L (a ++ marking un Access site) (errs (error UseAfterFree) site) i)
      (λ n cells. Uses un types C (value_at cells field.0) site (a ++ marking un Access site) h K) (λ n cells. Uses un types D (value_at cells field.0) site (a ++ marking un Access site) i L)
      tied same (on R (within_refl R) _ _ _ _ _ (refl, refl) tied) (on R (within_refl R) _ _ _ _ _ (refl, refl) tied)
      (λ m n vs ws r cells. uses_both R (value_at vs field.0) (value_at ws field.0) site (a ++ marking un Access site) h i K L (same_at R vs ws field.0 cells) tied on) k k'

  pub reaches_both : (R : Renaming) (v w : Value) (b : TypeId) (site : Site) (a : List Event) (h i : HeapMap) (err err' : List Event → Halt → Site → HeapMap → Type 0) (f f' : List Event → HeapMap → Type 0) → SameValue R v w → Tied R h i → BothErr Z R err err' → BothOn Z R f f' →
      Reaches un types C v b site a h err f → Reaches un types D w b site a i err' f' → Z
  reaches_both R v w b site a h i err err' f f' same tied be bf k k' =
      pointer_both Z R h i b.0 v w (err (a ++ marking un Access site) (error NullDereference) site h) (err' (a ++ marking un Access site) (error NullDereference) site i)
      (err (a ++ marking un Access site) (error UseAfterFree) site h) (err' (a ++ marking un Access site) (error UseAfterFree) site i)
      (λ n cells. f (a ++ marking un Access site) h) (λ n cells. f' (a ++ marking un Access site) i)
      tied same (be R (within_refl R) _ _ _ _ _ tied) (be R (within_refl R) _ _ _ _ _ tied) (λ m n vs ws r cells. bf R (within_refl R) _ _ _ tied) k k'

  returns_both : (R : Renaming) (proc : ProcId) (site : Site) (so_far u v : List Event) (m n : HeapMap) (err err' : List Event → Halt → Site → HeapMap → Type 0) (f f' : List Event → Value → HeapMap → Type 0) (d e : Ending) →
      OpensErr s err → OpensErr t err' → Opens s f → Opens t f' → BothErr Z R err err' → BothValue Z R f f' →
      ((x y : List Event) → u ++ x ≡ v ++ y → (u ≡ v) × (x ≡ y) × ((S : Renaming) × Within R S × SameEnding S d e × Tied S m n)) →
      Returns un types C proc site so_far u m err f d → Returns un types D proc site so_far v n err' f' e → Z
  returns_both R proc site so_far u v m n err err' f f' (Returned x) (Returned y) oe oe' of of' be bf same h h' =
      let (r, w, e) = apart so_far (marks (mark (Enter proc) site) ∷ (u ++ marks (mark Leave site) ∷ [])) (marks (mark (Enter proc) site) ∷ (v ++ marks (mark Leave site) ∷ [])) (of _ _ _ h) (of' _ _ _ h') in
      let (uv, rest, (S, wider, xy, mn)) = same (marks (mark Leave site) ∷ r) (marks (mark Leave site) ∷ w)
      (sym (append_assoc u (marks (mark Leave site) ∷ []) r) ∙ (ap rest_of e ∙ append_assoc v (marks (mark Leave site) ∷ []) w)) in
      bf S wider _ x y m n xy mn h (subst (λ z. f' (so_far ++ (marks (mark (Enter proc) site) ∷ (z ++ marks (mark Leave site) ∷ []))) y n) (sym uv) h')
  returns_both R proc site so_far u v m n err err' f f' (Failed kind at) (Failed kind' at') oe oe' of of' be bf same h h' =
      let (r, w, e) = apart so_far (marks (mark (Enter proc) site) ∷ u) (marks (mark (Enter proc) site) ∷ v) (oe _ _ _ _ h) (oe' _ _ _ _ h') in
      let (uv, rest, (S, wider, de, mn)) = same r w (ap rest_of e) in
      let seen : List Event = so_far ++ (marks (mark (Enter proc) site) ∷ u) in
      be S wider seen kind at m n mn h
      (subst (λ k. err' seen k at n) (sym de.0) (subst (λ z. err' seen kind' z n) (sym de.1) (subst (λ z. err' (so_far ++ (marks (mark (Enter proc) site) ∷ z)) kind' at' n) (sym uv) h')))
  returns_both R proc site so_far u v m n err err' f f' (Returned x) (Failed kind at) oe oe' of of' be bf same h h' =
      let (r, w, e) = apart so_far (marks (mark (Enter proc) site) ∷ (u ++ marks (mark Leave site) ∷ [])) (marks (mark (Enter proc) site) ∷ v) (of _ _ _ h) (oe' _ _ _ _ h') in
      let (uv, rest, (S, wider, de, mn)) = same (marks (mark Leave site) ∷ r) w (sym (append_assoc u (marks (mark Leave site) ∷ []) r) ∙ ap rest_of e) in
      absurd de
  returns_both R proc site so_far u v m n err err' f f' (Failed kind at) (Returned x) oe oe' of of' be bf same h h' =
      let (r, w, e) = apart so_far (marks (mark (Enter proc) site) ∷ u) (marks (mark (Enter proc) site) ∷ (v ++ marks (mark Leave site) ∷ [])) (oe _ _ _ _ h) (of' _ _ _ h') in
      let (uv, rest, (S, wider, de, mn)) = same r (marks (mark Leave site) ∷ w) (ap rest_of e ∙ append_assoc v (marks (mark Leave site) ∷ []) w) in
      absurd de

  pub call_both : (R : Renaming) (proc : ProcId) (site : Site) (vs ws : List Value) (a : List Event) (h i : HeapMap) (err err' : List Event → Halt → Site → HeapMap → Type 0) (f f' : List Event → Value → HeapMap → Type 0) →
      SameValues R vs ws → Tied R h i → OpensErr s err → OpensErr t err' → Opens s f → Opens t f' → BothErr Z R err err' → BothValue Z R f f' →
      CallsProcedure un types C proc site vs a h err f → CallsProcedure un types D proc site ws a i err' f' → Z
  call_both R proc site vs ws a h i err err' f f' same tied oe oe' of of' be bf (u, d, m, c, k) (v, e, n, c', k') =
      returns_both R proc site a u v m n err err' f f' d e oe oe' of of' be bf (agree R proc.0 vs ws h i same tied u v d e m n c c') k k'

  branches_both : (R : Renaming) (Yes No Yes' No' : Type 0) (site : Site) (a : List Event) (h i : HeapMap) (K L : Verdicts Event) → Tied R h i → Opens s K → Opens t L → BothVerdict Z R K L →
      Branches un types C Yes No site a h K → Branches un types D Yes' No' site a i L → Z
  branches_both R Yes No Yes' No' site a h i K L tied o o' on (inl k) (inl k') = on R (within_refl R) _ _ _ _ _ tt tied k.1 k'.1
  branches_both R Yes No Yes' No' site a h i K L tied o o' on (inr k) (inr k') = on R (within_refl R) _ _ _ _ _ tt tied k.1 k'.1
  branches_both R Yes No Yes' No' site a h i K L tied o o' on (inl k) (inr k') = not_apart a Then Else site (λ d. cc) (o _ _ _ k.1) (o' _ _ _ k'.1)
  branches_both R Yes No Yes' No' site a h i K L tied o o' on (inr k) (inl k') = not_apart a Else Then site (λ d. cc) (o _ _ _ k.1) (o' _ _ _ k'.1)

  pub calculates_both : (R : Renaming) (op : Arithmetic) (x y x' y' : Value) (a : List Event) (h i : HeapMap) (K L : Outcomes Event) → SameValue R x x' → SameValue R y y' → Tied R h i → Both Z R K L →
      Calculates un types C op x y a h K → Calculates un types D op x' y' a i L → Z
  calculates_both R op x y x' y' a h i K L xx yy tied on k k' =
      two_both Z (on_words (calculation op) x y) (on_words (calculation op) x' y') (λ r. K a r h) (λ r. L a r i)
      (λ r r' e e' k k'.
      let (m, n, is, is') = words_alike R (calculation op) x y x' y' r r' xx yy e e' in
      on R (within_refl R) a r r' h i (subst (λ r'. SameOutcome R r r') (sym is') (subst (λ r. SameOutcome R r (calculation op m n)) (sym is) (calculation_same R op m n))) tied k k') k k'

  mutual
    pub eval_both : (e : Expression) (R : Renaming) (l m : Locals) (a : List Event) (h i : HeapMap) (K L : Outcomes Event) → SameLocals R l m → Tied R h i → Opens s K → Opens t L → Both Z R K L →
        Evaluates un types C e l a h K → Evaluates un types D e m a i L → Z
    eval_both (constant z) R l m a h i K L same tied o o' on k k' = on R (within_refl R) _ _ _ _ _ refl tied k k'
    eval_both null R l m a h i K L same tied o o' on k k' = on R (within_refl R) _ _ _ _ _ tt tied k k'
    eval_both (local n site) R l m a h i K L same tied o o' on k k' = uses_both R (l n) (m n) site a h i K L (same n) tied on k k'
    eval_both (negated e) R l m a h i K L same tied o o' on k k' =
        eval_both e R l m a h i _ _ same tied
        (value_opens s K _ o (λ a x h k. some_to (result_of Neg x (Word (pos 0))) (λ v. K a (gives v) h) (Begins s a) (λ v e. o a (gives v) h) k))
        (value_opens t L _ o' (λ a x h k. some_to (result_of Neg x (Word (pos 0))) (λ v. L a (gives v) h) (Begins t a) (λ v e. o' a (gives v) h) k))
        (value_both Z R K L _ _ on (λ S w a x y h i xy tied k k'. two_both Z (result_of Neg x (Word (pos 0))) (result_of Neg y (Word (pos 0))) (λ v. K a (gives v) h) (λ v. L a (gives v) i)
        (λ v v' e e' k k'. on S w a (gives v) (gives v') h i (result_same S Neg x (Word (pos 0)) y (Word (pos 0)) v v' xy refl e e') tied k k') k k')) k k'
    eval_both (arithmetic op c d) R l m a h i K L same tied o o' on k k' =
        eval_both c R l m a h i _ _ same tied
        (value_opens s K _ o (λ a x h k. eval_begins un types C s d l a h _ (value_opens s K _ o (λ a y h. calculates_begin un types C s op x y a h K o)) k))
        (value_opens t L _ o' (λ a x h k. eval_begins un types D t d m a h _ (value_opens t L _ o' (λ a y h. calculates_begin un types D t op x y a h L o')) k))
        (value_both Z R K L _ _ on (λ S w a x x' h i xx tied k k'. eval_both d S l m a h i _ _ (locals_wider R S w l m same) tied
        (value_opens s K _ o (λ a y h. calculates_begin un types C s op x y a h K o))
        (value_opens t L _ o' (λ a y h. calculates_begin un types D t op x' y a h L o'))
        (value_both Z S K L _ _ (both_within Z R S w K L on) (λ T w' a y y' h i yy tied k k'.
        calculates_both T op x y x' y' a h i K L (value_wider S T w' x x' xx) yy tied (both_within Z R T (within_on w w') K L on) k k')) k k')) k k'
    eval_both (truth c) R l m a h i K L same tied o o' on k k' =
        test_both c R l m a h i _ _ same tied
        (verdict_opens s _ _ _ (λ a kind at h. o a (errs kind at) h) (λ a h. o a (gives (Word (pos 1))) h) (λ a h. o a (gives (Word (pos 0))) h))
        (verdict_opens t _ _ _ (λ a kind at h. o' a (errs kind at) h) (λ a h. o' a (gives (Word (pos 1))) h) (λ a h. o' a (gives (Word (pos 0))) h))
        (verdict_both Z R _ _ _ _ _ _ (λ S w a kind at h i tied. on S w a (errs kind at) (errs kind at) h i (refl, refl) tied)
        (λ S w a h i tied. on S w a (gives (Word (pos 1))) (gives (Word (pos 1))) h i refl tied) (λ S w a h i tied. on S w a (gives (Word (pos 0))) (gives (Word (pos 0))) h i refl tied)) k k'
    eval_both (cell e field b site) R l m a h i K L same tied o o' on k k' =
        eval_both e R l m a h i _ _ same tied
        (value_opens s K _ o (λ a x h. loads_begin un types C s x field b site a h K o)) (value_opens t L _ o' (λ a x h. loads_begin un types D t x field b site a h L o'))
        (value_both Z R K L _ _ on (λ S w a x y h i xy tied. loads_both S x y field b site a h i K L xy tied (both_within Z R S w K L on))) k k'
    eval_both (allocate b site) R l m a h i K L same tied o o' on (inl k) (inl k') = on R (within_refl R) _ _ _ _ _ tt tied k k'
    eval_both (allocate b site) R l m a h i K L same tied o o' on (inl k) (inr (n, out, k')) = not_apart a NoBlock Got site (λ d. cc) (o _ _ _ k) (o' _ _ _ k')
    eval_both (allocate b site) R l m a h i K L same tied o o' on (inr (n, out, k)) (inl k') = not_apart a Got NoBlock site (λ d. cc) (o _ _ _ k) (o' _ _ _ k')
    eval_both (allocate b site) R l m a h i K L same tied o o' on (inr (j, out, k)) (inr (n, out', k')) =
        on (with_new R j n) (λ x y r. inl r) _ (gives (Block j)) (gives (Block n)) _ _ (inr (refl, refl))
        (tied_new R h i j n (new_block types b.0) (new_block types b.0) tied out out' (refl, same_unwritten (with_new R j n) (types_of (slice_get types b.0)))) k k'
    eval_both (get_char site) R l m a h i K L same tied o o' on (y, low, high, k) (z, low', high', k') =
        let (r, u, e) = apart a (reads site y ∷ []) (reads site z ∷ []) (o _ _ _ k) (o' _ _ _ k') in
        let d : y ≡ z = ap (λ es. input_in (first_or (reads site y) es)) e in
        on R (within_refl R) _ (gives (Word y)) (gives (Word z)) h i d tied k (subst (λ x. L (a ++ reads site x ∷ []) (gives (Word z)) i) (sym d) k')
    eval_both (call proc es result site) R l m a h i K L same tied o o' on k k' =
        all_both es R l m a h i _ _ _ _ same tied (λ a kind at h. o a (errs kind at) h) (λ a kind at h. o' a (errs kind at) h)
        (λ a vs h. call_begins un types C s proc site vs a h _ _ (λ a kind at h. o a (errs kind at) h) (λ a v h. uses_begin un types C s v site a h K o))
        (λ a vs h. call_begins un types D t proc site vs a h _ _ (λ a kind at h. o' a (errs kind at) h) (λ a v h. uses_begin un types D t v site a h L o'))
        (λ S w a kind at h i tied. on S w a (errs kind at) (errs kind at) h i (refl, refl) tied)
        (λ S w a vs ws h i vw tied. call_both S proc site vs ws a h i _ _ _ _ vw tied (λ a kind at h. o a (errs kind at) h) (λ a kind at h. o' a (errs kind at) h)
        (λ a v h. uses_begin un types C s v site a h K o) (λ a v h. uses_begin un types D t v site a h L o')
        (λ T w' a kind at h i tied. on T (within_on w w') a (errs kind at) (errs kind at) h i (refl, refl) tied)
        (λ T w' a v v' h i vv tied. uses_both T v v' site a h i K L vv tied (both_within Z R T (within_on w w') K L on))) k k'
    eval_both (stop number site es) R l m a h i K L same tied o o' on k k' =
        passes_both es R l m a h i _ _ _ _ same tied (λ a kind at h. o a (errs kind at) h) (λ a kind at h. o' a (errs kind at) h)
        (λ a h. o a (errs (outside number) site) h) (λ a h. o' a (errs (outside number) site) h)
        (λ S w a kind at h i tied. on S w a (errs kind at) (errs kind at) h i (refl, refl) tied)
        (λ S w a h i tied. on S w a (errs (outside number) site) (errs (outside number) site) h i (refl, refl) tied) k k'

    pub all_both : (es : Arguments) (R : Renaming) (l m : Locals) (a : List Event) (h i : HeapMap) (err err' : List Event → Halt → Site → HeapMap → Type 0) (f f' : List Event → List Value → HeapMap → Type 0) →
        SameLocals R l m → Tied R h i → OpensErr s err → OpensErr t err' → Opens s f → Opens t f' → BothErr Z R err err' → BothValues Z R f f' →
        EvaluatesAll un types C es l a h err f → EvaluatesAll un types D es m a i err' f' → Z
    all_both no_arguments R l m a h i err err' f f' same tied oe oe' of of' be bf k k' = bf R (within_refl R) _ _ _ _ _ tt tied k k'
    all_both (an_argument (passed e) rest) R l m a h i err err' f f' same tied oe oe' of of' be bf k k' =
        eval_both e R l m a h i _ _ same tied
        (outcome_opens s err _ oe (λ a v h. all_begin un types C s rest l a h err _ oe (λ a vs h. of a (v ∷ vs) h)))
        (outcome_opens t err' _ oe' (λ a v h. all_begin un types D t rest m a h err' _ oe' (λ a vs h. of' a (v ∷ vs) h)))
        (outcome_both Z R err err' _ _ be (λ S w a v v' h i vv tied. all_both rest S l m a h i err err' _ _ (locals_wider R S w l m same) tied oe oe' (λ a vs h. of a (v ∷ vs) h) (λ a vs h. of' a (v' ∷ vs) h) (err_within Z R S w err err' be)
        (λ T w' a vs ws h i vw tied. bf T (within_on w w') a (v ∷ vs) (v' ∷ ws) h i (value_wider S T w' v v' vv, vw) tied))) k k'
    all_both (an_argument (erased parts) rest) R l m a h i err err' f f' same tied oe oe' of of' be bf k k' =
        passes_both parts R l m a h i err err' _ _ same tied oe oe'
        (λ a h. all_begin un types C s rest l a h err f oe of) (λ a h. all_begin un types D t rest m a h err' f' oe' of') be
        (λ S w a h i tied. all_both rest S l m a h i err err' f f' (locals_wider R S w l m same) tied oe oe' of of' (err_within Z R S w err err' be)
        (λ T w' a vs ws h i vw tied. bf T (within_on w w') a vs ws h i vw tied)) k k'

    pub passes_both : (es : Expressions) (R : Renaming) (l m : Locals) (a : List Event) (h i : HeapMap) (err err' : List Event → Halt → Site → HeapMap → Type 0) (f f' : List Event → HeapMap → Type 0) →
        SameLocals R l m → Tied R h i → OpensErr s err → OpensErr t err' → OpensOn s f → OpensOn t f' → BothErr Z R err err' → BothOn Z R f f' →
        PassesAll un types C es l a h err f → PassesAll un types D es m a i err' f' → Z
    passes_both no_expressions R l m a h i err err' f f' same tied oe oe' of of' be bf k k' = bf R (within_refl R) _ _ _ tied k k'
    passes_both (an_expression (local n site) rest) R l m a h i err err' f f' same tied oe oe' of of' be bf k k' = passes_both rest R l m a h i err err' f f' same tied oe oe' of of' be bf k k'
    passes_both (an_expression (cell e field b site) rest) R l m a h i err err' f f' same tied oe oe' of of' be bf k k' =
        eval_both e R l m a h i _ _ same tied
        (outcome_opens s err _ oe (λ a x h. reaches_begin un types C s x b site a h err _ oe (λ a h. passes_begin un types C s rest l a h err f oe of)))
        (outcome_opens t err' _ oe' (λ a x h. reaches_begin un types D t x b site a h err' _ oe' (λ a h. passes_begin un types D t rest m a h err' f' oe' of')))
        (outcome_both Z R err err' _ _ be (λ S w a x y h i xy tied. reaches_both S x y b site a h i err err' _ _ xy tied (err_within Z R S w err err' be)
        (λ T w' a h i tied. passes_both rest T l m a h i err err' f f' (locals_wider R T (within_on w w') l m same) tied oe oe' of of' (err_within Z R T (within_on w w') err err' be) (on_within Z R T (within_on w w') f f' bf)))) k k'
    passes_both (an_expression (call proc es result site) rest) R l m a h i err err' f f' same tied oe oe' of of' be bf k k' =
        all_both es R l m a h i err err' _ _ same tied oe oe'
        (λ a vs h. call_begins un types C s proc site vs a h err _ oe (λ a v h. passes_begin un types C s rest l a h err f oe of))
        (λ a vs h. call_begins un types D t proc site vs a h err' _ oe' (λ a v h. passes_begin un types D t rest m a h err' f' oe' of'))
        be
        (λ S w a vs ws h i vw tied. call_both S proc site vs ws a h i err err' _ _ vw tied oe oe'
        (λ a v h. passes_begin un types C s rest l a h err f oe of) (λ a v h. passes_begin un types D t rest m a h err' f' oe' of')
        (err_within Z R S w err err' be)
        (λ T w' a v v' h i vv tied. passes_both rest T l m a h i err err' f f' (locals_wider R T (within_on w w') l m same) tied oe oe' of of' (err_within Z R T (within_on w w') err err' be) (on_within Z R T (within_on w w') f f' bf))) k k'
    passes_both (an_expression e rest) R l m a h i err err' f f' same tied oe oe' of of' be bf k k' =
        eval_both e R l m a h i _ _ same tied
        (outcome_opens s err _ oe (λ a v h. passes_begin un types C s rest l a h err f oe of)) (outcome_opens t err' _ oe' (λ a v h. passes_begin un types D t rest m a h err' f' oe' of'))
        (outcome_both Z R err err' _ _ be (λ S w a v v' h i vv tied. passes_both rest S l m a h i err err' f f' (locals_wider R S w l m same) tied oe oe' of of' (err_within Z R S w err err' be) (on_within Z R S w f f' bf))) k k'

    pub test_both : (c : Condition) (R : Renaming) (l m : Locals) (a : List Event) (h i : HeapMap) (K L : Verdicts Event) → SameLocals R l m → Tied R h i → Opens s K → Opens t L → BothVerdict Z R K L →
        Tests un types C c l a h K → Tests un types D c m a i L → Z
    test_both (compare r c d site) R l m a h i K L same tied o o' on k k' =
        eval_both c R l m a h i _ _ same tied
        (outcome_opens s _ _ (λ a kind at h. o a (fault kind at) h) (λ a x h. eval_begins un types C s d l a h _ (outcome_opens s _ _ (λ a kind at h. o a (fault kind at) h) (λ a y h. branches_begin un types C s _ _ site a h K o))))
        (outcome_opens t _ _ (λ a kind at h. o' a (fault kind at) h) (λ a x h. eval_begins un types D t d m a h _ (outcome_opens t _ _ (λ a kind at h. o' a (fault kind at) h) (λ a y h. branches_begin un types D t _ _ site a h L o'))))
        (outcome_both Z R _ _ _ _ (λ S w a kind at h i tied. on S w a (fault kind at) (fault kind at) h i (refl, refl) tied) (λ S w a x x' h i xx tied. eval_both d S l m a h i _ _ (locals_wider R S w l m same) tied
        (outcome_opens s _ _ (λ a kind at h. o a (fault kind at) h) (λ a y h. branches_begin un types C s _ _ site a h K o))
        (outcome_opens t _ _ (λ a kind at h. o' a (fault kind at) h) (λ a y h. branches_begin un types D t _ _ site a h L o'))
        (outcome_both Z S _ _ _ _ (λ T w' a kind at h i tied. on T (within_on w w') a (fault kind at) (fault kind at) h i (refl, refl) tied)
        (λ T w' a y y' h i yy tied. branches_both T _ _ _ _ site a h i K L tied o o' (verdict_within Z R T (within_on w w') K L on))))) k k'
    test_both (word e site) R l m a h i K L same tied o o' on k k' =
        eval_both e R l m a h i _ _ same tied
        (outcome_opens s _ _ (λ a kind at h. o a (fault kind at) h) (λ a y h. branches_begin un types C s _ _ site a h K o))
        (outcome_opens t _ _ (λ a kind at h. o' a (fault kind at) h) (λ a y h. branches_begin un types D t _ _ site a h L o'))
        (outcome_both Z R _ _ _ _ (λ S w a kind at h i tied. on S w a (fault kind at) (fault kind at) h i (refl, refl) tied)
        (λ S w a y y' h i yy tied. branches_both S _ _ _ _ site a h i K L tied o o' (verdict_within Z R S w K L on))) k k'
    test_both (pointer e site) R l m a h i K L same tied o o' on k k' =
        eval_both e R l m a h i _ _ same tied
        (outcome_opens s _ _ (λ a kind at h. o a (fault kind at) h) (λ a y h. branches_begin un types C s _ _ site a h K o))
        (outcome_opens t _ _ (λ a kind at h. o' a (fault kind at) h) (λ a y h. branches_begin un types D t _ _ site a h L o'))
        (outcome_both Z R _ _ _ _ (λ S w a kind at h i tied. on S w a (fault kind at) (fault kind at) h i (refl, refl) tied)
        (λ S w a y y' h i yy tied. branches_both S _ _ _ _ site a h i K L tied o o' (verdict_within Z R S w K L on))) k k'
    test_both (both c d) R l m a h i K L same tied o o' on k k' =
        test_both c R l m a h i _ _ same tied
        (verdict_opens s _ _ _ (λ a kind at h. o a (fault kind at) h) (λ a h. test_begins un types C s d l a h K o) (λ a h. o a no h))
        (verdict_opens t _ _ _ (λ a kind at h. o' a (fault kind at) h) (λ a h. test_begins un types D t d m a h L o') (λ a h. o' a no h))
        (verdict_both Z R _ _ _ _ _ _ (λ S w a kind at h i tied. on S w a (fault kind at) (fault kind at) h i (refl, refl) tied)
        (λ S w a h i tied. test_both d S l m a h i K L (locals_wider R S w l m same) tied o o' (verdict_within Z R S w K L on)) (λ S w a h i tied. on S w a no no h i tt tied)) k k'
    test_both (either c d) R l m a h i K L same tied o o' on k k' =
        test_both c R l m a h i _ _ same tied
        (verdict_opens s _ _ _ (λ a kind at h. o a (fault kind at) h) (λ a h. o a yes h) (λ a h. test_begins un types C s d l a h K o))
        (verdict_opens t _ _ _ (λ a kind at h. o' a (fault kind at) h) (λ a h. o' a yes h) (λ a h. test_begins un types D t d m a h L o'))
        (verdict_both Z R _ _ _ _ _ _ (λ S w a kind at h i tied. on S w a (fault kind at) (fault kind at) h i (refl, refl) tied)
        (λ S w a h i tied. on S w a yes yes h i tt tied) (λ S w a h i tied. test_both d S l m a h i K L (locals_wider R S w l m same) tied o o' (verdict_within Z R S w K L on))) k k'
    test_both (opposite c) R l m a h i K L same tied o o' on k k' =
        test_both c R l m a h i _ _ same tied
        (verdict_opens s _ _ _ (λ a kind at h. o a (fault kind at) h) (λ a h. o a no h) (λ a h. o a yes h))
        (verdict_opens t _ _ _ (λ a kind at h. o' a (fault kind at) h) (λ a h. o' a no h) (λ a h. o' a yes h))
        (verdict_both Z R _ _ _ _ _ _ (λ S w a kind at h i tied. on S w a (fault kind at) (fault kind at) h i (refl, refl) tied)
        (λ S w a h i tied. on S w a no no h i tt tied) (λ S w a h i tied. on S w a yes yes h i tt tied)) k k'
