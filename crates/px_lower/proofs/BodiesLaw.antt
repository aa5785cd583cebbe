-- Whole bodies keep to types, and are well-formed.
use Rattle.std.proofs.Common.{◌≡◌, ◌∙◌, ℕ, zero, suc, ◌<◌, ◌≤◌, true, false, List, [], ◌∷◌, ◌++◌, Option, None, Some, length, map, option_map, slice_get, slice_index_or, refl, sym, ap, subst, arith, le_refl, length-append}
use Rattle.std.proofs.lemmas.List.{length-map}
use Rattle.std.proofs.lemmas.Option.{none-some, same_Some, slice_get_within}
use Rattle.std.specs.Prelude.{IfOk, IsSomeAnd, Result, Ok, Err}
use Rattle.px_core.specs.declared.body.Body.{Body}
use Rattle.px_core.specs.BodyTree.{BodyTree, body_tree}
use Rattle.px_core.specs.WellFormed.{Outside, IsWellFormedBody}
use Rattle.px_core.specs.Constants.{HasConstantsInRange}
use Rattle.px_syntax.specs.ProgramTree.{ProcedureTree}
use Rattle.px_meaning.specs.Values.{ValueType, Int}
use Rattle.px_meaning.specs.CoreTypes.{IsTypedBody}
use Rattle.px_meaning.specs.TypedProgram.{TypedProgram}
use Rattle.px_meaning.specs.TreeTypes.{local_types, IsTypedProcedure, KeepsTyping}
use Rattle.px_lower.specs.declared.fault.LowerFault.{LowerFault}
use Rattle.px_lower.specs.LoweredProgram.{AnswersOf, locals_of, lowered, lowered_program}
use Rattle.px_lower.specs.BodiesKeep.{BodiesKeep, IsTypedAndWellFormed}
use Rattle.px_lower.specs.Lowering.{lowered_statement}
use Rattle.px_lower.proofs.NewSlots.{NewSlot, holding, past_grows, Follows}
use Rattle.px_lower.proofs.GoodCommands.{All, Any, Good, statement_good}
use Rattle.px_lower.proofs.RangeCommands.{statement_kept}

-- the slots of a body, by their numbers
abbrev kind_at : List NewSlot → ℕ → NewSlot
kind_at all i = slice_index_or all i (holding Int)

shifted : (y : NewSlot) (ys : List NewSlot) (n : ℕ) (xs : List NewSlot) → Follows (kind_at ys) n xs → Follows (kind_at (y ∷ ys)) (suc n) xs
shifted y ys n [] h = tt
shifted y ys n (x ∷ xs) h = (h.0, shifted y ys (suc n) xs h.1)

follows_after : (before xs : List NewSlot) → Follows (kind_at (before ++ xs)) (length before) xs
follows_after [] [] = tt
follows_after [] (x ∷ xs) = (refl, shifted x xs 0 xs (follows_after [] xs))
follows_after (b ∷ before) xs = shifted b (before ++ xs) (length before) xs (follows_after before xs)

kind_of_local : (ts : List ValueType) (xs : List NewSlot) (i : ℕ) (t : ValueType) → slice_get ts i ≡ Some t → kind_at (map holding ts ++ xs) i ≡ holding t
kind_of_local [] xs i t e = absurd (none-some t e)
kind_of_local (u ∷ ts) xs zero t e = ap holding (same_Some u t e)
kind_of_local (u ∷ ts) xs (suc i) t e = kind_of_local ts xs i t e

plain_local : (ts : List ValueType) (xs : List NewSlot) (i : ℕ) → i < length ts → (kind_at (map holding ts ++ xs) i).outcome ≡ false
plain_local [] xs i h = absurd (omega arith)
plain_local (u ∷ ts) xs zero h = refl
plain_local (u ∷ ts) xs (suc i) h = plain_local ts xs i (omega arith)

of_first : (ts us : List ValueType) (i : ℕ) (t : ValueType) → slice_get ts i ≡ Some t → slice_get (ts ++ us) i ≡ Some t
of_first [] us i t e = absurd (none-some t e)
of_first (u ∷ ts) us zero t e = e
of_first (u ∷ ts) us (suc i) t e = of_first ts us i t e

module _ (P : TypedProgram) (p : ProcedureTree) (typed : IsTypedProcedure P p) where
  abbrev locals : List ValueType
  locals = p.parameters ++ p.locals

  abbrev m : ℕ
  m = locals_of p

  low : (i : ℕ) (t : ValueType) → local_types p i ≡ Some t → i < m
  low i t h = subst (λ n. i < n) (length-append p.parameters p.locals) (slice_get_within locals i t h)

  abbrev begins : (ℕ → NewSlot) → ℕ → Type 0
  begins K N = (m ≤ N) × ((i : ℕ) (t : ValueType) → local_types p i ≡ Some t → K i ≡ holding t)

  good : Good P (local_types p) p.result m low Outside begins m (lowered_statement p.body m) (Any P (local_types p) p.result m low)
  good = statement_good P (local_types p) p.result m low false Outside (λ h. let d : false ≡ true = h in cc) begins (λ K N g. g) p.body m typed

  abbrev new : List NewSlot
  new = good.new

  abbrev K : ℕ → NewSlot
  K = kind_at (map holding locals ++ new)

  counted : length (map holding locals) ≡ m
  counted = length-map locals holding ∙ length-append p.parameters p.locals

  follows : Follows K m new
  follows = subst (λ n. Follows K n new) counted (follows_after (map holding locals) new)

  fits : m ≤ (lowered p).slots
  fits = subst (λ n. m ≤ n) good.counts (past_grows m new)

  all_good : All P (local_types p) p.result m low Outside K (lowered p).slots (lowered_statement p.body m).commands
  all_good = (good.good K (lowered p).slots (fits, λ i t e. kind_of_local locals new i t e) (le_refl (lowered p).slots) follows).0

  body_typed : IsTypedBody (lowered_program P) (lowered p)
  body_typed = record {
    slots = λ i. (K i).type;
    parameters = λ n t e. ap (λ (k : NewSlot). k.type) (kind_of_local locals new n t (of_first p.parameters p.locals n t e));
    commands = all_good.0;
  }

  all_plain : (i : ℕ) → i < m → (K i).outcome ≡ false
  all_plain i h = plain_local locals new i (subst (λ n. i < n) (sym (length-append p.parameters p.locals)) h)

  body_well_formed : IsWellFormedBody (lowered p)
  body_well_formed =
      let N = (lowered p).slots in
      let le : m ≤ N = fits in record {
        outcome = λ i. (K i).outcome;
        room = omega arith;
        parameters = λ n h. all_plain n (omega arith);
        commands = all_good.1;
      }

of_body : (P : TypedProgram) (X : BodyTree → Type 0) (o : Option ProcedureTree) → ((p : ProcedureTree) → o ≡ Some p → X (lowered p)) → (b : BodyTree) → option_map lowered o ≡ Some b → X b
of_body P X None f b e = absurd (none-some b e)
of_body P X (Some p) f b e = subst X (same_Some (lowered p) b e) (f p refl)

pub bodies : BodiesKeep
bodies = record {
  types = λ P typed f b e. of_body P (IsTypedBody (lowered_program P)) (P.procedures f) (λ p is. body_typed P p (typed f p is)) b e;
  well_formed = λ P typed f b e. of_body P IsWellFormedBody (P.procedures f) (λ p is. body_well_formed P p (typed f p is)) b e;
  ranges = λ P typed f b e. of_body P HasConstantsInRange (P.procedures f) (λ p is. (statement_kept P (local_types p) p.result false p.body (locals_of p) (typed f p is)).commands) b e;
}

-- so does what is answered
pub answer_keeps : (P : TypedProgram) (f : ℕ) (o : Option BodyTree) (r : Result Body LowerFault) → (lowered_program P).bodies f ≡ o → IsSomeAnd o (λ b. AnswersOf b r) → KeepsTyping P →
    IfOk r (λ body. IsTypedAndWellFormed P (body_tree body))
answer_keeps P f None r e h typed = absurd h
answer_keeps P f (Some b) (Ok body) e h typed = (
  subst (IsTypedBody (lowered_program P)) (sym h.0) (bodies.types P typed f b e),
  subst IsWellFormedBody (sym h.0) (bodies.well_formed P typed f b e),
)
answer_keeps P f (Some b) (Err x) e h typed = tt

-- and so are its constants
pub answer_in_range : (P : TypedProgram) (f : ℕ) (o : Option BodyTree) (r : Result Body LowerFault) → (lowered_program P).bodies f ≡ o → IsSomeAnd o (λ b. AnswersOf b r) → KeepsTyping P →
    IfOk r (λ body. HasConstantsInRange (body_tree body))
answer_in_range P f None r e h typed = absurd h
answer_in_range P f (Some b) (Ok body) e h typed = subst HasConstantsInRange (sym h.0) (bodies.ranges P typed f b e)
answer_in_range P f (Some b) (Err x) e h typed = tt
