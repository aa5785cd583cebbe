-- The turns of a search, one after another.
use Rattle.std.proofs.Common.{◌≡◌, ◌≢◌, ℕ, ◌+◌, true, false, List, [], ◌∷◌, ◌++◌, Option, None, Some, IfSome, is_some, refl, sym, ap, ◌∙◌, subst, length, inl, inr, arith}
use Rattle.std.specs.List.{Contains, All}
use Rattle.std.proofs.lemmas.List.{append_assoc, length-append}
use Rattle.std.proofs.lemmas.List.Elements.{All-append, All-cons, All-nil, Contains-push_cases}
use Rattle.px_cnf.specs.Clauses.{AreBelow, AreClausesBelow, IsFalsified}
use Rattle.px_cnf.specs.declared.literal.Literal.{Literal}
use Rattle.px_sat.specs.declared.step.Step.{Step}
use Rattle.px_sat.specs.Logs.{Follows, IsTurn, IsSearchLog, nothing}
use Rattle.px_sat.specs.Steps.{IsFalseAt, HasNoEmpty}
use Rattle.px_sat.specs.Searches.{Extends, IsTurned}
use Rattle.px_sat.specs.declared.deciding.Point.{Point}
use Rattle.px_sat.specs.Verdicts.{EndsEmpty}
use Rattle.px_sat.proofs.TurnLemmas.{conflict_falsifies}
use Rattle.px_sat.proofs.LogLemmas.{log_more, turns_more, extended_sound, empty_clause}

pub some_of : {A : Type 0} {P : A → Type 0} (o : Option A) → is_some o ≡ true → IfSome o P → (x : A) × P x
some_of None e h = let f : false ≡ true = e in cc
some_of (Some x) e h = (x, h)

pub begin_falsifies : {clauses : List (List Literal)} {given : Literal → Type 0} (steps : List Step) (at : ℕ) → Extends clauses [] steps → IsFalseAt clauses steps at → IsFalsified clauses given
begin_falsifies steps at g h = conflict_falsifies steps at (extended_sound g (λ l (i, a, e). absurd (omega arith))) h

-- nothing was decided, and some clause is false
pub ended_at_once : (n : ℕ) (clauses : List (List Literal)) (steps : List Step) (at : ℕ) → Extends clauses [] steps → IsFalseAt clauses steps at → IsSearchLog n clauses ([] ∷ []) × EndsEmpty ([] ∷ [])
ended_at_once n clauses steps at g h =
    (((empty_clause n, begin_falsifies steps at g h, tt), (record { decided = []; decides = nothing; falsified = begin_falsifies steps at g h; turns = refl }, tt)), ([], refl))

module _ (n : ℕ) (clauses log : List (List Literal)) where
  pub ended : IsSearchLog n clauses log → Follows (clauses ++ log) [] → IsTurn n (clauses ++ log) [] → IsSearchLog n clauses (log ++ [] ∷ []) × EndsEmpty (log ++ [] ∷ [])
  ended h f t = ((log_more n clauses log [] h.0 (empty_clause n) f, turns_more n clauses log [] h.1 t), (log, refl))

  module _ (new next : List (List Literal)) (steps : List Step) (point : Point) (t : IsTurned n (clauses ++ log) new log next steps point) where
    pub logged_next : IsSearchLog n clauses log → IsSearchLog n clauses next
    logged_next h = subst (IsSearchLog n clauses) (sym t.logged) (log_more n clauses log t.clause h.0 t.is_clause t.follows, turns_more n clauses log t.clause h.1 t.turns)

    pub clauses_next : new ≡ clauses ++ next
    clauses_next = t.clauses ∙ append_assoc clauses log (t.clause ∷ []) ∙ ap (λ l. clauses ++ l) (sym t.logged)

    pub count_next : (k : ℕ) → length log ≡ k → length next ≡ k + 1
    count_next k e = let f = ap length t.logged ∙ length-append log (t.clause ∷ []) in let g : length (t.clause ∷ []) ≡ 1 = refl in omega arith

    pub some_next : All (λ c. c ≢ []) log → All (λ c. c ≢ []) next
    some_next h = subst (All (λ c. c ≢ [])) (sym t.logged) (All-append (λ c. c ≢ []) log (t.clause ∷ []) h (All-cons (λ c. c ≢ []) t.clause [] t.some (All-nil (λ c. c ≢ []))))

    pub below_next : AreClausesBelow n (clauses ++ log) → AreClausesBelow n new
    below_next h = subst (AreClausesBelow n) (sym t.clauses) (All-append (AreBelow n) (clauses ++ log) (t.clause ∷ []) h (All-cons (AreBelow n) t.clause [] t.is_clause.0 (All-nil (AreBelow n))))

    pub filled_next : HasNoEmpty (clauses ++ log) → HasNoEmpty new
    filled_next h c = elim (Contains-push_cases (clauses ++ log) t.clause [] (subst (λ (cs : List (List Literal)). Contains cs []) t.clauses c)) [
      | inl a ↦ h a
      | inr e ↦ t.some e
    ]
