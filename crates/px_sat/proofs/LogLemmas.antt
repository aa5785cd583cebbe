-- Logs that grow, and values that meet all clauses.
use Rattle.std.proofs.Common.{◌≡◌, ◌≢◌, ℕ, suc, ◌+◌, ◌<◌, Bool, true, false, not, cond, ◌||◌, ◌&&◌, List, [], ◌∷◌, ◌++◌, ◌↔◌, refl, sym, ap, ◌∙◌, subst, length, get_or, ◌⊎◌, inl, inr, arith}
use Rattle.std.specs.List.{Contains, list_any, list_all}
use Rattle.std.proofs.lemmas.Bool.{cases_lt}
use Rattle.std.proofs.lemmas.List.{append-nil, append_assoc, length-append, get_or_append_left}
use Rattle.std.proofs.Math.Seq.{get_or-append_seam}
use Rattle.std.proofs.lemmas.List.Elements.{All-nil, All-contains}
use Rattle.px_cnf.specs.Clauses.{negated, holds, is_met, Meets, Forced, AreBelow, AreClausesBelow}
use Rattle.px_cnf.specs.declared.literal.Literal.{Literal}
use Rattle.px_sat.specs.declared.step.Step.{Step}
use Rattle.px_sat.specs.Logs.{is_true, is_false, IsClause, Follows, IsLog, IsTurn, AreTurns}
use Rattle.px_sat.specs.Steps.{IsTrue, HasValue, IsClosed, AreDistinct, HasNoEmpty}
use Rattle.px_sat.specs.Searches.{Extends, same, more}
use Rattle.px_sat.specs.Verdicts.{assigned, AreValues}
use Rattle.px_sat.proofs.LiteralLemmas.{same_parts}
use Rattle.px_sat.proofs.StepLemmas.{not_both}
use Rattle.px_sat.proofs.ReachedLemmas.{sound_forced}
use Rattle.px_sat.proofs.BackLemmas.{contains_head}

pub log_more : (n : ℕ) (clauses log : List (List Literal)) (clause : List Literal) → IsLog n clauses log → IsClause n clause → Follows (clauses ++ log) clause → IsLog n clauses (log ++ clause ∷ [])
log_more n clauses [] clause h k f = (k, subst (λ (cs : List (List Literal)). Follows cs clause) (append-nil clauses) f, tt)
log_more n clauses (c ∷ log) clause (a, b, h) k f = (a, b, log_more n (clauses ++ c ∷ []) log clause h k (subst (λ (cs : List (List Literal)). Follows cs clause) (sym (append_assoc clauses (c ∷ []) log)) f))

pub turns_more : (n : ℕ) (clauses log : List (List Literal)) (clause : List Literal) → AreTurns n clauses log → IsTurn n (clauses ++ log) clause → AreTurns n clauses (log ++ clause ∷ [])
turns_more n clauses [] clause h f = (subst (λ (cs : List (List Literal)). IsTurn n cs clause) (append-nil clauses) f, tt)
turns_more n clauses (c ∷ log) clause (a, h) f = (a, turns_more n (clauses ++ c ∷ []) log clause h (subst (λ (cs : List (List Literal)). IsTurn n cs clause) (sym (append_assoc clauses (c ∷ []) log)) f))

pub extended_sound : {clauses : List (List Literal)} {given : Literal → Type 0} {old new : List Step} → Extends clauses old new → ((l : Literal) → IsTrue old l → Forced clauses given l) → (l : Literal) → IsTrue new l → Forced clauses given l
extended_sound {clauses} {given} (same e) h = subst (λ (ss : List Step). (l : Literal) → IsTrue ss l → Forced clauses given l) (sym e) h
extended_sound {clauses} {given} (more before l at g n r e) h = subst (λ (ss : List Step). (k : Literal) → IsTrue ss k → Forced clauses given k) (sym e) (sound_forced before l at (extended_sound g h) r)

pub empty_clause : (n : ℕ) → IsClause n []
empty_clause n = (All-nil (λ (l : Literal). l.variable < n), tt)

-- ---- every variable has a value

or_true : (b : Bool) → (b || true) ≡ true
or_true true = refl
or_true false = refl

not_true : (b : Bool) → b ≢ true → b ≡ false
not_true true h = absurd (h refl)
not_true false h = refl

module _ (n : ℕ) (steps : List Step) (values : List Bool) (distinct : AreDistinct steps) (v : AreValues steps n values) where
  holds_true : (l : Literal) → l.variable < n → IsTrue steps l → holds (assigned values) l ≡ true
  holds_true l h t = by_sign l.positive refl
    where
      by_sign : (b : Bool) → l.positive ≡ b → holds (assigned values) l ≡ true
      by_sign true e = ap (λ p. cond p (assigned values l.variable) (not (assigned values l.variable))) e ∙ (v.each l.variable h).1 (subst (IsTrue steps) (same_parts l (is_true l.variable) refl e) t)
      by_sign false e = ap (λ p. cond p (assigned values l.variable) (not (assigned values l.variable))) e
          ∙ ap not (not_true (assigned values l.variable) (λ f. not_both steps (is_true l.variable) distinct ((v.each l.variable h).0 f) (subst (IsTrue steps) (same_parts l (is_false l.variable) refl e) t)))

  side_of : (l : Literal) → HasValue steps l.variable → IsTrue steps l ⊎ IsTrue steps (negated l)
  side_of l h = by_sign l.positive refl h
    where
      by_sign : (b : Bool) → l.positive ≡ b → HasValue steps l.variable → IsTrue steps l ⊎ IsTrue steps (negated l)
      by_sign true e (inl t) = inl (subst (IsTrue steps) (sym (same_parts l (is_true l.variable) refl e)) t)
      by_sign true e (inr t) = inr (subst (IsTrue steps) (sym (same_parts (negated l) (is_false l.variable) refl (ap not e))) t)
      by_sign false e (inl t) = inr (subst (IsTrue steps) (sym (same_parts (negated l) (is_true l.variable) refl (ap not e))) t)
      by_sign false e (inr t) = inl (subst (IsTrue steps) (sym (same_parts l (is_false l.variable) refl e)) t)

  -- some literal is true, or all are false
  some_or_none : (c : List Literal) → ((x : ℕ) → x < n → HasValue steps x) → ((m : Literal) → Contains c m → m.variable < n) → (list_any (holds (assigned values)) c ≡ true) ⊎ ((m : Literal) → Contains c m → IsTrue steps (negated m))
  some_or_none [] known below = inr (λ m (i, h, e). absurd (omega arith))
  some_or_none (l ∷ ls) known below = elim (side_of l (known l.variable (below l (0, omega arith, refl)))) [
    | inl t ↦ inl (ap (λ b. b || list_any (holds (assigned values)) ls) (holds_true l (below l (0, omega arith, refl)) t))
    | inr f ↦ (elim (some_or_none ls known (λ m (i, h, e). below m (suc i, omega arith, e))) [
      | inl g ↦ inl (ap (λ b. holds (assigned values) l || b) g ∙ or_true (holds (assigned values) l))
      | inr g ↦ inr (λ m c. elim (contains_head l ls m c) [ inl e ↦ subst (λ k. IsTrue steps (negated k)) e f | inr k ↦ g m k ])
    ])
  ]

  met : (clauses : List (List Literal)) → IsClosed clauses steps → HasNoEmpty clauses → ((x : ℕ) → x < n → HasValue steps x) → (c : List Literal) → Contains clauses c → ((m : Literal) → Contains c m → m.variable < n) → is_met (assigned values) c ≡ true
  met clauses closed filled known [] k below = absurd (filled k)
  met clauses closed filled known (l ∷ ls) k below = elim (some_or_none (l ∷ ls) known below) [
    | inl e ↦ e
    | inr f ↦ (let here : Contains (l ∷ ls) l = (0, omega arith, refl) in absurd (not_both steps l distinct (closed (l ∷ ls) k l here (λ m c d. f m c)) (f l here)))
  ]

  pub all_met : (clauses some : List (List Literal)) → IsClosed clauses steps → HasNoEmpty clauses → AreClausesBelow n clauses → ((x : ℕ) → x < n → HasValue steps x) → ((c : List Literal) → Contains some c → Contains clauses c) → Meets (assigned values) some
  all_met clauses some closed filled below known f = each_met some (λ c k. met clauses closed filled known c (f c k) (λ m a. All-contains (λ (l : Literal). l.variable < n) c m (All-contains (AreBelow n) clauses c below (f c k)) a))
    where
      each_met : (cs : List (List Literal)) → ((c : List Literal) → Contains cs c → is_met (assigned values) c ≡ true) → list_all (is_met (assigned values)) cs ≡ true
      each_met [] g = refl
      each_met (c ∷ cs) g = ap (λ b. b && list_all (is_met (assigned values)) cs) (g c (0, omega arith, refl)) ∙ each_met cs (λ d (i, h, e). g d (suc i, omega arith, e))

pub no_values : (steps : List Step) → AreValues steps 0 []
no_values steps = record { all = refl; each = λ x h. absurd (omega arith) }

pub values_more : (steps : List Step) (n : ℕ) (values : List Bool) (b : Bool) → AreValues steps n values → (b ≡ true ↔ IsTrue steps (is_true n)) → AreValues steps (n + 1) (values ++ b ∷ [])
values_more steps n values b v f = record {
  all = (let e = length-append values (b ∷ []) in let g : length (b ∷ []) ≡ 1 = refl in let a = v.all in omega arith);
  each = λ x h. elim (cases_lt x n) [
    | inl l ↦ subst (λ z. (z ≡ true) ↔ IsTrue steps (is_true x)) (sym (get_or_append_left values (b ∷ []) false x (let a = v.all in omega arith))) (v.each x l)
    | inr l ↦ (let e : n ≡ x = omega arith in
        subst (λ z. (z ≡ true) ↔ IsTrue steps (is_true x)) (sym (ap (λ i. get_or (values ++ b ∷ []) i false) (sym e ∙ sym v.all) ∙ get_or-append_seam values b [] false))
        (subst (λ y. (b ≡ true) ↔ IsTrue steps (is_true y)) e f))
  ];
}
