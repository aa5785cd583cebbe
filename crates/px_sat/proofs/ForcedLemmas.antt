-- What unit clauses force, and steps that are closed under it.
use Rattle.std.proofs.Common.{List, [], ◌∷◌, refl, arith}
use Rattle.std.specs.List.{Contains}
use Rattle.px_cnf.specs.Clauses.{negated, Forced, is_given, by_unit, IsFalsified}
use Rattle.px_cnf.specs.declared.literal.Literal.{Literal}
use Rattle.px_sat.specs.declared.step.Step.{Step}
use Rattle.px_sat.specs.Steps.{IsTrue, IsClosed, AreDistinct, HasNoEmpty}
use Rattle.px_sat.proofs.StepLemmas.{not_both}

pub forced_more : {clauses : List (List Literal)} {given known : Literal → Type 0} → ((l : Literal) → given l → known l) → {l : Literal} → Forced clauses given l → Forced clauses known l
forced_more f {l} (is_given g) = is_given (f l g)
forced_more f (by_unit clause c m others) = by_unit clause c m (λ k n d. forced_more f (others k n d))

pub forced_by_more : {clauses all : List (List Literal)} {given : Literal → Type 0} → ((c : List Literal) → Contains clauses c → Contains all c) → {l : Literal} → Forced clauses given l → Forced all given l
forced_by_more f (is_given g) = is_given g
forced_by_more f (by_unit clause c m others) = by_unit clause (f clause c) m (λ k n d. forced_by_more f (others k n d))

pub falsified_more : {clauses : List (List Literal)} {given known : Literal → Type 0} → ((l : Literal) → given l → known l) → IsFalsified clauses given → IsFalsified clauses known
falsified_more f h = record { clause = h.clause; stands = h.stands; is_false = λ m c. forced_more f (h.is_false m c) }

pub falsified_by_more : {clauses all : List (List Literal)} {given : Literal → Type 0} → ((c : List Literal) → Contains clauses c → Contains all c) → IsFalsified clauses given → IsFalsified all given
falsified_by_more f h = record { clause = h.clause; stands = f h.clause h.stands; is_false = λ m c. forced_by_more f (h.is_false m c) }

-- closed steps have all that unit clauses force
pub forced_closed : {clauses : List (List Literal)} {given : Literal → Type 0} (steps : List Step) → IsClosed clauses steps → ((l : Literal) → given l → IsTrue steps l) → {l : Literal} → Forced clauses given l → IsTrue steps l
forced_closed steps closed f {l} (is_given g) = f l g
forced_closed steps closed f {l} (by_unit clause c m others) = closed clause c l m (λ k n d. forced_closed steps closed f (others k n d))

-- and make no clause false
pub closed_meets : {clauses : List (List Literal)} {given : Literal → Type 0} (steps : List Step) → IsClosed clauses steps → AreDistinct steps → HasNoEmpty clauses → ((l : Literal) → given l → IsTrue steps l) → IsFalsified clauses given → ⊥
closed_meets {clauses} {given} steps closed distinct filled f h = by_first h.clause h.stands (λ m c. forced_closed steps closed f (h.is_false m c))
  where
    by_first : (clause : List Literal) → Contains clauses clause → ((m : Literal) → Contains clause m → IsTrue steps (negated m)) → ⊥
    by_first [] c g = filled c
    by_first (l ∷ ls) c g =
        let here : Contains (l ∷ ls) l = (0, omega arith, refl) in
        not_both steps l distinct (closed (l ∷ ls) c l here (λ k n d. g k n)) (g l here)
