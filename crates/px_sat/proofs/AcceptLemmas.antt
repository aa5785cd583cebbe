-- Clauses of a log that are checked.
use Rattle.std.proofs.Common.{◌≡◌, ◌≢◌, ℕ, zero, suc, ◌+◌, ◌<◌, ◌≤◌, List, [], ◌∷◌, ◌++◌, Some, refl, sym, ap, ◌∙◌, subst, length, take, get_or, ◌⊎◌, inl, inr, arith}
use Rattle.std.specs.List.{Contains, slice_get}
use Rattle.std.proofs.lemmas.List.{take_more, take_all, take-append-le, append_assoc, append-nil, length-append}
use Rattle.std.proofs.lemmas.List.Elements.{All-contains, Contains-append_left, Contains-push, Contains-push_cases, Contains-get_or}
use Rattle.px_cnf.specs.Clauses.{negated, Forced, is_given}
use Rattle.px_cnf.specs.declared.literal.Literal.{Literal}
use Rattle.px_sat.specs.declared.step.Step.{Step}
use Rattle.px_sat.specs.Logs.{IsDenied, Follows, AreApart, IsClause, IsLog}
use Rattle.px_sat.specs.Steps.{literals, IsTrue, IsNew, AreSteps, begun, takes, forces, IsReason, ForcesWithin, IsClosedTo, IsFalseAt, HasNoEmpty, taken, forced}
use Rattle.px_sat.specs.Searches.{Extends, same, more}
use Rattle.px_sat.specs.Denials.{IsBase, IsSetFalse, Denies, none_yet, one_more, AreFalse, SomeTrue}
use Rattle.px_sat.proofs.LiteralLemmas.{sides, same_or_not, negated_twice}
use Rattle.px_sat.proofs.ListLemmas.{each_more}
use Rattle.px_sat.proofs.ForceLemmas.{true_left, true_last, extends_both, extends_true, forces_more}
use Rattle.px_sat.proofs.PropagateLemmas.{extends_first}
use Rattle.px_sat.proofs.SearchLemmas.{steps_extend}
use Rattle.px_sat.proofs.ForcedLemmas.{falsified_more, falsified_by_more, closed_meets}
use Rattle.px_sat.proofs.ReachedLemmas.{true_cases, sound_forced, distinct_of}
use Rattle.px_sat.proofs.TurnLemmas.{found_in, conflict_falsifies}
use Rattle.px_sat.proofs.BackLemmas.{reason_kept, get_added}
use Rattle.px_sat.proofs.LogLemmas.{extended_sound}
use Rattle.px_sat.proofs.SolveLemmas.{begin_falsifies}

-- ---- one clause more

extends_kept : {clauses : List (List Literal)} {steps : List Step} (clause : List Literal) → Extends clauses [] steps → Extends (clauses ++ clause ∷ []) [] steps
extends_kept clause (same e) = same e
extends_kept {clauses} clause (more before l at h n r e) = more before l at (extends_kept clause h) n (reason_kept clauses clause before l at r) e

module _ (old new : List (List Literal)) (clause : List Literal) (steps : List Step) (e : new ≡ old ++ clause ∷ []) (b : IsBase old steps) where
  pub grown : Extends new [] steps
  grown = subst (λ (cs : List (List Literal)). Extends cs [] steps) (sym e) (extends_kept clause b.extends)

  pub stands_last : (n : ℕ) → n ≡ length old → slice_get new n ≡ Some clause
  stands_last n f = ap (slice_get new) f ∙ ap (λ (cs : List (List Literal)). slice_get cs (length old)) e ∙ get_added old clause

  pub refuted_now : (all : List Step) (at : ℕ) → Extends new steps all → IsFalseAt new all at → Follows new []
  refuted_now all at g h = begin_falsifies all at (extends_both grown g) h

  pub closed_now : (all : List Step) (n : ℕ) → n ≡ length steps → Extends new steps all → ForcesWithin clause steps all → IsClosedTo new (take n all) all
  closed_now all n f g w =
      let first : take n all ≡ steps = ap (λ k. take k all) f ∙ extends_first (length steps) g (omega arith) ∙ take_all (length steps) steps (omega arith) in
      subst (λ (ss : List Step). IsClosedTo new ss all) (sym first) (λ c m. elim (Contains-push_cases old clause c (subst (λ (cs : List (List Literal)). Contains cs c) e m)) [
        | inl a ↦ forces_more c steps steps steps all (λ l t. t) (extends_true g) (b.closed c a)
        | inr q ↦ subst (λ (k : List Literal). ForcesWithin k steps all) q w
      ])

  pub filled_now : clause ≢ [] → HasNoEmpty new
  filled_now d m = elim (Contains-push_cases old clause [] (subst (λ (cs : List (List Literal)). Contains cs []) e m)) [
    | inl a ↦ b.filled a
    | inr q ↦ d q
  ]

-- ---- literals apart

pub apart_at : (ls : List Literal) (i : ℕ) (d m : Literal) → AreApart ls → i < length ls → Contains (take i ls) m → (get_or ls i d).variable ≢ m.variable
apart_at [] i d m h k c = absurd (omega arith)
apart_at (l ∷ ls) zero d m h k (j, n, f) = absurd (omega arith)
apart_at (l ∷ ls) (suc i) d m h k (zero, n, f) = λ e. All-contains (λ x. x.variable ≢ l.variable) ls (get_or ls i d) h.0 (Contains-get_or ls i d (omega arith)) (e ∙ ap (λ (x : Literal). x.variable) (sym f))
apart_at (l ∷ ls) (suc i) d m h k (suc j, n, f) = apart_at ls i d m h.1 (omega arith) (j, omega arith, f)

-- ---- literals are denied

pub denies_first : {clause : List Literal} {old new : List Step} → Denies clause old new → (length old ≤ length new) × (take (length old) new ≡ old)
denies_first {clause} {old} (none_yet e) = (let f = ap length e in omega arith, ap (take (length old)) e ∙ take_all (length old) old (omega arith))
denies_first {clause} {old} (one_more before l h n d e) =
    let r = denies_first h in let f = ap length e ∙ length-append before (taken l ∷ []) in
    (let a = r.0 in omega arith, ap (take (length old)) e ∙ take-append-le (length old) before (taken l ∷ []) r.0 ∙ r.1)

pub denies_true : {clause : List Literal} {old new : List Step} → Denies clause old new → (l : Literal) → IsTrue old l → IsTrue new l
denies_true (none_yet e) l t = subst (λ (ss : List Step). IsTrue ss l) (sym e) t
denies_true (one_more before k h n d e) l t = subst (λ (ss : List Step). IsTrue ss l) (sym e) (true_left before (taken k ∷ []) l (denies_true h l t))

pub denies_steps : {clauses : List (List Literal)} {clause : List Literal} {old new : List Step} → AreSteps clauses (λ _ l. IsDenied clause l) old → Denies clause old new → AreSteps clauses (λ _ l. IsDenied clause l) new
denies_steps {clauses} {clause} h (none_yet e) = subst (AreSteps clauses (λ _ l. IsDenied clause l)) (sym e) h
denies_steps h (one_more before l g n d e) = takes before l (denies_steps h g) n d e

-- what may be taken is given
pub steps_sound : {clauses : List (List Literal)} {given : Literal → Type 0} {steps : List Step} → AreSteps clauses (λ _ l. given l) steps → (l : Literal) → IsTrue steps l → Forced clauses given l
steps_sound (begun e) = λ l t. absurd (let (i, h, _) = t in let g = ap length (ap literals e) in omega arith)
steps_sound {clauses} {given} (takes before k h new m e) = subst (λ (ss : List Step). (l : Literal) → IsTrue ss l → Forced clauses given l) (sym e) (λ l t. elim (true_cases before (taken k) l t) [
  | inl a ↦ steps_sound h l a
  | inr f ↦ subst (Forced clauses given) f (is_given m)
])
steps_sound {clauses} {given} (forces before k at h new r e) = subst (λ (ss : List Step). (l : Literal) → IsTrue ss l → Forced clauses given l) (sym e) (sound_forced before k at (steps_sound h) r)

pub new_negated : (steps : List Step) (l : Literal) → (IsTrue steps l → ⊥) → (IsTrue steps (negated l) → ⊥) → IsNew steps (negated l)
new_negated steps l untrue unfalse m t e = elim (sides m l e) [
  | inl f ↦ untrue (subst (IsTrue steps) f t)
  | inr f ↦ unfalse (subst (IsTrue steps) f t)
]

-- one literal of the clause more
module _ (clause : List Literal) (old : List Step) (i : ℕ) (d : Literal) (h : i < length clause) where
  abbrev pub denied : Literal
  denied = get_or clause i d

  pub denied_next : (mid new : List Step) → Denies clause old mid → AreFalse mid (take i clause) → ((k : Literal) → IsTrue mid k → IsTrue old k ⊎ Contains (take i clause) (negated k)) → IsSetFalse mid denied new
      → Denies clause old new × AreFalse new (take (i + 1) clause) × ((k : Literal) → IsTrue new k → IsTrue old k ⊎ Contains (take (i + 1) clause) (negated k))
  denied_next mid new g all only (inl (e, f)) = (
    subst (Denies clause old) (sym e) g,
    each_more (λ m. IsTrue new (negated m)) clause i d h (λ m c. subst (λ (ss : List Step). IsTrue ss (negated m)) (sym e) (all m c)) (subst (λ (ss : List Step). IsTrue ss (negated denied)) (sym e) f),
    λ k t. elim (only k (subst (λ (ss : List Step). IsTrue ss k) e t)) [
      | inl a ↦ inl a
      | inr c ↦ inr (subst (λ (ls : List Literal). Contains ls (negated k)) (sym (take_more clause i d h)) (Contains-append_left (take i clause) (denied ∷ []) (negated k) c))
    ],
  )
  denied_next mid new g all only (inr (fresh, e)) = (
    one_more mid (negated denied) g fresh (subst (Contains clause) (sym (negated_twice denied)) (Contains-get_or clause i d h)) e,
    each_more (λ m. IsTrue new (negated m)) clause i d h (λ m c. subst (λ (ss : List Step). IsTrue ss (negated m)) (sym e) (true_left mid (taken (negated denied) ∷ []) (negated m) (all m c)))
        (subst (λ (ss : List Step). IsTrue ss (negated denied)) (sym e) (true_last mid (taken (negated denied)))),
    λ k t. elim (true_cases mid (taken (negated denied)) k (subst (λ (ss : List Step). IsTrue ss k) e t)) [
      | inl a ↦ (elim (only k a) [
        | inl b ↦ inl b
        | inr c ↦ inr (subst (λ (ls : List Literal). Contains ls (negated k)) (sym (take_more clause i d h)) (Contains-append_left (take i clause) (denied ∷ []) (negated k) c))
      ])
      | inr f ↦ inr (subst (λ (ls : List Literal). Contains ls (negated k)) (sym (take_more clause i d h)) (subst (Contains (take i clause ++ denied ∷ [])) (sym (negated_twice denied) ∙ ap negated f) (Contains-push (take i clause) denied)))
    ],
  )

-- a literal that is true by what was denied isn't one of the clause
pub true_before : (clause : List Literal) (old mid : List Step) (i : ℕ) (d : Literal) → AreApart clause → i < length clause → ((k : Literal) → IsTrue mid k → IsTrue old k ⊎ Contains (take i clause) (negated k)) → IsTrue mid (get_or clause i d) → SomeTrue old clause
true_before clause old mid i d apart h only t = elim (only (get_or clause i d) t) [
  | inl a ↦ (get_or clause i d, Contains-get_or clause i d h, a)
  | inr c ↦ absurd (apart_at clause i d (negated (get_or clause i d)) apart h c refl)
]

-- ---- a clause follows

module _ (clauses : List (List Literal)) (clause : List Literal) (old : List Step) (b : IsBase clauses old) where
  base_sound : (l : Literal) → IsTrue old l → Forced clauses (IsDenied clause) l
  base_sound = extended_sound b.extends (λ l (i, a, e). absurd (omega arith))

  -- a literal that is true by unit clauses, and denied, makes its reason false
  reason_in : {steps : List Step} → Extends clauses [] steps → (l : Literal) → IsTrue steps l → (before : List Step) × (at : ℕ) × IsReason clauses before l at × ((k : Literal) → IsTrue before k → IsTrue steps k)
  reason_in (same e) l t = absurd (let (i, h, _) = t in let g = ap length (ap literals e) in omega arith)
  reason_in {steps} (more before k at h n r e) l t = elim (true_cases before (forced k at) l (subst (λ (ss : List Step). IsTrue ss l) e t)) [
    | inl a ↦ (let (ss, i, q, f) = reason_in h l a in (ss, i, q, λ x y. subst (λ (zs : List Step). IsTrue zs x) (sym e) (true_left before (forced k at ∷ []) x (f x y))))
    | inr f ↦ (before, at, subst (λ x. IsReason clauses before x at) f r, λ x y. subst (λ (zs : List Step). IsTrue zs x) (sym e) (true_left before (forced k at ∷ []) x y))
  ]

  pub true_follows : SomeTrue old clause → Follows clauses clause
  true_follows (l, c, t) =
      let (before, at, r, f) = reason_in b.extends l t in record {
        clause = r.clause;
        stands = found_in clauses r.clause at r.stands;
        is_false = λ m n. elim (same_or_not m l) [
          | inl e ↦ is_given (subst (Contains clause) (sym (negated_twice m ∙ e)) c)
          | inr d ↦ base_sound (negated m) (f (negated m) (r.others m n d))
        ];
      }

  module _ (mid new : List Step) (h : Denies clause old mid) (all : AreFalse mid clause) (g : Extends clauses mid new) where
    steps_now : AreSteps clauses (λ _ l. IsDenied clause l) new
    steps_now = steps_extend (denies_steps (steps_extend (begun refl) b.extends) h) g

    pub conflict_follows : (at : ℕ) → IsFalseAt clauses new at → Follows clauses clause
    conflict_follows at f = conflict_falsifies new at (steps_sound steps_now) f

    pub closed_not : ((c : List Literal) → Contains clauses c → ForcesWithin c new new) → Follows clauses clause → ⊥
    closed_not closed = closed_meets new closed (distinct_of steps_now) b.filled
        (λ l d. extends_true g l (subst (IsTrue mid) (negated_twice l) (all (negated l) d)))

    pub begins_old : take (length old) new ≡ old
    begins_old = extends_first (length old) g (denies_first h).0 ∙ (denies_first h).1

  pub closed_denied : (mid : List Step) (n : ℕ) → n ≡ length old → Denies clause old mid → IsClosedTo clauses (take n mid) mid
  closed_denied mid n e h = subst (λ (ss : List Step). IsClosedTo clauses ss mid) (sym (ap (λ k. take k mid) e ∙ (denies_first h).1))
      (λ c m. forces_more c old old old mid (λ l t. t) (denies_true h) (b.closed c m))

-- ---- a log, clause by clause

pub log_at : (n : ℕ) (clauses log : List (List Literal)) (i : ℕ) (d : List Literal) → IsLog n clauses log → i < length log → IsClause n (get_or log i d) × Follows (clauses ++ take i log) (get_or log i d)
log_at n clauses [] i d h k = absurd (omega arith)
log_at n clauses (c ∷ log) zero d (a, f, h) k = (a, subst (λ (cs : List (List Literal)). Follows cs c) (sym (append-nil clauses)) f)
log_at n clauses (c ∷ log) (suc i) d (a, f, h) k =
    let r = log_at n (clauses ++ c ∷ []) log i d h (omega arith) in
    (r.0, subst (λ (cs : List (List Literal)). Follows cs (get_or log i d)) (append_assoc clauses (c ∷ []) (take i log)) r.1)

-- once clauses are refuted, so are more, and each clause follows
pub refuted_more : (clauses others : List (List Literal)) → Follows clauses [] → Follows (clauses ++ others) []
refuted_more clauses others h = falsified_by_more (λ c m. Contains-append_left clauses others c m) h

pub refuted_follows : (clauses : List (List Literal)) (clause : List Literal) → Follows clauses [] → Follows clauses clause
refuted_follows clauses clause h = falsified_more (λ l (i, a, e). absurd (omega arith)) h
