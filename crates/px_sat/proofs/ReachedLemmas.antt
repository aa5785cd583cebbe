-- What the steps of a search have decided, and what follows.
use Rattle.std.proofs.Common.{◌≡◌, ℕ, zero, suc, ◌<◌, false, true, List, [], ◌∷◌, ◌++◌, Some, None, is_some, refl, sym, ap, ◌∙◌, subst, length, take, ◌⊎◌, inl, inr, arith}
use Rattle.std.specs.List.{Contains, slice_get}
use Rattle.std.proofs.lemmas.List.{take-append-le, length-append, map-append, get_or_append_left}
use Rattle.std.proofs.Math.Seq.{take-append_seam, get_or-append_seam}
use Rattle.std.proofs.lemmas.Option.{get_or_from_slice_get, slice_get_within}
use Rattle.std.proofs.lemmas.List.Elements.{Contains-push_cases, Contains-get_or, Contains-append_left}
use Rattle.px_cnf.specs.Clauses.{negated, Forced, is_given, by_unit}
use Rattle.px_cnf.specs.declared.literal.Literal.{Literal}
use Rattle.px_sat.specs.declared.step.Step.{Step}
use Rattle.px_sat.specs.Logs.{is_true, is_false, IsDecided, IsKnown, Decides, nothing, next}
use Rattle.px_sat.specs.Steps.{literals, literal_at, IsTrue, IsNew, HasValue, IsReason, AreDistinct, AreSteps, begun, takes, forces, HasNoEmpty, taken, forced}
use Rattle.px_sat.specs.Searches.{MayDecide, IsSearch, IsLastTaken, AreReasons, reason_at}
use Rattle.px_sat.proofs.LiteralLemmas.{same_parts}
use Rattle.px_sat.proofs.StepLemmas.{distinct_more, at_left, at_last, places}
use Rattle.px_sat.proofs.ForceLemmas.{true_last, true_left}
use Rattle.px_sat.proofs.ForcedLemmas.{forced_more, forced_closed, closed_meets}

-- what is true by one step more
pub true_cases : (before : List Step) (s : Step) (l : Literal) → IsTrue (before ++ s ∷ []) l → IsTrue before l ⊎ (s.literal ≡ l)
true_cases before s l t = Contains-push_cases (literals before) s.literal l (subst (λ (ls : List Literal). Contains ls l) (map-append (λ (x : Step). x.literal) before (s ∷ [])) t)

pub distinct_of : {clauses : List (List Literal)} {may : List Step → Literal → Type 0} {steps : List Step} → AreSteps clauses may steps → AreDistinct steps
distinct_of (begun e) = λ p q h. absurd (let g = ap length e in omega arith)
distinct_of (takes before l h new m e) = subst AreDistinct (sym e) (distinct_more before (taken l) (distinct_of h) new)
distinct_of (forces before l at h new r e) = subst AreDistinct (sym e) (distinct_more before (forced l at) (distinct_of h) new)

-- ---- reasons by their places

pub reason_left : (steps us : List Step) (p : ℕ) → p < length steps → reason_at (steps ++ us) p ≡ reason_at steps p
reason_left steps us p h = ap (λ (s : Step). s.reason) (get_or_append_left steps us _ p h)

pub reason_last : (steps : List Step) (s : Step) → reason_at (steps ++ s ∷ []) (length steps) ≡ s.reason
reason_last steps s = ap (λ (t : Step). t.reason) (get_or-append_seam steps s [] _)

pub some_none : {A : Type 0} {x : A} → Some x ≡ None → ⊥
some_none e = let f : true ≡ false = ap is_some e in cc

module _ {clauses : List (List Literal)} (before : List Step) (s : Step) where
  reasons_more : AreReasons clauses before → ((at : ℕ) → s.reason ≡ Some at → IsReason clauses before s.literal at) → AreReasons clauses (before ++ s ∷ [])
  reasons_more h f p at n b = elim (places before s p n) [
    | inl l ↦ subst (λ (k : Literal). IsReason clauses (take p (before ++ s ∷ [])) k at) (sym (at_left before (s ∷ []) p l))
        (subst (λ (ss : List Step). IsReason clauses ss (literal_at before p) at) (sym (take-append-le p before (s ∷ []) (omega arith))) (h p at l (sym (reason_left before (s ∷ []) p l) ∙ b)))
    | inr e ↦ subst (λ k. IsReason clauses (take k (before ++ s ∷ [])) (literal_at (before ++ s ∷ []) k) at) (sym e)
        (subst (λ (k : Literal). IsReason clauses (take (length before) (before ++ s ∷ [])) k at) (sym (at_last before s))
        (subst (λ (ss : List Step). IsReason clauses ss s.literal at) (sym (take-append_seam before (s ∷ [])))
        (f at (sym (reason_last before s) ∙ ap (reason_at (before ++ s ∷ [])) (sym e) ∙ b))))
  ]

pub reasons_of : {clauses : List (List Literal)} {may : List Step → Literal → Type 0} {steps : List Step} → AreSteps clauses may steps → AreReasons clauses steps
reasons_of (begun e) = λ p at n. absurd (let g = ap length e in omega arith)
reasons_of {clauses} (takes before l h new m e) = subst (AreReasons clauses) (sym e) (reasons_more before (taken l) (reasons_of h) (λ at f. absurd (some_none (sym f))))
reasons_of {clauses} (forces before l at h new r e) = subst (AreReasons clauses) (sym e) (reasons_more before (forced l at) (reasons_of h) (λ k f. subst (IsReason clauses before l) (ap (λ o. elim o [ None ↦ at | Some i ↦ i ]) f) r))

-- ---- what is decided

pub record Reached (n : ℕ) (clauses : List (List Literal)) (steps : List Step) : Type 0 where
  pub decided : List ℕ
  pub decides : Decides n clauses decided
  pub sound : (l : Literal) → IsTrue steps l → Forced clauses (IsDecided decided) l
  pub given : (l : Literal) → IsDecided decided l → IsTrue steps l

-- a step that a clause forces is forced by unit clauses
pub sound_forced : {clauses : List (List Literal)} {given : Literal → Type 0} (before : List Step) (l : Literal) (at : ℕ) → ((k : Literal) → IsTrue before k → Forced clauses given k) → IsReason clauses before l at
    → (k : Literal) → IsTrue (before ++ forced l at ∷ []) k → Forced clauses given k
sound_forced {clauses} {given} before l at h r k t = elim (true_cases before (forced l at) k t) [
  | inl a ↦ h k a
  | inr e ↦ subst (Forced clauses given) e (by_unit r.clause (found_in clauses r.clause at r.stands) r.there (λ m c d. h (negated m) (r.others m c d)))
]
  where
    found_in : (cs : List (List Literal)) (c : List Literal) (i : ℕ) → slice_get cs i ≡ Some c → Contains cs c
    found_in cs c i e = let h = slice_get_within cs i c e in subst (Contains cs) (get_or_from_slice_get cs i c c e) (Contains-get_or cs i c h)

decided_more : (x : ℕ) (decided : List ℕ) (l : Literal) → IsDecided decided l → IsDecided (x ∷ decided) l
decided_more x decided l (f, (k, h, e)) = (f, (suc k, omega arith, e))

module _ (n : ℕ) (clauses : List (List Literal)) (before : List Step) (l : Literal)
    (distinct : AreDistinct before) (new : IsNew before l) (m : MayDecide n clauses before l) (filled : HasNoEmpty clauses) (h : Reached n clauses before) where
  pub its_literal : l ≡ is_false l.variable
  its_literal = same_parts l (is_false l.variable) refl m.negative

  known : (y : ℕ) → HasValue before y → IsKnown clauses h.decided y
  known y (inl t) = inl (h.sound (is_true y) t)
  known y (inr t) = inr (h.sound (is_false y) t)

  unknown : IsKnown clauses h.decided l.variable → ⊥
  unknown (inl f) = new (is_true l.variable) (forced_closed before m.closed h.given f) refl
  unknown (inr f) = new (is_false l.variable) (forced_closed before m.closed h.given f) refl

  pub decides_next : Decides n clauses (l.variable ∷ h.decided)
  decides_next = next l.variable h.decided h.decides (closed_meets before m.closed distinct filled h.given) m.inside unknown (λ y a. known y (m.least y a))

  pub sound_next : (k : Literal) → IsTrue (before ++ taken l ∷ []) k → Forced clauses (IsDecided (l.variable ∷ h.decided)) k
  sound_next k t = elim (true_cases before (taken l) k t) [
    | inl a ↦ forced_more (decided_more l.variable h.decided) (h.sound k a)
    | inr e ↦ subst (Forced clauses (IsDecided (l.variable ∷ h.decided))) e (is_given (m.negative, (0, omega arith, refl)))
  ]

  pub given_next : (k : Literal) → IsDecided (l.variable ∷ h.decided) k → IsTrue (before ++ taken l ∷ []) k
  given_next k (f, (zero, a, e)) = subst (IsTrue (before ++ taken l ∷ [])) (its_literal ∙ sym (same_parts k (is_false l.variable) (sym e) f)) (true_last before (taken l))
  given_next k (f, (suc i, a, e)) = subst (λ (ls : List Literal). Contains ls k) (sym (map-append (λ (s : Step). s.literal) before (taken l ∷ [])))
      (Contains-append_left (literals before) (l ∷ []) k (h.given k (f, (i, omega arith, e))))

pub reached : {n : ℕ} {clauses : List (List Literal)} {steps : List Step} → HasNoEmpty clauses → IsSearch n clauses steps → Reached n clauses steps
reached filled (begun e) = record { decided = []; decides = nothing; sound = λ l t. absurd (let f = ap length (ap literals e) in let (i, h, _) = t in omega arith); given = λ l (f, (i, h, e)). absurd (omega arith) }
reached {n} {clauses} filled (takes before l h new m e) =
    let d = distinct_of h in let r = reached filled h in
    subst (Reached n clauses) (sym e) (record { decided = l.variable ∷ r.decided; decides = decides_next n clauses before l d new m filled r; sound = sound_next n clauses before l d new m filled r; given = given_next n clauses before l d new m filled r })
reached {n} {clauses} filled (forces before l at h new r e) =
    let q = reached filled h in
    subst (Reached n clauses) (sym e) (record { decided = q.decided; decides = q.decides; sound = sound_forced before l at q.sound r; given = λ k g. true_left before (forced l at ∷ []) k (q.given k g) })

-- ---- the last decision

pub record LastTurn (n : ℕ) (clauses : List (List Literal)) (steps : List Step) (start : ℕ) : Type 0 where
  pub negative : literal_at steps start ≡ is_false (literal_at steps start).variable
  pub decided : List ℕ
  pub decides : Decides n clauses ((literal_at steps start).variable ∷ decided)
  pub sound : (l : Literal) → IsTrue steps l → Forced clauses (IsDecided ((literal_at steps start).variable ∷ decided)) l
  pub before : (l : Literal) → IsTrue (take start steps) l → Forced clauses (IsDecided decided) l

last_more : (n : ℕ) (clauses : List (List Literal)) (before : List Step) (l : Literal) (at start : ℕ) → start < length before → IsReason clauses before l at → LastTurn n clauses before start → LastTurn n clauses (before ++ forced l at ∷ []) start
last_more n clauses before l at start i r h =
    let e = at_left before (forced l at ∷ []) start i in
    let x = ap (λ (k : Literal). k.variable) e in record {
      negative = e ∙ h.negative ∙ ap is_false (sym x);
      decided = h.decided;
      decides = subst (λ y. Decides n clauses (y ∷ h.decided)) (sym x) h.decides;
      sound = subst (λ y. (k : Literal) → IsTrue (before ++ forced l at ∷ []) k → Forced clauses (IsDecided (y ∷ h.decided)) k) (sym x) (sound_forced before l at h.sound r);
      before = subst (λ (ss : List Step). (k : Literal) → IsTrue ss k → Forced clauses (IsDecided h.decided) k) (sym (take-append-le start before (forced l at ∷ []) (omega arith))) h.before;
    }

last_here : (n : ℕ) (clauses : List (List Literal)) (before : List Step) (l : Literal) → AreDistinct before → IsNew before l → MayDecide n clauses before l → HasNoEmpty clauses → Reached n clauses before → LastTurn n clauses (before ++ taken l ∷ []) (length before)
last_here n clauses before l d new m filled r =
    let e = at_last before (taken l) in
    let x = ap (λ (k : Literal). k.variable) e in record {
      negative = e ∙ its_literal n clauses before l d new m filled r ∙ ap is_false (sym x);
      decided = r.decided;
      decides = subst (λ y. Decides n clauses (y ∷ r.decided)) (sym x) (decides_next n clauses before l d new m filled r);
      sound = subst (λ y. (k : Literal) → IsTrue (before ++ taken l ∷ []) k → Forced clauses (IsDecided (y ∷ r.decided)) k) (sym x) (sound_next n clauses before l d new m filled r);
      before = subst (λ (ss : List Step). (k : Literal) → IsTrue ss k → Forced clauses (IsDecided r.decided) k) (sym (take-append_seam before (taken l ∷ []))) r.sound;
    }

-- the last step that was taken is the last of all, or of those before a forced one
last_is_here : (before : List Step) (l : Literal) (start : ℕ) → IsLastTaken (before ++ taken l ∷ []) start → start ≡ length before
last_is_here before l start h = elim (places before (taken l) start h.inside) [
  | inl a ↦ absurd (h.after (length before) a (let e = length-append before (taken l ∷ []) in let f : length (taken l ∷ []) ≡ 1 = refl in omega arith) (reason_last before (taken l)))
  | inr e ↦ e
]

last_is_before : (before : List Step) (l : Literal) (at start : ℕ) → IsLastTaken (before ++ forced l at ∷ []) start → (start < length before) × IsLastTaken before start
last_is_before before l at start h =
    let lengths = length-append before (forced l at ∷ []) in let one : length (forced l at ∷ []) ≡ 1 = refl in
    let i : start < length before = elim (places before (forced l at) start h.inside) [
      | inl a ↦ a
      | inr e ↦ absurd (some_none (sym (reason_last before (forced l at)) ∙ ap (reason_at (before ++ forced l at ∷ [])) (sym e) ∙ h.taken))
    ] in (
      i,
      record {
        inside = i;
        taken = sym (reason_left before (forced l at ∷ []) start i) ∙ h.taken;
        after = λ q a b c. h.after q a (omega arith) (reason_left before (forced l at ∷ []) q b ∙ c);
      },
    )

pub last_turn : {n : ℕ} {clauses : List (List Literal)} {steps : List Step} (start : ℕ) → HasNoEmpty clauses → IsSearch n clauses steps → IsLastTaken steps start → LastTurn n clauses steps start
last_turn start filled (begun e) h = absurd (let i = h.inside in let f = ap length e in omega arith)
last_turn {n} {clauses} start filled (takes before l h new m e) t =
    let u = subst (λ (ss : List Step). IsLastTaken ss start) e t in
    subst (λ (ss : List Step). LastTurn n clauses ss start) (sym e)
    (subst (LastTurn n clauses (before ++ taken l ∷ [])) (sym (last_is_here before l start u)) (last_here n clauses before l (distinct_of h) new m filled (reached filled h)))
last_turn {n} {clauses} start filled (forces before l at h new r e) t =
    let (i, u) = last_is_before before l at start (subst (λ (ss : List Step). IsLastTaken ss start) e t) in
    subst (λ (ss : List Step). LastTurn n clauses ss start) (sym e) (last_more n clauses before l at start i r (last_turn start filled h u))
