-- The events that follow a trace with given inputs are the same for all executions from a heap.
use Rattle.std.proofs.Common.{◌≡◌, ℕ, ℤ, List, [], ◌∷◌, ◌⊎◌, inl, inr, refl, sym, ap, ap₂, subst, ◌∙◌}
use Rattle.std.proofs.Math.Nat.{eq-or-lt_of_le}
use Rattle.std.proofs.lemmas.Bool.{cases_lt}
use Rattle.px_base.specs.declared.trace.Site.{Site}
use Rattle.px_base.specs.declared.trace.Mark.{Mark}
use Rattle.px_base.specs.declared.trace.MarkKind.TheVariants.{Got, Input}
use Rattle.px_meaning.specs.Values.{Value}
use Rattle.px_meaning.specs.Heaps.{HeapMap}
use Rattle.px_meaning.specs.Calls.{Ending}
use Rattle.px_meaning.specs.Events.{Event, marks, reads, makes, mark}
use Rattle.px_meaning.specs.TypedProgram.{TypedProgram}
use Rattle.px_meaning.specs.TreeCalls.{TreeEvents}
use Rattle.px_meaning.proofs.TreeDetermined.{tree_events_agree}
use Rattle.px_replay.specs.Following.{SaysAll, IsLeast, Follows, IsTaken, IsFollowed}

-- the marks of inputs and new blocks don't say all
not_input : (m : Mark) (site : Site) → mark Input site ≡ m → SaysAll m.kind → ⊥
not_input m site e h = subst (λ m. SaysAll m.kind) (sym e) h

not_got : (m : Mark) (site : Site) → mark Got site ≡ m → SaysAll m.kind → ⊥
not_got m site e h = subst (λ m. SaysAll m.kind) (sym e) h

-- an input is no new block
two_kinds : (m : Mark) (site at : Site) → mark Input site ≡ m → mark Got at ≡ m → ⊥
two_kinds m site at e f = let k : Input ≡ Got = ap (λ m. m.kind) (e ∙ sym f) in absurd cc

-- there is one least number
pub one_least : (taken : ℕ → Type 0) (m n : ℕ) → IsLeast taken m → IsLeast taken n → m ≡ n
one_least taken m n a b =
    elim (cases_lt m n) [ inl l ↦ absurd (a.0 (b.1 m l)) | inr l ↦ elim (eq-or-lt_of_le l) [ inl e ↦ sym e | inr l ↦ absurd (b.0 (a.1 n l)) ] ]

same_site : (m : Mark) (site at : Site) → mark Input site ≡ m → mark Input at ≡ m → site ≡ at
same_site m site at e f = ap (λ m. m.site) (e ∙ sym f)

same_place : (m : Mark) (site at : Site) → mark Got site ≡ m → mark Got at ≡ m → site ≡ at
same_place m site at e f = ap (λ m. m.site) (e ∙ sym f)

same_events : (taken : ℕ → Type 0) (inputs : List ℤ) (trace : List Mark) (s t : List Event) → Follows taken inputs trace s → Follows taken inputs trace t → s ≡ t
same_events taken inputs [] [] [] h h' = refl
same_events taken inputs [] [] (e ∷ t) h h' = absurd h'
same_events taken inputs [] (e ∷ s) t h h' = absurd h
same_events taken inputs (m ∷ trace) [] t h h' = absurd h
same_events taken inputs (m ∷ trace) (e ∷ s) [] h h' = absurd h'
same_events taken inputs (m ∷ trace) (marks k ∷ s) (marks l ∷ t) h h' =
    ap₂ (λ m es. marks m ∷ es) (h.0 ∙ sym h'.0) (same_events taken inputs trace s t h.2 h'.2)
same_events taken [] (m ∷ trace) (marks k ∷ s) (reads at y ∷ t) h h' = absurd h'
same_events taken (i ∷ inputs) (m ∷ trace) (marks k ∷ s) (reads at y ∷ t) h h' = absurd (not_input m at h'.0 h.1)
same_events taken inputs (m ∷ trace) (marks k ∷ s) (makes at n ∷ t) h h' = absurd (not_got m at h'.0 h.1)
same_events taken [] (m ∷ trace) (reads site z ∷ s) (e ∷ t) h h' = absurd h
same_events taken (i ∷ inputs) (m ∷ trace) (reads site z ∷ s) (marks k ∷ t) h h' = absurd (not_input m site h.0 h'.1)
same_events taken (i ∷ inputs) (m ∷ trace) (reads site z ∷ s) (reads at y ∷ t) h h' =
    let site_same : reads site z ≡ reads at y = ap₂ reads (same_site m site at h.0 h'.0) (h.1 ∙ sym h'.1) in
    ap₂ (λ e es. e ∷ es) site_same (same_events taken inputs trace s t h.2 h'.2)
same_events taken (i ∷ inputs) (m ∷ trace) (reads site z ∷ s) (makes at n ∷ t) h h' = absurd (two_kinds m site at h.0 h'.0)
same_events taken inputs (m ∷ trace) (makes site n ∷ s) (marks k ∷ t) h h' = absurd (not_got m site h.0 h'.1)
same_events taken [] (m ∷ trace) (makes site n ∷ s) (reads at y ∷ t) h h' = absurd h'
same_events taken (i ∷ inputs) (m ∷ trace) (makes site n ∷ s) (reads at y ∷ t) h h' = absurd (two_kinds m at site h'.0 h.0)
same_events taken inputs (m ∷ trace) (makes site n ∷ s) (makes at k ∷ t) h h' =
    let e : n ≡ k = one_least taken n k h.1 h'.1 in
    let f : Follows (λ i. taken i ⊎ (i ≡ n)) inputs trace t = subst (λ k. Follows (λ i. taken i ⊎ (i ≡ k)) inputs trace t) (sym e) h'.2 in
    ap₂ (λ e es. e ∷ es) (ap₂ makes (same_place m site at h.0 h'.0) e) (same_events (λ i. taken i ⊎ (i ≡ n)) inputs trace s t h.2 f)

pub followed_alike : (P : TypedProgram) (f : ℕ) (arguments : List Value) (heap : HeapMap) (inputs : List ℤ) (trace : List Mark) (d e : Ending) (m n : HeapMap) →
    IsFollowed P f arguments heap inputs trace d m → IsFollowed P f arguments heap inputs trace e n → (d ≡ e) × (m ≡ n)
followed_alike P f arguments heap inputs trace d e m n (s, fs, h, u) (t, ft, k, v) =
    let same : s ≡ t = same_events (IsTaken heap) inputs trace s t fs ft in
    let k' : TreeEvents P f arguments heap s e n = subst (λ t. TreeEvents P f arguments heap t e n) (sym same) k in
    let (tt', pq, de, mn) = tree_events_agree P f arguments heap s s d e m n h k' [] [] refl in (de, mn)
