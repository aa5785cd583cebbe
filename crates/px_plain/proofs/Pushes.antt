-- What pushes and pops make of what a stack is made of.
use Rattle.std.proofs.Common.{◌≡◌, ◌⊎◌, inl, inr, ℕ, ◌+◌, ◌-◌, ◌^◌, ◌<◌, List, ◌∷◌, length, get_or, refl, sym, ap, subst, ◌∙◌, arith}
use Rattle.std.specs.Prelude.{Bool, true, false, ◌||◌, Option, Some, take}
use Rattle.std.proofs.lemmas.Option.{same_Some}
use Rattle.px_terms.specs.Conjuncts.{IsWellSorted, IsPointerVariable}
use Rattle.px_terms.specs.declared.variables.VarInfo.{VarInfo}
use Rattle.px_terms.specs.declared.conjuncts.Conj.{Conj}
use Rattle.px_plain.specs.declared.claims.Claim.{Claim}
use Rattle.px_plain.specs.declared.claims.Claim.TheVariants as claim
use Rattle.px_plain.specs.declared.claims.Change.{Change}
use Rattle.px_plain.specs.declared.claims.Step.{Step}
use Rattle.px_plain.specs.declared.claims.Step.TheVariants as step
use Rattle.px_plain.specs.Claims.{IsConjunctClaim}
use Rattle.px_plain.specs.Readings.{HasSmallVariables}
use Rattle.px_plain.specs.Held.{HeldItem, OfVar, OfConj, OfApart, held_vars, held_count}
use Rattle.px_plain.specs.Steps.{Content, last_step, is_refuted, before, undone, front}
use Rattle.px_plain.specs.Changes.{Changed, Takes}
use Rattle.px_plain.specs.Stacks.{IsReady, CanTake, IsMadeInt, with_node}
use Rattle.px_plain.specs.Stands.{IsOf, HoldsItems}
use Rattle.px_plain.proofs.Lists.{small_one, pointer_inside}
use Rattle.px_plain.proofs.MarksHeld.{IsClaimOf}
use Rattle.px_plain.proofs.ReadyStacks.{same_vars, same_count}
use Rattle.px_plain.proofs.StackSteps.{with_step}
use Rattle.px_plain.proofs.TakenClaims.{can_take, claim_inside, takes_conjunct, takes_apart, words_size}
use Rattle.px_plain.proofs.TakenVars.{takes_variable, pointers_apart, apart_well_sorted}

-- what a stack held it holds where there is room
pub from_ready : (c d e : Content) → d ≡ c → IsReady d e → (items : List HeldItem) → HoldsItems c items → HoldsItems e items × IsOf e items
from_ready c d e q r items h = r items (subst (λ z. HoldsItems z items) (sym q) h)

pub changed_marks : (c : Content) (k : Claim) (e : Content) (o : Option Change) → Changed c k e o → e.marks ≡ c.marks
changed_marks c claim.Nothing e o h = ap (λ (x : Content). x.marks) h.0
changed_marks c (claim.Words d) e o h = ap (λ (x : Content). x.marks) h.0
changed_marks c (claim.Places d) e o h = ap (λ (x : Content). x.marks) h.0
changed_marks c (claim.Written u) e o h = ap (λ (x : Content). x.marks) h.0
changed_marks c (claim.Unwritten u) e o h = ap (λ (x : Content). x.marks) h.0
changed_marks c (claim.Apart u) e o h = ap (λ (x : Content). x.marks) h.0

module _ (c : Content) (others : List HeldItem) (o : IsOf c others) where
  -- ---- a conjunct

  module _ (conj : Conj) (w : IsWellSorted (held_vars others) conj) where
    pub small_conjunct : HasSmallVariables conj
    small_conjunct = small_one (held_vars others) o.few conj w

    pub conjunct_taken : (k : Claim) → IsConjunctClaim k → IsClaimOf conj k → ((u : ℕ) → k ≡ claim.Unwritten u → 0 < u) → is_refuted (last_step c.steps) ≡ false → CanTake c k
    conjunct_taken k kind q some e = let b = claim_inside (held_vars others) conj w k kind q in can_take c others o k b.0 b.1 some e

    pub conjunct_pushed : held_count others < 65536 → (k : Claim) → IsConjunctClaim k → IsClaimOf conj k → (e : Content) (s : Step) → Takes c k e s →
        (items : List HeldItem) → HoldsItems c items × IsOf c items → HoldsItems (with_step e s) (OfConj conj ∷ items)
    conjunct_pushed room k kind q e s t items h =
        let n = same_count c items others h.1 o in
        takes_conjunct c items h.0 h.1 conj (subst (λ z. IsWellSorted z conj) (sym (same_vars c items others h.1 o)) w) (omega arith) k kind q e s t

  -- ---- a place apart

  module _ (x : ℕ) (w : IsPointerVariable (held_vars others) x) where
    pub node_fits : x + 1 < 2 ^ 32
    node_fits = let l = pointer_inside (held_vars others) x w in let f = o.few in omega arith

    not_unwritten : (u v : ℕ) → claim.Apart u ≡ claim.Unwritten v → ⊥
    not_unwritten u v e = cc

    pub apart_taken : is_refuted (last_step c.steps) ≡ false → CanTake c (claim.Apart (x + 1))
    apart_taken e = let l = pointer_inside (held_vars others) x w in can_take c others o (claim.Apart (x + 1)) (omega arith) (omega arith) (λ u q. absurd (not_unwritten (x + 1) u q)) e

    pub apart_pushed : held_count others < 65536 → (e : Content) (s : Step) → Takes c (claim.Apart (x + 1)) e s →
        (items : List HeldItem) → HoldsItems c items × IsOf c items → HoldsItems (with_step e s) (OfApart x ∷ items)
    apart_pushed room e s t items h =
        let n = same_count c items others h.1 o in
        let p = subst (λ z. IsPointerVariable z x) (sym (same_vars c items others h.1 o)) w in
        takes_apart c items h.0 h.1 x p (apart_well_sorted (held_vars items) x (Rattle.px_plain.specs.Held.held_apart items) p (pointers_apart (held_vars items) items h.1.sorted)) (omega arith) e s t

  -- ---- a variable

  either_true : (a b : Bool) → (a || b) ≡ true → (a ≡ true) ⊎ (b ≡ true)
  either_true true b e = inl refl
  either_true false b e = inr e

  either_false : (a b : Bool) → (a || b) ≡ false → (a ≡ false) × (b ≡ false)
  either_false true b e = absurd (Rattle.px_terms.proofs.Tests.never_both true refl e)
  either_false false b e = (refl, e)

  module _ (info : VarInfo) (few : length (held_vars others) < 65536) where
    pub few_nodes : length c.words < 2 ^ 32
    few_nodes = let n = words_size c others o in omega arith

    pub variable_pushed : (a b r : Bool) → a ≡ is_refuted (last_step c.steps) → (b ≡ true → IsMadeInt info) → (b ≡ false → ¬ IsMadeInt info) → r ≡ (a || b) →
        (items : List HeldItem) → HoldsItems c items × IsOf c items → HoldsItems (with_step (with_node c info) (step.Variable r)) (OfVar info ∷ items)
    variable_pushed a b r p first second q items h =
        let n = ap length (same_vars c items others h.1 o) in
        takes_variable c items h.0 h.1 info (omega arith) r
        (λ e. elim (either_true a b (sym q ∙ e)) [ inl x ↦ inl (sym p ∙ x) | inr x ↦ inr (first x) ])
        (λ e. let x = either_false a b (sym q ∙ e) in (sym p ∙ x.0, second x.1))

-- ---- pops

pub last_taken : (steps : List Step) (n : ℕ) (s : Step) → length steps ≡ n → Some s ≡ Some (get_or steps (n - 1) step.Quiet) → last_step steps ≡ s
last_taken steps n s l e = ap (λ k. get_or steps (k - 1) step.Quiet) l ∙ sym (same_Some s (get_or steps (n - 1) step.Quiet) e)

pub front_taken : (steps rest : List Step) (n : ℕ) → length steps ≡ n → rest ≡ take (n - 1) steps → rest ≡ front steps
front_taken steps rest n l e = e ∙ ap (λ k. take (k - 1) steps) (sym l)

-- what is left once the last step is taken back
pub popped : (c : Content) (s : Step) (rest : List Step) → last_step c.steps ≡ s → rest ≡ front c.steps → before s (record c { steps = rest }) ≡ undone c
popped c s rest e f = ap (λ (z : List Step). before s (record c { steps = z })) f ∙ ap (λ (z : Step). before z (record c { steps = front c.steps })) (sym e)

pub some_steps : (c : Content) (i : HeldItem) (items : List HeldItem) → HoldsItems c (i ∷ items) → 0 < length c.steps
some_steps c i items h = let d = h.0.depth in omega arith
