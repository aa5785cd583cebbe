-- A stack after one step holds one item more.
use Rattle.std.proofs.Common.{◌≡◌, inl, inr, ℕ, ◌+◌, ◌-◌, ◌<◌, ◌≤◌, List, [], ◌∷◌, ◌++◌, length, length-append, refl, sym, ap, subst, ◌∙◌, arith}
use Rattle.std.specs.Prelude.{Bool, All}
use Rattle.std.proofs.Math.ListN.{set}
use Rattle.std.proofs.lemmas.Bool.{cases_eq}
use Rattle.std.proofs.lemmas.List.{get_or_push, set-set, set_comm, set-get_or}
use Rattle.px_terms.specs.Conjuncts.{IsWellSorted}
use Rattle.px_terms.specs.declared.variables.VarInfo.{VarInfo}
use Rattle.px_terms.specs.declared.conjuncts.Conj.{Conj}
use Rattle.px_plain.specs.declared.claims.Mark.{Mark}
use Rattle.px_plain.specs.declared.claims.Ends.{Ends}
use Rattle.px_plain.specs.declared.claims.Change.{Change}
use Rattle.px_plain.specs.declared.claims.Step.{Step}
use Rattle.px_plain.specs.declared.claims.Step.TheVariants as step
use Rattle.px_plain.specs.Models.{IsPlainlyRefuted}
use Rattle.px_plain.specs.Held.{HeldItem, held_vars, held_apart, held_conjuncts, held_count}
use Rattle.px_plain.specs.Steps.{Content, mark_at, marked, unmarked, before, undone, last_step, is_refuted, IsStepInside, front}
use Rattle.px_plain.specs.Stands.{Stands, IsAnswered, IsOf, HoldsItems, AreMarksOf}
use Rattle.px_plain.proofs.ChangedStacks.{AfterChange, front_push}
use Rattle.px_plain.proofs.ContentLemmas.{same_content}

abbrev pub with_step : Content → Step → Content
with_step c s = record c { steps = c.steps ++ s ∷ [] }

pub last_push : (steps : List Step) (s : Step) → last_step (steps ++ s ∷ []) ≡ s
last_push steps s =
    let n = length-append steps (s ∷ []) in
    let e : length steps ≡ length (steps ++ s ∷ []) - 1 = omega arith in
    get_or_push steps s step.Quiet (length (steps ++ s ∷ []) - 1) e

pub undone_step : (c : Content) (s : Step) → undone (with_step c s) ≡ before s c
undone_step c s =
    ap (λ (z : Step). before z (record c { steps = front (c.steps ++ s ∷ []) })) (last_push c.steps s)
    ∙ ap (λ (z : List Step). before s (record c { steps = z })) (front_push c.steps s)

-- the marks of two ends taken back
pub marks_back : (marks : List Mark) (e : Ends) (m : Mark) → e.from_was ≡ mark_at marks e.from → e.to_was ≡ mark_at marks e.to → unmarked (marked marks e m) e ≡ marks
marks_back marks e m p q = elim (cases_eq e.from e.to) [
  | inl s ↦
      ap (λ z. set (set (set (set marks z m) e.to m) e.to e.to_was) z e.from_was) s
      ∙ ap (λ z. set z e.to e.from_was) (set-set (set marks e.to m) e.to m e.to_was ∙ set-set marks e.to m e.to_was)
      ∙ set-set marks e.to e.to_was e.from_was
      ∙ ap (λ z. set marks e.to z) (p ∙ ap (mark_at marks) s)
      ∙ set-get_or marks e.to Rattle.px_plain.specs.declared.claims.Mark.TheVariants.Free
  | inr n ↦
      ap (λ z. set z e.from e.from_was) (set-set (set marks e.from m) e.to m e.to_was ∙ set_comm marks e.from e.to m e.to_was n)
      ∙ set-set (set marks e.to e.to_was) e.from m e.from_was
      ∙ ap (λ z. set (set marks e.to z) e.from e.from_was) q
      ∙ ap (λ z. set z e.from e.from_was) (set-get_or marks e.to Rattle.px_plain.specs.declared.claims.Mark.TheVariants.Free)
      ∙ ap (set marks e.from) p
      ∙ set-get_or marks e.from Rattle.px_plain.specs.declared.claims.Mark.TheVariants.Free
]

pub stands_with : (vars : List VarInfo) (apart : List ℕ) (cs : List Conj) (n : ℕ) (c : Content) (steps : List Step) → Stands vars apart cs n c → Stands vars apart cs n (record c { steps = steps })
stands_with vars apart cs n c steps s = record {
  words = s.words;
  places = s.places;
  placed = s.placed;
  marks = s.marks;
  bare = s.bare;
  words_ranked = s.words_ranked;
  places_ranked = s.places_ranked;
  few_words = s.few_words;
  word_ranks = s.word_ranks;
  place_ranks = s.place_ranks;
}

-- ---- one item more

module _ (c : Content) (items : List HeldItem) (h : HoldsItems c items) (g : IsOf c items) (i : HeldItem)
    (sorted : All (IsWellSorted (held_vars (i ∷ items))) (held_conjuncts (i ∷ items))) (few : length (held_vars (i ∷ items)) ≤ 65536) (room : held_count (i ∷ items) ≤ 65536) where
  abbrev Answer : Bool → Content → Type 0
  Answer b e = IsAnswered b (held_vars (i ∷ items)) (held_apart (i ∷ items)) (held_conjuncts (i ∷ items)) (held_count (i ∷ items)) e

  pub step_holds : (e : Content) (s : Step) → e.steps ≡ c.steps → e.vars ≡ held_vars (i ∷ items) → length e.words ≡ length e.vars + 1 → length e.places ≡ length e.vars + 1 → length e.marks ≡ length e.vars + 1 →
      length e.owners ≡ length e.vars + 1 → Answer (is_refuted s) (with_step e s) → IsStepInside (length e.words) s → before s e ≡ c → HoldsItems (with_step e s) (i ∷ items)
  step_holds e s steps vars words places marks owners answer inside back = (
    record {
      sorted = sorted;
      few = few;
      count = room;
      vars = vars;
      depth =
          let n = length-append e.steps (s ∷ []) in
          let d = g.depth in
          let q = ap length steps in
          let z : length (i ∷ items) ≡ length items + 1 = omega arith in
          omega arith;
      words = words;
      places = places;
      marks = marks;
      owners = owners;
      answer = subst (λ z. Answer (is_refuted z) (with_step e s)) (sym (last_push e.steps s)) answer;
    },
    subst (IsStepInside (length e.words)) (sym (last_push e.steps s)) inside,
    subst (λ z. HoldsItems z items) (sym (undone_step e s ∙ back)) h,
  )

  module _ (same : held_vars (i ∷ items) ≡ held_vars items) where
    pub refuted_step : (e : Content) → e ≡ c → IsPlainlyRefuted (held_vars (i ∷ items)) (held_conjuncts (i ∷ items)) → HoldsItems (with_step e step.Refuted) (i ∷ items)
    refuted_step e q r = subst (λ z. HoldsItems (with_step z step.Refuted) (i ∷ items)) (sym q)
        (step_holds c step.Refuted refl (g.vars ∙ sym same) g.words g.places g.marks g.owners r tt refl)

    pub quiet_step : (e : Content) → e ≡ c → Stands (held_vars (i ∷ items)) (held_apart (i ∷ items)) (held_conjuncts (i ∷ items)) (held_count (i ∷ items)) c → HoldsItems (with_step e step.Quiet) (i ∷ items)
    quiet_step e q s = subst (λ z. HoldsItems (with_step z step.Quiet) (i ∷ items)) (sym q)
        (step_holds c step.Quiet refl (g.vars ∙ sym same) g.words g.places g.marks g.owners
        (stands_with (held_vars (i ∷ items)) (held_apart (i ∷ items)) (held_conjuncts (i ∷ items)) (held_count (i ∷ items)) c (c.steps ++ step.Quiet ∷ []) s) tt refl)

    pub claimed_step : (b e : Content) (ends : Ends) (o : Change) (m : Mark) →
        AfterChange (held_vars (i ∷ items)) (held_apart (i ∷ items)) (held_conjuncts (i ∷ items)) (held_count (i ∷ items)) c b o →
        AreMarksOf (held_vars (i ∷ items)) (held_apart (i ∷ items)) (held_conjuncts (i ∷ items)) (marked c.marks ends m) →
        ends.from_was ≡ mark_at c.marks ends.from → ends.to_was ≡ mark_at c.marks ends.to → ends.from < length c.words → ends.to < length c.words →
        e ≡ record b { marks = marked c.marks ends m } → HoldsItems (with_step e (step.Claimed ends o)) (i ∷ items)
    claimed_step b e ends o m a k from_was to_was from to q =
        let now : Content = record b { marks = marked c.marks ends m } in
        let vs = ap length a.vars_same in
        let ws = a.words_size in
        let ps = a.places_size in
        let os = a.owners_size in
        let gw = g.words in
        let gp = g.places in
        let gm = g.marks in
        let go = g.owners in
        let ms = Rattle.std.proofs.Math.ListN.length-set (set c.marks ends.from m) ends.to m ∙ Rattle.std.proofs.Math.ListN.length-set c.marks ends.from m in
        subst (λ z. HoldsItems (with_step z (step.Claimed ends o)) (i ∷ items)) (sym q)
        (step_holds now (step.Claimed ends o) a.steps_same (a.vars_same ∙ g.vars ∙ sym same) (omega arith) (omega arith) (omega arith) (omega arith)
        (record {
          words = a.words;
          places = a.places;
          placed = a.placed;
          marks = k;
          bare = a.bare;
          words_ranked = a.words_ranked;
          places_ranked = a.places_ranked;
          few_words = a.few_words;
          word_ranks = a.word_ranks;
          place_ranks = a.place_ranks;
        })
        (subst (λ z. IsStepInside z (step.Claimed ends o)) (sym a.words_size) (from, to, a.inside))
        (same_content (before (step.Claimed ends o) now) c a.vars_same a.words_back a.places_back (marks_back c.marks ends m from_was to_was) a.owners_back a.unequal_words_back a.unequal_places_back a.steps_same))
