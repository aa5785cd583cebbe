-- Pivots and marks, and the conjuncts that they come of.
use Rattle.std.proofs.Common.{◌≡◌, ◌↔◌, ℕ, ◌+◌, ◌-◌, ◌<◌, ◌≤◌, List, [], ◌∷◌, ◌++◌, length, get_or, take, false, refl, sym, ap, subst, ◌∙◌}
use Rattle.std.specs.Prelude.{All, Option, Some, None}
use Rattle.std.proofs.lemmas.List.{take_all, take_more}
use Rattle.std.proofs.lemmas.List.Elements.{All-nil, All-cons, All-head, All-tail, All-take, All-more}
use Rattle.px_terms.specs.Rules.{HoldsModuloTwo, RulesOut}
use Rattle.px_terms.specs.declared.conjuncts.Conj.{Conj}
use Rattle.px_parity.specs.declared.elimination.Pivot.{Pivot}
use Rattle.px_parity.specs.declared.elimination.Mark.{Mark}
use Rattle.px_parity.specs.declared.elimination.Mark.TheVariants.{Implied, Added, Refuted}
use Rattle.px_parity.specs.Bits.{parity}
use Rattle.px_parity.specs.Equations.{columns, no_rows, AddsEquation}
use Rattle.px_parity.specs.Held.{Represents, MarkSays, pivots_before, last_mark, IsHeld}
use Rattle.px_parity.proofs.Lists.{split_last, get_last, take_but_last}
use Rattle.px_parity.proofs.Eliminating.{solution}

-- ---- rows and conjuncts

pub represents_none : Represents [] []
represents_none = record {
  triangular = no_rows;
  same = λ v. (λ h. All-nil (HoldsModuloTwo v), λ h. All-nil (λ (p : Pivot). parity (columns v) p.row ≡ false));
}

-- the rule rules out nothing that rows represent
pub let_through : (ps : List Pivot) (cs : List Conj) → Represents ps cs → ¬ RulesOut 2 cs
unfolding RulesOut
let_through ps cs h r = let (v, even) = solution ps h.triangular in r v ((h.same v).0 even)

-- a conjunct more
with_conjunct : (mark : Mark) (ps new : List Pivot) (cs more : List Conj) (c : Conj) → ((v : ℕ → ℕ) → All (HoldsModuloTwo v) more ↔ (All (HoldsModuloTwo v) cs × HoldsModuloTwo v c))
    → AddsEquation mark ps new (λ v. HoldsModuloTwo v c) → Represents ps cs → MarkSays (Some mark) new more
with_conjunct Implied ps new cs more c split a h =
    subst (λ z. Represents z more) (sym a.0) (record {
      triangular = h.triangular;
      same = λ v. (λ e. (split v).1 ((h.same v).0 e, a.1 v e), λ all. (h.same v).1 ((split v).0 all).0);
    })
with_conjunct Added ps new cs more c split a h = record {
  triangular = a.0;
  same = λ v. (
    λ e. let b = (a.2 v).0 e in (split v).1 ((h.same v).0 b.0, b.1),
    λ all. let b = (split v).0 all in (a.2 v).1 ((h.same v).1 b.0, b.1),
  );
}
with_conjunct Refuted ps new cs more c split a h = λ v all. let b = (split v).0 all in a.1 v ((h.same v).1 b.0) b.1

-- ---- the conjuncts of a list, one after another

module _ (ps new : List Pivot) (cs : List Conj) (i : ℕ) (c : Conj) (l : i < length cs) (e : c ≡ get_or cs i c) where
  split_at : (v : ℕ → ℕ) → All (HoldsModuloTwo v) (take (i + 1) cs) ↔ (All (HoldsModuloTwo v) (take i cs) × HoldsModuloTwo v c)
  split_at v = (
    λ h.
        let f : take (i + 1) cs ≡ take i cs ++ c ∷ [] = take_more cs i c l ∙ ap (λ z. take i cs ++ z ∷ []) (sym e) in
        split_last (HoldsModuloTwo v) (take i cs) c (subst (All (HoldsModuloTwo v)) f h),
    λ (a, b). All-more (HoldsModuloTwo v) cs i c l a (subst (HoldsModuloTwo v) e b),
  )

  pub said_next : (mark : Mark) → AddsEquation mark ps new (λ v. HoldsModuloTwo v c) → Represents ps (take i cs) → MarkSays (Some mark) new (take (i + 1) cs)
  said_next mark = with_conjunct mark ps new (take i cs) (take (i + 1) cs) c split_at

-- a mark other than that of refutation
pub said_rows : (mark : Mark) (ps : List Pivot) (cs : List Conj) → MarkSays (Some mark) ps cs → (mark ≡ Refuted → ⊥) → Represents ps cs
said_rows Implied ps cs h n = h
said_rows Added ps cs h n = h
said_rows Refuted ps cs h n = absurd (n refl)

pub ruled_out_early : (ps : List Pivot) (cs : List Conj) (i : ℕ) → MarkSays (Some Refuted) ps (take i cs) → RulesOut 2 cs
unfolding RulesOut
ruled_out_early ps cs i r = λ v all. r v (All-take (HoldsModuloTwo v) i cs all)

pub let_through_all : (ps : List Pivot) (cs : List Conj) (i : ℕ) → length cs ≤ i → Represents ps (take i cs) → ¬ RulesOut 2 cs
let_through_all ps cs i l h = let_through ps cs (subst (Represents ps) (take_all i cs l) h)

-- ---- conjuncts that are held

split_first : (v : ℕ → ℕ) (c : Conj) (cs : List Conj) → All (HoldsModuloTwo v) (c ∷ cs) ↔ (All (HoldsModuloTwo v) cs × HoldsModuloTwo v c)
split_first v c cs = (
  λ h. (All-tail (HoldsModuloTwo v) c cs h, All-head (HoldsModuloTwo v) c cs h),
  λ (a, b). All-cons (HoldsModuloTwo v) c cs b a,
)

-- the pivots are as before once the mark's is taken back
pub back_before : (mark : Mark) (ps new : List Pivot) (says : (ℕ → ℕ) → Type 0) → AddsEquation mark ps new says → pivots_before (Some mark) new ≡ ps
back_before Implied ps new says a = a.0
back_before Added ps new says a = a.1
back_before Refuted ps new says a = a.0

-- a mark more
held_more : (mark : Mark) (ps new : List Pivot) (ms : List Mark) (c : Conj) (cs : List Conj) → MarkSays (Some mark) new (c ∷ cs) → pivots_before (Some mark) new ≡ ps
    → IsHeld ps ms cs → IsHeld new (ms ++ mark ∷ []) (c ∷ cs)
held_more mark ps new ms c cs said back h =
    let all = ms ++ mark ∷ [] in
    let e : last_mark all ≡ Some mark = get_last ms mark in (
      subst (λ o. MarkSays o new (c ∷ cs)) (sym e) said,
      subst (λ o. IsHeld (pivots_before o new) (take (length all - 1) all) cs) (sym e)
          (subst (λ z. IsHeld z (take (length all - 1) all) cs) (sym back) (subst (λ z. IsHeld ps z cs) (sym (take_but_last ms mark)) h)),
    )

-- the rows represent what is held, unless the rule rules that out
open_mark : (o : Option Mark) (ps : List Pivot) (cs : List Conj) → MarkSays o ps cs → ¬ RulesOut 2 cs → Represents ps cs
unfolding RulesOut
open_mark None ps cs h n = absurd h
open_mark (Some Implied) ps cs h n = h
open_mark (Some Added) ps cs h n = h
open_mark (Some Refuted) ps cs h n = absurd (n h)

pub represents_held : (ps : List Pivot) (ms : List Mark) (cs : List Conj) → IsHeld ps ms cs → ¬ RulesOut 2 cs → Represents ps cs
represents_held ps ms [] h n = subst (λ z. Represents z []) (sym h.0) represents_none
represents_held ps ms (c ∷ cs) h n = open_mark (last_mark ms) ps (c ∷ cs) h.0 n

pub pushed : (mark : Mark) (ps new : List Pivot) (ms : List Mark) (c : Conj) (cs : List Conj) → AddsEquation mark ps new (λ v. HoldsModuloTwo v c) → ¬ RulesOut 2 cs
    → IsHeld ps ms cs → IsHeld new (ms ++ mark ∷ []) (c ∷ cs)
pushed mark ps new ms c cs a n h =
    held_more mark ps new ms c cs (with_conjunct mark ps new cs (c ∷ cs) c (λ v. split_first v c cs) a (represents_held ps ms cs h n))
    (back_before mark ps new (λ v. HoldsModuloTwo v c) a) h

pub pushed_refuted : (ps : List Pivot) (ms : List Mark) (c : Conj) (cs : List Conj) → RulesOut 2 cs → IsHeld ps ms cs → IsHeld ps (ms ++ Refuted ∷ []) (c ∷ cs)
unfolding RulesOut
pushed_refuted ps ms c cs r h = held_more Refuted ps ps ms c cs (λ v all. r v (All-tail (HoldsModuloTwo v) c cs all)) refl h

refuted_mark : (o : Option Mark) (ps : List Pivot) (cs : List Conj) → MarkSays o ps cs → (o ≡ Some Refuted) ↔ RulesOut 2 cs
unfolding RulesOut
refuted_mark None ps cs h = absurd h
refuted_mark (Some Implied) ps cs h = (λ e. absurd cc, λ r. absurd (let_through ps cs h r))
refuted_mark (Some Added) ps cs h = (λ e. absurd cc, λ r. absurd (let_through ps cs h r))
refuted_mark (Some Refuted) ps cs h = (λ _. h, λ _. refl)

pub refuted_exactly : (ps : List Pivot) (ms : List Mark) (cs : List Conj) → IsHeld ps ms cs → (last_mark ms ≡ Some Refuted) ↔ RulesOut 2 cs
refuted_exactly ps ms [] h = (
  λ e. let f : last_mark [] ≡ Some Refuted = sym (ap last_mark h.1) ∙ e in absurd cc,
  λ r. absurd (let_through [] [] represents_none r),
)
refuted_exactly ps ms (c ∷ cs) h = refuted_mark (last_mark ms) ps (c ∷ cs) h.0
