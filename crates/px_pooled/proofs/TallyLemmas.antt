-- The events of a history, counted one after another.
use Rattle.std.proofs.Common.{◌≡◌, ℕ, zero, suc, ◌+◌, ◌<◌, ◌≤◌, List, [], ◌∷◌, length, get_or, drop, Option, Some, None, refl, sym, ap, ap₂, ◌∙◌, arith}
use Rattle.std.proofs.Math.Seq.{drop-cons}
use Rattle.px_pieces.specs.declared.desk.Who.{Who}
use Rattle.px_pieces.specs.declared.desk.Who.TheVariants.{Parent, Worker}
use Rattle.px_pieces.specs.declared.desk.Event.{Event}
use Rattle.px_pieces.specs.declared.desk.Event.TheVariants.{Claim, Publish, Lose}
use Rattle.px_drivers.specs.Crews.{in_all}
use Rattle.px_book.specs.Tallies.{claimant, by_worker, by_parent, published_by, losses}
use Rattle.px_pooled.specs.Words.{of_workers}
use Rattle.px_pooled.specs.Making.{AreOfParent}

-- ---- one event more

module _ (counts : Option Who → ℕ) (h : List Event) where
  published_first : (e : Event) (rest : List Event) → published_by counts h (e ∷ rest) ≡ published_by counts h (e ∷ []) + published_by counts h rest
  published_first (Publish t) rest = omega arith
  published_first (Claim who p) rest = omega arith
  published_first (Lose t why) rest = omega arith

  pub published_more : (all n m i : ℕ) (e : Event) → i < length h → e ≡ get_or h i e → m ≡ n + published_by counts h (e ∷ []) → n + published_by counts h (drop i h) ≡ all → m + published_by counts h (drop (i + 1) h) ≡ all
  published_more all n m i e below at more is =
      let next : i + 1 ≡ suc i = omega arith in
      let here : published_by counts h (drop i h) ≡ published_by counts h (e ∷ []) + published_by counts h (drop (i + 1) h) =
      ap (published_by counts h) (drop-cons h i e below) ∙ ap (λ z. published_by counts h (z ∷ drop (suc i) h)) (sym at) ∙ published_first e (drop (suc i) h)
      ∙ ap (λ z. published_by counts h (e ∷ []) + published_by counts h (drop z h)) (sym next) in
      omega (arith, more, is, here)

losses_first : (e : Event) (rest : List Event) → losses (e ∷ rest) ≡ losses (e ∷ []) + losses rest
losses_first (Publish t) rest = omega arith
losses_first (Claim who p) rest = omega arith
losses_first (Lose t why) rest = omega arith

pub losses_more : (h : List Event) (all n m i : ℕ) (e : Event) → i < length h → e ≡ get_or h i e → m ≡ n + losses (e ∷ []) → n + losses (drop i h) ≡ all → m + losses (drop (i + 1) h) ≡ all
losses_more h all n m i e below at more is =
    let next : i + 1 ≡ suc i = omega arith in
    let here : losses (drop i h) ≡ losses (e ∷ []) + losses (drop (i + 1) h) =
    ap losses (drop-cons h i e below) ∙ ap (λ z. losses (z ∷ drop (suc i) h)) (sym at) ∙ losses_first e (drop (suc i) h) ∙ ap (λ z. losses (e ∷ []) + losses (drop z h)) (sym next) in
    omega (arith, more, is, here)

-- ---- one at most

pub worker_once : (o : Option Who) → by_worker o ≤ 1
worker_once None = omega arith
worker_once (Some Parent) = omega arith
worker_once (Some (Worker n)) = omega arith

pub parent_once : (o : Option Who) → by_parent o ≤ 1
parent_once None = omega arith
parent_once (Some Parent) = omega arith
parent_once (Some (Worker n)) = omega arith

pub published_once : (counts : Option Who → ℕ) → ((o : Option Who) → counts o ≤ 1) → (h : List Event) (e : Event) → published_by counts h (e ∷ []) ≤ 1
published_once counts once h (Publish t) = let l = once (claimant h t) in omega (arith, l)
published_once counts once h (Claim who p) = omega arith
published_once counts once h (Lose t why) = omega arith

pub lost_once : (e : Event) → losses (e ∷ []) ≤ 1
lost_once (Publish t) = omega arith
lost_once (Claim who p) = omega arith
lost_once (Lose t why) = omega arith

-- ---- where all are of the parent

pub none_lost : (h : List Event) → AreOfParent h → losses h ≡ 0
none_lost [] all = refl
none_lost (Claim who p ∷ h) all = none_lost h all.1
none_lost (Publish t ∷ h) all = none_lost h all.1
none_lost (Lose t why ∷ h) all = absurd all.0

no_worker : (h : List Event) (t : ℕ) → AreOfParent h → by_worker (claimant h t) ≡ 0
no_worker [] t all = refl
no_worker (Claim Parent p ∷ h) zero all = refl
no_worker (Claim (Worker n) p ∷ h) zero all = absurd all.0
no_worker (Publish u ∷ h) zero all = refl
no_worker (Lose u why ∷ h) zero all = absurd all.0
no_worker (e ∷ h) (suc t) all = no_worker h t all.1

none_by_workers : (h rest : List Event) → AreOfParent h → published_by by_worker h rest ≡ 0
none_by_workers h [] all = refl
none_by_workers h (Publish t ∷ rest) all = ap₂ (λ m n. m + n) (no_worker h t all) (none_by_workers h rest all)
none_by_workers h (Claim who p ∷ rest) all = none_by_workers h rest all
none_by_workers h (Lose t why ∷ rest) all = none_by_workers h rest all

pub none_of_workers : (h : List Event) → AreOfParent h → of_workers h ≡ 0
none_of_workers h all = none_by_workers h h all

-- ---- receipts

pub receipts_more : (all : List ℕ) (n m i x : ℕ) → i < length all → x ≡ get_or all i x → m ≤ n + x → n + in_all (drop i all) ≤ in_all all → m + in_all (drop (i + 1) all) ≤ in_all all
receipts_more all n m i x below at more is =
    let next : i + 1 ≡ suc i = omega arith in
    let here : in_all (drop i all) ≡ x + in_all (drop (i + 1) all) = ap in_all (drop-cons all i x below) ∙ ap (λ z. z + in_all (drop (suc i) all)) (sym at) ∙ ap (λ z. x + in_all (drop z all)) (sym next) in
    omega (arith, more, is, here)
