-- Whose claims publications and losses follow.
use Rattle.std.proofs.Common.{◌≡◌, ℕ, zero, suc, ◌+◌, ◌<◌, List, [], ◌∷◌, Option, Some, refl, sym, ap, ◌∙◌, arith}
use Rattle.std.specs.Prelude.{option_and_then, slice_get}
use Rattle.px_pieces.specs.declared.desk.Who.{Who}
use Rattle.px_pieces.specs.declared.desk.Who.TheVariants.{Parent, Worker}
use Rattle.px_pieces.specs.declared.desk.Lost.{Lost}
use Rattle.px_pieces.specs.declared.desk.Event.{Event}
use Rattle.px_pieces.specs.declared.desk.Event.TheVariants.{Claim, Publish, Lose}
use Rattle.px_pieces.specs.declared.desk.Status.TheVariants.{Held}
use Rattle.px_pieces.specs.Desk.{Desk, IsLegal}
use Rattle.px_pieces.specs.Histories.{publications}
use Rattle.px_pieces.proofs.Moments.{has_claim}
use Rattle.px_book.specs.Tallies.{claims_for, claimant, by_worker, by_parent, published_by, lost_by, losses, HistoryTallies, DeskTallies}

-- a claimant is a worker or the parent
one_of_two : (o : Option Who) (who : Who) → o ≡ Some who → by_worker o + by_parent o ≡ 1
one_of_two o who e = ap (λ z. by_worker z + by_parent z) e ∙ by who
  where
    by : (w : Who) → by_worker (Some w) + by_parent (Some w) ≡ 1
    by (Worker n) = omega arith
    by Parent = omega arith

published_are : (h rest : List Event) → ((place ticket : ℕ) → slice_get rest place ≡ Some (Publish ticket) → (who : Who) × (claimant h ticket ≡ Some who)) →
    published_by by_worker h rest + published_by by_parent h rest ≡ publications rest
published_are h [] claims = refl
published_are h (Publish t ∷ rest) claims =
    let (who, is) = claims 0 t refl in
    let one : by_worker (claimant h t) + by_parent (claimant h t) ≡ 1 = one_of_two (claimant h t) who is in
    let others : published_by by_worker h rest + published_by by_parent h rest ≡ publications rest = published_are h rest (λ place. claims (suc place)) in
    omega arith
published_are h (Claim who p ∷ rest) claims = published_are h rest (λ place. claims (suc place))
published_are h (Lose t why ∷ rest) claims = published_are h rest (λ place. claims (suc place))

lost_are : (h rest : List Event) → ((place ticket : ℕ) (why : Lost) → slice_get rest place ≡ Some (Lose ticket why) → (who : Who) × (claimant h ticket ≡ Some who)) →
    lost_by by_worker h rest + lost_by by_parent h rest ≡ losses rest
lost_are h [] claims = refl
lost_are h (Lose t why ∷ rest) claims =
    let (who, is) = claims 0 t why refl in
    let one : by_worker (claimant h t) + by_parent (claimant h t) ≡ 1 = one_of_two (claimant h t) who is in
    let others : lost_by by_worker h rest + lost_by by_parent h rest ≡ losses rest = lost_are h rest (λ place. claims (suc place)) in
    omega arith
lost_are h (Claim who p ∷ rest) claims = lost_are h rest (λ place. claims (suc place))
lost_are h (Publish t ∷ rest) claims = lost_are h rest (λ place. claims (suc place))

module _ (d : Desk) (h : List Event) (legal : IsLegal d h) where
  claim_at : (place ticket f : ℕ) (who : Who) → (ticket < place) × (slice_get h ticket ≡ Some (Claim who (record { 0 = f }))) → (w : Who) × (ticket < place) × (claimant h ticket ≡ Some w)
  claim_at place ticket f who (before, claim) = (who, before, ap (option_and_then claims_for) claim)

  published_claim : (place ticket : ℕ) → slice_get h place ≡ Some (Publish ticket) → (who : Who) × (ticket < place) × (claimant h ticket ≡ Some who)
  published_claim place ticket e =
      let (f, q) = legal place (Publish ticket) e in claim_at place ticket f q.who (has_claim d h place f (Held ticket q.who q.losses) q.held)

  lost_claim : (place ticket : ℕ) (why : Lost) → slice_get h place ≡ Some (Lose ticket why) → (who : Who) × (ticket < place) × (claimant h ticket ≡ Some who)
  lost_claim place ticket why e =
      let (f, q) = legal place (Lose ticket why) e in claim_at place ticket f q.who (has_claim d h place f (Held ticket q.who q.losses) q.held)

  of_legal : HistoryTallies h
  of_legal = record {
    published_claim = published_claim;
    lost_claim = lost_claim;
    publications_are = published_are h h (λ place ticket e. let (who, before, is) = published_claim place ticket e in (who, is));
    losses_are = lost_are h h (λ place ticket why e. let (who, before, is) = lost_claim place ticket why e in (who, is));
  }

pub tallies : DeskTallies
tallies d h legal = of_legal d h legal
