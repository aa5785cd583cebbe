use Rattle.std.proofs.Common.{◌≡◌, ℕ, suc, ◌≤◌, List, length, take, le_refl, ◌↔◌, sym, ap, subst, ◌∙◌, arith}
use Rattle.std.proofs.lemmas.List.{take_all}
use Rattle.std.proofs.lemmas.Option.{slice_get_within}
use Rattle.px_pieces.specs.declared.desk.Event.{Event}
use Rattle.px_pieces.specs.declared.desk.Status.TheVariants.{Held, Settled}
use Rattle.px_pieces.specs.Desk.{Desk, replay, IsHeldUnder, IsSettled, IsLegal}
use Rattle.px_pieces.specs.Histories.{Settles, HistoryKeeps, publications, settled_below}
use Rattle.px_pieces.proofs.Descent.{all_are_settled}
use Rattle.px_pieces.proofs.Moments.{settles_once, after_claim, after_callees, was_settled, settled_later, settles_is_settled, has_claim, one_under, stands}
use Rattle.px_pieces.proofs.Counts.{as_many_at}
use Rattle.px_pieces.proofs.laws.desk_histories.Goals as goal

module _ (d : Desk) (h : List Event) (legal : IsLegal d h) (n : ℕ) (l : length h ≤ n) (e : take n h ≡ h) where
  stays : (f : ℕ) → IsSettled (replay d h) f ↔ ((place : ℕ) × Settles d h place f)
  stays f = (
    λ q. let w = was_settled d h n f (subst (λ z. IsSettled (replay d z) f) (sym e) q) in (w.0, w.2),
    λ (place, q). subst (λ z. IsSettled (replay d z) f) e
        (settled_later d h (suc place) n f (let m = slice_get_within h place _ q.event in omega arith) (settles_is_settled d h place f q)),
  )

  whole : HistoryKeeps d h
  whole = record {
    once = settles_once d h;
    after_claim = after_claim d h;
    after_callees = after_callees d h legal;
    stays = stays;
    held_claim = λ f ticket who losses q. (has_claim d h n f (Held ticket who losses) (ap (λ z. replay d z f) e ∙ q)).1;
    settled_claim = λ f ticket who q. (has_claim d h n f (Settled ticket who) (ap (λ z. replay d z f) e ∙ q)).1;
    one_a_ticket = subst (λ z. (ticket f g : ℕ) → IsHeldUnder (replay d z) ticket f → IsHeldUnder (replay d z) ticket g → f ≡ g) e (one_under d h n);
    as_many = subst (λ z. settled_below d.kept (replay d z) ≡ publications z) e (as_many_at d h legal n);
    all_settled = all_are_settled d (replay d h) (λ f o. let q = stands d h n f o in (q.0, ap (λ z. replay d z f) (sym e) ∙ q.1));
  }

pub returns : goal.returns
returns c = λ d h legal. whole d h legal (length h) (le_refl (length h)) (take_all (length h) h (le_refl (length h)))
