-- Domains that hold nothing.
use Rattle.std.proofs.Common.{◌≡◌, ◌↔◌, ℕ, ◌+◌, ◌<◌, ◌≤◌, List, length, get_or, take, take_all, Bool, true, false, refl, sym, subst}
use Rattle.std.specs.Prelude.{All}
use Rattle.std.proofs.lemmas.List.Elements.{All-more}
use Rattle.px_terms.proofs.Tests.{never_both}

module _ {X : Type 0} (P : X → Type 0) (xs : List X) (i : ℕ) where
  -- those so far, and the next one
  pub one_more : (x : X) (b : Bool) → i < length xs → x ≡ get_or xs i x → (b ≡ true ↔ P x) → b ≡ true → All P (take i xs) → All P (take (i + 1) xs)
  one_more x b l e h y all = All-more P xs i x l all (subst P e (h.0 y))

  pub not_all : (x : X) (b : Bool) → i < length xs → x ≡ get_or xs i x → (b ≡ true ↔ P x) → b ≡ false → (false ≡ true ↔ All P xs)
  not_all x b l e h n = (λ f. cc, λ all. absurd (never_both b (h.1 (subst P (sym e) (all i x l))) n))

  pub all_there : length xs ≤ i → All P (take i xs) → (true ≡ true ↔ All P xs)
  all_there l all = (λ t. subst (All P) (take_all i xs l) all, λ a. refl)
