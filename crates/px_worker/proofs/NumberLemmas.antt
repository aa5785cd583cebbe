-- The numbers of domains, one after another.
use Rattle.std.proofs.Common.{◌≡◌, sym, ◌∙◌, ap, subst, ℕ, ◌+◌, ◌<◌, List, [], ◌∷◌, ◌++◌, length, map}
use Rattle.std.specs.Prelude.{take, get_or}
use Rattle.std.proofs.lemmas.List.{take_more, get_or-map, length-map}

module _ {B : Type 0} (f : B → ℕ) (ks : List ℕ) (xs : List B) where
  at : (i : ℕ) (x : B) (e : ℕ) → i < length xs → x ≡ get_or xs i x → get_or (map f xs) i e ≡ f x
  at i x e below is = get_or-map f xs i x e below ∙ ap f (sym is)

  -- one number more is the same
  pub same_more : (i k : ℕ) (x : B) → i < length ks → i < length xs → k ≡ get_or ks i k → x ≡ get_or xs i x → k ≡ f x → take i ks ≡ take i (map f xs) → take (i + 1) ks ≡ take (i + 1) (map f xs)
  same_more i k x below below' k_is x_is same so_far =
      take_more ks i k below
      ∙ ap (λ l. l ++ get_or ks i k ∷ []) so_far
      ∙ ap (λ n. take i (map f xs) ++ n ∷ []) (sym k_is ∙ same ∙ sym (at i x (f x) below' x_is))
      ∙ sym (take_more (map f xs) i (f x) (subst (λ n. i < n) (sym (length-map xs f)) below'))

  -- a number that differs
  pub same_at : (i k : ℕ) (x : B) → i < length xs → k ≡ get_or ks i k → x ≡ get_or xs i x → ks ≡ map f xs → k ≡ f x
  same_at i k x below k_is x_is same = k_is ∙ ap (λ l. get_or l i k) same ∙ at i x k below x_is
