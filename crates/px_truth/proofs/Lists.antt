-- Items of lists, by their places.
use Rattle.std.proofs.Common.{◌≡◌, ℕ, zero, suc, ◌<◌, List, [], ◌∷◌, length, slice_get, Option, Some, None, refl, sym, subst, inl, inr, arith}
use Rattle.std.specs.Prelude.{Any, filter_map}
use Rattle.std.specs.List.{AllByRecursion, cons_option}
use Rattle.std.proofs.lemmas.Option.{none-some, same_Some}
use Rattle.px_entry.proofs.Lists.{Each}
use Rattle.px_symexec.proofs.Lists.{IsIn, in_contains}

pub each_placed : {A : Type 0} (Q : A → Type 0) (xs : List A) → ((k : ℕ) (x : A) → slice_get xs k ≡ Some x → Q x) → Each Q xs
each_placed Q [] h = tt
each_placed Q (x ∷ xs) h = (h zero x refl, each_placed Q xs (λ k y e. h (suc k) y e))

pub in_at : {A : Type 0} (xs : List A) (k : ℕ) (x : A) → slice_get xs k ≡ Some x → IsIn x xs
in_at [] k x e = absurd (none-some x e)
in_at (y ∷ xs) zero x e = inl (sym (same_Some _ _ e))
in_at (y ∷ xs) (suc k) x e = inr (in_at xs k x e)

pub out_of_range : {A : Type 0} (xs : List A) (k : ℕ) → k < length xs → slice_get xs k ≡ None → ⊥
out_of_range [] k l e = let m : ⊥ = omega (arith, l) in m
out_of_range (x ∷ xs) zero l e = absurd (none-some x (sym e))
out_of_range (x ∷ xs) (suc k) l e = out_of_range xs k (let m : k < length xs = omega (arith, l) in m) e

pub any_in : {A : Type 0} (Q : A → Type 0) (xs : List A) (x : A) → IsIn x xs → Q x → Any Q xs
any_in Q xs x h q = let (k, l, e) = in_contains x xs h in (k, x, l, e, q)

pub all_in : {A : Type 0} (Q : A → Type 0) (xs : List A) (x : A) → AllByRecursion Q xs → IsIn x xs → Q x
all_in Q [] x h k = absurd k
all_in Q (y ∷ xs) x h (inl e) = subst Q (sym e) h.0
all_in Q (y ∷ xs) x h (inr k) = all_in Q xs x h.1 k

-- what an item gives stands where it is put
pub given_at : {A B : Type 0} (g : A → Option B) (xs : List A) (k : ℕ) (x : A) (y : B) → slice_get xs k ≡ Some x → g x ≡ Some y → (m : ℕ) × (slice_get (filter_map g xs) m ≡ Some y)
given_at g [] k x y at' e = absurd (none-some x at')
given_at {A} {B} g (z ∷ xs) zero x y at' e = (0, first (g z) (subst (λ w. g w ≡ Some y) (sym (same_Some _ _ at')) e))
  where
    first : (o : Option B) → o ≡ Some y → slice_get (cons_option o (filter_map g xs)) 0 ≡ Some y
    first None e = absurd (none-some y e)
    first (Some w) e = e
given_at {A} {B} g (z ∷ xs) (suc k) x y at' e = behind (g z) (given_at g xs k x y at' e)
  where
    behind : (o : Option B) → (m : ℕ) × (slice_get (filter_map g xs) m ≡ Some y) → (m : ℕ) × (slice_get (cons_option o (filter_map g xs)) m ≡ Some y)
    behind None h = h
    behind (Some w) (m, is) = (suc m, is)
