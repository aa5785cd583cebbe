-- Places of clauses that are added to those of a literal.
use Rattle.std.proofs.Common.{◌≡◌, ℕ, zero, suc, ◌<◌, ◌≤◌, List, [], ◌∷◌, ◌++◌, refl, sym, ap, ◌∙◌, subst, length, get_or, set, Some, arith, ◌⊎◌, inl, inr}
use Rattle.std.proofs.lemmas.Option.{none-some}
use Rattle.std.proofs.lemmas.Option.{same_Some}
use Rattle.std.specs.List.{Contains, slice_get}
use Rattle.std.proofs.lemmas.Bool.{cases_eq, cases_lt}
use Rattle.std.proofs.lemmas.List.{get_or-set_same, get_or-set_other, get_or_default, get_or_past}
use Rattle.std.proofs.lemmas.List.Elements.{Contains-append_left, Contains-push}
use Rattle.px_cnf.specs.declared.literal.Literal.{Literal}
use Rattle.px_sat.specs.Uses.{code, HasUse, AreListed}

padded : (uses : List (List ℕ)) (c : ℕ) → get_or (uses ++ [] ∷ []) c [] ≡ get_or uses c []
padded [] zero = refl
padded [] (suc c) = refl
padded (u ∷ us) zero = refl
padded (u ∷ us) (suc c) = padded us c

pub use_padded : (uses : List (List ℕ)) (c at : ℕ) → HasUse uses c at → HasUse (uses ++ [] ∷ []) c at
use_padded uses c at h = subst (λ (l : List ℕ). Contains l at) (sym (padded uses c)) h

pub use_put : (uses : List (List ℕ)) (k at : ℕ) (us : List ℕ) → k < length uses → us ≡ get_or uses k [] ++ at ∷ [] → HasUse (set uses k us) k at
use_put uses k at us h e = subst (λ (l : List ℕ). Contains l at) (sym (get_or-set_same uses k us [] h ∙ e)) (Contains-push (get_or uses k []) at)

pub use_kept : (uses : List (List ℕ)) (k : ℕ) (us : List ℕ) (c i : ℕ) → k < length uses → ((j : ℕ) → Contains (get_or uses k []) j → Contains us j) → HasUse uses c i → HasUse (set uses k us) c i
use_kept uses k us c i h keeps u = elim (cases_eq c k) [
  | inl e ↦ subst (λ (l : List ℕ). Contains l i) (sym (ap (λ n. get_or (set uses k us) n []) e ∙ get_or-set_same uses k us [] h))
      (keeps i (subst (λ n. Contains (get_or uses n []) i) e u))
  | inr d ↦ subst (λ (l : List ℕ). Contains l i) (sym (get_or-set_other uses k c us [] d)) u
]

-- the same where a list was read and written back
pub put_back : (uses : List (List ℕ)) (k at : ℕ) (read us : List ℕ) → k < length uses → read ≡ get_or uses k read → us ≡ read ++ at ∷ [] → HasUse (set uses k us) k at
put_back uses k at read us h e f = use_put uses k at us h (f ∙ ap (λ (r : List ℕ). r ++ at ∷ []) (e ∙ get_or_default uses k read [] h))

pub kept_back : (uses : List (List ℕ)) (k at : ℕ) (read us : List ℕ) (c i : ℕ) → k < length uses → read ≡ get_or uses k read → (us ≡ read) ⊎ (us ≡ read ++ at ∷ []) → HasUse uses c i → HasUse (set uses k us) c i
kept_back uses k at read us c i h e f u = use_kept uses k us c i h (λ j m.
    let n : Contains read j = subst (λ (l : List ℕ). Contains l j) (sym (e ∙ get_or_default uses k read [] h)) m in
    elim f [
      | inl g ↦ subst (λ (l : List ℕ). Contains l j) (sym g) n
      | inr g ↦ subst (λ (l : List ℕ). Contains l j) (sym g) (Contains-append_left read (at ∷ []) j n)
    ]) u

-- a place that the literal's list has, or where there is no such list
pub has_no_list : (uses : List (List ℕ)) (c at : ℕ) → length uses ≤ c → HasUse uses c at → ⊥
has_no_list uses c at h u = let (i, n, e) = subst (λ (l : List ℕ). Contains l at) (get_or_past uses c [] h) u in omega arith

-- ---- the list of clauses

pub get_left : {A : Type 0} (xs : List A) (x : A) (i : ℕ) → i < length xs → slice_get (xs ++ x ∷ []) i ≡ slice_get xs i
get_left [] x i h = absurd (omega arith)
get_left (y ∷ ys) x zero h = refl
get_left (y ∷ ys) x (suc i) h = get_left ys x i (omega arith)

pub get_right : {A : Type 0} (xs : List A) (x : A) (i : ℕ) (y : A) → length xs ≤ i → slice_get (xs ++ x ∷ []) i ≡ Some y → (i ≡ length xs) × (x ≡ y)
get_right [] x zero y h e = (refl, same_Some _ _ e)
get_right [] x (suc i) y h e = absurd (none-some _ e)
get_right (z ∷ zs) x zero y h e = absurd (omega arith)
get_right (z ∷ zs) x (suc i) y h e = let r = get_right zs x i y (omega arith) e in (ap suc r.0, r.1)

pub listed_more : (clauses : List (List Literal)) (old new : List (List ℕ)) (clause : List Literal) → AreListed clauses old → ((c i : ℕ) → HasUse old c i → HasUse new c i)
    → ((l : Literal) → Contains clause l → HasUse new (code l) (length clauses)) → AreListed (clauses ++ clause ∷ []) new
listed_more clauses old new clause h keeps put at other l s m = elim (cases_lt at (length clauses)) [
  | inl a ↦ keeps (code l) at (h at other l (sym (get_left clauses clause at a) ∙ s) m)
  | inr a ↦ (let r = get_right clauses clause at other a s in
      subst (λ n. HasUse new (code l) n) (sym r.0) (put l (subst (λ (c : List Literal). Contains c l) (sym r.1) m)))
]

pub listed_kept : (clauses : List (List Literal)) (old new : List (List ℕ)) → AreListed clauses old → ((c i : ℕ) → HasUse old c i → HasUse new c i) → AreListed clauses new
listed_kept clauses old new h keeps at other l s m = keeps (code l) at (h at other l s m)
