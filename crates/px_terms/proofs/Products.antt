-- Rows of products.
use Rattle.std.proofs.Common.{◌≡◌, ◌<◌, ◌+◌, ◌*◌, ◌%◌, ◌^◌, ◌++◌, ℕ, List, [], ◌∷◌, length, get_or, map, take, refl, ap, ap₂, sym, subst, ◌∙◌, arith, append_assoc, append-nil}
use Rattle.std.proofs.lemmas.List.{map-append, take_more}
use Rattle.std.specs.Prelude.{cond, Bool, true, false}
use Rattle.std.specs.Ordering.{is_eq}
use Rattle.px_terms.specs.Terms.{Term, key_cmp, coefficient_at, IsRising, gathered}
use Rattle.px_terms.specs.Rows.{times_of, row_of, rows_of, scalar_of}
use Rattle.px_terms.specs.Monomials.{term_of}
use Rattle.px_terms.specs.declared.monomial.Monomial.{Monomial}
use Rattle.px_terms.proofs.InOrder.{fold_ordered, length-fold_put}
use Rattle.px_terms.proofs.NormalForm.{AllHave, IsKey, have_append}
use Rattle.px_terms.proofs.Gathering.{sum_both, coefficient_append, gathered_rising, gathered_coefficient, gathered_same, gathered_alike}

-- ---- a word times terms

chosen_scaled : (b : Bool) (u c r s : ℕ) → r % 2 ^ 32 ≡ (u * s) % 2 ^ 32 → (cond b ((u * c) % 2 ^ 32) 0 + r) % 2 ^ 32 ≡ (u * (cond b c 0 + s)) % 2 ^ 32
chosen_scaled true u c r s h =
    sum_both ((u * c) % 2 ^ 32) (u * c) r (u * s) (omega arith) h ∙ ap (λ z. z % 2 ^ 32) (shared u c s)
  where
    shared : (u c s : ℕ) → u * c + u * s ≡ u * (c + s)
    shared u c s = grind arith
chosen_scaled false u c r s h = ap (λ z. z % 2 ^ 32) (plain r) ∙ h ∙ ap (λ z. (u * z) % 2 ^ 32) (sym (plain s))
  where
    plain : (a : ℕ) → 0 + a ≡ a
    plain a = omega arith

-- the coefficients of a word times terms
pub scaled_coefficient : (u : ℕ) (ts : List Term) (k : List ℕ) → coefficient_at k (row_of (scalar_of u) ts) % 2 ^ 32 ≡ (u * coefficient_at k ts) % 2 ^ 32
scaled_coefficient u [] k = nothing u
  where
    nothing : (u : ℕ) → 0 % 2 ^ 32 ≡ (u * 0) % 2 ^ 32
    nothing u = grind arith
scaled_coefficient u (t ∷ ts) k =
    chosen_scaled (is_eq (key_cmp k t.vars)) u t.coefficient (coefficient_at k (row_of (scalar_of u) ts)) (coefficient_at k ts) (scaled_coefficient u ts k)

-- 0 times others adds nothing
pub zero_row : {n : ℕ} (w : ℕ) (all others : List (Monomial n)) → w ≡ 0 → IsRising (map term_of all)
    → map term_of all ≡ gathered (map term_of all ++ row_of (scalar_of w) (map term_of others))
zero_row w all others e r =
    sym (gathered_same (map term_of all) r)
    ∙ gathered_alike (map term_of all) (map term_of all ++ row_of (scalar_of w) (map term_of others))
    (λ k. ap (λ z. z % 2 ^ 32) (sym (plain (coefficient_at k (map term_of all))))
    ∙ sum_both (coefficient_at k (map term_of all)) (coefficient_at k (map term_of all)) 0 (coefficient_at k (row_of (scalar_of w) (map term_of others))) refl
    (sym (scaled_coefficient w (map term_of others) k ∙ ap (λ z. (z * coefficient_at k (map term_of others)) % 2 ^ 32) e ∙ nothing (coefficient_at k (map term_of others))))
    ∙ ap (λ z. z % 2 ^ 32) (sym (coefficient_append k (map term_of all) (row_of (scalar_of w) (map term_of others)))))
  where
    plain : (a : ℕ) → a + 0 ≡ a
    plain a = omega arith

    nothing : (a : ℕ) → (0 * a) % 2 ^ 32 ≡ 0 % 2 ^ 32
    nothing a = grind arith

-- ---- rows, one after another

pub rising_of : (xs ts : List Term) → xs ≡ gathered ts → IsRising xs
rising_of xs ts e = subst IsRising (sym e) (gathered_rising ts)

-- what is gathered already may be gathered again with others
pub gathered_onto : (a b : List Term) → gathered (gathered a ++ b) ≡ gathered (a ++ b)
gathered_onto a b = gathered_alike (gathered a ++ b) (a ++ b)
    (λ k. ap (λ z. z % 2 ^ 32) (coefficient_append k (gathered a) b)
    ∙ sum_both (coefficient_at k (gathered a)) (coefficient_at k a) (coefficient_at k b) (coefficient_at k b) (gathered_coefficient a k) refl
    ∙ ap (λ z. z % 2 ^ 32) (sym (coefficient_append k a b)))

pub first_rows : (xs ys da cb : List Term) → xs ≡ gathered da → ys ≡ gathered (xs ++ cb) → ys ≡ gathered ((da ++ cb) ++ [])
first_rows xs ys da cb e f = f ∙ ap (λ z. gathered (z ++ cb)) e ∙ gathered_onto da cb ∙ ap gathered (sym (append-nil (da ++ cb)))

rows_more : (ss ts : List Term) (s : Term) → rows_of (ss ++ s ∷ []) ts ≡ rows_of ss ts ++ row_of s ts
rows_more [] ts s = append-nil (row_of s ts)
rows_more (x ∷ ss) ts s = ap (λ z. row_of x ts ++ z) (rows_more ss ts s) ∙ sym (append_assoc (row_of x ts) (rows_of ss ts) (row_of s ts))

taken_more : {n : ℕ} (xs : List (Monomial n)) (i : ℕ) (x : Monomial n) → i < length xs → x ≡ get_or xs i x
    → map term_of (take (i + 1) xs) ≡ map term_of (take i xs) ++ term_of x ∷ []
taken_more xs i x h e = ap (map term_of) (take_more xs i x h ∙ ap (λ z. take i xs ++ z ∷ []) (sym e)) ∙ map-append term_of (take i xs) (x ∷ [])

pub next_row : {n : ℕ} (a : List (Monomial n)) (i : ℕ) (s : Monomial n) (xs ys first b : List Term) → i < length a → s ≡ get_or a i s
    → xs ≡ gathered (first ++ rows_of (map term_of (take i a)) b) → ys ≡ gathered (xs ++ row_of (term_of s) b)
    → ys ≡ gathered (first ++ rows_of (map term_of (take (i + 1) a)) b)
next_row a i s xs ys first b h e f g =
    let rows = rows_of (map term_of (take i a)) b in
    let row = row_of (term_of s) b in
    g ∙ ap (λ z. gathered (z ++ row)) f
    ∙ gathered_onto (first ++ rows) row
    ∙ ap gathered (append_assoc first rows row
    ∙ ap (λ z. first ++ z) (sym (ap (λ z. rows_of z b) (taken_more a i s h e) ∙ rows_more (map term_of (take i a)) b (term_of s))))

-- ---- keys

key_times : (s t : Term) → IsKey t.vars → IsKey (times_of s t).vars
key_times s t h = let e = length-fold_put s.vars t.vars in let p = h.0 in (omega arith, fold_ordered s.vars t.vars h.1)

pub row_keys : (s : Term) (ts : List Term) → AllHave IsKey ts → AllHave IsKey (row_of s ts)
row_keys s [] h = tt
row_keys s (t ∷ ts) h = (key_times s t h.0, row_keys s ts h.1)

pub rows_keys : (ss ts : List Term) → AllHave IsKey ts → AllHave IsKey (rows_of ss ts)
rows_keys [] ts h = tt
rows_keys (s ∷ ss) ts h = have_append IsKey (row_of s ts) (rows_of ss ts) (row_keys s ts h) (rows_keys ss ts h)

-- a row of what was lent
pub lent_row : {n : ℕ} (a a' b b' : List (Monomial n)) (s s' : Term) (ms : List Term) → a ≡ a' → s ≡ s' → b ≡ b'
    → ms ≡ gathered (map term_of a ++ row_of s (map term_of b)) → ms ≡ gathered (map term_of a' ++ row_of s' (map term_of b'))
lent_row {n} a a' b b' s s' ms e f g h =
    h ∙ ap₂ (λ (x : List (Monomial n)) (y : Term). gathered (map term_of x ++ row_of y (map term_of b))) e f
    ∙ ap (λ z. gathered (map term_of a' ++ row_of s' (map term_of z))) g
