-- Degrees of products.
use Rattle.std.proofs.Common.{◌≡◌, ◌≤◌, ◌+◌, ◌++◌, ℕ, List, [], ◌∷◌, length, map, sym, subst, arith}
use Rattle.std.specs.Prelude.{All}
use Rattle.std.proofs.lemmas.List.Elements.{All-from_recursion, recursion_from_All}
use Rattle.px_terms.specs.Terms.{Term, gathered}
use Rattle.px_terms.specs.Rows.{row_of, rows_of, scalar_of}
use Rattle.px_terms.specs.Monomials.{term_of}
use Rattle.px_terms.specs.declared.monomial.Monomial.{Monomial}
use Rattle.px_terms.proofs.InOrder.{length-fold_put}
use Rattle.px_terms.proofs.NormalForm.{AllHave, have_append, gathered_have}
use Rattle.px_terms.proofs.Degrees.{key_length}

-- at most so many variables
abbrev Short : ℕ → List ℕ → Type 0
Short d k = length k ≤ d

row_short : (s : Term) (ts : List Term) (d e f : ℕ) → Short d s.vars → AllHave (Short e) ts → d + e ≤ f → AllHave (Short f) (row_of s ts)
row_short s [] d e f h all le = tt
row_short s (t ∷ ts) d e f h all le =
    let l = length-fold_put s.vars t.vars in
    let a = all.0 in
    (omega arith, row_short s ts d e f h all.1 le)

rows_short : (ss ts : List Term) (d e f : ℕ) → AllHave (Short d) ss → AllHave (Short e) ts → d + e ≤ f → AllHave (Short f) (rows_of ss ts)
rows_short [] ts d e f h all le = tt
rows_short (s ∷ ss) ts d e f h all le = have_append (Short f) (row_of s ts) (rows_of ss ts) (row_short s ts d e f h.0 all le) (rows_short ss ts d e f h.1 all le)

short_terms : {n : ℕ} (d : ℕ) (ms : List (Monomial n)) → All (λ m. m.degree ≤ d) ms → AllHave (Short d) (map term_of ms)
short_terms {n} d ms all = each ms (recursion_from_All (λ (m : Monomial n). m.degree ≤ d) ms all)
  where
    each : (ms : List (Monomial n)) → Rattle.std.specs.List.AllByRecursion (λ (m : Monomial n). m.degree ≤ d) ms → AllHave (Short d) (map term_of ms)
    each [] h = tt
    each (m ∷ ms) h = let k = key_length m in let l = h.0 in (omega arith, each ms h.1)

degrees_from : {n : ℕ} (d : ℕ) (ms : List (Monomial n)) → AllHave (Short d) (map term_of ms) → All (λ m. m.degree ≤ d) ms
degrees_from {n} d ms all = All-from_recursion (λ (m : Monomial n). m.degree ≤ d) ms (each ms all)
  where
    each : (ms : List (Monomial n)) → AllHave (Short d) (map term_of ms) → Rattle.std.specs.List.AllByRecursion (λ (m : Monomial n). m.degree ≤ d) ms
    each [] h = tt
    each (m ∷ ms) h = let k = key_length m in let l = h.0 in (omega arith, each ms h.1)

pub product_degrees : {n : ℕ} (c d i j f : ℕ) (a b v : List (Monomial n)) → All (λ m. m.degree ≤ i) a → All (λ m. m.degree ≤ j) b → i + j ≤ f
    → map term_of v ≡ gathered (row_of (scalar_of d) (map term_of a) ++ row_of (scalar_of c) (map term_of b) ++ rows_of (map term_of a) (map term_of b))
    → All (λ m. m.degree ≤ f) v
product_degrees c d i j f a b v p q le e =
    let da = row_short (scalar_of d) (map term_of a) 0 i f (omega arith) (short_terms i a p) (omega arith) in
    let cb = row_short (scalar_of c) (map term_of b) 0 j f (omega arith) (short_terms j b q) (omega arith) in
    let rows = rows_short (map term_of a) (map term_of b) i j f (short_terms i a p) (short_terms j b q) le in
    let first = row_of (scalar_of d) (map term_of a) in
    let second = row_of (scalar_of c) (map term_of b) in
    degrees_from f v (subst (AllHave (Short f)) (sym e)
    (gathered_have (Short f) (first ++ second ++ rows_of (map term_of a) (map term_of b))
    (have_append (Short f) (first ++ second) (rows_of (map term_of a) (map term_of b)) (have_append (Short f) first second da cb) rows)))

-- the sum of some monomials and a word times others
pub sum_degrees : {n : ℕ} (u f : ℕ) (a b v : List (Monomial n)) → All (λ m. m.degree ≤ f) a → All (λ m. m.degree ≤ f) b
    → map term_of v ≡ gathered (map term_of a ++ row_of (scalar_of u) (map term_of b)) → All (λ m. m.degree ≤ f) v
sum_degrees u f a b v p q e =
    degrees_from f v (subst (AllHave (Short f)) (sym e)
    (gathered_have (Short f) (map term_of a ++ row_of (scalar_of u) (map term_of b))
    (have_append (Short f) (map term_of a) (row_of (scalar_of u) (map term_of b)) (short_terms f a p) (row_short (scalar_of u) (map term_of b) 0 f f (omega arith) (short_terms f b q) (omega arith)))))
