-- The words of fixed variables: what quotients give by them is one list, and a forest tells them.
use Rattle.std.proofs.Common.{◌≡◌, inl, inr, ℕ, ◌+◌, ◌%◌, ◌^◌, ◌<◌, ◌++◌, List, [], ◌∷◌, length, get_or, refl, sym, ap, ap₂, subst, ◌∙◌, arith}
use Rattle.std.specs.Prelude.{Option, Some, None, All, Any, Contains, cond, take, flat_map, slice_get, option_to_list}
use Rattle.std.proofs.lemmas.Bool.{cases_eq, eq-eqb, ne_eqb}
use Rattle.std.proofs.lemmas.List.{get_or_default}
use Rattle.std.proofs.lemmas.List.Elements.{All-nil, All-cons, All-head, All-tail, All-append}
use Rattle.std.proofs.lemmas.Option.{slice_get_within, get_or_from_slice_get, none-some, same_Some}
use Rattle.px_terms.specs.Polynomials.{Polynomial, IsTooLong}
use Rattle.px_terms.specs.Terms.{Term}
use Rattle.px_terms.specs.Substitutions.{IsForWord, StandsForWords, content_for, substitution_of}
use Rattle.px_terms.specs.Variables.{variables_of, mentioned}
use Rattle.px_terms.specs.declared.variables.Var.{Var}
use Rattle.px_terms.specs.declared.conjuncts.Content.{Content}
use Rattle.px_terms.specs.declared.conjuncts.Conj.{Conj}
use Rattle.px_terms.specs.declared.conjuncts.Conj.TheVariants.{Equal, Unequal, Less, AtMost, SamePlace, OtherPlace, Written, Unwritten, Quotient}
use Rattle.px_terms.proofs.Evaluation.{All-left, All-right}
use Rattle.px_plain.specs.declared.nodes.Node.{Node}
use Rattle.px_plain.specs.Forest.{node_at, parent_at}
use Rattle.px_plain.specs.Differences.{IsForestOf}
use Rattle.px_plain.specs.Readings.{word_differences}
use Rattle.px_plain.specs.Ties.{KeepsTies}
use Rattle.px_plain.proofs.Representatives.{fixed_below_null, representative, fixed_or_not}
use Rattle.px_solver.specs.Candidates.{fixed_content, fixed_contents, word_alone, fixed_word, quotient_word, product_word, quotients_of, constant_words, distinct, candidates}
use Rattle.px_solver.specs.Assignments.{AreFixedWords, AreCandidates}
use Rattle.px_solver.specs.Tables.{fixed_under, picked}

-- ---- what is substituted

-- only words come in the place of variables
pub only_words : (fixed : ℕ → Option ℕ) (xs : List ℕ) (x : ℕ) → IsForWord (content_for (fixed_contents fixed xs) x)
only_words fixed [] x = tt
only_words fixed (y ∷ ys) x = by (fixed y) (only_words fixed ys x)
  where
    by : (o : Option ℕ) → IsForWord (content_for (fixed_contents fixed ys) x) → IsForWord (content_for (fixed_content y o ++ fixed_contents fixed ys) x)
    by None h = h
    by (Some c) h = elim (cases_eq y x) [
      | inl e ↦ let f = eq-eqb y x e in rw f tt
      | inr d ↦ let f = ne_eqb y x d in rw f h
    ]

pub stands_for_words : (fixed : ℕ → Option ℕ) (p : Polynomial) → StandsForWords (fixed_contents fixed (variables_of p)) p
stands_for_words fixed p i d l = only_words fixed (variables_of p) (get_or (variables_of p) i d)

-- what is too long is no constant
pub long_not_alone : (p : Polynomial) → IsTooLong p → None ≡ word_alone p.constant p.monomials
long_not_alone p h = by p.monomials (elim h [ inl l ↦ (let z : 0 < length p.monomials = omega arith in z) | inr (k, t, l, e, d) ↦ (let z : 0 < length p.monomials = omega arith in z) ])
  where
    by : (ts : List Term) → 0 < length ts → None ≡ word_alone p.constant ts
    by [] l = absurd (omega arith)
    by (t ∷ ts) l = refl

-- ---- candidates are one list

module _ (f g : ℕ → Option ℕ) where
  abbrev Same : ℕ → Type 0
  Same x = f x ≡ g x

  contents_same : (xs : List ℕ) → All Same xs → fixed_contents f xs ≡ fixed_contents g xs
  contents_same [] h = refl
  contents_same (x ∷ xs) h = ap₂ (λ (o : Option ℕ) (rest : List (Var × Content)). fixed_content x o ++ rest) (All-head Same x xs h) (contents_same xs (All-tail Same x xs h))

  word_same : (p : Polynomial) → All Same (variables_of p) → fixed_word f p ≡ fixed_word g p
  word_same p h = ap (λ with. word_alone (substitution_of with p).constant (substitution_of with p).monomials) (contents_same (variables_of p) h)

  one_same : (c : Conj) → All Same (mentioned c) → quotients_of f c ≡ quotients_of g c
  one_same (Equal p) h = refl
  one_same (Unequal p) h = refl
  one_same (Less p q) h = refl
  one_same (AtMost p q) h = refl
  one_same (SamePlace a b) h = refl
  one_same (OtherPlace a b) h = refl
  one_same (Written x) h = refl
  one_same (Unwritten x) h = refl
  one_same (Quotient x p q) h =
      let all = variables_of p ++ variables_of q in
      let rest = All-tail Same x.0 all h in
      let m = word_same p (All-left Same (variables_of p) (variables_of q) rest) in
      let n = word_same q (All-right Same (variables_of p) (variables_of q) rest) in
      ap₂ ◌++◌ (ap₂ quotient_word m n) (ap₂ product_word (All-head Same x.0 all h) n)

  all_same : (cs : List Conj) → All (λ c. All Same (mentioned c)) cs → flat_map (quotients_of f) cs ≡ flat_map (quotients_of g) cs
  all_same [] h = refl
  all_same (c ∷ cs) h = ap₂ ◌++◌ (one_same c (All-head (λ c. All Same (mentioned c)) c cs h)) (all_same cs (All-tail (λ c. All Same (mentioned c)) c cs h))

  candidates_same : (cs : List Conj) → All (λ c. All Same (mentioned c)) cs → candidates f cs ≡ candidates g cs
  candidates_same cs h = ap (λ z. take 24 (distinct (constant_words cs ++ z))) (all_same cs h)

abbrev IsMentioned : List Conj → ℕ → Type 0
IsMentioned cs x = Any (λ c. Contains (mentioned c) x) cs

each_mentioned : (P : ℕ → Type 0) (cs : List Conj) → ((x : ℕ) → IsMentioned cs x → P x) → All (λ c. All P (mentioned c)) cs
each_mentioned P cs h i d l k e m =
    let c = get_or cs i d in
    h (get_or (mentioned c) k e) (i, c, l, get_or_default cs i c d l, (k, m, get_or_default (mentioned c) k (get_or (mentioned c) k e) e m))

-- where some words keep the equalities, these tell one word of each variable
module _ (all cs : List Conj) (f g : ℕ → Option ℕ) (a : AreFixedWords all cs f) (b : AreFixedWords all cs g) (w : ℕ → ℕ) (k : KeepsTies w all) where
  told_alike : (x : ℕ) → IsMentioned cs x → f x ≡ g x
  told_alike x m = by (f x) refl (g x) refl
    where
      by : (o : Option ℕ) → f x ≡ o → (u : Option ℕ) → g x ≡ u → f x ≡ g x
      by None e None d = e ∙ sym d
      by None e (Some n) d = absurd (a.others x m e (n, b.told x n m d))
      by (Some c) e None d = absurd (b.others x m d (c, a.told x c m e))
      by (Some c) e (Some n) d =
          let p = a.small x c e in
          let q = b.small x n d in
          let r = a.told x c m e w k in
          let s = b.told x n m d w k in
          let same : c ≡ n = omega arith in
          e ∙ ap Some same ∙ sym d

pub candidates_once : (all cs : List Conj) (values others : List ℕ) → AreCandidates all cs values → AreCandidates all cs others → (w : ℕ → ℕ) → KeepsTies w all → values ≡ others
candidates_once all cs values others a b w k =
    a.are ∙ candidates_same a.fixed b.fixed cs (each_mentioned (λ x. a.fixed x ≡ b.fixed x) cs (told_alike all cs a.fixed b.fixed a.are_fixed b.are_fixed w k)) ∙ sym b.are

-- ---- a forest tells them

module _ (cs : List Conj) (t : List Node) (f : IsForestOf (word_differences cs) t) where
  fixed_by : (x c : ℕ) → fixed_under t x ≡ Some c → (parent_at t (x + 1) ≡ 0) × (c ≡ (node_at t (x + 1)).offset % 2 ^ 32)
  fixed_by x c e = elim (cases_eq (parent_at t (x + 1)) 0) [
    | inl z ↦
        let o = (node_at t (x + 1)).offset % 2 ^ 32 in
        let is : fixed_under t x ≡ Some o = ap (λ b. cond b (Some o) None) (eq-eqb (parent_at t (x + 1)) 0 z) in
        (z, same_Some c o (sym e ∙ is))
    | inr n ↦
        let is : fixed_under t x ≡ None = ap (λ b. cond b (Some ((node_at t (x + 1)).offset % 2 ^ 32)) None) (ne_eqb (parent_at t (x + 1)) 0 n) in
        absurd (none-some c (sym is ∙ e))
  ]

  not_null_by : (x : ℕ) → fixed_under t x ≡ None → ¬ (parent_at t (x + 1) ≡ 0)
  not_null_by x e z =
      let o = (node_at t (x + 1)).offset % 2 ^ 32 in
      let is : fixed_under t x ≡ Some o = ap (λ b. cond b (Some o) None) (eq-eqb (parent_at t (x + 1)) 0 z) in
      none-some o (sym e ∙ is)

  pub forest_tells : (chosen : List Conj) → All (λ c. All (λ x. x + 1 < length t) (mentioned c)) chosen → AreFixedWords cs chosen (fixed_under t)
  forest_tells chosen inside = record {
    small = λ x c e. let h = (fixed_by x c e).1 in omega arith;
    told = λ x c m e w k.
        let h = fixed_by x c e in
        let r = fixed_below_null cs t f x (here x m) h.0 w k in
        let s = h.1 in
        omega arith;
    others = λ x m e.
        let b = here x m in
        elim (fixed_or_not cs t f x b) [
          | inl z ↦ absurd (not_null_by x e z)
          | inr (r, p) ↦ (representative cs t f x r b p).free
        ];
  }
    where
      here : (x : ℕ) → IsMentioned chosen x → x + 1 < length t
      here x (i, c, l, e, (k, m, q)) =
          let all = subst (λ (n : Conj). All (λ x. x + 1 < length t) (mentioned n)) e (inside i c l) in
          subst (λ n. n + 1 < length t) q (all k x m)

-- what all conjuncts have is what the picked ones have
pub picked_have : (P : Conj → Type 0) (cs : List Conj) (is : List ℕ) → All P cs → All P (picked cs is)
picked_have P cs [] h = All-nil P
picked_have P cs (i ∷ is) h =
    All-append P (option_to_list (slice_get cs i)) (picked cs is) (one (slice_get cs i) (λ c e. subst P (get_or_from_slice_get cs i c c e) (h i c (slice_get_within cs i c e)))) (picked_have P cs is h)
  where
    one : (o : Option Conj) → ((c : Conj) → o ≡ Some c → P c) → All P (option_to_list o)
    one None f = All-nil P
    one (Some c) f = All-cons P c [] (f c refl) (All-nil P)
