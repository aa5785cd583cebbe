-- The variables that conjuncts mention, and where their words begin.
use Rattle.std.proofs.Common.{◌≡◌, ◌↔◌, inl, inr, ℕ, zero, suc, ◌+◌, ◌-◌, ◌*◌, ◌<◌, ◌≤◌, List, [], ◌∷◌, length, get_or, refl, sym, ap, ap₂, subst, ◌∙◌, arith, length-append}
use Rattle.std.specs.Prelude.{All, Any, Contains, flat_map, nat_eq}
use Rattle.std.specs.Ordering.{nat_cmp}
use Rattle.std.specs.List.Retain.{IsFiltered, DiffersFromLast}
use Rattle.std.specs.List.Sorted.{IsSorted, IsPermutation, IsStrictlyIncreasing}
use Rattle.std.proofs.lemmas.List.Concat.{length-flat_map}
use Rattle.std.proofs.lemmas.List.Elements.{All-head, All-tail, Contains-append_left, Contains-append_right, Contains-append_cases, Contains-get_or}
use Rattle.std.proofs.lemmas.List.Sums.{sum_by-cons}
use Rattle.std.proofs.lemmas.List.Filters.{dedup_is}
use Rattle.std.proofs.lemmas.List.Kept.{Contains-dedup_nat, Contains-from_dedup}
use Rattle.std.proofs.lemmas.List.Sorted.{Contains-permutation, IsPermutation-sym}
use Rattle.std.proofs.lemmas.Map.Keys.{IsStrictlyIncreasing-dedup}
use Rattle.px_terms.specs.Terms.{Term}
use Rattle.px_terms.specs.Variables.{variables_of, mentioned}
use Rattle.px_terms.specs.declared.variables.Var.{Var}
use Rattle.px_terms.specs.declared.conjuncts.Conj.{Conj}
use Rattle.px_terms.specs.declared.conjuncts.Conj.TheVariants.{Equal, Unequal, Less, AtMost, SamePlace, OtherPlace, Written, Unwritten, Quotient}
use Rattle.px_cnf.specs.Bases.{AreKnown}
use Rattle.px_cnf.specs.Standing.{IsComparison, AreBits, AreBitsOf, conjunct_degree, degree_sum}

-- a variable that a conjunct mentions
pub mentioned_by : (conjuncts : List Conj) (x : ℕ) → Contains (flat_map mentioned conjuncts) x ↔ Any (λ c. Contains (mentioned c) x) conjuncts
mentioned_by conjuncts x = (down conjuncts, λ (k, c, l, e, h). up conjuncts k c l e h)
  where
    down : (cs : List Conj) → Contains (flat_map mentioned cs) x → Any (λ c. Contains (mentioned c) x) cs
    down [] (k, l, e) = absurd (omega arith)
    down (c ∷ cs) h = elim (Contains-append_cases (mentioned c) (flat_map mentioned cs) x h) [
      | inl i ↦ (0, c, omega arith, refl, i)
      | inr i ↦ (let (k, d, l, e, j) = down cs i in (suc k, d, omega arith, e, j))
    ]

    up : (cs : List Conj) (k : ℕ) (c : Conj) → k < length cs → get_or cs k c ≡ c → Contains (mentioned c) x → Contains (flat_map mentioned cs) x
    up [] k c l e h = absurd (omega arith)
    up (d ∷ cs) zero c l e h = Contains-append_left (mentioned d) (flat_map mentioned cs) x (subst (λ (y : Conj). Contains (mentioned y) x) (sym e) h)
    up (d ∷ cs) (suc k) c l e h = Contains-append_right (mentioned d) (flat_map mentioned cs) x (up cs k c (omega arith) e h)

-- what is left of numbers after a sort and a dedup
pub names_rise : (all names : List ℕ) → IsSorted nat_cmp all → IsFiltered (DiffersFromLast nat_eq) [] all names → IsStrictlyIncreasing names
names_rise all names s f = subst IsStrictlyIncreasing (sym (dedup_is nat_eq all names f)) (IsStrictlyIncreasing-dedup all s)

pub names_same : (first all names : List ℕ) (x : ℕ) → IsPermutation first all → IsFiltered (DiffersFromLast nat_eq) [] all names → Contains names x ↔ Contains first x
names_same first all names x p f =
    let e = dedup_is nat_eq all names f in (
      λ h. Contains-permutation all first x (IsPermutation-sym first all p) (Contains-from_dedup nat_eq all x (subst (λ (ns : List ℕ). Contains ns x) e h)),
      λ h. subst (λ (ns : List ℕ). Contains ns x) (sym e) (Contains-dedup_nat all x (Contains-permutation first all x p h)),
    )

-- ---- their words

rises : (names : List ℕ) → IsStrictlyIncreasing names → (i n : ℕ) → i + suc n < length names → get_or names i 0 < get_or names (i + suc n) 0
rises names s i zero l =
    let e : i + 1 ≡ i + suc 0 = omega arith in
    subst (λ j. get_or names i 0 < get_or names j 0) e (s i (omega arith))
rises names s i (suc n) l =
    let h = rises names s i n (omega arith) in
    let k = s (i + suc n) (omega arith) in
    let e : i + suc n + 1 ≡ i + suc (suc n) = omega arith in
    let m : get_or names (i + suc n + 1) 0 ≡ get_or names (i + suc (suc n)) 0 = ap (λ j. get_or names j 0) e in
    omega arith

pub are_bits : (conjuncts : List Conj) (names : List ℕ) (bits : List (Var × ℕ)) → IsStrictlyIncreasing names
    → ((x : ℕ) → Contains names x ↔ Any (λ c. Contains (mentioned c) x) conjuncts) → AreBitsOf names bits → AreBits conjuncts bits
are_bits conjuncts names bits s m b = record {
  mentioned = λ x. (
    λ (k, y, l, e, h).
        let i : k < length names = let z = b.size in omega arith in
        (m x).0 (k, i, let n = b.names k y i in let g : (get_or bits k y).0.0 ≡ x = ap (λ (v : Var × ℕ). v.0.0) e ∙ h in get_or_any names k x i ∙ sym n ∙ g),
    λ h.
        let (k, l, e) = (m x).1 h in
        let i : k < length bits = let z = b.size in omega arith in
        at k i (sym_name k l e),
  );
  rising = λ i j d l h.
      let z = b.size in
      let n = b.names i d (omega arith) in
      let o = b.names j d (omega arith) in
      let r = below_later i j l (omega arith) in
      omega arith;
  firsts = λ i d l. b.firsts i d (let z = b.size in omega arith);
}
  where
    get_or_any : (xs : List ℕ) (k d : ℕ) → k < length xs → get_or xs k d ≡ get_or xs k 0
    get_or_any [] k d h = absurd (omega arith)
    get_or_any (x ∷ xs) zero d h = refl
    get_or_any (x ∷ xs) (suc k) d h = get_or_any xs k d (omega arith)

    sym_name : {x : ℕ} (k : ℕ) → k < length names → get_or names k x ≡ x → get_or names k 0 ≡ x
    sym_name {x} k l e = sym (get_or_any names k x l) ∙ e

    at : {x : ℕ} (k : ℕ) → k < length bits → get_or names k 0 ≡ x → Any (λ c. c.0.0 ≡ x) bits
    at {x} k i e =
        let z = b.size in
        some_at bits k i (λ d. b.names k d (omega arith) ∙ e)
      where
        some_at : (xs : List (Var × ℕ)) (k : ℕ) → k < length xs → ((d : Var × ℕ) → (get_or xs k d).0.0 ≡ x) → Any (λ c. c.0.0 ≡ x) xs
        some_at [] k l h = absurd (omega arith)
        some_at (y ∷ ys) zero l h = (0, y, l, refl, h y)
        some_at (y ∷ ys) (suc k) l h = let (j, v, m, e, g) = some_at ys k (omega arith) h in (suc j, v, omega arith, e, g)

    below_later : (i j : ℕ) → i < j → j < length names → get_or names i 0 < get_or names j 0
    below_later i j l h =
        let e : i + suc (j - i - 1) ≡ j = omega arith in
        subst (λ k. get_or names i 0 < get_or names k 0) e (rises names s i (j - i - 1) (omega arith))

-- each variable of a conjunct has a word
pub known_of : (conjuncts : List Conj) (bits : List (Var × ℕ)) (i : ℕ) (c : Conj) → AreBits conjuncts bits → i < length conjuncts → c ≡ get_or conjuncts i c → AreKnown bits (mentioned c)
known_of conjuncts bits i c b l e k d h = (b.mentioned (get_or (mentioned c) k d)).1 (i, c, l, sym e, Contains-get_or (mentioned c) k d h)

pub words_inside : (conjuncts : List Conj) (bits : List (Var × ℕ)) (n : ℕ) → AreBits conjuncts bits → n ≡ 32 * length bits → All (λ b. b.1 + 32 ≤ n) bits
words_inside conjuncts bits n b e k d l = let f = b.firsts k d l in omega arith

-- ---- how many there are

mentioned_degree : (c : Conj) → IsComparison c → length (mentioned c) ≡ conjunct_degree c
mentioned_degree (Equal p) w = length-flat_map (λ (t : Term). t.vars) p.monomials
mentioned_degree (Unequal p) w = length-flat_map (λ (t : Term). t.vars) p.monomials
mentioned_degree (Less p q) w =
    length-append (variables_of p) (variables_of q) ∙ ap₂ (λ (m n : ℕ). m + n) (length-flat_map (λ (t : Term). t.vars) p.monomials) (length-flat_map (λ (t : Term). t.vars) q.monomials)
mentioned_degree (AtMost p q) w =
    length-append (variables_of p) (variables_of q) ∙ ap₂ (λ (m n : ℕ). m + n) (length-flat_map (λ (t : Term). t.vars) p.monomials) (length-flat_map (λ (t : Term). t.vars) q.monomials)
mentioned_degree (SamePlace a b) w = absurd w
mentioned_degree (OtherPlace a b) w = absurd w
mentioned_degree (Written x) w = absurd w
mentioned_degree (Unwritten x) w = absurd w
mentioned_degree (Quotient x p q) w = absurd w

-- as many variables are mentioned as the degrees are together
pub few_mentioned : (conjuncts : List Conj) → All IsComparison conjuncts → length (flat_map mentioned conjuncts) ≡ degree_sum conjuncts
few_mentioned [] h = refl
few_mentioned (c ∷ cs) h =
    length-append (mentioned c) (flat_map mentioned cs)
    ∙ ap₂ (λ (m n : ℕ). m + n) (mentioned_degree c (All-head IsComparison c cs h)) (few_mentioned cs (All-tail IsComparison c cs h))
    ∙ sym (sum_by-cons conjunct_degree c cs)
