-- The gaps of conjuncts take from variables what the conjuncts' bounds don't leave them.
use Rattle.std.proofs.Common.{◌≡◌, ◌↔◌, inl, inr, ℕ, ◌+◌, ◌%◌, ◌^◌, ◌<◌, List, [], ◌∷◌, ◌++◌, refl, sym, ap, subst, ◌∙◌, arith}
use Rattle.std.specs.Prelude.{All, flat_map, FitsSigned, ℤ, Bool, true, false, Option, Some, None, IsPermutation, ⊤}
use Rattle.std.specs.Int.{w32}
use Rattle.std.proofs.lemmas.Bool.{cases_lt, lt-ltb, le-ltb}
use Rattle.std.proofs.lemmas.List.Elements.{All-nil, All-cons, All-head, All-tail, All-append, All-from_get_or}
use Rattle.std.proofs.lemmas.List.Sorted.{All-permutation, IsPermutation-sym}
use Rattle.px_terms.specs.Words.{word, signed}
use Rattle.px_terms.specs.Conjuncts.{IsTrueUnder}
use Rattle.px_terms.specs.Rules.{BoundsVariable, IsWithinBounds, IntervalRulesOut, RulesOut}
use Rattle.px_terms.specs.Polynomials.{Polynomial}
use Rattle.px_terms.specs.declared.conjuncts.Conj.{Conj}
use Rattle.px_terms.specs.declared.conjuncts.Conj.TheVariants.{Equal, Unequal, Less, AtMost, SamePlace, OtherPlace, Written, Unwritten, Quotient}
use Rattle.px_terms.proofs.WordLaws.{words_are_signed}
use Rattle.px_interval.specs.declared.bounds.Bound.{Bound}
use Rattle.px_interval.specs.declared.gaps.Gap.{Gap}
use Rattle.px_interval.specs.declared.bounds.Form.{Form}
use Rattle.px_interval.specs.declared.bounds.Form.TheVariants as form
use Rattle.px_interval.specs.declared.bounds.Side.{Side}
use Rattle.px_interval.specs.declared.bounds.Side.TheVariants as side
use Rattle.px_interval.specs.Bounds.{place, form_of, side_of, equal_bound, less_bound, at_most_bound, IsAllowed, bound_of}
use Rattle.px_interval.specs.Gaps.{Takes, above, gaps_around, gaps_if, conjunct_gaps, HavePlaces, SomeFull, NoneFull}
use Rattle.px_interval.proofs.Meanings.{at, MeansIf, means, HasSide, side_here}

-- the gap leaves x the place n
abbrev Leaves : ℕ → ℕ → Gap → Type 0
Leaves x n g = ¬ Takes x n g

-- ---- one bound

module _ (x n : ℕ) (few : n < 2 ^ 32) where
  above_leaves : (v end : ℕ) → (v ≡ x → n < end) → All (Leaves x n) (above v end)
  above_leaves v end h = elim (cases_lt end (2 ^ 32)) [
    | inl l ↦ rw (lt-ltb end (2 ^ 32) l) (All-cons (Leaves x n) (record { variable = v; low = end; end = 2 ^ 32 }) [] (λ t. let k = h t.0 in let a = t.1 in omega arith) (All-nil (Leaves x n)))
    | inr l ↦ rw (le-ltb end (2 ^ 32) l) (All-nil (Leaves x n))
  ]

  leaves_above : (v end : ℕ) → All (Leaves x n) (above v end) → v ≡ x → n < end
  leaves_above v end h e = elim (cases_lt n end) [
    | inl l ↦ l
    | inr l ↦
        let m : end < 2 ^ 32 = omega arith in
        absurd (All-head (Leaves x n) (record { variable = v; low = end; end = 2 ^ 32 }) [] (rw (lt-ltb end (2 ^ 32) m) at h) (e, l, few))
  ]

  around_leave : (v : ℕ) (inside : Bool) (low end : ℕ) → (v ≡ x → IsAllowed inside low end n) → All (Leaves x n) (gaps_around v inside low end)
  around_leave v true low end h = All-cons (Leaves x n) (record { variable = v; low = 0; end = low }) (above v end) (λ t. let k = (h t.0).0 in let a = t.2 in omega arith) (above_leaves v end (λ e. (h e).1))
  around_leave v false low end h = All-cons (Leaves x n) (record { variable = v; low = low; end = end }) [] (λ t. h t.0 (t.1, t.2)) (All-nil (Leaves x n))

  leave_around : (v : ℕ) (inside : Bool) (low end : ℕ) → All (Leaves x n) (gaps_around v inside low end) → v ≡ x → IsAllowed inside low end n
  leave_around v true low end h e = (
    elim (cases_lt n low) [
      | inl l ↦ absurd (All-head (Leaves x n) (record { variable = v; low = 0; end = low }) (above v end) h (e, omega arith, l))
      | inr l ↦ l
    ],
    leaves_above v end (All-tail (Leaves x n) (record { variable = v; low = 0; end = low }) (above v end) h) e,
  )
  leave_around v false low end h e = λ k. All-head (Leaves x n) (record { variable = v; low = low; end = end }) [] h (e, k.0, k.1)

-- ---- one conjunct

place_below : (z : ℤ) → place (word z) < 2 ^ 32
place_below z = let n = word z in omega arith

module _ (x : ℕ) (z : ℤ) (fits : FitsSigned w32 z) where
  abbrev Spares : Gap → Type 0
  Spares = Leaves x (place (word z))

  -- the conjunct's bound on x, if it is one, leaves it z
  abbrev IsKept : Conj → Type 0
  IsKept c = BoundsVariable x c → IsTrueUnder (at z) c

  spared : (c : Conj) (o : Option Bound) → MeansIf c o → IsKept c → All Spares (gaps_if o)
  spared c None m h = All-nil Spares
  spared c (Some b) m h = around_leave x (place (word z)) (place_below z) b.variable b.inside b.low b.end
      (λ e. m.allowed z fits (h (subst (λ y. BoundsVariable y c) e m.bounded)))

  kept : (c : Conj) (o : Option Bound) → MeansIf c o → All Spares (gaps_if o) → IsKept c
  kept c None m h b = absurd (m x b)
  kept c (Some b) m h k = m.true_there z fits (leave_around x (place (word z)) (place_below z) b.variable b.inside b.low b.end h (m.alone x k))

  -- ---- lists

  pub all_spared : (cs : List Conj) → IsWithinBounds cs x z → All Spares (flat_map conjunct_gaps cs)
  all_spared [] h = All-nil Spares
  all_spared (c ∷ cs) h = All-append Spares (conjunct_gaps c) (flat_map conjunct_gaps cs) (spared c (bound_of c) (means c) (All-head IsKept c cs h)) (all_spared cs (All-tail IsKept c cs h))

  first_part : (gs hs : List Gap) → All Spares (gs ++ hs) → All Spares gs
  first_part [] hs h = All-nil Spares
  first_part (g ∷ gs) hs h = All-cons Spares g gs (All-head Spares g (gs ++ hs) h) (first_part gs hs (All-tail Spares g (gs ++ hs) h))

  second_part : (gs hs : List Gap) → All Spares (gs ++ hs) → All Spares hs
  second_part [] hs h = h
  second_part (g ∷ gs) hs h = second_part gs hs (All-tail Spares g (gs ++ hs) h)

  pub all_kept : (cs : List Conj) → All Spares (flat_map conjunct_gaps cs) → IsWithinBounds cs x z
  all_kept [] h = All-nil IsKept
  all_kept (c ∷ cs) h = All-cons IsKept c cs (kept c (bound_of c) (means c) (first_part (conjunct_gaps c) (flat_map conjunct_gaps cs) h)) (all_kept cs (second_part (conjunct_gaps c) (flat_map conjunct_gaps cs) h))

-- ---- places

abbrev IsPlace : Gap → Type 0
IsPlace g = g.low < 2 ^ 32

-- the word at a place
word_at : (n : ℕ) → n < 2 ^ 32 → (m : ℕ) × (m < 2 ^ 32) × (place m ≡ n)
word_at n l = ((n + 2 ^ 31) % 2 ^ 32, omega arith, omega arith)

above_places : (v end : ℕ) → All IsPlace (above v end)
above_places v end = elim (cases_lt end (2 ^ 32)) [
  | inl l ↦ rw (lt-ltb end (2 ^ 32) l) (All-cons IsPlace (record { variable = v; low = end; end = 2 ^ 32 }) [] l (All-nil IsPlace))
  | inr l ↦ rw (le-ltb end (2 ^ 32) l) (All-nil IsPlace)
]

around_places : (v : ℕ) (inside : Bool) (low end : ℕ) → low < 2 ^ 32 → All IsPlace (gaps_around v inside low end)
around_places v true low end l = All-cons IsPlace (record { variable = v; low = 0; end = low }) (above v end) (omega arith) (above_places v end)
around_places v false low end l = All-cons IsPlace (record { variable = v; low = low; end = end }) [] l (All-nil IsPlace)

abbrev IsLow : Option Bound → Type 0
IsLow None = ⊤
IsLow (Some b) = b.low < 2 ^ 32

equal_low : (c : ℕ) (inside : Bool) (f : Form) → IsLow (equal_bound c inside f)
equal_low c inside form.Constant = tt
equal_low c inside (form.Plus x) = omega arith
equal_low c inside (form.Minus x) = omega arith
equal_low c inside form.Other = tt

module _ (p q : Polynomial) where
  constant_low : (r : Polynomial) (k : ℕ) → HasSide r (side.Constant k) → k < 2 ^ 32
  constant_low r k (h, e) = omega arith

  less_low : (a b : Side) → HasSide p a → HasSide q b → IsLow (less_bound a b)
  less_low (side.Constant c) (side.Constant d) h k = tt
  less_low (side.Constant c) (side.Variable x) h k = omega arith
  less_low (side.Constant c) side.Other h k = tt
  less_low (side.Variable x) (side.Constant c) h k = constant_low q c k
  less_low (side.Variable x) (side.Variable y) h k = tt
  less_low (side.Variable x) side.Other h k = tt
  less_low side.Other b h k = tt

  at_most_low : (a b : Side) → HasSide p a → HasSide q b → IsLow (at_most_bound a b)
  at_most_low (side.Constant c) (side.Constant d) h k = tt
  at_most_low (side.Constant c) (side.Variable x) h k = constant_low p c h
  at_most_low (side.Constant c) side.Other h k = tt
  at_most_low (side.Variable x) (side.Constant c) h k = omega arith
  at_most_low (side.Variable x) (side.Variable y) h k = tt
  at_most_low (side.Variable x) side.Other h k = tt
  at_most_low side.Other b h k = tt

low_bound : (c : Conj) → IsLow (bound_of c)
low_bound (Equal p) = equal_low p.constant true (form_of p.monomials)
low_bound (Unequal p) = equal_low p.constant false (form_of p.monomials)
low_bound (Less p q) = less_low p q (side_of p.constant (form_of p.monomials)) (side_of q.constant (form_of q.monomials)) (side_here p) (side_here q)
low_bound (AtMost p q) = at_most_low p q (side_of p.constant (form_of p.monomials)) (side_of q.constant (form_of q.monomials)) (side_here p) (side_here q)
low_bound (SamePlace a b) = tt
low_bound (OtherPlace a b) = tt
low_bound (Written y) = tt
low_bound (Unwritten y) = tt
low_bound (Quotient y p q) = tt

gaps_places : (o : Option Bound) → IsLow o → All IsPlace (gaps_if o)
gaps_places None h = All-nil IsPlace
gaps_places (Some b) h = around_places b.variable b.inside b.low b.end h

have_places : (cs : List Conj) → All IsPlace (flat_map conjunct_gaps cs)
have_places [] = All-nil IsPlace
have_places (c ∷ cs) = All-append IsPlace (conjunct_gaps c) (flat_map conjunct_gaps cs) (gaps_places (bound_of c) (low_bound c)) (have_places cs)

-- ---- the rule

module _ (cs : List Conj) (gs : List Gap) (moved : IsPermutation (flat_map conjunct_gaps cs) gs) where
  pub rules_out : SomeFull gs → IntervalRulesOut cs
  rules_out (x, full) = (
    x,
    λ z fits within.
        let t = full (place (word z)) (place_below z) in
        All-permutation (Leaves x (place (word z))) (flat_map conjunct_gaps cs) gs moved (all_spared x z fits cs within) t.at (record { variable = 0; low = 0; end = 0 }) t.before t.takes,
  )

  pub lets_through : NoneFull gs → ¬ IntervalRulesOut cs
  lets_through free (x, none) =
      let (n, few, left) = free x in
      let (m, small, e) = word_at n few in
      let fits = words_are_signed.signed_fits m small in
      let f : place (word (signed m)) ≡ n = ap place (words_are_signed.word_signed m small) ∙ e in
      let all : All (Leaves x (place (word (signed m)))) gs = subst (λ k. All (Leaves x k) gs) (sym f) (All-from_get_or (Leaves x n) gs (record { variable = 0; low = 0; end = 0 }) left) in
      none (signed m) fits (all_kept x (signed m) fits cs (All-permutation (Leaves x (place (word (signed m)))) gs (flat_map conjunct_gaps cs) (IsPermutation-sym (flat_map conjunct_gaps cs) gs moved) all))

  pub sorted_places : HavePlaces gs
  sorted_places = All-permutation IsPlace (flat_map conjunct_gaps cs) gs moved (have_places cs)

  pub decides : (yes : Bool) → (yes ≡ true → SomeFull gs) → (yes ≡ false → NoneFull gs) → yes ≡ true ↔ RulesOut 1 cs
  unfolding RulesOut
  decides true full free = (λ e. rules_out (full refl), λ r. refl)
  decides false full free = (λ e. absurd cc, λ r. absurd (lets_through (free refl) r))
