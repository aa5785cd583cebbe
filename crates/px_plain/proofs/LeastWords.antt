-- The least values over a forest are the least words that plain conjuncts leave.
use Rattle.std.proofs.Common.{◌≡◌, ◌≢◌, ◌⊎◌, inl, inr, ℕ, ◌+◌, ◌-◌, ◌%◌, ◌^◌, ◌<◌, ◌≤◌, List, length, get_or, refl, sym, ap, subst, ◌∙◌, arith}
use Rattle.std.specs.Prelude.{Bool, true, false, Some, All, Any, Contains, slice_get}
use Rattle.std.proofs.lemmas.Bool.{cases_eq, cases_lt, cases_Bool}
use Rattle.std.proofs.lemmas.List.Elements.{All-contains_itself}
use Rattle.std.proofs.lemmas.Option.{none-some}
use Rattle.px_terms.specs.Variables.{variables_of, mentioned}
use Rattle.px_terms.specs.Polynomials.{Polynomial}
use Rattle.px_terms.specs.Valuations.{valuation_of, numbers_of, number_of, Valuation}
use Rattle.px_terms.specs.Conjuncts.{IsPlain, IsTrueUnder, IsIntVariable, AreWellSorted, MakesPlainTrue}
use Rattle.px_terms.specs.declared.types.Value.{Value}
use Rattle.px_terms.specs.declared.types.ValueType.TheVariants.{Int}
use Rattle.px_terms.specs.declared.variables.VarInfo.{VarInfo}
use Rattle.px_terms.specs.declared.conjuncts.Conj.{Conj}
use Rattle.px_terms.specs.declared.conjuncts.Conj.TheVariants.{Equal, Unequal, Less, AtMost, SamePlace, OtherPlace, Written, Unwritten, Quotient}
use Rattle.px_plain.specs.declared.nodes.Node.{Node}
use Rattle.px_plain.specs.declared.nodes.Difference.{Difference}
use Rattle.px_plain.specs.Forest.{node_at, parent_at, IsAbove, Keeps}
use Rattle.px_plain.specs.Differences.{difference_at, IsForestOf}
use Rattle.px_plain.specs.Exclusions.{HasEnds, IsBlocked}
use Rattle.px_plain.specs.Models.{value_of, IsPlainModel, AreLeastValues}
use Rattle.px_plain.specs.NodeValues.{IsIntNode}
use Rattle.px_plain.specs.Places.{mark_at}
use Rattle.px_plain.specs.Readings.{word_difference, word_differences}
use Rattle.px_plain.specs.Ties.{KeepsTie, KeepsTies, IsFixed, HasRepresentative, IsRepresentative, Touches, AreTouched, MakesSettledTrue, IsTrueOf, TakesLeast}
use Rattle.px_plain.proofs.Fitting.{word_value}
use Rattle.px_plain.proofs.Lists.{sorted_parts}
use Rattle.px_plain.proofs.Meanings.{info_of}
use Rattle.px_plain.proofs.Options.{given_by}
use Rattle.px_plain.proofs.Representatives.{at_nodes, node_after, keeps, tied_to_root, fixed_below_null, representative, fixed_or_not, root_of, root_represents}
use Rattle.px_plain.proofs.Shapes.{shape_of, shape_plain}
use Rattle.px_plain.proofs.SumMeanings.{AtEnds, zero_of_above, ends_of_all, all_of_ends, plus_of}
use Rattle.px_terms.proofs.DomainLemmas.{int_below}
use Rattle.px_terms.proofs.Tests.{never_both}

pub any_of : (P : ℕ → Type 0) (xs : List ℕ) (x : ℕ) → Contains xs x → P x → Any P xs
any_of P xs x (k, l, e) p = (k, x, l, e, p)

-- what makes plain conjuncts true keeps the equalities
pub plain_keeps : (v : Valuation) (cs : List Conj) → MakesPlainTrue v cs → KeepsTies (numbers_of v) cs
plain_keeps v cs m k d l = one (get_or cs k d) (m k d l)
  where
    one : (c : Conj) → (IsPlain c → IsTrueUnder v c) → KeepsTie (numbers_of v) c
    one (Equal p) h = λ k. (h k).1
    one (Unequal p) h = tt
    one (Less p q) h = tt
    one (AtMost p q) h = tt
    one (SamePlace a b) h = tt
    one (OtherPlace a b) h = tt
    one (Written x) h = tt
    one (Unwritten x) h = tt
    one (Quotient x p q) h = tt

pub model_keeps : (vars : List VarInfo) (cs : List Conj) (vs : List Value) → IsPlainModel vars cs vs → KeepsTies (numbers_of (valuation_of vs)) cs
model_keeps vars cs vs m = plain_keeps (valuation_of vs) cs m.plain

-- words that make a disequality's difference hold don't make the disequality true
broken_one : (u : ℕ → ℕ) (P : ℕ → Type 0) (c : Conj) (d : Difference) → word_difference c ≡ Some d → d.equal ≡ false → AtEnds P d → IsAbove (at_nodes u) d.to d.from d.plus →
    (IsPlain c → All P (mentioned c) → IsTrueOf u c) → ⊥
broken_one u P (Equal p) d e q a b h = let s = shape_of p.constant true p.monomials d e in never_both d.equal (plus_of p.constant true p.monomials d s).1 q
broken_one u P (Unequal p) d e q a b h =
    let s = shape_of p.constant false p.monomials d e in
    h (shape_plain p.constant false p.monomials d s) (all_of_ends p.constant false P p.monomials d s a) (zero_of_above p.constant false u (at_nodes u) refl (node_after u) p.monomials d s b)
broken_one u P (Less p q) d e r a b h = none-some d e
broken_one u P (AtMost p q) d e r a b h = none-some d e
broken_one u P (SamePlace x y) d e r a b h = none-some d e
broken_one u P (OtherPlace x y) d e r a b h = none-some d e
broken_one u P (Written x) d e r a b h = none-some d e
broken_one u P (Unwritten x) d e r a b h = none-some d e
broken_one u P (Quotient x p q) d e r a b h = none-some d e

module _ (cs : List Conj) (t : List Node) (f : IsForestOf (word_differences cs) t) where
  null_parent : 0 < length t → parent_at t 0 ≡ 0
  null_parent l = let low = f.forest.lower 0 l in omega arith

  -- an end below the root s + 1 is a variable with that representative
  touched_end : (xs : List ℕ) (node s : ℕ) → 0 < length t → parent_at t node ≡ s + 1 → ((x : ℕ) → node ≡ x + 1 → Contains xs x) → ((x : ℕ) → node ≡ x + 1 → x + 1 < length t) → Any (λ x. HasRepresentative cs x s) xs
  touched_end xs node s some e has inside =
      let z = null_parent some in
      let n : node ≢ 0 = λ q. let g = ap (parent_at t) q in absurd (omega arith) in
      let q : node ≡ (node - 1) + 1 = omega arith in
      any_of (λ x. HasRepresentative cs x s) xs (node - 1) (has (node - 1) q) (representative cs t f (node - 1) s (inside (node - 1) q) (ap (parent_at t) (sym q) ∙ e))

  touched_ends : (xs : List ℕ) (d : Difference) (r s : ℕ) → 0 < length t → HasEnds t d (r + 1) (s + 1) → AtEnds (Contains xs) d → AtEnds (λ x. x + 1 < length t) d →
      Any (λ x. HasRepresentative cs x r) xs × Any (λ x. HasRepresentative cs x s) xs
  touched_ends xs d r s some (inl (a, b)) has inside = (touched_end xs d.from r some a has.0 inside.0, touched_end xs d.to s some b has.1 inside.1)
  touched_ends xs d r s some (inr (a, b)) has inside = (touched_end xs d.to r some b has.1 inside.1, touched_end xs d.from s some a has.0 inside.0)

  touched_sum : (p : Polynomial) (equal : Bool) (d : Difference) (r s : ℕ) → 0 < length t → Rattle.px_plain.specs.Readings.of_sum p.constant equal p.monomials ≡ Some d → HasEnds t d (r + 1) (s + 1) → AtEnds (λ x. x + 1 < length t) d →
      Any (λ x. HasRepresentative cs x r) (variables_of p) × Any (λ x. HasRepresentative cs x s) (variables_of p)
  touched_sum p equal d r s some e ends inside =
      touched_ends (variables_of p) d r s some ends (ends_of_all p.constant equal (Contains (variables_of p)) p.monomials d (shape_of p.constant equal p.monomials d e) (All-contains_itself (variables_of p))) inside

  pub touched_both : (c : Conj) (d : Difference) (r s : ℕ) → 0 < length t → word_difference c ≡ Some d → HasEnds t d (r + 1) (s + 1) → AtEnds (λ x. x + 1 < length t) d → Touches cs r c × Touches cs s c
  touched_both (Equal p) d r s some e ends inside = let h = touched_sum p true d r s some e ends inside in ((tt, h.0), (tt, h.1))
  touched_both (Unequal p) d r s some e ends inside = let h = touched_sum p false d r s some e ends inside in ((tt, h.0), (tt, h.1))
  touched_both (Less p q) d r s some e ends inside = absurd (none-some d e)
  touched_both (AtMost p q) d r s some e ends inside = absurd (none-some d e)
  touched_both (SamePlace x y) d r s some e ends inside = absurd (none-some d e)
  touched_both (OtherPlace x y) d r s some e ends inside = absurd (none-some d e)
  touched_both (Written x) d r s some e ends inside = absurd (none-some d e)
  touched_both (Unwritten x) d r s some e ends inside = absurd (none-some d e)
  touched_both (Quotient x p q) d r s some e ends inside = absurd (none-some d e)

  abbrev Settled : ℕ → ℕ → Type 0
  Settled r x = IsFixed cs x ⊎ ((s : ℕ) × (s ≤ r) × HasRepresentative cs x s)

  settled_end : (r low node : ℕ) → low < r + 1 → (parent_at t node ≡ r + 1) ⊎ (parent_at t node ≡ low) → (x : ℕ) → node ≡ x + 1 → x + 1 < length t → Settled r x
  settled_end r low node l h x q i = elim (fixed_or_not cs t f x i) [
    | inl e ↦ inl ((node_at t (x + 1)).offset, fixed_below_null cs t f x i e)
    | inr (s, e) ↦ inr (s, (let g = ap (parent_at t) q in elim h [ inl a ↦ omega arith | inr a ↦ omega arith ]), representative cs t f x s i e)
  ]

  settled_ends : (d : Difference) (r low : ℕ) → low < r + 1 → HasEnds t d (r + 1) low → AtEnds (λ x. x + 1 < length t) d → AtEnds (Settled r) d
  settled_ends d r low l (inl (a, b)) i = (λ x q. settled_end r low d.from l (inl a) x q (i.0 x q), λ x q. settled_end r low d.to l (inr b) x q (i.1 x q))
  settled_ends d r low l (inr (a, b)) i = (λ x q. settled_end r low d.from l (inr a) x q (i.0 x q), λ x q. settled_end r low d.to l (inl b) x q (i.1 x q))

module _ (vars : List VarInfo) (cs : List Conj) (w : AreWellSorted vars cs) (vs : List Value) (m : IsPlainModel vars cs vs)
    (ps : List Difference) (us : List ℕ) (a : AreLeastValues vars (word_differences cs) ps us vs) where
  abbrev words : ℕ → ℕ
  words = numbers_of (valuation_of vs)

  abbrev num : ℕ → ℕ
  num v = get_or a.numbers v 0

  abbrev ds : List Difference
  ds = word_differences cs

  abbrev t : List Node
  t = a.are_least.table

  f : IsForestOf ds t
  f = a.are_least.is_forest

  size : length t ≡ length vars + 1
  size = a.are_least.size ∙ a.are_words.size

  num_keeps : Keeps num t
  num_keeps = f.there num a.hold.equal

  int_info : (x : ℕ) → IsIntVariable vars x → (i : VarInfo) × (slice_get vars x ≡ Some i) × (i.value ≡ Int)
  int_info x h = info_of (λ (i : VarInfo). i.value ≡ Int) (slice_get vars x) h

  inside : (x : ℕ) → IsIntVariable vars x → x + 1 < length t
  inside x h = let l = int_below vars x h in let n = size in omega arith

  same_word : (x : ℕ) → IsIntVariable vars x → mark_at a.marks (x + 1) ≡ false → words x ≡ num (x + 1)
  same_word x h e =
      let i = int_info x h in
      let l = int_below vars x h in
      let n = a.are_words.size in
      ap number_of (a.values.each x i.0 i.1) ∙ word_value i.0.value (mark_at a.marks (x + 1)) (num (x + 1)) (get_or a.blocks (x + 1) 0) e i.2 (a.are_words.words (x + 1) 0 (omega arith))

  no_word : (x : ℕ) → IsIntVariable vars x → mark_at a.marks (x + 1) ≡ true → words x ≡ 0
  no_word x h e =
      let i = int_info x h in
      ap number_of (a.values.each x i.0 i.1 ∙ ap (λ b. value_of b i.0.value (num (x + 1)) (get_or a.blocks (x + 1) 0)) e)

  -- the words of a root are those of its node, seen from a variable below it
  same_root : (x s : ℕ) → x + 1 < length t → parent_at t (x + 1) ≡ s + 1 → words x ≡ num (x + 1) → words s % 2 ^ 32 ≡ num (s + 1) % 2 ^ 32
  same_root x s l e q =
      let p = tied_to_root cs t f x l words (model_keeps vars cs vs m) in
      let r = num_keeps.each (x + 1) l in
      let g : at_nodes words (parent_at t (x + 1)) ≡ words s = ap (at_nodes words) e ∙ node_after words s in
      let h = ap num e in
      omega arith

  -- ---- one disequality

  module _ (i : ℕ) (l : i < length ds) where
    abbrev d : Difference
    d = difference_at ds i

    from_int : IsIntNode vars d.from
    from_int = (sorted_parts vars cs w.sorted).word_from i (record { from = 0; to = 0; plus = 0; equal = false }) l

    to_int : IsIntNode vars d.to
    to_int = (sorted_parts vars cs w.sorted).word_to i (record { from = 0; to = 0; plus = 0; equal = false }) l

    ends_inside : AtEnds (λ x. x + 1 < length t) d
    ends_inside = (λ x q. inside x (from_int x q), λ x q. inside x (to_int x q))

    end_word : (node : ℕ) → IsIntNode vars node → mark_at a.marks node ≡ false → (x : ℕ) → node ≡ x + 1 → words x ≡ num (x + 1)
    end_word node h e x q = same_word x (h x q) (ap (mark_at a.marks) (sym q) ∙ e)

    some_node : 0 < length t
    some_node = let n = size in omega arith

    low_end : (node s : ℕ) → IsIntNode vars node → mark_at a.marks node ≡ false → parent_at t node ≡ s + 1 → (words s % 2 ^ 32 ≡ num (s + 1) % 2 ^ 32) × IsRepresentative cs s
    low_end node s h e p =
        let z = null_parent cs t f some_node in
        let n : node ≢ 0 = λ q. let g = ap (parent_at t) q in absurd (omega arith) in
        let q : node ≡ (node - 1) + 1 = omega arith in
        let b = inside (node - 1) (h (node - 1) q) in
        let r = ap (parent_at t) (sym q) ∙ p in
        (same_root (node - 1) s b r (end_word node h e (node - 1) q), root_represents cs t f (node - 1) s b r)

    low_root : (r s : ℕ) → HasEnds t d (r + 1) (s + 1) → (words s % 2 ^ 32 ≡ num (s + 1) % 2 ^ 32) × IsRepresentative cs s
    low_root r s (inl (p, q)) = low_end d.to s to_int (a.ends i l).1 q
    low_root r s (inr (p, q)) = low_end d.from s from_int (a.ends i l).0 p

  -- ---- the least word

  module _ (r : ℕ) (int : IsIntVariable vars r) (rep : IsRepresentative cs r) (u : ℕ → ℕ) (k : KeepsTies u cs)
      (agree : (s : ℕ) → s < r → IsRepresentative cs s → AreTouched cs r s → u s % 2 ^ 32 ≡ words s % 2 ^ 32) (true_there : MakesSettledTrue u cs r) where
    low_same : (i low : ℕ) → i < length ds → low < r + 1 → HasEnds t (difference_at ds i) (r + 1) low → Any (λ c. word_difference c ≡ Some (difference_at ds i)) cs → at_nodes u low % 2 ^ 32 ≡ num low % 2 ^ 32
    low_same i low l b ends (n, c, h, e, q) = elim (cases_eq low 0) [
      | inl z ↦ let x : at_nodes u low ≡ 0 = ap (at_nodes u) z in let y = ap num z in let o = a.are_words.zero in omega arith
      | inr z ↦
          let p : low ≡ (low - 1) + 1 = omega arith in
          let en = subst (HasEnds t (difference_at ds i) (r + 1)) p ends in
          let g = low_root i l r (low - 1) en in
          let o = agree (low - 1) (omega arith) g.1 (n, c, h, e, touched_both cs t f c (difference_at ds i) r (low - 1) (some_node i l) q en (ends_inside i l)) in
          let x : at_nodes u low ≡ u (low - 1) = ap (at_nodes u) p ∙ node_after u (low - 1) in
          let y = ap num p in
          let v = g.0 in
          omega arith
    ]

    not_blocked : (j : ℕ) → j ≡ u r % 2 ^ 32 → IsBlocked t ds a.numbers (r + 1) j → ⊥
    not_blocked j e b =
        let by = given_by word_difference cs b.at (record { from = 0; to = 0; plus = 0; equal = false }) b.inside in
        let c = by.1 in
        let low = low_same b.at b.low b.inside b.lower b.ends by in
        let here : at_nodes u (r + 1) ≡ u r = node_after u r in
        let holds = b.breaks (at_nodes u) (keeps cs t f u k) (omega arith) low in
        broken_one u (Settled cs t f r) c (difference_at ds b.at) by.4 b.unequal (settled_ends cs t f (difference_at ds b.at) r b.low b.lower b.ends (ends_inside b.at b.inside)) holds
        (subst (λ z. IsPlain z → All (Settled cs t f r) (mentioned z) → IsTrueOf u z) by.3 (true_there by.0 c by.2))

    root_here : parent_at t (r + 1) ≡ r + 1
    root_here = root_of cs t f r r (inside r int) rep

    pub least_word : words r % 2 ^ 32 ≤ u r % 2 ^ 32
    least_word = elim (cases_lt (u r % 2 ^ 32) (words r % 2 ^ 32)) [
      | inl l ↦ elim (cases_Bool (mark_at a.marks (r + 1))) [
        | inl e ↦ let z = no_word r int e in absurd (omega arith)
        | inr e ↦
            let z = same_word r int e in
            let n = size in
            let i = inside r int in
            let g = a.are_words.size in
            let s = a.are_words.words (r + 1) 0 (omega arith) in
            absurd (not_blocked (u r % 2 ^ 32) refl (a.are_least.blocked (r + 1) (u r % 2 ^ 32) i root_here (omega arith)))
      ]
      | inr l ↦ l
    ]

  pub takes_least : (r : ℕ) → IsIntVariable vars r → IsRepresentative cs r → TakesLeast cs (numbers_of (valuation_of vs)) r
  takes_least r int rep = record { least = λ u k agree there. least_word r int rep u k agree there }
