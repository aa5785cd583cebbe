-- The roots of a forest of the plain equalities are the representatives, and the trees are what is tied.
use Rattle.std.proofs.Common.{◌≡◌, ◌≢◌, ◌⊎◌, inl, inr, ℕ, zero, suc, ◌+◌, ◌-◌, ◌%◌, ◌^◌, ◌<◌, List, length, get_or, refl, sym, ap, subst, ◌∙◌, arith}
use Rattle.std.specs.Prelude.{true, false, Some, All, cond, nat_eq}
use Rattle.std.proofs.lemmas.Bool.{cases_eq, cases_lt, eq-eqb, ne_eqb}
use Rattle.std.proofs.lemmas.List.{get_or_default}
use Rattle.std.proofs.lemmas.Option.{none-some}
use Rattle.px_terms.specs.declared.conjuncts.Conj.{Conj}
use Rattle.px_terms.specs.declared.conjuncts.Conj.TheVariants.{Equal, Unequal, Less, AtMost, SamePlace, OtherPlace, Written, Unwritten, Quotient}
use Rattle.px_plain.specs.declared.nodes.Node.{Node}
use Rattle.px_plain.specs.declared.nodes.Difference.{Difference}
use Rattle.px_plain.specs.Forest.{node_at, parent_at, Keeps}
use Rattle.px_plain.specs.Differences.{IfEqual, AllEqual, IsForestOf}
use Rattle.px_plain.specs.Readings.{word_difference, word_differences}
use Rattle.px_plain.specs.Ties.{KeepsTie, KeepsTies, IsFixedAt, IsFixed, HasRepresentative, IsRepresentative}
use Rattle.px_plain.proofs.Shapes.{shape_of, shape_plain, plain_read}
use Rattle.px_plain.proofs.SumMeanings.{above_of_zero, zero_of_above, plus_of}
use Rattle.px_plain.proofs.Options.{all_given, given_all}
use Rattle.px_terms.proofs.Tests.{never_both}

-- the values of nodes that words give
abbrev pub at_nodes : (ℕ → ℕ) → ℕ → ℕ
at_nodes w zero = 0
at_nodes w (suc x) = w x

pub node_after : (w : ℕ → ℕ) (x : ℕ) → at_nodes w (x + 1) ≡ w x
node_after w x = let e : x + 1 ≡ suc x = omega arith in ap (at_nodes w) e

-- ---- what keeps the equalities, of variables and of nodes

module _ (w : ℕ → ℕ) where
  kept_one : (c : Conj) → KeepsTie w c → (d : Difference) → word_difference c ≡ Some d → IfEqual (at_nodes w) d
  kept_one (Equal p) h d e =
      let s = shape_of p.constant true p.monomials d e in
      λ q. above_of_zero p.constant true w (at_nodes w) refl (node_after w) p.monomials d s (h (shape_plain p.constant true p.monomials d s))
  kept_one (Unequal p) h d e =
      let s = shape_of p.constant false p.monomials d e in
      λ q. absurd (never_both d.equal q (plus_of p.constant false p.monomials d s).1)
  kept_one (Less p q) h d e = absurd (none-some d e)
  kept_one (AtMost p q) h d e = absurd (none-some d e)
  kept_one (SamePlace a b) h d e = absurd (none-some d e)
  kept_one (OtherPlace a b) h d e = absurd (none-some d e)
  kept_one (Written x) h d e = absurd (none-some d e)
  kept_one (Unwritten x) h d e = absurd (none-some d e)
  kept_one (Quotient x p q) h d e = absurd (none-some d e)

  one_kept : (c : Conj) → ((d : Difference) → word_difference c ≡ Some d → IfEqual (at_nodes w) d) → KeepsTie w c
  one_kept (Equal p) h = λ k.
      let r = plain_read p.constant true p.monomials k in
      let s = shape_of p.constant true p.monomials r.0 r.1 in
      zero_of_above p.constant true w (at_nodes w) refl (node_after w) p.monomials r.0 s (h r.0 r.1 (plus_of p.constant true p.monomials r.0 s).1)
  one_kept (Unequal p) h = tt
  one_kept (Less p q) h = tt
  one_kept (AtMost p q) h = tt
  one_kept (SamePlace a b) h = tt
  one_kept (OtherPlace a b) h = tt
  one_kept (Written x) h = tt
  one_kept (Unwritten x) h = tt
  one_kept (Quotient x p q) h = tt

  pub nodes_keep : (cs : List Conj) → KeepsTies w cs → AllEqual (at_nodes w) (word_differences cs)
  nodes_keep cs h =
      let all : All (IfEqual (at_nodes w)) (word_differences cs) = all_given (IfEqual (at_nodes w)) word_difference cs (λ k d b. kept_one (get_or cs k d) (h k d b)) in
      λ i l. all i (record { from = 0; to = 0; plus = 0; equal = false }) l

  pub words_keep : (cs : List Conj) → AllEqual (at_nodes w) (word_differences cs) → KeepsTies w cs
  words_keep cs h =
      let all : All (IfEqual (at_nodes w)) (word_differences cs) = λ i d l. subst (IfEqual (at_nodes w)) (get_or_default (word_differences cs) i (record { from = 0; to = 0; plus = 0; equal = false }) d l) (h i l) in
      let each = given_all (IfEqual (at_nodes w)) word_difference cs all in
      λ k d l. one_kept (get_or cs k d) (each k d l)

-- ---- a forest of the equalities

module _ (cs : List Conj) (t : List Node) (f : IsForestOf (word_differences cs) t) where
  pub keeps : (w : ℕ → ℕ) → KeepsTies w cs → Keeps (at_nodes w) t
  keeps w k = f.there (at_nodes w) (nodes_keep w cs k)

  pub tied_to_root : (x : ℕ) → x + 1 < length t → (w : ℕ → ℕ) → KeepsTies w cs → w x % 2 ^ 32 ≡ (at_nodes w (parent_at t (x + 1)) + (node_at t (x + 1)).offset) % 2 ^ 32
  tied_to_root x l w k = ap (λ z. z % 2 ^ 32) (sym (node_after w x)) ∙ (keeps w k).each (x + 1) l

  pub fixed_below_null : (x : ℕ) → x + 1 < length t → parent_at t (x + 1) ≡ 0 → IsFixedAt cs x (node_at t (x + 1)).offset
  fixed_below_null x l e w k =
      let h = tied_to_root x l w k in
      let z : at_nodes w (parent_at t (x + 1)) ≡ 0 = ap (at_nodes w) e in
      omega arith

  -- the values of all nodes, from any values of the roots
  abbrev pub spread : (ℕ → ℕ) → ℕ → ℕ
  spread r v = r (parent_at t v) + (node_at t v).offset

  spread_keeps : (r : ℕ → ℕ) → Keeps (spread r) t
  spread_keeps r = record {
    each = λ v l.
        let low = f.forest.lower v l in
        let flat = f.flat.root v l in
        let bare = f.forest.bare (parent_at t v) (omega arith) flat in
        let same : r (parent_at t (parent_at t v)) ≡ r (parent_at t v) = ap r flat in
        omega arith;
  }

  abbrev pub free_words : (ℕ → ℕ) → ℕ → ℕ
  free_words r x = spread r (x + 1)

  same_spread : (r : ℕ → ℕ) → r 0 ≡ 0 → (v : ℕ) → v < length t → at_nodes (free_words r) v ≡ spread r v
  same_spread r z zero l =
      let low = f.forest.lower 0 l in
      let root : parent_at t 0 ≡ 0 = omega arith in
      let bare = f.forest.bare 0 l root in
      let here = ap r root in
      omega arith
  same_spread r z (suc x) l = let e : x + 1 ≡ suc x = omega arith in ap (spread r) e

  pub free_keep : (r : ℕ → ℕ) → r 0 ≡ 0 → KeepsTies (free_words r) cs
  free_keep r z = words_keep (free_words r) cs (f.back (at_nodes (free_words r)) (record {
    each = λ v l.
        let low = f.forest.lower v l in
        let here = same_spread r z v l in
        let above = same_spread r z (parent_at t v) (omega arith) in
        let k = (spread_keeps r).each v l in
        ap (λ y. y % 2 ^ 32) here ∙ k ∙ ap (λ y. (y + (node_at t v).offset) % 2 ^ 32) (sym above);
  }))

  -- words that give the root r + 1 any number, and all other roots 0
  abbrev lone : ℕ → ℕ → ℕ → ℕ
  lone r a k = cond (nat_eq k (r + 1)) a 0

  lone_zero : (r a : ℕ) → lone r a 0 ≡ 0
  lone_zero r a = rw (ne_eqb 0 (r + 1) (omega arith))

  lone_there : (r a v : ℕ) → parent_at t v ≡ r + 1 → spread (lone r a) v ≡ a + (node_at t v).offset
  lone_there r a v e = ap (λ b. cond b a 0 + (node_at t v).offset) (eq-eqb (parent_at t v) (r + 1) e)

  lone_elsewhere : (r a v : ℕ) → parent_at t v ≢ r + 1 → spread (lone r a) v ≡ (node_at t v).offset
  lone_elsewhere r a v n = ap (λ b. cond b a 0 + (node_at t v).offset) (ne_eqb (parent_at t v) (r + 1) n) ∙ none (node_at t v).offset
    where
      none : (o : ℕ) → 0 + o ≡ o
      none o = omega arith

  pub representative : (x r : ℕ) → x + 1 < length t → parent_at t (x + 1) ≡ r + 1 → HasRepresentative cs x r
  representative x r l e = record {
    above = (node_at t (x + 1)).offset;
    tied = λ w k. tied_to_root x l w k ∙ ap (λ z. (z + (node_at t (x + 1)).offset) % 2 ^ 32) (ap (at_nodes w) e ∙ node_after w r);
    least = λ y c b h.
        let low = f.forest.lower (x + 1) l in
        let under = f.forest.lower (y + 1) (omega arith) in
        let other : parent_at t (y + 1) ≢ r + 1 = omega arith in
        let p = h (free_words (lone r 0)) (free_keep (lone r 0) (lone_zero r 0)) in
        let q = h (free_words (lone r 1)) (free_keep (lone r 1) (lone_zero r 1)) in
        two (node_at t (x + 1)).offset (node_at t (y + 1)).offset c (spread (lone r 0) (x + 1)) (spread (lone r 1) (x + 1)) (spread (lone r 0) (y + 1)) (spread (lone r 1) (y + 1))
        (lone_there r 0 (x + 1) e) (lone_there r 1 (x + 1) e) (lone_elsewhere r 0 (y + 1) other) (lone_elsewhere r 1 (y + 1) other) p q;
    free = λ (c, h).
        let p = h (free_words (lone r 0)) (free_keep (lone r 0) (lone_zero r 0)) in
        let q = h (free_words (lone r 1)) (free_keep (lone r 1) (lone_zero r 1)) in
        one (node_at t (x + 1)).offset c (spread (lone r 0) (x + 1)) (spread (lone r 1) (x + 1)) (lone_there r 0 (x + 1) e) (lone_there r 1 (x + 1) e) p q;
  }
    where
      two : (o u c a b i j : ℕ) → a ≡ 0 + o → b ≡ 1 + o → i ≡ u → j ≡ u → a % 2 ^ 32 ≡ (i + c) % 2 ^ 32 → b % 2 ^ 32 ≡ (j + c) % 2 ^ 32 → ⊥
      two o u c a b i j p q r s e f = omega arith

      one : (o c a b : ℕ) → a ≡ 0 + o → b ≡ 1 + o → a % 2 ^ 32 ≡ c % 2 ^ 32 → b % 2 ^ 32 ≡ c % 2 ^ 32 → ⊥
      one o c a b p q e f = omega arith

  pub one_representative : (x r s : ℕ) → HasRepresentative cs x r → HasRepresentative cs x s → r ≡ s
  one_representative x r s h k = elim (cases_lt r s) [
    | inl l ↦ absurd (k.least r h.above l h.tied)
    | inr l ↦ elim (cases_lt s r) [ inl m ↦ absurd (h.least s k.above m k.tied) | inr m ↦ omega arith ]
  ]

  -- a variable is fixed or has a representative
  pub fixed_or_not : (x : ℕ) → x + 1 < length t → (parent_at t (x + 1) ≡ 0) ⊎ ((r : ℕ) × (parent_at t (x + 1) ≡ r + 1))
  fixed_or_not x l = elim (cases_eq (parent_at t (x + 1)) 0) [
    | inl e ↦ inl e
    | inr n ↦ inr (parent_at t (x + 1) - 1, omega arith)
  ]

  pub root_of : (x r : ℕ) → x + 1 < length t → HasRepresentative cs x r → parent_at t (x + 1) ≡ r + 1
  root_of x r l h = elim (fixed_or_not x l) [
    | inl e ↦ absurd (h.free ((node_at t (x + 1)).offset, fixed_below_null x l e))
    | inr (s, e) ↦ e ∙ ap (λ z. z + 1) (one_representative x s r (representative x s l e) h)
  ]

  pub null_of : (x : ℕ) → x + 1 < length t → IsFixed cs x → parent_at t (x + 1) ≡ 0
  null_of x l h = elim (fixed_or_not x l) [
    | inl e ↦ e
    | inr (s, e) ↦ absurd ((representative x s l e).free h)
  ]

  -- a root is the representative of itself
  pub root_represents : (x r : ℕ) → x + 1 < length t → parent_at t (x + 1) ≡ r + 1 → IsRepresentative cs r
  root_represents x r l e =
      let low = f.forest.lower (x + 1) l in
      let flat = f.flat.root (x + 1) l in
      representative r r (omega arith) (ap (parent_at t) (sym e) ∙ flat ∙ e)
