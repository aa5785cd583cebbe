-- Homes: nodes of one home share a component, and conjuncts belong to their home's component.
use Rattle.std.proofs.Common.{◌≡◌, ◌≢◌, inl, inr, ℕ, zero, suc, ◌+◌, ◌-◌, ◌%◌, ◌^◌, ◌<◌, ◌≤◌, List, [], ◌∷◌, length, get_or, refl, sym, ap, subst, ◌∙◌, arith}
use Rattle.std.specs.Prelude.{Bool, true, false, not, cond, nat_eq, All, Any, Contains}
use Rattle.std.proofs.lemmas.Bool.{cases_eq, eq-eqb, ne_eqb}
use Rattle.std.proofs.lemmas.List.{get_or_default}
use Rattle.px_terms.specs.Variables.{mentioned}
use Rattle.px_terms.specs.declared.conjuncts.Conj.{Conj}
use Rattle.px_terms.specs.declared.conjuncts.Conj.TheVariants.{Equal, Unequal, Less, AtMost, SamePlace, OtherPlace, Written, Unwritten, Quotient}
use Rattle.px_plain.specs.declared.nodes.Node.{Node}
use Rattle.px_plain.specs.Forest.{node_at, parent_at, IsFlat, Keeps}
use Rattle.px_plain.specs.Differences.{IsForestOf}
use Rattle.px_plain.specs.Readings.{word_differences}
use Rattle.px_plain.specs.Ties.{IsOnWords, IsRepresentative, Touches}
use Rattle.px_plain.proofs.Representatives.{representative, root_of, root_represents}
use Rattle.px_solver.specs.Components.{IsClosed, ShareComponent, IsOfComponent}
use Rattle.px_solver.specs.Tables.{roots_of, word_variables, touched, AreOne, Joins, first_of, HasHome}
use Rattle.px_solver.proofs.SearchLemmas.{contains_more, contains_cases}
use Rattle.px_terms.proofs.Tests.{never_both}

pub eq_of : (a b : ℕ) → nat_eq a b ≡ true → a ≡ b
eq_of a b e = elim (cases_eq a b) [ inl q ↦ q | inr n ↦ absurd (never_both (nat_eq a b) e (ne_eqb a b n)) ]

-- ---- touched roots and touched representatives

kept_step : (t : List Node) (x : ℕ) (xs : List ℕ) (u : ℕ) → parent_at t (x + 1) ≡ u → u ≢ 0 → Contains (roots_of t (x ∷ xs)) u
kept_step t x xs u e n =
    let w : nat_eq (parent_at t (x + 1)) 0 ≡ false = ne_eqb (parent_at t (x + 1)) 0 (λ q. n (sym e ∙ q)) in
    subst (λ z. Contains z u) (sym (ap (λ b. cond (not b) (parent_at t (x + 1) ∷ roots_of t xs) (roots_of t xs)) w)) (0, omega arith, e)

rest_step : (t : List Node) (x : ℕ) (xs : List ℕ) (u : ℕ) → Contains (roots_of t xs) u → Contains (roots_of t (x ∷ xs)) u
rest_step t x xs u h = both (not (nat_eq (parent_at t (x + 1)) 0))
  where
    both : (b : Bool) → Contains (cond b (parent_at t (x + 1) ∷ roots_of t xs) (roots_of t xs)) u
    both true = contains_more (parent_at t (x + 1)) (roots_of t xs) u h
    both false = h

-- a root of a variable is a root of the list
root_kept : (t : List Node) (xs : List ℕ) (k x u : ℕ) → k < length xs → get_or xs k x ≡ x → parent_at t (x + 1) ≡ u → u ≢ 0 → Contains (roots_of t xs) u
root_kept t [] k x u l e p n = absurd (omega arith)
root_kept t (y ∷ ys) zero x u l e p n = kept_step t y ys u (ap (λ z. parent_at t (z + 1)) e ∙ p) n
root_kept t (y ∷ ys) (suc k) x u l e p n = rest_step t y ys u (root_kept t ys k x u (omega arith) e p n)

-- and a root of the list is that of a variable
root_from : (t : List Node) (xs : List ℕ) (u : ℕ) → Contains (roots_of t xs) u → (u ≢ 0) × Any (λ x. parent_at t (x + 1) ≡ u) xs
root_from t [] u (k, l, e) = absurd (omega arith)
root_from t (x ∷ xs) u h = elim (cases_eq (parent_at t (x + 1)) 0) [
  | inl z ↦
      let less = subst (λ b. Contains (cond (not b) (parent_at t (x + 1) ∷ roots_of t xs) (roots_of t xs)) u) (eq-eqb (parent_at t (x + 1)) 0 z) h in
      let r = root_from t xs u less in (r.0, there r.1)
  | inr n ↦
      let more = subst (λ b. Contains (cond (not b) (parent_at t (x + 1) ∷ roots_of t xs) (roots_of t xs)) u) (ne_eqb (parent_at t (x + 1)) 0 n) h in
      elim (contains_cases (parent_at t (x + 1)) (roots_of t xs) u more) [
        | inl e ↦ ((λ q. n (e ∙ q)), (0, x, omega arith, refl, e))
        | inr m ↦ let r = root_from t xs u m in (r.0, there r.1)
      ]
]
  where
    there : Any (λ y. parent_at t (y + 1) ≡ u) xs → Any (λ y. parent_at t (y + 1) ≡ u) (x ∷ xs)
    there (k, y, l, e, p) = (suc k, y, omega arith, e, p)

words_only : (c : Conj) → IsOnWords c → mentioned c ≡ word_variables c
words_only (Equal p) h = refl
words_only (Unequal p) h = refl
words_only (Less p q) h = refl
words_only (AtMost p q) h = refl
words_only (SamePlace a b) h = absurd h
words_only (OtherPlace a b) h = absurd h
words_only (Written x) h = absurd h
words_only (Unwritten x) h = absurd h
words_only (Quotient x p q) h = refl

on_words : (c : Conj) (k x : ℕ) → k < length (word_variables c) → IsOnWords c × (mentioned c ≡ word_variables c)
on_words (Equal p) k x l = (tt, refl)
on_words (Unequal p) k x l = (tt, refl)
on_words (Less p q) k x l = (tt, refl)
on_words (AtMost p q) k x l = (tt, refl)
on_words (SamePlace a b) k x l = absurd (omega arith)
on_words (OtherPlace a b) k x l = absurd (omega arith)
on_words (Written y) k x l = absurd (omega arith)
on_words (Unwritten y) k x l = absurd (omega arith)
on_words (Quotient y p q) k x l = (tt, refl)

module _ (cs : List Conj) (t : List Node) (f : IsForestOf (word_differences cs) t) (inside : All (λ c. All (λ x. x + 1 < length t) (mentioned c)) cs) where
  pub touched_root : (c : Conj) → All (λ x. x + 1 < length t) (mentioned c) → (r : ℕ) → Touches cs r c → Contains (touched t c) (r + 1)
  touched_root c i r (w, (k, x, l, e, h)) =
      let q = words_only c w in
      let b = subst (λ z. z + 1 < length t) e (i k x l) in
      root_kept t (word_variables c) k x (r + 1) (subst (λ z. k < length z) q l) (subst (λ z. get_or z k x ≡ x) q e) (root_of cs t f x r b h) (λ z. absurd (omega arith))

  -- a touched root is the node of a touched representative
  pub root_touched : (c : Conj) → All (λ x. x + 1 < length t) (mentioned c) → (u : ℕ) → Contains (touched t c) u → (r : ℕ) × (u ≡ r + 1) × Touches cs r c
  root_touched c i u h =
      let g = root_from t (word_variables c) u h in
      let n = g.0 in
      let w = on_words c g.1.0 0 g.1.2 in
      let l = subst (λ z. g.1.0 < length z) (sym w.1) g.1.2 in
      let e = subst (λ z. get_or z g.1.0 g.1.1 ≡ g.1.1) (sym w.1) g.1.3 in
      let b = subst (λ z. z + 1 < length t) e (i g.1.0 g.1.1 l) in
      let p : u ≡ (u - 1) + 1 = omega arith in
      (u - 1, p, (w.0, (g.1.0, g.1.1, l, e, representative cs t f g.1.1 (u - 1) b (g.1.4 ∙ p))))

  pub touched_inside_root : (c : Conj) → All (λ x. x + 1 < length t) (mentioned c) → (r : ℕ) → Touches cs r c → (r + 1 < length t) × (parent_at t (r + 1) ≡ r + 1)
  touched_inside_root c i r (w, (k, x, l, e, h)) =
      let b = subst (λ z. z + 1 < length t) e (i k x l) in
      let p = root_of cs t f x r b h in
      let low = f.forest.lower (x + 1) b in
      (omega arith, ap (parent_at t) (sym p) ∙ f.flat.root (x + 1) b ∙ p)

  pub touched_represents : (c : Conj) → All (λ x. x + 1 < length t) (mentioned c) → (r : ℕ) → Touches cs r c → IsRepresentative cs r
  touched_represents c i r (w, (k, x, l, e, h)) =
      let b = subst (λ z. z + 1 < length t) e (i k x l) in
      root_represents cs t f x r b (root_of cs t f x r b h)

  -- ---- the joined forest

  module _ (ct : List Node) (j : Joins t cs ct) (flat : IsFlat ct) (small : length t ≤ 65537) (some : 0 < length t) where
    no_offset : (v : ℕ) → v < length ct → (node_at ct v).offset % 2 ^ 32 ≡ 0
    no_offset v l = let h = j.bare.each v l in omega arith

    same_as_root : (val : ℕ → ℕ) → Keeps val ct → (v : ℕ) → v < length ct → val v % 2 ^ 32 ≡ val (parent_at ct v) % 2 ^ 32
    same_as_root val k v l = let h = k.each v l in let n = no_offset v l in omega arith

    pub parents_keep : Keeps (parent_at ct) ct
    parents_keep = record { each = λ v l. let e = flat.root v l in let n = no_offset v l in omega arith }

    parent_small : (v : ℕ) → v < length t → parent_at ct v < 2 ^ 32
    parent_small v l = let s = j.size in let h = j.forest.lower v (omega arith) in omega arith

    -- what a conjunct touches has one parent
    pub one_parent : (i : ℕ) (c : Conj) → i < length cs → get_or cs i c ≡ c → (r s : ℕ) → Touches cs r c → Touches cs s c → parent_at ct (r + 1) ≡ parent_at ct (s + 1)
    one_parent i c l e r s h k =
        let here = subst (λ (d : Conj). All (λ x. x + 1 < length t) (mentioned d)) e (inside i c l) in
        let a = touched_root c here r h in
        let b = touched_root c here s k in
        let one = subst (λ (d : Conj). AreOne (parent_at ct) (touched t d)) e (j.back (parent_at ct) parents_keep i c l) in
        let p = one a.0 b.0 a.1 b.1 in
        let x = get_or_default (touched t c) a.0 0 (r + 1) a.1 ∙ a.2 in
        let y = get_or_default (touched t c) b.0 0 (s + 1) b.1 ∙ b.2 in
        let u = parent_small (r + 1) (touched_inside_root c here r h).0 in
        let v = parent_small (s + 1) (touched_inside_root c here s k).0 in
        let px = ap (parent_at ct) x in
        let py = ap (parent_at ct) y in
        omega arith

    -- values on which each conjunct's touched roots agree are kept
    kept_by : (val : ℕ → ℕ) → ((i : ℕ) (c : Conj) → i < length cs → get_or cs i c ≡ c → (r s : ℕ) → Touches cs r c → Touches cs s c → val (r + 1) ≡ val (s + 1)) → Keeps val ct
    kept_by val h = j.there val (λ i d l a b la lb.
        let c = get_or cs i d in
        let here = inside i d l in
        let u = root_touched c here (get_or (touched t c) a 0) (a, la, get_or_default (touched t c) a (get_or (touched t c) a 0) 0 la) in
        let v = root_touched c here (get_or (touched t c) b 0) (b, lb, get_or_default (touched t c) b (get_or (touched t c) b 0) 0 lb) in
        ap (λ z. val z % 2 ^ 32) u.1 ∙ ap (λ z. z % 2 ^ 32) (h i c l (get_or_default cs i c d l) u.0 v.0 u.2 v.2) ∙ ap (λ z. val z % 2 ^ 32) (sym v.1))

    abbrev of_set : (ℕ → Bool) → ℕ → ℕ
    of_set set zero = 0
    of_set set (suc r) = cond (set r) 1 0

    of_set_after : (set : ℕ → Bool) (r : ℕ) → of_set set (r + 1) ≡ cond (set r) 1 0
    of_set_after set r = let e : r + 1 ≡ suc r = omega arith in ap (of_set set) e

    same_bool : (a b : Bool) → cond a 1 0 % 2 ^ 32 ≡ cond b 1 0 % 2 ^ 32 → a ≡ b
    same_bool true true e = refl
    same_bool true false e = absurd (omega arith)
    same_bool false true e = absurd (omega arith)
    same_bool false false e = refl

    pub share_of_parent : (r s : ℕ) → r + 1 < length t → s + 1 < length t → parent_at ct (r + 1) ≡ parent_at ct (s + 1) → ShareComponent cs r s
    share_of_parent r s l m e set closed =
        let keeps = kept_by (of_set set) (λ i c b q a d ta td. of_set_after set a ∙ ap (λ z. cond z 1 0) (subst (λ (k : Conj). (r s : ℕ) → Touches cs r k → Touches cs s k → set r ≡ set s) q (closed i c b) a d ta td) ∙ sym (of_set_after set d)) in
        let n = j.size in
        let x = same_as_root (of_set set) keeps (r + 1) (omega arith) in
        let y = same_as_root (of_set set) keeps (s + 1) (omega arith) in
        same_bool (set r) (set s) (ap (λ z. z % 2 ^ 32) (sym (of_set_after set r)) ∙ x ∙ ap (λ z. of_set set z % 2 ^ 32) e ∙ sym y ∙ ap (λ z. z % 2 ^ 32) (of_set_after set s))

    pub parent_of_share : (r s : ℕ) → ShareComponent cs r s → parent_at ct (r + 1) ≡ parent_at ct (s + 1)
    parent_of_share r s share =
        let set = λ (k : ℕ). nat_eq (parent_at ct (k + 1)) (parent_at ct (r + 1)) in
        let closed : IsClosed cs set = λ i d l a b ta tb. ap (λ z. nat_eq z (parent_at ct (r + 1))) (one_parent i (get_or cs i d) l (get_or_default cs i (get_or cs i d) d l) a b ta tb) in
        let here : set r ≡ true = eq-eqb (parent_at ct (r + 1)) (parent_at ct (r + 1)) refl in
        sym (eq_of (parent_at ct (s + 1)) (parent_at ct (r + 1)) (sym (share set closed) ∙ here))

    -- the component of a representative is below its node, and not below node 0
    pub parent_not_null : (r : ℕ) → r + 1 < length t → parent_at ct (r + 1) ≢ 0
    parent_not_null r l e =
        let set = λ (k : ℕ). true in
        let keeps = kept_by (of_set set) (λ i c b q a d ta td. of_set_after set a ∙ sym (of_set_after set d)) in
        let n = j.size in
        let x = same_as_root (of_set set) keeps (r + 1) (omega arith) in
        let y = of_set_after set r in
        let z : of_set set (parent_at ct (r + 1)) ≡ 0 = ap (of_set set) e in
        absurd (omega arith)

    null_parent : parent_at ct 0 ≡ 0
    null_parent = let n = j.size in let h = j.forest.lower 0 (omega arith) in omega arith

    -- ---- homes of conjuncts

    pub home_here : (i : ℕ) (c : Conj) (h : ℕ) → i < length cs → get_or cs i c ≡ c → HasHome t ct c h → (r : ℕ) → r + 1 < length t → IsOfComponent cs r c → h ≡ parent_at ct (r + 1)
    home_here i c h l e home r b (s, ts, share) =
        let here = subst (λ (d : Conj). All (λ x. x + 1 < length t) (mentioned d)) e (inside i c l) in
        let a = touched_root c here s ts in
        let one = subst (λ (d : Conj). AreOne (parent_at ct) (touched t d)) e (j.back (parent_at ct) parents_keep i c l) in
        let first = first_is (touched t c) a.0 a.1 in
        let p = one 0 a.0 (omega arith) a.1 in
        let x = get_or_default (touched t c) a.0 0 (s + 1) a.1 ∙ a.2 in
        let g = root_touched c here (get_or (touched t c) 0 0) (0, omega arith, get_or_default (touched t c) 0 (get_or (touched t c) 0 0) 0 (omega arith)) in
        let u = parent_small (g.0 + 1) (touched_inside_root c here g.0 g.2).0 in
        let v = parent_small (s + 1) (touched_inside_root c here s ts).0 in
        let px = ap (parent_at ct) x in
        let py = ap (parent_at ct) g.1 in
        let same : parent_at ct (get_or (touched t c) 0 0) ≡ parent_at ct (s + 1) = omega arith in
        home ∙ ap (parent_at ct) first ∙ same ∙ sym (parent_of_share r s share)
      where
        first_is : (xs : List ℕ) (k : ℕ) → k < length xs → first_of xs ≡ get_or xs 0 0
        first_is [] k l = absurd (omega arith)
        first_is (x ∷ xs) k l = refl

    pub component_here : (i : ℕ) (c : Conj) (h : ℕ) → i < length cs → get_or cs i c ≡ c → HasHome t ct c h → (r : ℕ) → r + 1 < length t → h ≡ parent_at ct (r + 1) → IsOfComponent cs r c
    component_here i c h l e home r b q =
        let here = subst (λ (d : Conj). All (λ x. x + 1 < length t) (mentioned d)) e (inside i c l) in
        let p = home ∙ refl in
        let g = some_first (touched t c) (λ z. parent_not_null r b (sym q ∙ home ∙ ap (parent_at ct) z ∙ null_parent)) in
        let w = root_touched c here (first_of (touched t c)) g in
        (w.0, w.2, share_of_parent r w.0 b (touched_inside_root c here w.0 w.2).0 (sym q ∙ home ∙ ap (parent_at ct) w.1))
      where
        some_first : (xs : List ℕ) → first_of xs ≢ 0 → Contains xs (first_of xs)
        some_first [] n = absurd (n refl)
        some_first (x ∷ xs) n = (0, omega arith, refl)

    -- ---- homes of nodes

    -- a home of a conjunct is the node of the least representative of its component
    pub home_root : (i : ℕ) (c : Conj) (h : ℕ) → i < length cs → get_or cs i c ≡ c → HasHome t ct c h → h ≢ 0 → (r : ℕ) × (h ≡ r + 1) × (r + 1 < length t) × (parent_at t (r + 1) ≡ r + 1) × (parent_at ct (r + 1) ≡ r + 1)
    home_root i c h l e home n =
        let here = subst (λ (d : Conj). All (λ x. x + 1 < length t) (mentioned d)) e (inside i c l) in
        let g = some_first (touched t c) (λ z. n (home ∙ ap (parent_at ct) z ∙ null_parent)) in
        let w = root_touched c here (first_of (touched t c)) g in
        let b = touched_inside_root c here w.0 w.2 in
        let size = j.size in
        let under = j.forest.lower (w.0 + 1) (omega arith) in
        let q : h ≡ parent_at ct (w.0 + 1) = home ∙ ap (parent_at ct) w.1 in
        let p : h ≡ (h - 1) + 1 = omega arith in
        let top = flat.root (w.0 + 1) (omega arith) in
        let own : parent_at ct h ≡ h = ap (parent_at ct) q ∙ top ∙ sym q in (
          h - 1,
          p,
          omega arith,
          elim (cases_eq (parent_at t h) h) [
            | inl z ↦ subst (λ k. parent_at t k ≡ k) p z
            | inr z ↦ absurd (lone w.0 b.0 b.1 q z)
          ],
          subst (λ k. parent_at ct k ≡ k) p own,
        )
      where
        some_first : (xs : List ℕ) → first_of xs ≢ 0 → Contains xs (first_of xs)
        some_first [] n = absurd (n refl)
        some_first (x ∷ xs) n = (0, omega arith, refl)

        lone : (s : ℕ) → s + 1 < length t → parent_at t (s + 1) ≡ s + 1 → h ≡ parent_at ct (s + 1) → parent_at t h ≢ h → ⊥
        lone s b root q z =
            let val = λ (k : ℕ). cond (nat_eq k h) 1 0 in
            let keeps = kept_by val (λ i c l e a d ta td. other a (touched_inside_root c (subst (λ (m : Conj). All (λ x. x + 1 < length t) (mentioned m)) e (inside i c l)) a ta).1 ∙ sym (other d (touched_inside_root c (subst (λ (m : Conj). All (λ x. x + 1 < length t) (mentioned m)) e (inside i c l)) d td).1)) in
            let n = j.size in
            let x = same_as_root val keeps (s + 1) (omega arith) in
            let y = other s root in
            let w : val (parent_at ct (s + 1)) ≡ 1 = ap (λ b. cond b 1 0) (eq-eqb (parent_at ct (s + 1)) h (sym q)) in
            clash (val (s + 1)) (val (parent_at ct (s + 1))) x y w
          where
            clash : (a b : ℕ) → a % 2 ^ 32 ≡ b % 2 ^ 32 → a ≡ 0 → b ≡ 1 → ⊥
            clash a b e p q = omega arith

            other : (a : ℕ) → parent_at t (a + 1) ≡ a + 1 → ◌≡◌ {A = ℕ} (cond (nat_eq (a + 1) h) 1 0) 0
            other a r = ap (λ b. cond b 1 0) (ne_eqb (a + 1) h (λ e. z (subst (λ k. parent_at t k ≡ k) e r)))
