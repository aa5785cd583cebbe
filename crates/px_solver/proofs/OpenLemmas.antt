-- What the tables say of conjuncts that are false outright, of hard components, and of the first that fails.
use Rattle.std.proofs.Common.{◌≡◌, ◌≢◌, inl, inr, ℕ, zero, suc, ◌+◌, ◌%◌, ◌^◌, ◌<◌, ◌≤◌, List, [], ◌∷◌, length, get_or, refl, sym, ap, subst, ◌∙◌, arith}
use Rattle.std.specs.Prelude.{Bool, true, false, Some, All, Any, Contains, slice_get}
use Rattle.std.specs.List.{AllZip}
use Rattle.std.proofs.lemmas.Bool.{cases_lt, cases_Bool}
use Rattle.std.proofs.lemmas.List.{get_or_default}
use Rattle.std.proofs.lemmas.List.Elements.{All-nil, All-cons}
use Rattle.std.proofs.lemmas.Option.{get_or_from_slice_get}
use Rattle.px_terms.specs.Variables.{mentioned}
use Rattle.px_terms.specs.Conjuncts.{IsPlain}
use Rattle.px_terms.specs.declared.conjuncts.Conj.{Conj}
use Rattle.px_terms.specs.declared.conjuncts.Conj.TheVariants.{Equal, Unequal, Less, AtMost, SamePlace, OtherPlace, Written, Unwritten, Quotient}
use Rattle.px_plain.specs.declared.nodes.Node.{Node}
use Rattle.px_plain.specs.Forest.{node_at, parent_at, IsFlat}
use Rattle.px_plain.specs.Differences.{IsForestOf}
use Rattle.px_plain.specs.Readings.{word_differences}
use Rattle.px_plain.specs.Ties.{KeepsTies, IsFixed, Touches, IsOnWords, IsSaidUnwritten}
use Rattle.px_plain.proofs.Representatives.{at_nodes, fixed_below_null, representative, fixed_or_not, root_of, free_keep}
use Rattle.px_solver.specs.declared.solving.Layout.{Layout}
use Rattle.px_solver.specs.Components.{IsOfComponent, Selects, IsHard, IsHardComponent}
use Rattle.px_solver.specs.Assignments.{IsSolvedBy}
use Rattle.px_solver.specs.Decisions.{IsFalseOutright, IsFirstFailure}
use Rattle.px_solver.specs.Tables.{word_under, touched, first_of, Joins, HasHome, AreNodeHomes, MarksHard, MarksSaid, IsMarked, IsMarkedFalse, IsAtHome, SelectsByHome, HasFailed, places_of}
use Rattle.px_solver.specs.Layouts.{mark_at, HasSolved, HasNoSolution}
use Rattle.px_solver.specs.Searches.{OneFails}
use Rattle.px_solver.proofs.ComponentLemmas.{touched_inside_root, root_touched, share_of_parent, parent_of_share, parent_not_null, home_here, component_here, home_root}
use Rattle.px_solver.proofs.SelectLemmas.{select_by}
use Rattle.px_solver.proofs.Solutions.{zip_with, zip_at, not_beyond, is_node, own_words, member_root, solved_by, none_solves}
use Rattle.px_solver.proofs.TruthLemmas.{true_alike}

pub words_of_hard : (c : Conj) → ¬ IsPlain c → IsOnWords c
words_of_hard (Equal p) n = tt
words_of_hard (Unequal p) n = tt
words_of_hard (Less p q) n = tt
words_of_hard (AtMost p q) n = tt
words_of_hard (SamePlace a b) n = absurd (n tt)
words_of_hard (OtherPlace a b) n = absurd (n tt)
words_of_hard (Written x) n = absurd (n tt)
words_of_hard (Unwritten x) n = absurd (n tt)
words_of_hard (Quotient x p q) n = tt

pub some_at : (cs : List Conj) (i : ℕ) → i < length cs → (c : Conj) × (slice_get cs i ≡ Some c)
some_at [] i l = absurd (omega arith)
some_at (c ∷ cs) zero l = (c, refl)
some_at (c ∷ cs) (suc i) l = some_at cs i (omega arith)

none_selected : (Q : Conj → Type 0) (cs us : List Conj) → Selects Q cs us → us ≡ [] → All (λ c. ¬ Q c) cs
none_selected Q [] us s e = All-nil (λ c. ¬ Q c)
none_selected Q (c ∷ cs) us (inl (q, (vs, e, r))) z = absurd (let f = sym e ∙ z in cc)
none_selected Q (c ∷ cs) us (inr (n, r)) z = All-cons (λ c. ¬ Q c) c cs n (none_selected Q cs us r z)

any_map : (P Q : ℕ → Type 0) (xs : List ℕ) → ((x : ℕ) → P x → Q x) → Any P xs → Any Q xs
any_map P Q xs f (k, x, l, e, p) = (k, x, l, e, f x p)

module _ (cs : List Conj) (t : List Node) (f : IsForestOf (word_differences cs) t) (inside : All (λ c. All (λ x. x + 1 < length t) (mentioned c)) cs)
    (small : length t ≤ 65537) (some : 0 < length t) (l : Layout) (j : Joins t cs l.joined.items) (flat : IsFlat l.joined.items)
    (homes : AllZip (HasHome t l.joined.items) cs l.homes.items) (nodes : AreNodeHomes t l.joined.items l.node_homes.items)
    (hm : MarksHard cs l.homes.items (length cs) l.hard.items) where
  abbrev ct : List Node
  ct = l.joined.items

  home_at : (i : ℕ) (c : Conj) → slice_get cs i ≡ Some c → HasHome t ct c (get_or l.homes.items i 0)
  home_at i c e = zip_at (HasHome t ct) cs l.homes.items i c homes e

  get_here : (i : ℕ) (c : Conj) → i < length cs → get_or cs i c ≡ c → slice_get cs i ≡ Some c
  get_here i c b e = Rattle.std.proofs.lemmas.Option.slice_get-get_or cs i c b ∙ ap Some e

  here_inside : (i : ℕ) (c : Conj) → i < length cs → get_or cs i c ≡ c → All (λ x. x + 1 < length t) (mentioned c)
  here_inside i c b e = subst (λ (d : Conj). All (λ x. x + 1 < length t) (mentioned d)) e (inside i c b)

  -- ---- false outright

  -- a conjunct on words without a home has fixed variables alone
  pub fixed_at : (i : ℕ) (c : Conj) (h : ℕ) → i < length cs → get_or cs i c ≡ c → HasHome t ct c h → IsOnWords c → h ≡ 0 → (k d : ℕ) → k < length (mentioned c) → parent_at t (get_or (mentioned c) k d + 1) ≡ 0
  fixed_at i c h b e home w z k d y =
      let x = get_or (mentioned c) k d in
      let bound = here_inside i c b e k d y in
      elim (fixed_or_not cs t f x bound) [
        | inl p ↦ p
        | inr (s, p) ↦
            let touch : Touches cs s c = (w, (k, x, y, get_or_default (mentioned c) k x d y, representative cs t f x s bound p)) in
            let sb = (touched_inside_root cs t f inside c (here_inside i c b e) s touch).0 in
            absurd (parent_not_null cs t f inside ct j flat small some s sb (sym (home_here cs t f inside ct j flat small some i c h b e home s sb (s, touch, λ set closed. refl)) ∙ z))
      ]

  fixed_alike : (i : ℕ) (c : Conj) (h : ℕ) → i < length cs → get_or cs i c ≡ c → HasHome t ct c h → IsOnWords c → h ≡ 0 → (g u : ℕ → ℕ) → g 0 ≡ 0 → KeepsTies u cs → All (λ x. u x % 2 ^ 32 ≡ word_under t g x % 2 ^ 32) (mentioned c)
  fixed_alike i c h b e home w z g u n keep k d y =
      let x = get_or (mentioned c) k d in
      let p = fixed_at i c h b e home w z k d y in
      let bound = here_inside i c b e k d y in
      let tie = fixed_below_null cs t f x bound p u keep in
      let a = ap g p in
      omega arith

  no_touch : (i : ℕ) (c : Conj) → i < length cs → get_or cs i c ≡ c → (h : ℕ) → HasHome t ct c h → All (IsFixed cs) (mentioned c) → h ≡ 0
  no_touch i c b e h home fixed = home ∙ empty (touched t c) (λ u x. root_touched cs t f inside c (here_inside i c b e) u x)
    where
      null : parent_at ct 0 ≡ 0
      null = let n = j.size in let low = j.forest.lower 0 (omega arith) in omega arith

      empty : (us : List ℕ) → ((u : ℕ) → Contains us u → (r : ℕ) × (u ≡ r + 1) × Touches cs r c) → parent_at ct (first_of us) ≡ 0
      empty [] g = null
      empty (u ∷ us) g =
          let x = g u (0, omega arith, refl) in
          let y = x.2.1 in
          absurd (y.4.free (subst (IsFixed cs) y.3 (fixed y.0 y.1 y.2)))

  module _ (said : List Bool) (ms : MarksSaid cs (length cs) said) (roots : List ℕ) (zero_root : get_or roots 0 0 ≡ 0) where
    said_of : (x : ℕ) → IsSaidUnwritten cs x → IsMarked said x
    said_of x (k, c, b, e, s) = ms.all k x c b (get_here k c b e) s

    abbrev num : ℕ → ℕ
    num v = get_or roots v 0

    outright_same : (i : ℕ) (c : Conj) (h : ℕ) → i < length cs → get_or cs i c ≡ c → HasHome t ct c h → (IsMarkedFalse t roots said h c → IsFalseOutright cs c) × (IsFalseOutright cs c → IsMarkedFalse t roots said h c)
    outright_same i c h b e home = (to, from)
      where
        to : IsMarkedFalse t roots said h c → IsFalseOutright cs c
        to (n, inl a) = (n, inl (any_map (IsMarked said) (IsSaidUnwritten cs) (mentioned c) ms.marked a))
        to (n, inr (z, fails)) =
            let w = words_of_hard c n in (
              n,
              inr (
                (λ k d y. let p = fixed_at i c h b e home w z k d y in let bound = here_inside i c b e k d y in ((node_at t (get_or (mentioned c) k d + 1)).offset, fixed_below_null cs t f (get_or (mentioned c) k d) bound p)),
                λ u keep tr. fails (true_alike u (word_under t num) c (fixed_alike i c h b e home w z num u zero_root keep) tr),
              ),
            )

        from : IsFalseOutright cs c → IsMarkedFalse t roots said h c
        from (n, inl a) = (n, inl (any_map (IsSaidUnwritten cs) (IsMarked said) (mentioned c) said_of a))
        from (n, inr (fixed, fails)) = (n, inr (no_touch i c b e h home fixed, fails (word_under t num) (free_keep cs t f num zero_root)))

    pub outright : (us : List Conj) → SelectsByHome (IsMarkedFalse t roots said) cs l.homes.items us → Selects (IsFalseOutright cs) cs us
    outright us s = select_by (IsMarkedFalse t roots said) (IsFalseOutright cs) cs l.homes.items us
        (zip_with (HasHome t ct) (λ c h. (IsMarkedFalse t roots said h c → IsFalseOutright cs c) × (IsFalseOutright cs c → IsMarkedFalse t roots said h c)) cs l.homes.items (λ i c h b e q home. outright_same i c h b e home) homes) s

    pub none_outright : (us : List Conj) → SelectsByHome (IsMarkedFalse t roots said) cs l.homes.items us → us ≡ [] → All (λ c. ¬ IsFalseOutright cs c) cs
    none_outright us s e = none_selected (IsFalseOutright cs) cs us (outright us s) e

  -- ---- hard components

  pub hard_at : (r : ℕ) → IsHardComponent cs r → (r + 1 < length t) × (parent_at t (r + 1) ≡ r + 1) × (parent_at ct (r + 1) ≡ r + 1) × (mark_at l.hard.items (r + 1) ≡ true)
  hard_at r hc =
      let any = hc.hard in
      let k = any.0 in
      let c = any.1 in
      let b = any.2 in
      let e = any.3 in
      let np = any.4.0 in
      let own = any.4.1 in
      let here = here_inside k c b e in
      let sb = (touched_inside_root cs t f inside c here own.0 own.1).0 in
      let bound = not_beyond cs t f inside ct j flat small some l.homes.items l.node_homes.items homes nodes own.0 r sb (λ set closed. sym (own.2 set closed)) in
      let root = root_of cs t f r r bound hc.represents in
      let h = get_or l.homes.items k 0 in
      let home = home_at k c (get_here k c b e) in
      let same = home_here cs t f inside ct j flat small some k c h b e home r bound own in
      let n = parent_not_null cs t f inside ct j flat small some r bound in
      let q = home_root cs t f inside ct j flat small some k c h b e home (λ z. n (sym same ∙ z)) in
      let size = j.size in
      let low = j.forest.lower (r + 1) (omega arith) in
      let qe = q.1 in
      let le : q.0 ≤ r = omega arith in
      elim (cases_lt q.0 r) [
        | inl w ↦ absurd (hc.least q.0 w (representative cs t f q.0 q.0 q.2 q.3) (share_of_parent cs t f inside ct j flat small some r q.0 bound q.2 (sym same ∙ qe ∙ sym q.4)))
        | inr w ↦
            let eq : q.0 ≡ r = omega arith in
            (bound, root, subst (λ z. parent_at ct (z + 1) ≡ z + 1) eq q.4, subst (λ z. mark_at l.hard.items z ≡ true) (qe ∙ ap (λ z. z + 1) eq) (hm.all k c b (get_here k c b e) np))
      ]

  pub component_of_mark : (h : ℕ) → mark_at l.hard.items h ≡ true → h ≢ 0 → (r : ℕ) × (h ≡ r + 1) × (r + 1 < length t) × (parent_at t (r + 1) ≡ r + 1) × (parent_at ct (r + 1) ≡ r + 1) × IsHardComponent cs r
  component_of_mark h m n =
      let g = hm.marked h m in
      let i = g.0 in
      let o = some_at cs i g.1.0 in
      let c = o.0 in
      let e = get_or_from_slice_get cs i c c o.1 in
      let home = subst (HasHome t ct c) g.1.1 (home_at i c o.1) in
      let q = home_root cs t f inside ct j flat small some i c h g.1.0 e home n in
      let r = q.0 in
      let own = component_here cs t f inside ct j flat small some i c h g.1.0 e home r q.2 (q.1 ∙ sym q.4) in (
        r,
        q.1,
        q.2,
        q.3,
        q.4,
        record {
          represents = representative cs t f r r q.2 q.3;
          least = λ s w rep share.
              let p = parent_of_share cs t f inside ct j flat small some r s share in
              let top = q.4 in
              let bound = q.2 in
              let size = j.size in
              let low = j.forest.lower (s + 1) (omega arith) in
              absurd (omega arith);
          hard = (i, c, g.1.0, e, (g.1.2 c o.1, own));
        },
      )

  -- a representative that is in fails hard component has fails hard home
  pub easy_home : (r : ℕ) → r + 1 < length t → parent_at t (r + 1) ≡ r + 1 → ¬ IsHard cs r → mark_at l.hard.items (get_or l.node_homes.items (r + 1) 0) ≡ false
  easy_home r b q n = elim (cases_Bool (mark_at l.hard.items (get_or l.node_homes.items (r + 1) 0))) [
    | inr z ↦ z
    | inl m ↦
        let h = get_or l.node_homes.items (r + 1) 0 in
        let is = is_node cs t f inside ct j flat small some l.homes.items l.node_homes.items homes nodes (r + 1) b q in
        let g = hm.marked h m in
        let o = some_at cs g.0 g.1.0 in
        let e = get_or_from_slice_get cs g.0 o.0 o.0 o.1 in
        let home = subst (HasHome t ct o.0) g.1.1 (home_at g.0 o.0 o.1) in
        absurd (n (g.0, o.0, g.1.0, e, (g.1.2 o.0 o.1, component_here cs t f inside ct j flat small some g.0 o.0 h g.1.0 e home r b is)))
  ]

  -- ---- solutions

  pub solved_component : (r : ℕ) → IsHardComponent cs r → (g w : ℕ → ℕ) → HasSolved t cs l (r + 1) g → ((v : ℕ) → (v ≢ 0) → v < length t → parent_at t v ≡ v → parent_at ct v ≡ r + 1 → at_nodes w v % 2 ^ 32 ≡ g v % 2 ^ 32) → IsSolvedBy cs w r
  solved_component r hc g w h same =
      let a = hard_at r hc in
      solved_by cs t f inside ct j flat small some l.homes.items l.node_homes.items homes nodes r a.0 a.1 a.2 h.base g h.zero h.solved w
      (λ v c. let m = member_root cs t f inside ct j flat small some l.homes.items l.node_homes.items homes nodes r a.0 a.1 a.2 v c in same v m.0 m.1 m.2 m.3)

  pub first_failure : (us : List Conj) → All (λ c. ¬ IsFalseOutright cs c) cs → OneFails t cs l us → IsFirstFailure cs us
  first_failure us none o =
      let low = o.low in
      let q = component_of_mark o.home o.hard (λ z. absurd (omega arith)) in
      let r = q.0 in
      record {
        none_false = none;
        component = r;
        is_hard = q.5;
        fails = none_solves cs t f inside ct j flat small some l.homes.items l.node_homes.items homes nodes r q.2 q.3 q.4 (fail_here r q.1 o.none).0 (fail_here r q.1 o.none).1 (fail_here r q.1 o.none).2;
        earlier = λ s w hc.
            let a = hard_at s hc in
            let e = q.1 in
            let solved = o.earlier (s + 1) (omega arith) (omega arith) a.3 in (
              word_under t o.numbers,
              solved_by cs t f inside ct j flat small some l.homes.items l.node_homes.items homes nodes s a.0 a.1 a.2 solved.base o.numbers solved.zero solved.solved (word_under t o.numbers)
                  (own_words cs t f inside ct j flat small some l.homes.items l.node_homes.items homes nodes s a.0 a.1 a.2 o.numbers),
            );
        selects = select_by (IsAtHome o.home) (IsOfComponent cs r) cs l.homes.items us
            (zip_with (HasHome t ct) (λ c h. (IsAtHome o.home h c → IsOfComponent cs r c) × (IsOfComponent cs r c → IsAtHome o.home h c)) cs l.homes.items
            (λ i c h b e p home. (
              (λ a. component_here cs t f inside ct j flat small some i c h b e home r q.2 (a ∙ q.1 ∙ sym q.4)),
              λ own. home_here cs t f inside ct j flat small some i c h b e home r q.2 own ∙ q.4 ∙ sym q.1,
            )) homes) o.selects;
      }
    where
      fail_here : (r : ℕ) → o.home ≡ r + 1 → HasNoSolution t cs l o.home → (base : ℕ → ℕ) × (base 0 ≡ 0) × HasFailed t cs (places_of (r + 1) l.homes.items) base (places_of (r + 1) l.node_homes.items)
      fail_here r e h = (h.base, h.zero, subst (λ z. HasFailed t cs (places_of z l.homes.items) h.base (places_of z l.node_homes.items)) e h.failed)
