-- A home that is solved in the tables is a component that is solved.
use Rattle.std.proofs.Common.{◌≡◌, ◌≢◌, inl, inr, ℕ, zero, suc, ◌+◌, ◌-◌, ◌%◌, ◌^◌, ◌<◌, ◌≤◌, ◌++◌, List, [], ◌∷◌, length, get_or, map, refl, sym, ap, subst, ◌∙◌, arith}
use Rattle.std.specs.Prelude.{Bool, true, false, Option, Some, None, cond, nat_eq, All, Any, Contains, slice_get, option_to_list}
use Rattle.std.specs.List.{AllZip}
use Rattle.std.proofs.lemmas.Bool.{cases_eq, cases_lt, eq-eqb, ne_eqb}
use Rattle.std.proofs.lemmas.List.{get_or_default, get_or-map, length-map}
use Rattle.std.proofs.lemmas.List.Elements.{All-nil, All-cons, All-head, All-tail, All-weaker}
use Rattle.std.proofs.lemmas.Option.{slice_get_within, get_or_from_slice_get}
use Rattle.px_terms.specs.Variables.{mentioned}
use Rattle.px_terms.specs.declared.conjuncts.Conj.{Conj}
use Rattle.px_plain.specs.declared.nodes.Node.{Node}
use Rattle.px_plain.specs.Forest.{node_at, parent_at, IsFlat}
use Rattle.px_plain.specs.Differences.{IsForestOf}
use Rattle.px_plain.specs.Readings.{word_differences}
use Rattle.px_plain.specs.Ties.{IsTrueOf, KeepsTies, HasRepresentative, IsRepresentative, Touches}
use Rattle.px_plain.proofs.Representatives.{at_nodes, node_after, tied_to_root, representative, fixed_or_not, root_of, free_keep}
use Rattle.px_solver.specs.Components.{IsClosed, ShareComponent, IsOfComponent, AreMembers, Selects}
use Rattle.px_solver.specs.Assignments.{GivesCandidates, Makes, AreCandidates, IsSolvedBy, IsUnsolved}
use Rattle.px_solver.specs.Candidates.{candidates}
use Rattle.px_solver.specs.Tables.{word_under, fixed_under, AreTrueAt, GivesRoots, Works, AreApart, Joins, HasHome, AreNodeHomes, places_of, picked, IsSolved, HasFailed}
use Rattle.px_solver.proofs.ComponentLemmas.{touched_inside_root, share_of_parent, parent_of_share, home_here, component_here, one_parent, eq_of}
use Rattle.px_solver.proofs.FixedWords.{forest_tells, picked_have}
use Rattle.px_solver.proofs.PlaceLemmas.{places_each, places_all, places_apart}
use Rattle.px_solver.proofs.SearchLemmas.{contains_more, contains_cases, first_apart, rest_apart}
use Rattle.px_solver.proofs.SelectLemmas.{picked_from}
use Rattle.px_solver.proofs.SolvingLemmas.{given_kept}
use Rattle.px_solver.proofs.TruthLemmas.{true_alike}

-- ---- lists of pairs, by their places

pub zip_with : (R S : Conj → ℕ → Type 0) (cs : List Conj) (hs : List ℕ) → ((i : ℕ) (c : Conj) (h : ℕ) → i < length cs → get_or cs i c ≡ c → get_or hs i h ≡ h → R c h → S c h) → AllZip R cs hs → AllZip S cs hs
zip_with R S [] [] f z = tt
zip_with R S [] (h ∷ hs) f z = absurd z
zip_with R S (c ∷ cs) [] f z = absurd z
zip_with R S (c ∷ cs) (h ∷ hs) f z = (f 0 c h (omega arith) refl refl z.0, zip_with R S cs hs (λ i d k l e q. f (suc i) d k (omega arith) e q) z.1)

pub zip_at : (R : Conj → ℕ → Type 0) (cs : List Conj) (hs : List ℕ) (i : ℕ) (c : Conj) → AllZip R cs hs → slice_get cs i ≡ Some c → R c (get_or hs i 0)
zip_at R cs hs i c z e = go cs hs i z (slice_get_within cs i c e) (get_or_from_slice_get cs i c c e)
  where
    go : (cs : List Conj) (hs : List ℕ) (i : ℕ) → AllZip R cs hs → i < length cs → get_or cs i c ≡ c → R c (get_or hs i 0)
    go [] hs i z l e = absurd (omega arith)
    go (d ∷ ds) [] i z l e = absurd z
    go (d ∷ ds) (h ∷ hs) zero z l e = subst (λ k. R k h) e z.0
    go (d ∷ ds) (h ∷ hs) (suc i) z l e = go ds hs i z.1 (omega arith) e

-- ---- picked conjuncts

pub all_picked : (cs : List Conj) (is : List ℕ) (w : ℕ → ℕ) → AreTrueAt cs is w → All (IsTrueOf w) (picked cs is)
all_picked cs [] w a = All-nil (IsTrueOf w)
all_picked cs (i ∷ is) w a = one (slice_get cs i) (λ c e. a 0 c (omega arith) e) (all_picked cs is w (λ j c l e. a (suc j) c (omega arith) e))
  where
    one : (o : Option Conj) → ((c : Conj) → o ≡ Some c → IsTrueOf w c) → All (IsTrueOf w) (picked cs is) → All (IsTrueOf w) (option_to_list o ++ picked cs is)
    one None h r = r
    one (Some c) h r = All-cons (IsTrueOf w) c (picked cs is) (h c refl) r

pub picked_all : (cs : List Conj) (is : List ℕ) (w : ℕ → ℕ) → All (IsTrueOf w) (picked cs is) → AreTrueAt cs is w
picked_all cs [] w h i c l e = absurd (omega arith)
picked_all cs (k ∷ is) w h zero c l e = All-head (IsTrueOf w) c (picked cs is) (subst (λ o. All (IsTrueOf w) (option_to_list o ++ picked cs is)) e h)
picked_all cs (k ∷ is) w h (suc i) c l e = picked_all cs is w (rest (slice_get cs k) h) i c (omega arith) e
  where
    rest : (o : Option Conj) → All (IsTrueOf w) (option_to_list o ++ picked cs is) → All (IsTrueOf w) (picked cs is)
    rest None h = h
    rest (Some c) h = All-tail (IsTrueOf w) c (picked cs is) h

-- ---- numbers at places

abbrev placed_at : List ℕ → (ℕ → ℕ) → List ℕ → List ℕ → ℕ → ℕ
placed_at values base [] ks v = base v
placed_at values base (n ∷ ns) [] v = base v
placed_at values base (n ∷ ns) (k ∷ ks) v = cond (nat_eq v n) (get_or values k 0) (placed_at values base ns ks v)

placed_outside : (values : List ℕ) (base : ℕ → ℕ) (ns ks : List ℕ) (v : ℕ) → ¬ Contains ns v → placed_at values base ns ks v ≡ base v
placed_outside values base [] ks v n = refl
placed_outside values base (m ∷ ns) [] v n = refl
placed_outside values base (m ∷ ns) (k ∷ ks) v n =
    ap (λ b. cond b (get_or values k 0) (placed_at values base ns ks v)) (ne_eqb v m (λ e. n (0, omega arith, sym e)))
    ∙ placed_outside values base ns ks v (λ c. n (contains_more m ns v c))

placed_given : (values : List ℕ) (base : ℕ → ℕ) (ns ks : List ℕ) → AreApart ns → AllZip (λ r k. k < length values) ns ks → GivesRoots (placed_at values base ns ks) values ns ks
placed_given values base [] [] a z = tt
placed_given values base [] (k ∷ ks) a z = absurd z
placed_given values base (n ∷ ns) [] a z = absurd z
placed_given values base (n ∷ ns) (k ∷ ks) a z = (
  (z.0, ap (λ b. cond b (get_or values k 0) (placed_at values base ns ks n)) (eq-eqb n n refl)),
  given_kept (placed_at values base (n ∷ ns) (k ∷ ks)) (placed_at values base ns ks) values ns ks
      (λ v c. ap (λ b. cond b (get_or values k 0) (placed_at values base ns ks v)) (ne_eqb v n (λ e. first_apart n ns a (subst (Contains ns) e c))))
      (placed_given values base ns ks (rest_apart n ns a) z.1),
)

placed_same : (values : List ℕ) (base u : ℕ → ℕ) (ns ks : List ℕ) → AreApart ns → AllZip (λ r k. u r % 2 ^ 32 ≡ get_or values k 0 % 2 ^ 32) ns ks → (v : ℕ) → Contains ns v → u v % 2 ^ 32 ≡ placed_at values base ns ks v % 2 ^ 32
placed_same values base u [] ks a z v (i, l, e) = absurd (omega arith)
placed_same values base u (n ∷ ns) [] a z v c = absurd z
placed_same values base u (n ∷ ns) (k ∷ ks) a z v c = elim (contains_cases n ns v c) [
  | inl e ↦ ap (λ x. u x % 2 ^ 32) (sym e) ∙ z.0 ∙ ap (λ b. cond b (get_or values k 0) (placed_at values base ns ks v) % 2 ^ 32) (sym (eq-eqb v n (sym e)))
  | inr d ↦ placed_same values base u ns ks (rest_apart n ns a) z.1 v d
      ∙ ap (λ b. cond b (get_or values k 0) (placed_at values base ns ks v) % 2 ^ 32) (sym (ne_eqb v n (λ e. first_apart n ns a (subst (Contains ns) e d))))
]

module _ (cs : List Conj) (t : List Node) (f : IsForestOf (word_differences cs) t) (inside : All (λ c. All (λ x. x + 1 < length t) (mentioned c)) cs)
    (ct : List Node) (j : Joins t cs ct) (flat : IsFlat ct) (small : length t ≤ 65537) (some : 0 < length t)
    (hs ns : List ℕ) (homes : AllZip (HasHome t ct) cs hs) (nodes : AreNodeHomes t ct ns) where
  null_home : get_or ns 0 0 ≡ 0
  null_home =
      let low = j.forest.lower 0 (let n = j.size in omega arith) in
      let z : parent_at ct 0 ≡ 0 = omega arith in
      nodes.each 0 some ∙ both (nat_eq (parent_at t 0) 0) z
    where
      both : (b : Bool) → parent_at ct 0 ≡ 0 → cond b (parent_at ct 0) 0 ≡ 0
      both true z = z
      both false z = refl

  pub node_zero : get_or ns 0 0 ≡ 0
  node_zero = null_home

  -- a node of a home that isn't 0 is that of a representative
  node_is : (v h : ℕ) → v < length t → get_or ns v 0 ≡ h → h ≢ 0 → (parent_at t v ≡ v) × (parent_at ct v ≡ h)
  node_is v h l e n = elim (cases_eq (parent_at t v) v) [
    | inl q ↦ (q, sym (ap (λ b. cond b (parent_at ct v) 0) (eq-eqb (parent_at t v) v q)) ∙ sym (nodes.each v l) ∙ e)
    | inr q ↦ absurd (n (sym e ∙ nodes.each v l ∙ ap (λ b. cond b (parent_at ct v) 0) (ne_eqb (parent_at t v) v q)))
  ]

  pub is_node : (v : ℕ) → v < length t → parent_at t v ≡ v → get_or ns v 0 ≡ parent_at ct v
  is_node v l q = nodes.each v l ∙ ap (λ b. cond b (parent_at ct v) 0) (eq-eqb (parent_at t v) v q)

  -- only nodes of the table share a component with another
  pub not_beyond : (r s : ℕ) → r + 1 < length t → ShareComponent cs r s → s + 1 < length t
  not_beyond r s l share = elim (cases_lt (s + 1) (length t)) [
    | inl w ↦ w
    | inr w ↦
        let set = λ (k : ℕ). nat_eq k s in
        let out = λ (a : ℕ) (b : a + 1 < length t). ne_eqb a s (λ e. absurd (omega arith)) in
        let closed : IsClosed cs set = λ i d b x y tx ty. out x (touched_inside_root cs t f inside (get_or cs i d) (inside i d b) x tx).0 ∙ sym (out y (touched_inside_root cs t f inside (get_or cs i d) (inside i d b) y ty).0) in
        let e = eq_of r s (share set closed ∙ eq-eqb s s refl) in
        absurd (omega arith)
  ]

  module _ (r : ℕ) (l : r + 1 < length t) (root : parent_at t (r + 1) ≡ r + 1) (top : parent_at ct (r + 1) ≡ r + 1) where
    abbrev members_at : List ℕ
    members_at = places_of (r + 1) ns

    abbrev lower : ℕ → ℕ
    lower v = v - 1

    abbrev members : List ℕ
    members = map lower members_at

    abbrev indexes : List ℕ
    indexes = places_of (r + 1) hs

    abbrev chosen : List Conj
    chosen = picked cs indexes

    abbrev IsMember : ℕ → Type 0
    IsMember v = (v < length t) × (v ≢ 0) × (parent_at t v ≡ v) × (parent_at ct v ≡ r + 1)

    all_members : All IsMember members_at
    all_members = All-weaker (λ i. (i < length ns) × (get_or ns i 0 ≡ r + 1)) IsMember one members_at (places_each (r + 1) ns)
      where
        one : (v : ℕ) → (v < length ns) × (get_or ns v 0 ≡ r + 1) → IsMember v
        one v (b, e) =
            let n = nodes.size in
            let w : v < length t = omega arith in
            let h = node_is v (r + 1) w e (λ q. absurd (omega arith)) in
            (w, (λ q. absurd (let z = null_home in let g = ap (λ k. get_or ns k 0) q in omega arith)), h.0, h.1)

    member_here : (s : ℕ) → s + 1 < length t → parent_at t (s + 1) ≡ s + 1 → parent_at ct (s + 1) ≡ r + 1 → Contains members_at (s + 1)
    member_here s b q p = places_all (r + 1) ns (s + 1) (let n = nodes.size in omega arith) (is_node (s + 1) b q ∙ p)

    same_length : length members ≡ length members_at
    same_length = length-map members_at lower

    at_member : (i : ℕ) → i < length members_at → get_or members i 0 ≡ get_or members_at i 0 - 1
    at_member i b = get_or-map lower members_at i 0 0 b

    are_members : AreMembers cs r members
    are_members = record {
      rising = λ i k b c.
          let n = same_length in
          let x = at_member i (omega arith) in
          let y = at_member k (omega arith) in
          let a = places_apart (r + 1) ns i k b (omega arith) in
          let z = (all_members i 0 (omega arith)).1 in
          omega arith;
      each = λ i d b.
          let n = same_length in
          let w : i < length members_at = omega arith in
          let m = all_members i 0 w in
          let v = get_or members_at i 0 in
          let p : v ≡ (v - 1) + 1 = let z = m.1 in omega arith in
          let q : get_or members i d ≡ v - 1 = get_or_default members i d 0 b ∙ at_member i w in
          let bound : (v - 1) + 1 < length t = let x = m.0 in omega arith in
          subst (λ s. IsRepresentative cs s × ShareComponent cs r s) (sym q) (
            representative cs t f (v - 1) (v - 1) bound (subst (λ k. parent_at t k ≡ k) p m.2),
            share_of_parent cs t f inside ct j flat small some r (v - 1) l bound (top ∙ sym m.3 ∙ ap (parent_at ct) p),
          );
      all = λ s rep share.
          let b = not_beyond r s l share in
          let q = root_of cs t f s s b rep in
          let p = sym (parent_of_share cs t f inside ct j flat small some r s share) ∙ top in
          let c = member_here s b q p in
          let n = same_length in
          (c.0, (let x = c.1 in omega arith), (let x = c.1 in get_or_default members c.0 s 0 (omega arith) ∙ at_member c.0 x ∙ ap lower (get_or_default members_at c.0 0 (s + 1) x ∙ c.2) ∙ down s));
    }
      where
        down : (s : ℕ) → (s + 1) - 1 ≡ s
        down s = omega arith

    selects : Selects (IsOfComponent cs r) cs chosen
    selects = picked_from cs (IsOfComponent cs r) (r + 1) 0 cs hs refl
        (zip_with (HasHome t ct) (λ c h. (h ≡ r + 1 → IsOfComponent cs r c) × (IsOfComponent cs r c → h ≡ r + 1)) cs hs
        (λ i c h b e q home. (
          (λ p. component_here cs t f inside ct j flat small some i c h b e home r l (p ∙ sym top)),
          λ p. home_here cs t f inside ct j flat small some i c h b e home r l p ∙ top,
        )) homes)

    are_candidates : AreCandidates cs chosen (candidates (fixed_under t) chosen)
    are_candidates = record {
      fixed = fixed_under t;
      are_fixed = forest_tells cs t f chosen (picked_have (λ c. All (λ x. x + 1 < length t) (mentioned c)) cs indexes inside);
      are = refl;
    }

    not_null : ¬ Contains members_at 0
    not_null (i, b, e) = (all_members i 0 b).1 e

    -- ---- assignments

    gives_of : (g : ℕ → ℕ) (values vs ks : List ℕ) → All IsMember vs → GivesRoots g values vs ks → GivesCandidates (word_under t g) values (map lower vs) ks
    gives_of g values [] [] m z = tt
    gives_of g values [] (k ∷ ks) m z = absurd z
    gives_of g values (v ∷ vs) [] m z = absurd z
    gives_of g values (v ∷ vs) (k ∷ ks) m z =
        let h = All-head IsMember v vs m in
        let p : (v - 1) + 1 ≡ v = let n = h.1 in omega arith in
        let q = ap (parent_at t) p ∙ h.2 in
        let o = ap (λ x. (node_at t x).offset) p ∙ f.forest.bare v h.0 h.2 in
        ((z.0.0, (let a = ap g q in let b = z.0.1 in omega arith)), gives_of g values vs ks (All-tail IsMember v vs m) z.1)

    makes_of_works : (values : List ℕ) (base : ℕ → ℕ) (ks : List ℕ) → base 0 ≡ 0 → Works t cs indexes values base members_at ks → Makes cs values members chosen ks
    makes_of_works values base ks z w = record {
      words = word_under t w.numbers;
      keep = free_keep cs t f w.numbers (w.outside 0 not_null ∙ z);
      given = gives_of w.numbers values members_at ks all_members w.given;
      are_true = all_picked cs indexes (word_under t w.numbers) w.are_true;
    }

    -- the words at nodes, from those that an assignment gives
    nodes_given : (u : ℕ → ℕ) (values vs ks : List ℕ) → All IsMember vs → GivesCandidates u values (map lower vs) ks → AllZip (λ v k. k < length values) vs ks × AllZip (λ v k. at_nodes u v % 2 ^ 32 ≡ get_or values k 0 % 2 ^ 32) vs ks
    nodes_given u values [] [] m z = (tt, tt)
    nodes_given u values [] (k ∷ ks) m z = absurd z
    nodes_given u values (v ∷ vs) [] m z = absurd z
    nodes_given u values (v ∷ vs) (k ∷ ks) m z =
        let h = All-head IsMember v vs m in
        let p : v ≡ (v - 1) + 1 = let n = h.1 in omega arith in
        let rest = nodes_given u values vs ks (All-tail IsMember v vs m) z.1 in
        ((z.0.0, rest.0), (ap (λ x. x % 2 ^ 32) (ap (at_nodes u) p ∙ node_after u (v - 1)) ∙ z.0.1, rest.1))

    works_of_makes : (values : List ℕ) (base : ℕ → ℕ) (ks : List ℕ) → base 0 ≡ 0 → Makes cs values members chosen ks → Works t cs indexes values base members_at ks
    works_of_makes values base ks z m =
        let given = nodes_given m.words values members_at ks all_members m.given in
        let g = placed_at values base members_at ks in
        let apart = places_apart (r + 1) ns in
        record {
          numbers = g;
          outside = λ v n. placed_outside values base members_at ks v n;
          given = placed_given values base members_at ks apart given.0;
          are_true = λ i c b e. true_alike m.words (word_under t g) c (λ k d y. same g m.words m.keep (λ v x. placed_same values base (at_nodes m.words) members_at ks apart given.1 v x) (placed_outside values base members_at ks 0 not_null ∙ z) i c b e k d y) (picked_all cs indexes m.words m.are_true i c b e);
        }
      where
        same : (g u : ℕ → ℕ) → KeepsTies u cs → ((v : ℕ) → Contains members_at v → at_nodes u v % 2 ^ 32 ≡ g v % 2 ^ 32) → g 0 ≡ 0 → (i : ℕ) (c : Conj) → i < length indexes → slice_get cs (get_or indexes i 0) ≡ Some c →
            (k d : ℕ) → k < length (mentioned c) → u (get_or (mentioned c) k d) % 2 ^ 32 ≡ word_under t g (get_or (mentioned c) k d) % 2 ^ 32
        same g u keep at null i c b e k d y =
            let x = get_or (mentioned c) k d in
            let place = get_or indexes i 0 in
            let home = zip_at (HasHome t ct) cs hs place c homes e in
            let q = (places_each (r + 1) hs i 0 b).1 in
            let within = slice_get_within cs place c e in
            let here = get_or_from_slice_get cs place c c e in
            let bound = subst (λ (n : Conj). All (λ x. x + 1 < length t) (mentioned n)) here (inside place c within) k d y in
            let tie = tied_to_root cs t f x bound u keep in
            elim (fixed_or_not cs t f x bound) [
              | inl p ↦ let a = ap (at_nodes u) p in let n = ap g p in omega arith
              | inr (s, p) ↦
                  let rep = representative cs t f x s bound p in
                  let own = component_here cs t f inside ct j flat small some place c (get_or hs place 0) within here home r l (q ∙ sym top) in
                  let touch = touching c s (k, x, y, get_or_default (mentioned c) k x d y, rep) own in
                  let low = f.forest.lower (x + 1) bound in
                  let sb : s + 1 < length t = omega arith in
                  let sroot = ap (parent_at t) (sym p) ∙ f.flat.root (x + 1) bound ∙ p in
                  let share = share_here place c within here touch own s in
                  let m = at (s + 1) (member_here s sb sroot share) in
                  let a = ap (at_nodes u) p in
                  let n = ap g p in
                  omega arith
            ]
          where
            touching : (c : Conj) (s : ℕ) → Any (λ x. HasRepresentative cs x s) (mentioned c) → IsOfComponent cs r c → Touches cs s c
            touching c s a (v, (w, b), share) = (w, a)

            share_here : (i : ℕ) (c : Conj) → i < length cs → get_or cs i c ≡ c → {s : ℕ} → Touches cs s c → IsOfComponent cs r c → (k : ℕ) → parent_at ct (s + 1) ≡ r + 1
            share_here i c b e {s} ts (v, tv, share) k =
                one_parent cs t f inside ct j flat small some i c b e s v ts tv ∙ sym (parent_of_share cs t f inside ct j flat small some r v share) ∙ top

    -- the words under some numbers are these numbers at members
    pub own_words : (g : ℕ → ℕ) (v : ℕ) → Contains members_at v → at_nodes (word_under t g) v % 2 ^ 32 ≡ g v % 2 ^ 32
    own_words g v c =
        let h = Rattle.std.proofs.lemmas.List.Elements.All-contains IsMember members_at v all_members c in
        let p : v ≡ (v - 1) + 1 = let n = h.1 in omega arith in
        let q = ap (parent_at t) (sym p) ∙ h.2 in
        let o = ap (λ x. (node_at t x).offset) (sym p) ∙ f.forest.bare v h.0 h.2 in
        let a = ap g q in
        let b : at_nodes (word_under t g) v ≡ word_under t g (v - 1) = ap (at_nodes (word_under t g)) p ∙ node_after (word_under t g) (v - 1) in
        omega arith

    pub member_root : (v : ℕ) → Contains members_at v → (v ≢ 0) × (v < length t) × (parent_at t v ≡ v) × (parent_at ct v ≡ r + 1)
    member_root v c = let h = Rattle.std.proofs.lemmas.List.Elements.All-contains IsMember members_at v all_members c in (h.1, h.0, h.2, h.3)

    pub member_of : (s : ℕ) → s + 1 < length t → parent_at t (s + 1) ≡ s + 1 → parent_at ct (s + 1) ≡ r + 1 → Contains members_at (s + 1)
    member_of s b q p = member_here s b q p

    pub solved_by : (base g : ℕ → ℕ) → base 0 ≡ 0 → IsSolved t cs indexes base members_at g → (w : ℕ → ℕ) → ((v : ℕ) → Contains members_at v → at_nodes w v % 2 ^ 32 ≡ g v % 2 ^ 32) → IsSolvedBy cs w r
    solved_by base g z s w e = record {
      members = members;
      conjuncts = chosen;
      values = candidates (fixed_under t) chosen;
      places = s.first.places;
      are_members = are_members;
      few = let n = same_length in let few = s.few in omega arith;
      selects = selects;
      are_candidates = are_candidates;
      given = gives_same (candidates (fixed_under t) chosen) members_at s.first.places all_members (λ v c. e v c) s.first.given;
      is_first = record {
        makes = makes_of_works (candidates (fixed_under t) chosen) base s.first.places z s.first.works;
        first = λ ks b m. s.first.first ks b (works_of_makes (candidates (fixed_under t) chosen) base ks z m);
      };
    }
      where
        gives_same : (values vs ks : List ℕ) → All IsMember vs → ((v : ℕ) → Contains vs v → at_nodes w v % 2 ^ 32 ≡ g v % 2 ^ 32) → GivesRoots g values vs ks → GivesCandidates w values (map lower vs) ks
        gives_same values [] [] m e z = tt
        gives_same values [] (k ∷ ks) m e z = absurd z
        gives_same values (v ∷ vs) [] m e z = absurd z
        gives_same values (v ∷ vs) (k ∷ ks) m e z =
            let h = All-head IsMember v vs m in
            let p : v ≡ (v - 1) + 1 = let n = h.1 in omega arith in
            let here = e v (0, omega arith, refl) in
            let at = ap (at_nodes w) p ∙ node_after w (v - 1) in
            ((z.0.0, ap (λ x. x % 2 ^ 32) (sym at) ∙ here ∙ ap (λ x. x % 2 ^ 32) z.0.1), gives_same values vs ks (All-tail IsMember v vs m) (λ y c. e y (contains_more v vs y c)) z.1)

    pub none_solves : (base : ℕ → ℕ) → base 0 ≡ 0 → HasFailed t cs indexes base members_at → IsUnsolved cs r
    none_solves base z h = record {
      members = members;
      conjuncts = chosen;
      values = candidates (fixed_under t) chosen;
      are_members = are_members;
      selects = selects;
      are_candidates = are_candidates;
      fails = elim h [
        | inl few ↦ inl (let n = same_length in omega arith)
        | inr none ↦ inr (λ ks m. none ks (works_of_makes (candidates (fixed_under t) chosen) base ks z m))
      ];
    }
