-- The search, root by root.
use Rattle.std.proofs.Common.{◌≡◌, ◌⊎◌, inl, inr, ℕ, zero, suc, ◌+◌, ◌%◌, ◌^◌, ◌<◌, ◌≤◌, List, [], ◌∷◌, length, get_or, set, refl, sym, ap, subst, ◌∙◌, arith, get_or-set_same, get_or-set_other}
use Rattle.std.specs.Prelude.{Contains}
use Rattle.std.proofs.lemmas.Bool.{cases_eq}
use Rattle.std.proofs.lemmas.List.{nil_from_length}
use Rattle.px_terms.specs.Variables.{mentioned}
use Rattle.px_terms.specs.declared.conjuncts.Conj.{Conj}
use Rattle.px_plain.specs.declared.nodes.Node.{Node}
use Rattle.px_plain.specs.Forest.{node_at, parent_at}
use Rattle.px_solver.specs.Assignments.{Before}
use Rattle.px_solver.specs.Tables.{word_under, AreTrueAt, AgreeOutside, Works, FirstWork, AreApart}
use Rattle.px_solver.proofs.TruthLemmas.{true_alike}

pub contains_more : (x : ℕ) (xs : List ℕ) (v : ℕ) → Contains xs v → Contains (x ∷ xs) v
contains_more x xs v (k, l, e) = (suc k, omega arith, e)

pub contains_cases : (x : ℕ) (xs : List ℕ) (v : ℕ) → Contains (x ∷ xs) v → (x ≡ v) ⊎ Contains xs v
contains_cases x xs v (zero, l, e) = inl e
contains_cases x xs v (suc k, l, e) = inr (k, omega arith, e)

not_in_rest : (r : ℕ) (rest : List ℕ) → AreApart (r ∷ rest) → ¬ Contains rest r
not_in_rest r rest a (k, l, e) =
    let h : r < get_or rest k 0 = a 0 (suc k) (omega arith) (omega arith) in
    let d = Rattle.std.proofs.lemmas.List.get_or_default rest k r 0 l in
    omega arith

none_before : (earlier : List ℕ) → Before earlier [] → ⊥
none_before [] b = b
none_before (k ∷ ks) b = b

module _ (t : List Node) (cs : List Conj) (is values : List ℕ) where
  -- the conjuncts' truth depends on the numbers alone
  true_at_same : (g h : ℕ → ℕ) → ((v : ℕ) → g v ≡ h v) → AreTrueAt cs is (word_under t g) → AreTrueAt cs is (word_under t h)
  true_at_same g h e a i c l q = true_alike (word_under t g) (word_under t h) c
      (λ k d b. ap (λ z. (z + (node_at t (get_or (mentioned c) k d + 1)).offset) % 2 ^ 32) (e (parent_at t (get_or (mentioned c) k d + 1)))) (a i c l q)

  pub empty_found : (g : ℕ → ℕ) (members : List ℕ) → length members ≡ 0 → AreTrueAt cs is (word_under t g) → FirstWork t cs is values g members g
  empty_found g members n a = subst (λ z. FirstWork t cs is values g z g) (sym (nil_from_length members n)) (record {
    places = [];
    given = tt;
    works = record { numbers = g; outside = λ v o. refl; given = tt; are_true = a };
    first = λ earlier b w. none_before earlier b;
  })

  pub empty_none : (g : ℕ → ℕ) (members : List ℕ) → length members ≡ 0 → ¬ AreTrueAt cs is (word_under t g) → (places : List ℕ) → ¬ Works t cs is values g members places
  empty_none g members n a places w =
      let u = subst (λ z. Works t cs is values g z places) (nil_from_length members n) w in
      a (true_at_same u.numbers g (λ v. u.outside v (λ (k, l, e). absurd (omega arith))) u.are_true)

  module _ (base next : ℕ → ℕ) (r : ℕ) (rest : List ℕ) (k : ℕ) (out : ¬ Contains rest r) (here : next r ≡ get_or values k 0) (agree : AgreeOutside (r ∷ rest) next base) where
    works_down : (ks : List ℕ) → Works t cs is values base (r ∷ rest) (k ∷ ks) → Works t cs is values next rest ks
    works_down ks w = record {
      numbers = w.numbers;
      outside = λ v o. elim (cases_eq v r) [
        | inl e ↦ ap w.numbers e ∙ w.given.0.1 ∙ sym here ∙ ap next (sym e)
        | inr n ↦
            let far : ¬ Contains (r ∷ rest) v = λ h. elim (contains_cases r rest v h) [ inl e ↦ n (sym e) | inr g ↦ o g ] in
            w.outside v far ∙ sym (agree v far)
      ];
      given = w.given.1;
      are_true = w.are_true;
    }

    works_up : (ks : List ℕ) → k < length values → Works t cs is values next rest ks → Works t cs is values base (r ∷ rest) (k ∷ ks)
    works_up ks l w = record {
      numbers = w.numbers;
      outside = λ v o. w.outside v (λ h. o (contains_more r rest v h)) ∙ agree v o;
      given = ((l, w.outside r out ∙ here), w.given);
      are_true = w.are_true;
    }

    pub one_found : (final : ℕ → ℕ) → k < length values → AgreeOutside rest final next → FirstWork t cs is values next rest final
        → ((j : ℕ) → j < k → (js : List ℕ) → ¬ Works t cs is values base (r ∷ rest) (j ∷ js)) → FirstWork t cs is values base (r ∷ rest) final
    one_found final l o f none = record {
      places = k ∷ f.places;
      given = ((l, o r out ∙ here), f.given);
      works = works_up f.places l f.works;
      first = earlier_none f.places f.first none;
    }
      where
        earlier_none : (ks : List ℕ) → ((es : List ℕ) → Before es ks → ¬ Works t cs is values next rest es) → ((j : ℕ) → j < k → (js : List ℕ) → ¬ Works t cs is values base (r ∷ rest) (j ∷ js)) →
            (es : List ℕ) → Before es (k ∷ ks) → ¬ Works t cs is values base (r ∷ rest) es
        earlier_none ks f none [] b w = b
        earlier_none ks f none (j ∷ js) (inl l) w = none j l js w
        earlier_none ks f none (j ∷ js) (inr (e, b)) w = f js b (works_down js (subst (λ z. Works t cs is values base (r ∷ rest) (z ∷ js)) e w))

    pub one_none : ((ks : List ℕ) → ¬ Works t cs is values next rest ks) → (ks : List ℕ) → ¬ Works t cs is values base (r ∷ rest) (k ∷ ks)
    one_none h ks w = h ks (works_down ks w)

  pub all_none : (base : ℕ → ℕ) (r : ℕ) (rest : List ℕ) (n : ℕ) → length values ≤ n → ((j : ℕ) → j < n → (js : List ℕ) → ¬ Works t cs is values base (r ∷ rest) (j ∷ js)) → (places : List ℕ) → ¬ Works t cs is values base (r ∷ rest) places
  all_none base r rest n l h [] w = w.given
  all_none base r rest n l h (k ∷ ks) w = let b = w.given.0.0 in h k (omega arith) ks w

-- one number written at a root
module _ (roots : List ℕ) (r x : ℕ) (rest : List ℕ) (l : r < length roots) where
  pub written_here : get_or (set roots r x) r 0 ≡ x
  written_here = get_or-set_same roots r x 0 l

  pub written_outside : (base : ℕ → ℕ) → AgreeOutside (r ∷ rest) (λ v. get_or roots v 0) base → AgreeOutside (r ∷ rest) (λ v. get_or (set roots r x) v 0) base
  written_outside base a v o = get_or-set_other roots r v x 0 (λ e. o (0, omega arith, sym e)) ∙ a v o

pub still_outside : (r : ℕ) (rest : List ℕ) (final next base : ℕ → ℕ) → AgreeOutside rest final next → AgreeOutside (r ∷ rest) next base → AgreeOutside (r ∷ rest) final base
still_outside r rest final next base a b v o = a v (λ h. o (contains_more r rest v h)) ∙ b v o

pub first_apart : (r : ℕ) (rest : List ℕ) → AreApart (r ∷ rest) → ¬ Contains rest r
first_apart r rest a = not_in_rest r rest a

pub rest_apart : (r : ℕ) (rest : List ℕ) → AreApart (r ∷ rest) → AreApart rest
rest_apart r rest a i j l b = a (suc i) (suc j) (omega arith) (omega arith)
