-- Lists without some items that are gone: of ways, and of paths.
use Rattle.std.proofs.Common.{◌≡◌, ℕ, suc, ◌+◌, ◌<◌, ◌≤◌, Bool, true, false, not, cond, append-nil, List, [], ◌∷◌, ◌++◌, length, get_or, take, refl, ap, sym, subst, arith, inl, inr}
use Rattle.std.specs.Prelude.{All, Contains}
use Rattle.std.specs.List.{list_all, list_any}
use Rattle.std.proofs.lemmas.Bool.{and_parts}
use Rattle.std.proofs.lemmas.Map.Views.{Contains-from_any}
use Rattle.std.proofs.lemmas.List.{take_more}
use Rattle.std.proofs.lemmas.List.Elements.{All-nil, All-head, All-tail, All-cons, All-append, All-contains, All-contains_itself}
use Rattle.px_terms.specs.declared.variables.VarInfo.{VarInfo}
use Rattle.px_terms.specs.declared.conjuncts.Conj.{Conj}
use Rattle.px_terms.proofs.Evaluation.{All-left, All-right}
use Rattle.px_plain.specs.Held.{HeldItem, OfConj, held_vars, held_conjuncts, held_count}
use Rattle.px_solver.specs.Decisions.{IsRefuted}
use Rattle.px_solver.proofs.Growing.{refuted_stays}
use Rattle.px_entry.specs.declared.atoms.Atom.{Atom}
use Rattle.px_entry.specs.Sorts.{is_made, is_long_conjunct}
use Rattle.px_entry.specs.Decided.{stands_in}
use Rattle.px_entry.specs.Equality.{same_conjunct}
use Rattle.px_entry.proofs.TestLemmas.{tests_decide}
use Rattle.px_entry.specs.Constraint.{found_atoms, separate}
use Rattle.px_callgraph.specs.declared.states.State.{State}
use Rattle.px_entry.specs.declared.derivations.Step.{Step}
use Rattle.px_entry.proofs.Lists.{Each}
use Rattle.px_callgraph.specs.declared.states.Way.{Way}
use Rattle.px_callgraph.specs.JobTree.{JobTree}
use Rattle.px_callgraph.specs.Alternatives.{Walk, ways, act}
use Rattle.px_callgraph.specs.ActsLeft.{state_of}
use Rattle.px_callgraph.specs.Laws.{IsReached, HasPlaces}
use Rattle.px_callgraph.proofs.LaterLemmas.{constraints_grow}
use Rattle.px_walks.specs.Walks.{walk_of}
use Rattle.px_symexec.specs.Prefixes.{Prefix, constraint}
use Rattle.px_symexec.specs.Tables.{IsOpenState, IsLive, Selects}
use Rattle.px_symexec.proofs.Lists.{IsIn}
use Rattle.px_symexec.proofs.LiveLemmas.{IsNotLive, out_reached, reached_next}
use Rattle.px_explore.specs.declared.stops.Fork.{Fork}
use Rattle.px_explore.specs.declared.results.SearchResult.{SearchResult}
use Rattle.px_explore.specs.Taken.{steps_with}
use Rattle.px_explore.specs.Paths.{Path, prefixes_in, paths}
use Rattle.px_explore.specs.Stops.{extensions, IsFork}
use Rattle.px_explore.specs.Own.{IsFound}
use Rattle.px_explore.specs.Trails.{conjuncts_in, places_in, places_of, found_places, AreOf}
use Rattle.px_explore.specs.Weights.{is_placed}
use Rattle.px_explore.specs.Said.{Says, IsNew, MayAdd}
use Rattle.px_explore.specs.Thinned.{Thins, IsShut, IsThinned, IsLeft, IsRefutedWith}
use Rattle.px_explore.specs.Visits.{WalkedTo, IsGone}
use Rattle.px_explore.proofs.HeldLemmas.{count_is, held_refuted}
use Rattle.px_explore.proofs.SaidLemmas.{new_unless}
use Rattle.px_explore.proofs.PathLemmas.{are_prefixes}
use Rattle.px_explore.proofs.OwnLemmas.{none_found}

-- ---- of any items

module _ {A : Type 0} (Gone : A → Type 0) where
  pub thins_self : (xs : List A) → Thins Gone xs xs
  thins_self [] = refl
  thins_self (x ∷ xs) = inl (xs, refl, thins_self xs)

  pub thins_same : (xs ys : List A) → xs ≡ ys → Thins Gone xs ys
  thins_same xs ys e = subst (Thins Gone xs) e (thins_self xs)

  pub thins_trans : (xs ys zs : List A) → Thins Gone xs ys → Thins Gone ys zs → Thins Gone xs zs
  thins_trans [] ys zs t u = subst (λ z. Thins Gone z zs) t u
  thins_trans (x ∷ xs) ys zs (inl (rest, e, t)) u = goes (λ more v. thins_trans xs rest more t v) zs (subst (λ z. Thins Gone z zs) e u)
    where
      goes : ((more : List A) → Thins Gone rest more → Thins Gone xs more) → (zs : List A) → Thins Gone (x ∷ rest) zs → Thins Gone (x ∷ xs) zs
      goes again zs (inl (more, f, u)) = inl (more, f, again more u)
      goes again zs (inr (g, u)) = inr (g, again zs u)
  thins_trans (x ∷ xs) ys zs (inr (g, t)) u = inr (g, thins_trans xs ys zs t u)

  pub thins_append : (xs ys us vs : List A) → Thins Gone xs ys → Thins Gone us vs → Thins Gone (xs ++ us) (ys ++ vs)
  thins_append [] ys us vs t u = subst (λ z. Thins Gone us (z ++ vs)) (sym t) u
  thins_append (x ∷ xs) ys us vs (inl (rest, e, t)) u = inl (rest ++ vs, ap (λ z. z ++ vs) e, thins_append xs rest us vs t u)
  thins_append (x ∷ xs) ys us vs (inr (g, t)) u = inr (g, thins_append xs ys us vs t u)

  pub thins_none : (xs : List A) → Each Gone xs → Thins Gone xs []
  thins_none [] h = refl
  thins_none (x ∷ xs) h = inr (h.0, thins_none xs h.1)

  pub thins_less : (xs ys : List A) → Thins Gone xs ys → length ys ≤ length xs
  thins_less [] ys t = let e : length ys ≡ 0 = ap length t in omega arith
  thins_less (x ∷ xs) ys (inl (rest, e, t)) = let l = thins_less xs rest t in let n : length ys ≡ length (x ∷ rest) = ap length e in omega arith
  thins_less (x ∷ xs) ys (inr (g, t)) = let l = thins_less xs ys t in omega arith

  -- an item that is left, and what is before and after it
  pub record IsSplit (xs ys : List A) (z : A) (zs : List A) : Type 0 where
    pub before : List A
    pub after : List A
    pub is : xs ≡ before ++ z ∷ after
    pub thins : Thins Gone before ys

  pub thins_split : (xs ys : List A) (z : A) (zs : List A) → Thins Gone xs (ys ++ z ∷ zs) → IsSplit xs ys z zs
  thins_split [] [] z zs t = cc
  thins_split [] (y ∷ ys) z zs t = cc
  thins_split (x ∷ xs) ys z zs (inr (g, t)) =
      let s = thins_split xs ys z zs t in record { before = x ∷ s.before; after = s.after; is = ap (λ u. x ∷ u) s.is; thins = inr (g, s.thins) }
  thins_split (x ∷ xs) [] z zs (inl (rest, e, t)) = record { before = []; after = xs; is = (let h : x ≡ z = cc in ap (λ u. u ∷ xs) h); thins = refl }
  thins_split (x ∷ xs) (y ∷ ys) z zs (inl (rest, e, t)) =
      let h : x ≡ y = cc in
      let f : rest ≡ ys ++ z ∷ zs = cc in
      let s = thins_split xs ys z zs (subst (Thins Gone xs) f t) in record {
        before = x ∷ s.before;
        after = s.after;
        is = ap (λ u. x ∷ u) s.is;
        thins = inl (ys, (ap (λ u. u ∷ ys) (sym h)), s.thins);
      }

  pub thins_all : (P : A → Type 0) (xs ys : List A) → Thins Gone xs ys → All P xs → All P ys
  thins_all P [] ys t h = subst (All P) (sym t) h
  thins_all P (x ∷ xs) ys (inl (rest, e, t)) h = subst (All P) (sym e) (All-cons P x rest (All-head P x xs h) (thins_all P xs rest t (All-tail P x xs h)))
  thins_all P (x ∷ xs) ys (inr (g, t)) h = thins_all P xs ys t (All-tail P x xs h)

  -- what is chosen isn't gone
  pub thins_selects : (P : A → Type 0) → ((x : A) → Gone x → ¬ P x) → (xs ys zs : List A) → Thins Gone xs ys → Selects P ys zs → Selects P xs zs
  thins_selects P never [] ys zs t s = subst (λ z. Selects P z zs) t s
  thins_selects P never (x ∷ xs) ys zs (inl (rest, e, t)) s = goes (λ more v. thins_selects P never xs rest more t v) zs (subst (λ z. Selects P z zs) e s)
    where
      goes : ((more : List A) → Selects P rest more → Selects P xs more) → (zs : List A) → Selects P (x ∷ rest) zs → Selects P (x ∷ xs) zs
      goes again zs (inl (p, more, f, s)) = inl (p, more, f, again more s)
      goes again zs (inr (n, s)) = inr (n, again zs s)
  thins_selects P never (x ∷ xs) ys zs (inr (g, t)) s = inr (never x g, thins_selects P never xs ys zs t s)

-- ---- of paths

live_selects : (j : JobTree) (ps qs : List Path) (live : List Prefix) → Thins (IsGone j) ps qs → Selects (IsLive j.kinds) (prefixes_in qs) live → Selects (IsLive j.kinds) (prefixes_in ps) live
live_selects j [] qs live t s = subst (λ z. Selects (IsLive j.kinds) (prefixes_in z) live) t s
live_selects j (p ∷ ps) qs live (inl (rest, e, t)) s = goes (λ more v. live_selects j ps rest more t v) live (subst (λ z. Selects (IsLive j.kinds) (prefixes_in z) live) e s)
  where
    goes : ((more : List Prefix) → Selects (IsLive j.kinds) (prefixes_in rest) more → Selects (IsLive j.kinds) (prefixes_in ps) more) → (live : List Prefix) →
        Selects (IsLive j.kinds) (prefixes_in (p ∷ rest)) live → Selects (IsLive j.kinds) (prefixes_in (p ∷ ps)) live
    goes again live (inl (l, more, f, s)) = inl (l, more, f, again more s)
    goes again live (inr (n, s)) = inr (n, again live s)
live_selects j (p ∷ ps) qs live (inr (g, t)) s = inr (g, live_selects j ps qs live t s)

-- what was seen was seen with some that aren't live
pub walked_thins : (j : JobTree) (ps qs : List Path) (f : SearchResult) → Thins (IsGone j) ps qs → WalkedTo j qs f → WalkedTo j ps f
walked_thins j ps qs f t w = record {
  seen = w.seen;
  walked = record {
    selects = live_selects j ps qs w.seen t w.walked.selects;
    few = w.walked.few;
    few_ended = w.walked.few_ended;
    rows = w.walked.rows;
    are_rows = w.walked.are_rows;
    entries_are = w.walked.entries_are;
    drops_are = w.walked.drops_are;
  };
  own = record {
    found = w.own.found;
    selects = thins_selects (IsGone j) (IsFound j) (λ p n. (none_found j (p ∷ []) (n, tt)).0) ps qs w.own.found t w.own.selects;
    entries_are = w.own.entries_are;
    derivations_are = w.own.derivations_are;
  };
  live = w.live;
  ended = w.ended;
}

-- ---- of ways

all_gone : (j : JobTree) (ps : List Path) → Each (IsNotLive j.kinds) (prefixes_in ps) → Each (IsGone j) ps
all_gone j [] h = tt
all_gone j (p ∷ ps) h = (h.0, all_gone j ps h.1)

module _ (j : JobTree) (steps : List Step) (w : Walk) (reached : IsReached j w) where
  shut_gone : (name : Way) → IsIn name (ways j w) → IsShut j w name → Each (IsGone j) (paths j (steps_with w name steps) (act j w name))
  shut_gone name i s =
      all_gone j (paths j (steps_with w name steps) (act j w name))
      (subst (Each (IsNotLive j.kinds)) (sym (are_prefixes j (steps_with w name steps) (act j w name))) (out_reached j (act j w name) (reached_next j w reached name i) (λ k. k s)))

  -- of those by ways, all are left but those by ways that are shut
  pub thins_extensions : (names kept : List Way) → ((name : Way) → IsIn name names → IsIn name (ways j w)) → Thins (IsShut j w) names kept → Thins (IsGone j) (extensions j steps w names) (extensions j steps w kept)
  thins_extensions [] kept within t = subst (λ z. Thins (IsGone j) [] (extensions j steps w z)) (sym t) refl
  thins_extensions (name ∷ names) kept within (inl (rest, e, t)) =
      subst (λ z. Thins (IsGone j) (extensions j steps w (name ∷ names)) (extensions j steps w z)) (sym e)
      (thins_append (IsGone j) (paths j (steps_with w name steps) (act j w name)) (paths j (steps_with w name steps) (act j w name)) (extensions j steps w names) (extensions j steps w rest)
      (thins_self (IsGone j) (paths j (steps_with w name steps) (act j w name))) (thins_extensions names rest (λ x i. within x (inr i)) t))
  thins_extensions (name ∷ names) kept within (inr (s, t)) =
      thins_append (IsGone j) (paths j (steps_with w name steps) (act j w name)) [] (extensions j steps w names) (extensions j steps w kept)
      (thins_none (IsGone j) (paths j (steps_with w name steps) (act j w name)) (shut_gone name (within name (inl refl)) s)) (thins_extensions names kept (λ x i. within x (inr i)) t)

-- of a point of choice
pub fork_thins : (j : JobTree) (f g : Fork) → IsFork j f → IsThinned j f g →
    Thins (IsGone j) (extensions j f.steps (walk_of f.walk) f.ways.items) (extensions j g.steps (walk_of g.walk) g.ways.items)
fork_thins j f g k t =
    subst (λ z. Thins (IsGone j) (extensions j f.steps (walk_of f.walk) f.ways.items) (extensions j z (walk_of g.walk) g.ways.items)) (sym t.steps)
    (subst (λ z. Thins (IsGone j) (extensions j f.steps (walk_of f.walk) f.ways.items) (extensions j f.steps (walk_of z) g.ways.items)) (sym t.walk)
    (thins_extensions j f.steps (walk_of f.walk) k.reached f.ways.items g.ways.items (λ name i. subst (IsIn name) k.listed i) t.ways))

pub left_of_fork : (j : JobTree) (f g : Fork) → IsFork j f → IsThinned j f g → IsLeft j g
left_of_fork j f g k t = record {
  reached = subst (λ z. IsReached j (walk_of z)) (sym t.walk) k.reached;
  listed = subst (λ z. All (Contains (ways j (walk_of z))) g.ways.items) (sym t.walk)
      (thins_all (IsShut j (walk_of f.walk)) (Contains (ways j (walk_of f.walk))) f.ways.items g.ways.items t.ways
      (subst (All (Contains (ways j (walk_of f.walk)))) (sym k.listed) (All-contains_itself (ways j (walk_of f.walk)))));
}

-- ---- what is asked

-- where it is refuted with a conjunct, and not without, the conjunct isn't one of those that are assumed
pub new_by_refuted : (s : State) (c : Conj) (kinds : List ℕ) → IsOpenState kinds s → MayAdd s c → IsRefutedWith s c kinds → IsNew s c
new_by_refuted s c kinds live m r = new_unless s c m (by (stands_in s.pure c) refl)
  where
    among : stands_in s.pure c ≡ true → Contains s.pure c
    among e = Contains-from_any {eq = same_conjunct} (λ x y. (tests_decide.equality x y).0) c s.pure (and_parts (not (is_long_conjunct c)) (list_any (same_conjunct c) s.pure) e).1

    refuted : Contains s.pure c → IsRefuted s.vars (constraint s) kinds
    refuted i =
        let old = constraint s in
        let rest = separate s.vars s.atoms in
        let own : All (Contains old) old = All-contains_itself old in
        let pure : All (Contains old) s.pure = All-left (Contains old) s.pure rest own in
        let all : All (Contains old) ((s.pure ++ c ∷ []) ++ rest) =
        All-append (Contains old) (s.pure ++ c ∷ []) rest (All-append (Contains old) s.pure (c ∷ []) pure (All-cons (Contains old) c [] (All-contains (Contains old) s.pure c pure i) (All-nil (Contains old))))
        (All-right (Contains old) s.pure rest own) in
        subst (λ vars. IsRefuted vars old kinds) (append-nil s.vars) (refuted_stays.grows s.vars [] ((s.pure ++ c ∷ []) ++ rest) old kinds all r)

    by : (b : Bool) → stands_in s.pure c ≡ b → b ≡ false
    by true e = absurd (live (refuted (among e)))
    by false e = refl

-- as many places are held as there are blocks, at most
found_fewer : (vars : List VarInfo) (atoms : List Atom) → length (found_places vars atoms) ≤ length atoms
found_fewer vars [] = omega arith
found_fewer vars (a ∷ atoms) = by (not (is_made vars a.place.0)) (found_fewer vars atoms)
  where
    by : (yes : Bool) → length (found_places vars atoms) ≤ length atoms → length (places_of (cond yes (a ∷ found_atoms vars atoms) (found_atoms vars atoms))) ≤ suc (length atoms)
    by true l = omega arith
    by false l = omega arith

pub few_held : (s : State) (items : List HeldItem) → AreOf s items → length s.pure ≤ 10000 → length s.atoms ≤ 10000 → held_count items < 65536
few_held s items o p q =
    let n = count_is items in
    let x : length (conjuncts_in items) ≡ length s.pure = ap length o.pure in
    let y : length (places_in items) ≡ length (found_places s.vars s.atoms) = ap length o.places in
    let z = found_fewer s.vars s.atoms in omega (arith, n, x, y, z, p, q)

-- a state with one conjunct more
pub with_one : (s : State) (items : List HeldItem) (c : Conj) → AreOf s items → AreOf (record s { pure = s.pure ++ c ∷ [] }) (OfConj c ∷ items)
with_one s items c o = record { vars = o.vars; pure = ap (λ z. z ++ c ∷ []) o.pure; places = o.places }

pub against : (s : State) (items : List HeldItem) (c : Conj) (kinds : List ℕ) → AreOf s items → list_all (is_placed s.vars) s.atoms ≡ true → IsRefuted (held_vars items) (held_conjuncts (OfConj c ∷ items)) kinds → IsRefutedWith s c kinds
against s items c kinds o p r = held_refuted (record s { pure = s.pure ++ c ∷ [] }) (OfConj c ∷ items) kinds (with_one s items c o) p r

-- what is refuted with a conjunct that is assumed where a way leads is refuted there
pub shut_by : (j : JobTree) (w : Walk) (name : Way) (c : Conj) → HasPlaces w.state → Says j w name c → IsRefutedWith w.state c j.kinds → IsShut j w name
shut_by j w name c h s r =
    let t = state_of (act j w name) in
    let later = constraints_grow j w name h in
    let old : All (Contains (constraint t)) (constraint w.state) = later.constraint in
    let pure : All (Contains (constraint t)) (w.state.pure ++ c ∷ []) =
    All-append (Contains (constraint t)) w.state.pure (c ∷ []) (All-left (Contains (constraint t)) w.state.pure (separate w.state.vars w.state.atoms) old)
    (All-cons (Contains (constraint t)) c [] (All-contains (Contains (constraint t)) t.pure c (All-left (Contains (constraint t)) t.pure (separate t.vars t.atoms) (All-contains_itself (constraint t))) s.conjunct) (All-nil (Contains (constraint t)))) in
    let all : All (Contains (constraint t)) ((w.state.pure ++ c ∷ []) ++ separate w.state.vars w.state.atoms) =
    All-append (Contains (constraint t)) (w.state.pure ++ c ∷ []) (separate w.state.vars w.state.atoms) pure (All-right (Contains (constraint t)) w.state.pure (separate w.state.vars w.state.atoms) old) in
    subst (λ vars. IsRefuted vars (constraint t) j.kinds) (sym later.vars.1)
    (refuted_stays.grows w.state.vars later.vars.0 ((w.state.pure ++ c ∷ []) ++ separate w.state.vars w.state.atoms) (constraint t) j.kinds all r)

-- ---- lists that grow

module _ {A : Type 0} (Gone : A → Type 0) where
  pub thins_push : (xs ys : List A) (x : A) → Thins Gone xs ys → Thins Gone (xs ++ x ∷ []) (ys ++ x ∷ [])
  thins_push xs ys x t = thins_append Gone xs ys (x ∷ []) (x ∷ []) t (thins_self Gone (x ∷ []))

  pub thins_drop : (xs ys : List A) (x : A) → Thins Gone xs ys → Gone x → Thins Gone (xs ++ x ∷ []) ys
  thins_drop xs ys x t g = subst (Thins Gone (xs ++ x ∷ [])) (append-nil ys) (thins_append Gone xs ys (x ∷ []) [] t (inr (g, refl)))

  -- one item more was looked at
  pub thins_next : (xs ys new : List A) (n : ℕ) (d : A) (gone : Bool) → n < length xs → Thins Gone (take n xs) ys → (gone ≡ true → Gone (get_or xs n d)) →
      (gone ≡ false → new ≡ ys ++ get_or xs n d ∷ []) → (gone ≡ true → new ≡ ys) → Thins Gone (take (n + 1) xs) new
  thins_next xs ys new n d true l t h p q =
      let x = get_or xs n d in subst (λ z. Thins Gone z new) (sym (take_more xs n d l)) (subst (Thins Gone (take n xs ++ x ∷ [])) (sym (q refl)) (thins_drop (take n xs) ys x t (h refl)))
  thins_next xs ys new n d false l t h p q =
      let x = get_or xs n d in subst (λ z. Thins Gone z new) (sym (take_more xs n d l)) (subst (Thins Gone (take n xs ++ x ∷ [])) (sym (p refl)) (thins_push (take n xs) ys x t))
