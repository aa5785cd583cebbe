-- What is put on, and what is taken off.
use Rattle.std.proofs.Common.{◌≡◌, ℕ, suc, ◌+◌, ◌-◌, ◌<◌, ◌≤◌, List, [], ◌∷◌, ◌++◌, length, get_or, take, drop, refl, ap, sym, ◌∙◌, subst, arith, append_assoc, append-nil, length-append}
use Rattle.std.specs.Prelude.{All, reverse}
use Rattle.std.proofs.Math.Seq.{drop-cons, take-append_seam}
use Rattle.std.proofs.lemmas.List.Elements.{All-weaker}
use Rattle.std.proofs.lemmas.List.{drop_all, length-drop, length-reverse, same_from_push, take-append-drop}
use Rattle.px_terms.specs.declared.variables.VarInfo.{VarInfo}
use Rattle.px_terms.specs.declared.conjuncts.Conj.{Conj}
use Rattle.px_plain.specs.Held.{HeldItem, OfVar, OfConj, OfApart, held_vars, held_count}
use Rattle.px_solver.specs.Pushed.{pushed_conjuncts}
use Rattle.px_callgraph.specs.declared.states.State.{State}
use Rattle.px_callgraph.specs.Laws.{HasPlaces}
use Rattle.px_terms.specs.Variables.{mentioned}
use Rattle.px_terms.specs.Conjuncts.{IsWellSorted}
use Rattle.px_plain.proofs.Mentioned.{mentioned_inside}
use Rattle.px_explore.specs.declared.trail.Holder.{Holder}
use Rattle.px_explore.specs.declared.trail.Holder.TheVariants.{Alone, Everywhere}
use Rattle.px_explore.specs.declared.trail.Trail.{Trail}
use Rattle.px_plain.specs.Stacks.{Holds}
use Rattle.px_explore.specs.Trails.{conjuncts_in, places_in, holder, holders_of, IsStacked, IsOn, AreUpon, Stacks, PutsOn, AreOf, IsAt}
use Rattle.px_explore.proofs.HeldLemmas.{pushed_is, count_is}

-- ---- items upon items

pub upon_none : (items : List HeldItem) → AreUpon items items [] [] []
upon_none items = record {
  above = [];
  all_is = refl;
  vars_are = sym (append-nil (held_vars items));
  pure_is = sym (append-nil (conjuncts_in items));
  places_are = sym (append-nil (places_in items));
}

pub upon_more : (items mid all : List HeldItem) (vs ws : List VarInfo) (ps qs : List Conj) (xs ys : List ℕ) → AreUpon items mid vs ps xs → AreUpon mid all ws qs ys →
    AreUpon items all (vs ++ ws) (ps ++ qs) (xs ++ ys)
upon_more items mid all vs ws ps qs xs ys f g = record {
  above = g.above ++ f.above;
  all_is = g.all_is ∙ ap (λ z. g.above ++ z) f.all_is ∙ sym (append_assoc g.above f.above items);
  vars_are = joined (held_vars items) (held_vars mid) (held_vars all) vs ws f.vars_are g.vars_are;
  pure_is = joined (conjuncts_in items) (conjuncts_in mid) (conjuncts_in all) ps qs f.pure_is g.pure_is;
  places_are = joined (places_in items) (places_in mid) (places_in all) xs ys f.places_are g.places_are;
}
  where
    joined : {A : Type 0} (us bs cs xs ys : List A) → bs ≡ us ++ xs → cs ≡ bs ++ ys → cs ≡ us ++ (xs ++ ys)
    joined us bs cs xs ys e f = f ∙ ap (λ z. z ++ ys) e ∙ append_assoc us xs ys

pub upon_var : (items : List HeldItem) (i : VarInfo) → AreUpon items (OfVar i ∷ items) (i ∷ []) [] []
upon_var items i = record { above = OfVar i ∷ []; all_is = refl; vars_are = refl; pure_is = sym (append-nil (conjuncts_in items)); places_are = sym (append-nil (places_in items)) }

pub upon_conjunct : (items : List HeldItem) (c : Conj) → AreUpon items (OfConj c ∷ items) [] (c ∷ []) []
upon_conjunct items c = record { above = OfConj c ∷ []; all_is = refl; vars_are = sym (append-nil (held_vars items)); pure_is = refl; places_are = sym (append-nil (places_in items)) }

pub upon_place : (items : List HeldItem) (x : ℕ) → AreUpon items (OfApart x ∷ items) [] [] (x ∷ [])
upon_place items x = record { above = OfApart x ∷ []; all_is = refl; vars_are = sym (append-nil (held_vars items)); pure_is = sym (append-nil (conjuncts_in items)); places_are = refl }

-- ---- what is stacked

pub stacks_none : (t : Trail) → Stacks t t [] []
stacks_none t items h = (items, h, upon_none items)

pub stacks_var : (a b c : Trail) (vars : List VarInfo) (i : VarInfo) → Stacks a b vars [] → ((items : List HeldItem) → IsStacked b items → IsStacked c (OfVar i ∷ items)) → Stacks a c (vars ++ i ∷ []) []
stacks_var a b c vars i f g items h =
    let (all, k, u) = f items h in (OfVar i ∷ all, g all k, upon_more items all (OfVar i ∷ all) vars (i ∷ []) [] [] [] [] u (upon_var all i))

pub stacks_place : (a b c : Trail) (places : List ℕ) (x : ℕ) → Stacks a b [] places → ((items : List HeldItem) → IsStacked b items → IsStacked c (OfApart x ∷ items)) → Stacks a c [] (places ++ x ∷ [])
stacks_place a b c places x f g items h =
    let (all, k, u) = f items h in (OfApart x ∷ all, g all k, upon_more items all (OfApart x ∷ all) [] [] [] [] places (x ∷ []) u (upon_place all x))

pub stacks_same : (a b c : Trail) (vars : List VarInfo) (places : List ℕ) → Stacks a b vars places → ((items : List HeldItem) → IsStacked b items → IsStacked c items) → Stacks a c vars places
stacks_same a b c vars places f g items h = let (all, k, u) = f items h in (all, g all k, u)

pub puts_conjunct : (a : Trail) (A : List Conj → Type 0) (b : Trail) (B : List Conj → Type 0) (c : Trail) (C : List Conj → Type 0) (pure : List Conj) (d : Conj) → PutsOn a A b B pure →
    ((items : List HeldItem) → IsOn b B items → IsOn c C (OfConj d ∷ items)) → PutsOn a A c C (pure ++ d ∷ [])
puts_conjunct a A b B c C pure d f g items h =
    let (all, k, u) = f items h in (OfConj d ∷ all, g all k, upon_more items all (OfConj d ∷ all) [] [] pure (d ∷ []) [] [] u (upon_conjunct all d))

pub puts_none : (t : Trail) (D : List Conj → Type 0) → PutsOn t D t D []
puts_none t D items h = (items, h, upon_none items)

pub puts_same : (a : Trail) (A : List Conj → Type 0) (b : Trail) (B : List Conj → Type 0) (c : Trail) (C : List Conj → Type 0) (pure : List Conj) → PutsOn a A b B pure →
    ((items : List HeldItem) → IsOn b B items → IsOn c C items) → PutsOn a A c C pure
puts_same a A b B c C pure f g items h = let (all, k, u) = f items h in (all, g all k, u)

-- where no conjunct is put on, domains hold what they held
pub stacks_on : (a b : Trail) (D : List Conj → Type 0) (vars : List VarInfo) (places : List ℕ) (items : List HeldItem) → Stacks a b vars places → IsOn a D items →
    (all : List HeldItem) × IsOn b D all × AreUpon items all vars [] places
stacks_on a b D vars places items f h =
    let (all, k, u) = f items h.stacked in
    (all, record { stacked = k; conjuncts = subst D (pushed_is items ∙ ap reverse (sym (append-nil (conjuncts_in items)) ∙ sym u.pure_is) ∙ sym (pushed_is all)) h.conjuncts }, u)

-- ---- how far a list was put on

-- it was put on up to a number
abbrev pub IsDone : {A : Type 0} → List A → ℕ → ℕ → List A → Type 0
IsDone done from n xs = done ++ drop n xs ≡ drop from xs

pub done_next : {A : Type 0} (done xs : List A) (from n : ℕ) (x : A) → n < length xs → x ≡ get_or xs n x → IsDone done from n xs → IsDone (done ++ x ∷ []) from (n + 1) xs
done_next done xs from n x l g h =
    let e : suc n ≡ n + 1 = omega arith in
    append_assoc done (x ∷ []) (drop (n + 1) xs)
    ∙ ap (λ z. done ++ x ∷ drop z xs) (sym e) ∙ ap (λ z. done ++ z ∷ drop (suc n) xs) g ∙ ap (λ z. done ++ z) (sym (drop-cons xs n x l)) ∙ h

pub done_all : {A : Type 0} (done xs : List A) (from n : ℕ) → length xs ≤ n → IsDone done from n xs → done ≡ drop from xs
done_all done xs from n l h = sym (append-nil done) ∙ ap (λ z. done ++ z) (sym (drop_all n xs l)) ∙ h

-- what was put on upon the first items of a list are fewer than all
pub done_few : {A : Type 0} (done xs : List A) (from n : ℕ) → n < length xs → IsDone done from n xs → length (take from xs ++ done) < length xs
done_few done xs from n l h =
    let e : length (take from xs ++ done) + length (drop n xs) ≡ length xs =
    sym (length-append (take from xs ++ done) (drop n xs)) ∙ ap length (append_assoc (take from xs) done (drop n xs) ∙ ap (λ z. take from xs ++ z) h ∙ take-append-drop from xs) in
    let k : length (drop n xs) ≡ length xs - n = length-drop n xs in omega (arith, e, k, l)

-- the first items of a list, and the others
pub parts_of : {A : Type 0} (xs us more ys : List A) (n : ℕ) → xs ≡ us → n ≡ length us → ys ≡ us ++ more → (xs ≡ take n ys) × (xs ++ drop n ys ≡ ys)
parts_of xs us more ys n e l g =
    let t : xs ≡ take n ys = e ∙ sym (ap (take n) g ∙ ap (λ z. take z (us ++ more)) l ∙ take-append_seam us more) in (t, ap (λ z. z ++ drop n ys) t ∙ take-append-drop n ys)

-- ---- going back

pub holders_length : (items : List HeldItem) → length (holders_of items) ≡ length items
holders_length [] = refl
holders_length (i ∷ items) =
    let e : length (holders_of items ++ holder i ∷ []) ≡ length (holders_of items) + 1 = length-append (holders_of items) (holder i ∷ []) in
    let h = holders_length items in omega (arith, e, h)

pub held_length : (t : Trail) (items : List HeldItem) → IsStacked t items → length t.holders.items ≡ length items
held_length t items h = ap length h.holders ∙ holders_length items

-- where there are more items than those below, one is taken off
pub record IsMore (rest items : List HeldItem) : Type 0 where
  pub top : HeldItem
  pub under : List HeldItem
  pub is : rest ≡ top ∷ under

pub more_of : (t : Trail) (rest items : List HeldItem) (held : ℕ) → IsStacked t (rest ++ items) → held ≡ length items → held < length t.holders.items → IsMore rest items
more_of t [] items held h e l = let n = held_length t items h in absurd (omega (arith, n, e, l))
more_of t (i ∷ rest) items held h e l = record { top = i; under = rest; is = refl }

pub none_more : (t : Trail) (D : List Conj → Type 0) (rest items : List HeldItem) (held : ℕ) → IsOn t D (rest ++ items) → held ≡ length items → length t.holders.items ≤ held → IsOn t D items
none_more t D [] items held h e l = h
none_more t D (i ∷ rest) items held h e l =
    let n = held_length t (i ∷ rest ++ items) h.stacked in
    let m : length (rest ++ items) ≡ length rest + length items = length-append rest items in absurd (omega (arith, n, m, e, l))

-- what stands upon these items of what was there at first
abbrev pub IsStill : Trail → (List Conj → Type 0) → ℕ → Trail → (List Conj → Type 0) → Type 0
IsStill old before held new after = (above items : List HeldItem) → IsOn old before (above ++ items) → held ≡ length items → (rest : List HeldItem) × IsOn new after (rest ++ items)

pub still_same : (t : Trail) (D : List Conj → Type 0) (held : ℕ) → IsStill t D held t D
still_same t D held above items h e = (above, h)

-- so many items, and some upon them
abbrev pub IsHeldUpon : Trail → (List Conj → Type 0) → ℕ → Type 0
IsHeldUpon t D held = (above : List HeldItem) × (items : List HeldItem) × IsOn t D (above ++ items) × (held ≡ length items)

pub top_of : (old : Trail) (A : List Conj → Type 0) (held : ℕ) (t : Trail) (D : List Conj → Type 0) → IsHeldUpon old A held → IsStill old A held t D → held < length t.holders.items →
    (i : HeldItem) × (items : List HeldItem) × IsOn t D (i ∷ items)
top_of old A held t D (above, items, h, e) s l =
    let (rest, k) = s above items h e in
    let m = more_of t rest items held k.stacked e l in (m.top, m.under ++ items, subst (λ z. IsOn t D (z ++ items)) m.is k)

pub still_less : (old : Trail) (A : List Conj → Type 0) (held : ℕ) (t : Trail) (D : List Conj → Type 0) (new : Trail) (E : List Conj → Type 0) → IsStill old A held t D → held < length t.holders.items →
    ((i : HeldItem) (items : List HeldItem) → IsOn t D (i ∷ items) → IsOn new E items) → IsStill old A held new E
still_less old A held t D new E s l pop above items h e =
    let (rest, k) = s above items h e in
    let m = more_of t rest items held k.stacked e l in (m.under, pop m.top (m.under ++ items) (subst (λ z. IsOn t D (z ++ items)) m.is k))

pub fewer_held : (old : Trail) (A : List Conj → Type 0) (held : ℕ) (t : Trail) (D : List Conj → Type 0) (new : Trail) (E : List Conj → Type 0) → IsHeldUpon old A held → IsStill old A held t D →
    held < length t.holders.items → ((i : HeldItem) (items : List HeldItem) → IsOn t D (i ∷ items) → IsOn new E items) → length new.holders.items < length t.holders.items
fewer_held old A held t D new E u s l pop =
    let (i, items, k) = top_of old A held t D u s l in
    let a = held_length t (i ∷ items) k.stacked in
    let b = held_length new items (pop i items k).stacked in omega (arith, a, b)

pub still_all : (old : Trail) (A : List Conj → Type 0) (held : ℕ) (t : Trail) (D : List Conj → Type 0) → IsStill old A held t D → length t.holders.items ≤ held →
    (above items : List HeldItem) → IsOn old A (above ++ items) → held ≡ length items → IsOn t D items
still_all old A held t D s l above items h e = let (rest, k) = s above items h e in none_more t D rest items held k e l

-- ---- one item

-- the item that is taken off where the last holder is the stack alone, and where it is all
pub off_alone : (t : Trail) (D : List Conj → Type 0) (new : Trail) (E : List Conj → Type 0) (hs : List Holder) → t.holders.items ≡ hs ++ Alone ∷ [] → new.holders.items ≡ hs →
    ((i : HeldItem) (items : List HeldItem) → Holds t.stack (i ∷ items) → Holds new.stack items) → ((cs : List Conj) → D cs → E cs) →
    (i : HeldItem) (items : List HeldItem) → IsOn t D (i ∷ items) → IsOn new E items
off_alone t D new E hs e n pop kept i items h =
    let l = same_from_push hs (holders_of items) Alone (holder i) (sym e ∙ h.stacked.holders) in
    record { stacked = record { stack = pop i items h.stacked.stack; holders = n ∙ l.0 }; conjuncts = kept (pushed_conjuncts items) (subst D (pushed_alone i items (sym l.1)) h.conjuncts) }
  where
    pushed_alone : (i : HeldItem) (items : List HeldItem) → holder i ≡ Alone → pushed_conjuncts (i ∷ items) ≡ pushed_conjuncts items
    pushed_alone (OfVar i) items e = refl
    pushed_alone (OfConj c) items e = cc
    pushed_alone (OfApart x) items e = refl

-- the last item is a conjunct where all hold it
pub record IsConjunct (i : HeldItem) : Type 0 where
  pub conjunct : Conj
  pub is : i ≡ OfConj conjunct

conjunct_of : (i : HeldItem) → Everywhere ≡ holder i → IsConjunct i
conjunct_of (OfVar i) e = cc
conjunct_of (OfConj c) e = record { conjunct = c; is = refl }
conjunct_of (OfApart x) e = cc

pub last_conjunct : (t : Trail) (items : List HeldItem) (i : HeldItem) (hs : List Holder) → t.holders.items ≡ hs ++ Everywhere ∷ [] → IsStacked t (i ∷ items) → IsConjunct i
last_conjunct t items i hs e h = conjunct_of i (same_from_push hs (holders_of items) Everywhere (holder i) (sym e ∙ h.holders)).1

pub off_everywhere : (t : Trail) (D : List Conj → Type 0) (new : Trail) (E : List Conj → Type 0) (hs : List Holder) → t.holders.items ≡ hs ++ Everywhere ∷ [] → new.holders.items ≡ hs →
    ((i : HeldItem) (items : List HeldItem) → Holds t.stack (i ∷ items) → Holds new.stack items) → ((c : Conj) (cs : List Conj) → D (c ∷ cs) → E cs) →
    (i : HeldItem) (items : List HeldItem) → IsOn t D (i ∷ items) → IsOn new E items
off_everywhere t D new E hs e n pop kept i items h =
    let l = same_from_push hs (holders_of items) Everywhere (holder i) (sym e ∙ h.stacked.holders) in
    let c = conjunct_of i l.1 in
    record { stacked = record { stack = pop i items h.stacked.stack; holders = n ∙ l.0 }; conjuncts = kept c.conjunct (pushed_conjuncts items) (subst (λ z. D (pushed_conjuncts (z ∷ items))) c.is h.conjuncts) }

-- nothing is taken off where there is no holder
pub none_held : (t : Trail) (items : List HeldItem) (i : HeldItem) → t.holders.items ≡ [] → IsStacked t (i ∷ items) → ⊥
none_held t items i e h =
    let n = held_length t (i ∷ items) h in
    let z : length t.holders.items ≡ 0 = ap length e in omega (arith, n, z)

-- a conjunct upon the others
pub on_push : (t : Trail) (D : List Conj → Type 0) (new : Trail) (E : List Conj → Type 0) (items : List HeldItem) (c : Conj) → new.holders.items ≡ t.holders.items ++ Everywhere ∷ [] → IsOn t D items →
    Holds new.stack (OfConj c ∷ items) → E (c ∷ pushed_conjuncts items) → IsOn new E (OfConj c ∷ items)
on_push t D new E items c e h k p = record { stacked = record { stack = k; holders = e ∙ ap (λ z. z ++ Everywhere ∷ []) h.stacked.holders }; conjuncts = p }

pub few_pushed : (items : List HeldItem) → held_count items < 65536 → length (pushed_conjuncts items) < 65536
few_pushed items l =
    let n = count_is items in
    let e : length (pushed_conjuncts items) ≡ length (conjuncts_in items) = ap length (pushed_is items) ∙ length-reverse (conjuncts_in items) in omega (arith, n, e, l)

-- a well-sorted conjunct mentions variables of the list alone
pub mentions_few : (items : List HeldItem) (c : Conj) → length (held_vars items) ≤ 65536 → IsWellSorted (held_vars items) c → All (λ x. x < 65536) (mentioned c)
mentions_few items c l w = All-weaker (λ x. x < length (held_vars items)) (λ x. x < 65536) (λ x h. omega (arith, h, l)) (mentioned c) (mentioned_inside (held_vars items) c w)

-- nothing is left below
pub all_off : (t : Trail) (D : List Conj → Type 0) (items : List HeldItem) → IsOn t D items → IsOn t D (items ++ [])
all_off t D items h = subst (IsOn t D) (sym (append-nil items)) h

-- numbers beside what is held change nothing
pub on_same : (t new : Trail) (D : List Conj → Type 0) (items : List HeldItem) → new.stack ≡ t.stack → new.holders.items ≡ t.holders.items → IsOn t D items → IsOn new D items
on_same t new D items e f h = record {
  stacked = record { stack = subst (λ z. Holds z items) (sym e) h.stacked.stack; holders = f ∙ h.stacked.holders };
  conjuncts = h.conjuncts;
}

-- back at a state
pub at_back : (new : Trail) (D : List Conj → Type 0) (s : State) (items : List HeldItem) → IsOn new D items → AreOf s items → new.vars ≡ length s.vars → new.pure ≡ length s.pure → new.atoms ≡ length s.atoms →
    HasPlaces s → IsAt new D s items
at_back new D s items h o v p a q = record { on = h; of = o; vars = v; pure = p; atoms = a; places = q }

-- where the stack alone was asked, domains hold what they held
pub on_stacked : (t u : Trail) (D : List Conj → Type 0) (items : List HeldItem) → IsOn t D items → ((items : List HeldItem) → IsStacked t items → IsStacked u items) → IsOn u D items
on_stacked t u D items on kept = record { stacked = kept items on.stacked; conjuncts = on.conjuncts }
