-- A valuation with values for more variables: all that a state says of the old ones stays.
use Rattle.std.proofs.Common.{◌≡◌, ◌⊎◌, ℕ, zero, suc, ◌+◌, ◌-◌, ◌<◌, Bool, true, false, cond, nat_lt, Some, List, [], ◌∷◌, ◌++◌, length, slice_get, refl, sym, ap, ap₂, ◌∙◌, subst, inl, inr, arith, length-append}
use Rattle.std.specs.Prelude.{All}
use Rattle.std.proofs.lemmas.Bool.{and_parts, lt-ltb, ltb-true}
use Rattle.std.proofs.lemmas.Option.{slice_get_within}
use Rattle.px_terms.specs.Types.{types_of}
use Rattle.px_terms.specs.Words.{signed}
use Rattle.px_terms.specs.Variables.{variables_of, place_variables, mentioned}
use Rattle.px_terms.specs.Polynomials.{Polynomial}
use Rattle.px_terms.specs.Valuations.{Valuation, IsWord}
use Rattle.px_terms.specs.Conjuncts.{word_of, HasWords, IsTrueUnder}
use Rattle.px_terms.specs.declared.types.Value.{Value}
use Rattle.px_terms.specs.declared.types.Value.TheVariants as value
use Rattle.px_terms.specs.declared.types.BlockType.{BlockType}
use Rattle.px_terms.specs.declared.types.ValueType.{ValueType}
use Rattle.px_terms.specs.declared.variables.VarInfo.{VarInfo}
use Rattle.px_terms.specs.declared.conjuncts.Place.{Place as PlaceOf}
use Rattle.px_terms.specs.declared.conjuncts.Place.TheVariants as place
use Rattle.px_terms.specs.declared.conjuncts.Content.{Content}
use Rattle.px_terms.specs.declared.conjuncts.Content.TheVariants.{Unwritten, Word, Place, Cell}
use Rattle.px_terms.specs.declared.conjuncts.Conj.{Conj}
use Rattle.px_terms.specs.declared.conjuncts.Conj.TheVariants as conjunct
use Rattle.px_terms.proofs.Agreement.{word_agrees, truth_agrees}
use Rattle.px_entry.specs.declared.atoms.Atom.{Atom}
use Rattle.px_entry.specs.declared.atoms.AtomState.{AtomState}
use Rattle.px_entry.specs.declared.atoms.AtomState.TheVariants.{Live, Freed}
use Rattle.px_entry.specs.Sorts.{is_variable_with, is_cell}
use Rattle.px_entry.specs.Contents.{fit_each}
use Rattle.px_entry.specs.Regular.{fits_state, is_own_cell, state_cells}
use Rattle.px_entry.specs.Standing.{content_value, contents_value}
use Rattle.px_entry.proofs.Lists.{Each, each_append, each_all, all_each}
use Rattle.px_meaning.specs.Heaps.{HeapMap, «Live» as block_live, join}
use Rattle.px_meaning.specs.Operations.{value_at}
use Rattle.px_meaning.specs.Triples.{state_of, heap_of}
use Rattle.px_soundness.proofs.WellFormed.{UsableWord, Good, GoodAtom, GoodConj, GoodFound, Complete}
use Rattle.px_soundness.proofs.AtomHeaps.{at_heap}
use Rattle.px_soundness.proofs.Truths.{variable_is}
use Rattle.px_coverage.specs.Covered.{Execution}
use Rattle.px_coverage.proofs.Stands.{HasSort, Stands}
use Rattle.px_coverage.proofs.SameHeaps.{IsSame, heaps_same, placed_same}
use Rattle.px_callgraph.proofs.KeepLemmas.{each_weaker}

-- ---- more values

-- the values of the first m variables, and others after them
abbrev pub extended : Valuation → ℕ → List Value → Valuation
extended v m us x = cond (nat_lt x m) (v x) (value_at us (x - m))

not_below : (x m : ℕ) → (x < m → ⊥) → nat_lt x m ≡ false
not_below x m h = by (nat_lt x m) refl
  where
    by : (q : Bool) → nat_lt x m ≡ q → q ≡ false
    by true e = absurd (h (ltb-true x m e))
    by false e = refl

pub extended_old : (v : Valuation) (m : ℕ) (us : List Value) (x : ℕ) → x < m → extended v m us x ≡ v x
extended_old v m us x l = ap (λ q. cond q (v x) (value_at us (x - m))) (lt-ltb x m l)

pub extended_new : (v : Valuation) (m : ℕ) (us : List Value) (x i : ℕ) → x ≡ m + i → extended v m us x ≡ value_at us i
extended_new v m us x i e =
    ap (λ q. cond q (v x) (value_at us (x - m))) (not_below x m (λ l. let f : ⊥ = omega (arith, e, l) in f)) ∙ ap (value_at us) (let f : x - m ≡ i = omega (arith, e) in f)

-- an item of a list, or of another after it
pub get_either : {A : Type 0} (xs ys : List A) (x : ℕ) (a : A) → slice_get (xs ++ ys) x ≡ Some a → (slice_get xs x ≡ Some a) ⊎ ((i : ℕ) × (x ≡ length xs + i) × (slice_get ys i ≡ Some a))
get_either [] ys x a e = inr (x, (let f : x ≡ 0 + x = omega arith in f), e)
get_either (b ∷ xs) ys zero a e = inl e
get_either (b ∷ xs) ys (suc x) a e = elim (get_either xs ys x a e) [ inl h ↦ inl h | inr h ↦ inr (h.0, longer x (length xs) h.0 h.1, h.2) ]
  where
    longer : (x m i : ℕ) → x ≡ m + i → suc x ≡ suc m + i
    longer x m i e = omega (arith, e)

-- ---- what agrees on the variables of a list

module _ (vars : List VarInfo) (pure : List Conj) (v w : Valuation) (agree : (x : ℕ) → x < length vars → w x ≡ v x) where
  variable_below : (test : VarInfo → Bool) (x : ℕ) → is_variable_with vars test x ≡ true → x < length vars
  variable_below test x e = let (i, at, t) = variable_is vars test x e in slice_get_within vars x i at

  words_below : (xs : List ℕ) → Each (UsableWord vars pure) xs → Each (λ x. x < length vars) xs
  words_below xs h = each_weaker (UsableWord vars pure) (λ x. x < length vars) (λ x u. variable_below _ x u.0) xs h

  all_agree : (xs : List ℕ) → Each (λ x. x < length vars) xs → All (λ x. w x ≡ v x) xs
  all_agree xs h = each_all (λ x. w x ≡ v x) xs (each_weaker (λ x. x < length vars) (λ x. w x ≡ v x) (λ x l. agree x l) xs h)

  all_back : (xs : List ℕ) → Each (λ x. x < length vars) xs → All (λ x. v x ≡ w x) xs
  all_back xs h = each_all (λ x. v x ≡ w x) xs (each_weaker (λ x. x < length vars) (λ x. v x ≡ w x) (λ x l. sym (agree x l)) xs h)

  pub word_same : (p : Polynomial) → Good vars pure (Word p) → word_of w p ≡ word_of v p
  word_same p g = word_agrees w v p (all_agree (variables_of p) (words_below (variables_of p) g.1))

  pub words_same : (p : Polynomial) → Good vars pure (Word p) → HasWords v p → HasWords w p
  words_same p g h = each_all (λ x. IsWord (w x)) (variables_of p) (go (variables_of p) (words_below (variables_of p) g.1) (all_each (λ x. IsWord (v x)) (variables_of p) h))
    where
      go : (xs : List ℕ) → Each (λ x. x < length vars) xs → Each (λ x. IsWord (v x)) xs → Each (λ x. IsWord (w x)) xs
      go [] l h = tt
      go (x ∷ xs) l h = (subst IsWord (sym (agree x l.0)) h.0, go xs l.1 h.1)

  pub content_agrees : (c : Content) → Good vars pure c → content_value w c ≡ content_value v c
  content_agrees Unwritten g = refl
  content_agrees (Word p) g = ap (λ n. value.Word (signed n)) (word_same p g)
  content_agrees (Place place.Null) g = refl
  content_agrees (Place (place.Var x)) g = agree x.0 (variable_below _ x.0 g.0)
  content_agrees (Cell x) g = agree x.0 (variable_below _ x.0 g)

  pub contents_agree : (cs : List Content) → Each (Good vars pure) cs → contents_value w cs ≡ contents_value v cs
  contents_agree [] h = refl
  contents_agree (c ∷ cs) h = ap₂ (λ (u : Value) us. u ∷ us) (content_agrees c h.0) (contents_agree cs h.1)

  -- an atom of these variables
  abbrev IsHere : Atom → Type 0
  IsHere a = (a.place.0 < length vars) × Each (Good vars pure) (state_cells a.state)

  state_agrees : (st : AtomState) → Each (Good vars pure) (state_cells st) → state_of w st ≡ state_of v st
  state_agrees (Live cells) h = ap block_live (contents_agree cells h)
  state_agrees Freed h = refl

  here_same : (atoms : List Atom) → Each IsHere atoms → Each (IsSame v w) atoms
  here_same atoms h = each_weaker IsHere (IsSame v w) (λ a here. (agree a.place.0 here.0, state_agrees a.state here.1)) atoms h

  -- atoms of a state, and those that were found
  here_atoms : (types : List BlockType) (atoms : List Atom) → Each (GoodAtom types vars pure) atoms → Each IsHere atoms
  here_atoms types atoms h = each_weaker (GoodAtom types vars pure) IsHere (λ a g. (variable_below _ a.place.0 g.points, g.cells)) atoms h

  own_cells : (ts : List ValueType) (cells : List Content) → fit_each (is_own_cell vars) ts cells ≡ true → Each (Good vars pure) cells
  own_cells [] [] e = tt
  own_cells [] (c ∷ cs) e = cc
  own_cells (t ∷ ts) [] e = cc
  own_cells (t ∷ ts) (c ∷ cs) e = let b = and_parts (is_own_cell vars t c) (fit_each (is_own_cell vars) ts cs) e in (own c b.0, own_cells ts cs b.1)
    where
      own : (c : Content) → is_own_cell vars t c ≡ true → Good vars pure c
      own Unwritten e = cc
      own (Word p) e = cc
      own (Place a) e = cc
      own (Cell x) e = (and_parts (is_cell vars x.0) _ e).0

  found_cells : (ts : List ValueType) (st : AtomState) → fits_state (is_own_cell vars) ts st ≡ true → Each (Good vars pure) (state_cells st)
  found_cells ts (Live cells) e = own_cells ts cells e
  found_cells ts Freed e = tt

  here_found : (types : List BlockType) (atoms : List Atom) → Each (GoodFound types vars pure) atoms → Each IsHere atoms
  here_found types atoms h = each_weaker (GoodFound types vars pure) IsHere (λ a g. (variable_below _ a.place.0 g.points, found_cells (types_of (slice_get types a.block.0)) a.state g.fits)) atoms h

  -- conjuncts
  place_below : (a : PlaceOf) → Good vars pure (Place a) → Each (λ x. x < length vars) (place_variables a)
  place_below place.Null g = tt
  place_below (place.Var x) g = (variable_below _ x.0 g.0, tt)

  mentioned_below : (c : Conj) → GoodConj vars pure c → Each (λ x. x < length vars) (mentioned c)
  mentioned_below (conjunct.Equal p) g = words_below (variables_of p) g
  mentioned_below (conjunct.Unequal p) g = words_below (variables_of p) g
  mentioned_below (conjunct.Less p q) g = each_append (λ x. x < length vars) (variables_of p) (variables_of q) (words_below (variables_of p) g.0) (words_below (variables_of q) g.1)
  mentioned_below (conjunct.AtMost p q) g = each_append (λ x. x < length vars) (variables_of p) (variables_of q) (words_below (variables_of p) g.0) (words_below (variables_of q) g.1)
  mentioned_below (conjunct.SamePlace a b) g = each_append (λ x. x < length vars) (place_variables a) (place_variables b) (place_below a g.0) (place_below b g.1)
  mentioned_below (conjunct.OtherPlace a b) g = each_append (λ x. x < length vars) (place_variables a) (place_variables b) (place_below a g.0) (place_below b g.1)
  mentioned_below (conjunct.Written x) g = (g.0, tt)
  mentioned_below (conjunct.Unwritten x) g = (g, tt)
  mentioned_below (conjunct.Quotient x p q) g = (variable_below _ x.0 g.0, each_append (λ x. x < length vars) (variables_of p) (variables_of q) (words_below (variables_of p) g.2) (words_below (variables_of q) g.3))

  truths_agree : (cs : List Conj) → Each (GoodConj vars pure) cs → Each (IsTrueUnder v) cs → Each (IsTrueUnder w) cs
  truths_agree [] g h = tt
  truths_agree (c ∷ cs) g h = (truth_agrees v w c (all_back (mentioned c) (mentioned_below c g.0)) h.0, truths_agree cs g.1 h.1)

  -- ---- states

  module _ (types : List BlockType) (parameters : List ValueType) (pre atoms : List Atom) (good : Each (GoodAtom types vars pure) atoms) (complete : Complete types parameters vars pure pre atoms) where
    pub heap_same : heap_of w atoms ≡ heap_of v atoms
    heap_same = heaps_same v w atoms (here_same atoms (here_atoms types atoms good))

    pub found_same : heap_of w pre ≡ heap_of v pre
    found_same = heaps_same v w pre (here_same pre (here_found types pre complete.found))

    pub stands_extended : (e : Execution) (rest : HeapMap) (new : List VarInfo) → ((i : ℕ) (k : VarInfo) → slice_get new i ≡ Some k → HasSort e.before k.sort k.value (w (length vars + i))) →
        (says : List Conj) → Each (GoodConj vars pure) says → Stands e v rest vars says pre atoms → Stands e w rest (vars ++ new) says pre atoms
    stands_extended e rest new sorts says conjuncts s = record {
      sorts = λ x k at. sort_at x k (get_either vars new x k at);
      given = λ x u at. let (l, is) = s.given x u at in (longer x l, agree x l ∙ is);
      true_of = truths_agree says conjuncts s.true_of;
      placed = placed_same v w atoms (here_same atoms (here_atoms types atoms good)) s.placed;
      apart = λ n. elim (s.apart n) [ inl out ↦ inl (at_heap n heap_same ∙ out) | inr out ↦ inr out ];
      begins = s.begins ∙ ap (λ h. join h rest) (sym found_same);
    }
      where
        longer : (x : ℕ) → x < length vars → x < length (vars ++ new)
        longer x l = let f = length-append vars new in omega (arith, l, f)

        sort_at : (x : ℕ) (k : VarInfo) → ((slice_get vars x ≡ Some k) ⊎ ((i : ℕ) × (x ≡ length vars + i) × (slice_get new i ≡ Some k))) → HasSort e.before k.sort k.value (w x)
        sort_at x k (inl at) = subst (HasSort e.before k.sort k.value) (sym (agree x (slice_get_within vars x k at))) (s.sorts x k at)
        sort_at x k (inr (i, is, at)) = subst (λ z. HasSort e.before k.sort k.value (w z)) (sym is) (sorts i k at)
