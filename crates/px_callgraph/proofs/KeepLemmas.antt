-- Each listed way of a command keeps the state well sorted, or makes a polynomial that is too long.
use Rattle.std.proofs.Common.{◌≡◌, ℕ, suc, ◌+◌, pos, negsuc, List, [], ◌∷◌, map, length, Bool, true, false, not, nat_lt, nat_eq, ◌&&◌, ◌||◌, ◌⊎◌, inl, inr, Option, Some, None, slice_get, slice_set, refl, ap, sym, ◌∙◌, arith, subst}
use Rattle.std.specs.Prelude.{is_some}
use Rattle.std.specs.List.{list_any}
use Rattle.std.proofs.lemmas.Bool.{and_parts, and_from, or_cases, or_left, or_right}
use Rattle.px_base.specs.declared.trace.Site.{Site}
use Rattle.px_base.specs.declared.trace.MarkKind.TheVariants as mark
use Rattle.px_terms.specs.Polynomials.{Polynomial}
use Rattle.px_terms.specs.Substitutions.{variable}
use Rattle.px_terms.specs.declared.types.TypeId.{TypeId}
use Rattle.px_terms.specs.declared.types.BlockType.{BlockType}
use Rattle.px_terms.specs.declared.types.ValueType.TheVariants.{Int, Pointer}
use Rattle.px_terms.specs.declared.variables.Var.{Var}
use Rattle.px_terms.specs.declared.variables.VarInfo.{VarInfo}
use Rattle.px_terms.specs.declared.variables.Sort.TheVariants as sort
use Rattle.px_terms.specs.declared.conjuncts.Place.{Place as PlaceOf}
use Rattle.px_terms.specs.declared.conjuncts.Place.TheVariants as place
use Rattle.px_terms.specs.declared.conjuncts.Content.{Content}
use Rattle.px_terms.specs.declared.conjuncts.Content.TheVariants.{Unwritten, Word, Place, Cell}
use Rattle.px_terms.specs.declared.conjuncts.Conj.{Conj}
use Rattle.px_terms.specs.declared.conjuncts.Conj.TheVariants as conjunct
use Rattle.px_core.specs.CommandTree.{CommandTree, assign, unset, read, test, choose, loop, leave, load, store, malloc, free, input, call, return, break, continue, stop, divide}
use Rattle.px_core.specs.declared.command.Operand.{Operand}
use Rattle.px_entry.specs.declared.atoms.Atom.{Atom}
use Rattle.px_entry.specs.declared.atoms.AtomState.{AtomState}
use Rattle.px_entry.specs.declared.atoms.AtomState.TheVariants.{Live, Freed}
use Rattle.px_entry.specs.declared.tables.LongKind.{LongKind}
use Rattle.px_entry.specs.Sorts.{is_well_sorted, is_pointer, is_int, is_made, is_int_polynomial, is_long}
use Rattle.px_entry.specs.Decided.{word_of, is_open, is_false, decided}
use Rattle.px_entry.specs.Cases.{may_be_at, may_be_missing, numbers_of}
use Rattle.px_entry.specs.Contents.{variable_content}
use Rattle.px_entry.proofs.Lists.{Each, each_append}
use Rattle.px_callgraph.specs.declared.states.State.{State}
use Rattle.px_callgraph.specs.declared.states.Way.{Way}
use Rattle.px_callgraph.specs.declared.states.Way.TheVariants as way
use Rattle.px_callgraph.specs.JobTree.{JobTree}
use Rattle.px_callgraph.specs.States.{Outcome, goes, ends, past, drops, Done, on, operand_content, content_at, number, marked, begun, assumed, info, with_variables, met}
use Rattle.px_callgraph.specs.Operations.{operation, condition, contrary}
use Rattle.px_callgraph.specs.Accesses.{Access, listed_if, atom_ways, missing_ways, access_ways, accessed, access_done, cell_infos, block_cells, cell_contents, atom_of, meet_live, meet_freed, use_state, use_atom, reach_atom, load_access, store_access, free_access}
use Rattle.px_callgraph.specs.Commands.{read_ways, read_cell, read_done, open_if, test_outcome, test_done, last_loop, leaving, malloc_ways, make, malloc_done, input_done, constant_quotient, quotient_by, words_divided, divide_ways, divide_done, returned, return_done, through_place, pointer_ways, pointer_done, assign_done, command_ways, command_done}
use Rattle.px_callgraph.specs.Alternatives.{Walk, Leads, limits_of, passes, first_true, limited, led, within_limits, leads}
use Rattle.px_callgraph.specs.Laws.{IsSorted, IsKept, KeepsState}
use Rattle.px_callgraph.proofs.SortLemmas.{variable_next, polynomial_more, sorted_variables, sorted_assumed, sorted_with_atom, sorted_met, sorted_changed, kept_slot, open_cases, long_terms}

-- ---- limits of a path

-- an act makes a polynomial that is too long, or keeps the state; past the bound of a loop nothing is done, and a drop has the
-- state before it
abbrev pub IsGoodBy : State → Done → Outcome → Type 0
IsGoodBy s d goes = (list_any is_long d.terms ≡ true) ⊎ IsKept s d.state
IsGoodBy s d (ends exit result) = (list_any is_long d.terms ≡ true) ⊎ IsKept s d.state
IsGoodBy s d past = d.state ≡ s
IsGoodBy s d (drops word) = Unit {0}

abbrev pub IsGood : State → Done → Type 0
IsGood s d = IsGoodBy s d d.outcome

abbrev is_passed : Bool × LongKind → Bool
is_passed t = t.0

first_by : (t : Bool × LongKind) (ts : List (Bool × LongKind)) (b : Bool) → t.0 ≡ b → (t.0 || list_any is_passed ts) ≡ true →
    (list_any is_passed ts ≡ true → (k : LongKind) × (first_true ts ≡ Some k)) → (k : LongKind) × (first_true (t ∷ ts) ≡ Some k)
first_by t ts true h e r = (t.1, ap (λ z. elim z as (λ _. Option LongKind) [ true ↦ Some t.1 | false ↦ first_true ts ]) h)
first_by t ts false h e r =
    let q = r (sym (ap (λ z. z || list_any is_passed ts) h) ∙ e) in
    (q.0, ap (λ z. elim z as (λ _. Option LongKind) [ true ↦ Some t.1 | false ↦ first_true ts ]) h ∙ q.1)

some_first : (ts : List (Bool × LongKind)) → list_any is_passed ts ≡ true → (k : LongKind) × (first_true ts ≡ Some k)
some_first [] e = cc
some_first (t ∷ ts) e = first_by t ts t.0 refl e (some_first ts)

or_last : (a b c e f g : Bool) → g ≡ true → (a || (b || (c || (e || (f || (g || false)))))) ≡ true
or_last a b c e f g h =
    or_right a (b || (c || (e || (f || (g || false))))) (or_right b (c || (e || (f || (g || false)))) (or_right c (e || (f || (g || false)))
    (or_right e (f || (g || false)) (or_right f (g || false) (or_left g false h)))))

long_passes : (d : Done) → list_any is_long d.terms ≡ true → (k : LongKind) × (passes d ≡ Some k)
long_passes d e = some_first (limits_of d)
    (or_last (nat_lt 256 (length d.state.trace)) (nat_lt 4000 d.state.steps) (nat_lt 200 (length d.state.pure)) (nat_lt 64 (length d.state.atoms)) (nat_lt 8192 (length d.state.vars)) (list_any is_long d.terms) e)

limit_kept : (s : State) (a : Leads) (o : Option LongKind) → KeepsState s a → KeepsState s (limited s a o)
limit_kept s a None h = h
limit_kept s a (Some k) h = refl

limit_cut : (s : State) (a : Leads) (o : Option LongKind) (k : LongKind) → o ≡ Some k → KeepsState s (limited s a o)
limit_cut s a o k e = subst (λ z. KeepsState s (limited s a z)) (sym e) refl

module _ (s : State) (d : Done) (go : State → Walk) (kept : (t : State) → IsKept s t → IsKept s (go t).state) where
  good_by : (o : Outcome) → IsGoodBy s d o → KeepsState s (within_limits s d go o)
  good_by goes (inl l) = let p = long_passes d l in limit_cut s (led s d go goes) (passes d) p.0 p.1
  good_by goes (inr h) = limit_kept s (led s d go goes) (passes d) (kept d.state h)
  good_by (ends exit result) (inl l) = let p = long_passes d l in limit_cut s (led s d go (ends exit result)) (passes d) p.0 p.1
  good_by (ends exit result) (inr h) = limit_kept s (led s d go (ends exit result)) (passes d) h
  good_by past h = h
  good_by (drops word) h = limit_kept s (led s d go (drops word)) (passes d) refl

  pub leads_kept : IsGood s d → KeepsState s (leads s d go)
  leads_kept h = good_by d.outcome h

-- ---- lists of ways

listed : (P : Way → Type 0) (b : Bool) (w : Way) → (b ≡ true → P w) → Each P (listed_if b w)
listed P true w h = (h refl, tt)
listed P false w h = tt

-- a number of atoms that are such is that of one of them
abbrev Numbered : (Atom → Bool) → ℕ → List Atom → ℕ → Type 0
Numbered such n atoms m = (i : ℕ) × (a : Atom) × (m ≡ n + i) × (slice_get atoms i ≡ Some a) × (such a ≡ true)

pub each_weaker : {A : Type 0} (P Q : A → Type 0) → ((x : A) → P x → Q x) → (xs : List A) → Each P xs → Each Q xs
each_weaker P Q f [] h = tt
each_weaker P Q f (x ∷ xs) h = (f x h.0, each_weaker P Q f xs h.1)

later : (such : Atom → Bool) (n : ℕ) (a : Atom) (rest : List Atom) (m : ℕ) → Numbered such (suc n) rest m → Numbered such n (a ∷ rest) m
later such n a rest m (i, b, e, g, t) = (suc i, b, omega arith, g, t)

numbered_by : (such : Atom → Bool) (n : ℕ) (a : Atom) (rest : List Atom) (b : Bool) → such a ≡ b →
    Each (Numbered such n (a ∷ rest)) (numbers_of (λ k b. such b) (suc n) rest) →
    Each (Numbered such n (a ∷ rest)) (elim b as (λ _. List ℕ) [ true ↦ n ∷ numbers_of (λ k b. such b) (suc n) rest | false ↦ numbers_of (λ k b. such b) (suc n) rest ])
numbered_by such n a rest true e t = ((0, a, omega arith, refl, e), t)
numbered_by such n a rest false e t = t

numbered : (such : Atom → Bool) (n : ℕ) (atoms : List Atom) → Each (Numbered such n atoms) (numbers_of (λ k a. such a) n atoms)
numbered such n [] = tt
numbered such n (a ∷ rest) =
    numbered_by such n a rest (such a) refl
    (each_weaker (Numbered such (suc n) rest) (Numbered such n (a ∷ rest)) (later such n a rest) (numbers_of (λ k b. such b) (suc n) rest) (numbered such (suc n) rest))

pub each_atom : (P : Way → Type 0) (Q : ℕ → Type 0) → ((n : ℕ) → Q n → P (way.Atom n)) → (ns : List ℕ) → Each Q ns → Each P (atom_ways ns)
each_atom P Q f [] h = tt
each_atom P Q f (n ∷ ns) h = (f n h.0, each_atom P Q f ns h.1)

-- ---- accesses

-- what a command does in the three outcomes keeps a state
pub record KeepsAll (s : State) (a : Access) : Type 0 where
  pub null : (t : State) → IsKept s t → IsGood s (a.null t)
  pub freed : (t : State) → IsKept s t → IsGood s (a.freed t)
  pub live : (n : ℕ) (cells : List Content) (t : State) → IsKept s t → IsGood s (a.live n cells t)

same : (s t : State) → IsSorted t → length t.slots ≡ length s.slots → IsKept s t
same s t h e = record { sorted = h; slots = e }

load_keeps : (s : State) (to field : ℕ) (site : Site) → KeepsAll s (load_access to field site)
load_keeps s to field site = record {
  null = λ t h. inr (record { sorted = record { pure = h.sorted.pure; atoms = h.sorted.atoms }; slots = h.slots });
  freed = λ t h. inr (record { sorted = record { pure = h.sorted.pure; atoms = h.sorted.atoms }; slots = h.slots });
  live = λ n cells t h. inr (kept_slot s (marked mark.Access site t) to (content_at cells field) (record { sorted = record { pure = h.sorted.pure; atoms = h.sorted.atoms }; slots = h.slots }));
}

store_keeps : (s : State) (field : ℕ) (c : Content) (site : Site) → KeepsAll s (store_access field c site)
store_keeps s field c site = record {
  null = λ t h. inr (record { sorted = record { pure = h.sorted.pure; atoms = h.sorted.atoms }; slots = h.slots });
  freed = λ t h. inr (record { sorted = record { pure = h.sorted.pure; atoms = h.sorted.atoms }; slots = h.slots });
  live = λ n cells t h. inr (record {
    sorted = sorted_changed (marked mark.Access site t) n (Live (slice_set cells field c)) (record { pure = h.sorted.pure; atoms = h.sorted.atoms });
    slots = h.slots;
  });
}

free_keeps : (s : State) (site : Site) → KeepsAll s (free_access site)
free_keeps s site = record {
  null = λ t h. inr (record { sorted = record { pure = h.sorted.pure; atoms = h.sorted.atoms }; slots = h.slots });
  freed = λ t h. inr (record { sorted = record { pure = h.sorted.pure; atoms = h.sorted.atoms }; slots = h.slots });
  live = λ n cells t h. inr (record {
    sorted = sorted_changed (marked mark.Freed site t) n Freed (record { pure = h.sorted.pure; atoms = h.sorted.atoms });
    slots = h.slots;
  });
}

use_keeps : (s : State) (a : Access) → KeepsAll s a → (n : ℕ) (state : AtomState) (t : State) → IsKept s t → IsGood s (use_state a n state t)
use_keeps s a k n (Live cells) t h = k.live n cells t h
use_keeps s a k n Freed t h = k.freed t h

use_atom_keeps : (s : State) (a : Access) → KeepsAll s a → (n : ℕ) (o : Option Atom) (t : State) → IsKept s t → IsGood s (use_atom a n o t)
use_atom_keeps s a k n None t h = inr h
use_atom_keeps s a k n (Some b) t h = use_keeps s a k n b.state t h

-- that two places are the same is well sorted, where it is open
same_sorted : (vars : List VarInfo) (a b : PlaceOf) → is_open vars (conjunct.SamePlace a b) ≡ true → is_well_sorted vars (conjunct.SamePlace a b) ≡ true
same_sorted vars a b e = (and_parts (is_well_sorted vars (conjunct.SamePlace a b)) (not (is_false (decided vars (conjunct.SamePlace a b)))) e).0

-- a command has begun
begin : (s : State) → IsSorted s → IsKept s (begun s)
begin s h = record { sorted = record { pure = h.pure; atoms = h.atoms }; slots = refl }

kept_assumed : (s t : State) (c : Conj) → IsKept s t → is_well_sorted t.vars c ≡ true → IsKept s (assumed c t)
kept_assumed s t c h e = record { sorted = sorted_assumed t c h.sorted e; slots = h.slots }

missing_pointer : (vars : List VarInfo) (x : Var) → may_be_missing vars (place.Var x) ≡ true → is_pointer vars x.0 ≡ true
missing_pointer vars x e = (and_parts (is_pointer vars x.0) (not (is_made vars x.0)) e).0

module _ (j : JobTree) (s : State) (h : IsSorted s) (block : TypeId) (a : Access) (k : KeepsAll s a) where
  abbrev P : PlaceOf → Way → Type 0
  P p w = IsGood s (access_done j.types block a p w (begun s))

  reach_keeps : (p : PlaceOf) (n : ℕ) (o : Option Atom) → ((b : Atom) → o ≡ Some b → may_be_at s.vars p b ≡ true) → IsGood s (reach_atom a p n o (begun s))
  reach_keeps p n None f = inr (begin s h)
  reach_keeps p n (Some b) f =
      use_keeps s a k n b.state (assumed (conjunct.SamePlace p (place.Var b.place)) (begun s))
      (kept_assumed s (begun s) (conjunct.SamePlace p (place.Var b.place)) (begin s h) (same_sorted s.vars p (place.Var b.place) (f b refl)))

  missing_keeps : (p : PlaceOf) (b : Bool) → may_be_missing s.vars p ≡ b → Each (P p) (missing_ways b)
  missing_keeps p false e = tt
  missing_keeps place.Null true e = cc
  missing_keeps (place.Var x) true e =
      let q = missing_pointer s.vars x e in
      let ts = block_cells j.types block in
      let live = atom_of x block (Live (cell_contents (length s.vars) ts)) in
      let g = (begin s h).sorted in (
        use_atom_keeps s a k (length s.atoms) (slice_get (meet_live j.types block x (begun s)).atoms (length s.atoms)) (meet_live j.types block x (begun s))
            (record { sorted = sorted_variables (met live (begun s)) (cell_infos ts) (sorted_met (begun s) live g q); slots = refl }),
        (
          use_atom_keeps s a k (length s.atoms) (slice_get (meet_freed block x (begun s)).atoms (length s.atoms)) (meet_freed block x (begun s))
              (record { sorted = sorted_met (begun s) (atom_of x block Freed) g q; slots = refl }),
          tt,
        ),
      )

  -- the atoms of this block type that may be at the place
  abbrev is_there : PlaceOf → Atom → Bool
  is_there p b = nat_eq b.block.0 block.0 && may_be_at s.vars p b

  abbrev opened : (Atom → Bool) → Option Atom → Bool
  opened such None = true
  opened such (Some x) = such x

  some_equal : {b d : Atom} (o : Option Atom) → o ≡ Some b → o ≡ Some d → (such : Atom → Bool) → such b ≡ true → such d ≡ true
  some_equal {b} {d} o e f such t = subst (λ z. opened such z ≡ true) (sym e ∙ f) t

  at_atom : (p : PlaceOf) (n : ℕ) → Numbered (is_there p) 0 s.atoms n → P p (way.Atom n)
  at_atom p n (i, b, e, g, t) =
      reach_keeps p n (slice_get s.atoms n)
      (λ d f. some_equal (slice_get s.atoms n) (ap (slice_get s.atoms) (let q : n ≡ i = omega arith in q) ∙ g) f (may_be_at s.vars p)
      (and_parts (nat_eq b.block.0 block.0) (may_be_at s.vars p b) t).1)

  pub access_keeps : (p : PlaceOf) → Each (P p) (access_ways s block p)
  access_keeps p =
      each_append (P p) _ _
      (each_append (P p) _ _
      (listed (P p) (is_open s.vars (conjunct.SamePlace p place.Null)) way.Null
      (λ e. k.null (assumed (conjunct.SamePlace p place.Null) (begun s)) (kept_assumed s (begun s) (conjunct.SamePlace p place.Null) (begin s h) (same_sorted s.vars p place.Null e))))
      (each_atom (P p) (Numbered (is_there p) 0 s.atoms) (at_atom p) (numbers_of (λ n b. is_there p b) 0 s.atoms) (numbered (is_there p) 0 s.atoms)))
      (missing_keeps p (may_be_missing s.vars p) refl)

  -- through a content, where it is such a pointer
  pub pointer_keeps : (at : Operand) (b : Bool) → Each (λ w. IsGood s (pointer_done j block at a w (begun s))) (pointer_ways s block at b)
  pointer_keeps at false = tt
  pointer_keeps at true = by (accessed s.vars block (operand_content s at))
    where
      by : (o : Option PlaceOf) → Each (λ w. IsGood s (through_place (on (begun s)) o (λ p. access_done j.types block a p w (begun s)))) (through_place [] o (access_ways s block))
      by None = tt
      by (Some p) = access_keeps p

-- ---- the other commands

module _ (j : JobTree) (s : State) (h : IsSorted s) where
  assign_keeps : (to : ℕ) (terms : List Polynomial) (o : Option Content) → IsGood s (assign_done to terms o (begun s))
  assign_keeps to terms None = inr (begin s h)
  assign_keeps to terms (Some c) = inr (kept_slot s (begun s) to c (begin s h))

  read_cell_keeps : (slot : ℕ) (x : Var) (o : Option VarInfo) → is_well_sorted s.vars (conjunct.Written x) ≡ true → IsGood s (read_cell slot x o (begun s))
  read_cell_keeps slot x None e = inr (begin s h)
  read_cell_keeps slot x (Some i) e =
      inr (kept_slot s (assumed (conjunct.Written x) (begun s)) slot (variable_content i.value x.0) (kept_assumed s (begun s) (conjunct.Written x) (begin s h) e))

  read_keeps : (slot : ℕ) (site : Site) (c : Content) → Each (λ w. IsGood s (read_done slot site c w (begun s))) (read_ways s.vars c)
  read_keeps slot site Unwritten = (inr (begin s h), tt)
  read_keeps slot site (Word p) = (inr (begin s h), tt)
  read_keeps slot site (Place a) = (inr (begin s h), tt)
  read_keeps slot site (Cell x) = by (nat_lt x.0 (length s.vars)) refl
    where
      by : (b : Bool) → nat_lt x.0 (length s.vars) ≡ b →
          Each (λ w. IsGood s (read_done slot site (Cell x) w (begun s))) (elim b as (λ _. List Way) [ true ↦ way.Written ∷ way.Unwritten ∷ [] | false ↦ [] ])
      by false e = tt
      by true e = (
        read_cell_keeps slot x (slice_get s.vars x.0) e,
        (inr (kept_assumed s (begun s) (conjunct.Unwritten x) (begin s h) e), tt),
      )

  outcome_keeps : (t : State) → IsKept s t → (to outcome : ℕ) (c : Conj) → is_open t.vars c ≡ true → IsGood s (test_outcome to outcome (Some c) t)
  outcome_keeps t k to outcome c e = elim (open_cases t.vars c e) [
    | inl l ↦ inl (long_terms c l)
    | inr r ↦ inr (kept_slot s (assumed c t) to (Word (number (pos outcome))) (kept_assumed s t c k r))
  ]

  then_keeps : (to : ℕ) (site : Site) (o p : Option Conj) → Each (λ w. IsGood s (test_done to site o p w (begun s))) (open_if s.vars o way.Then)
  then_keeps to site None p = tt
  then_keeps to site (Some c) p = listed _ (is_open s.vars c) way.Then
      (λ e. outcome_keeps (marked mark.Then site (begun s)) (record { sorted = record { pure = h.pure; atoms = h.atoms }; slots = refl }) to 1 c e)

  else_keeps : (to : ℕ) (site : Site) (o p : Option Conj) → Each (λ w. IsGood s (test_done to site o p w (begun s))) (open_if s.vars p way.Else)
  else_keeps to site o None = tt
  else_keeps to site o (Some c) = listed _ (is_open s.vars c) way.Else
      (λ e. outcome_keeps (marked mark.Else site (begun s)) (record { sorted = record { pure = h.pure; atoms = h.atoms }; slots = refl }) to 0 c e)

  leaving_keeps : (o : Option (Site × ℕ)) → IsGood s (leaving o (begun s))
  leaving_keeps None = inr (begin s h)
  leaving_keeps (Some l) = inr (record { sorted = record { pure = h.pure; atoms = h.atoms }; slots = refl })

  malloc_keeps : (to : ℕ) (block : TypeId) (site : Site) (o : Option BlockType) → Each (λ w. IsGood s (malloc_done j.types to block site w (begun s))) (malloc_ways o)
  malloc_keeps to block site None = tt
  malloc_keeps to block site (Some b) =
      let m : State = marked mark.Got site (begun s) in
      let a : Atom = atom_of (record { 0 = length s.vars }) block (Live (map (λ _. Unwritten) (block_cells j.types block))) in
      let i = info sort.Made (Pointer block) in
      let g : IsSorted m = record { pure = h.pure; atoms = h.atoms } in
      let v = sorted_variables m (i ∷ []) g in (
        inr (kept_slot s (marked mark.NoBlock site (begun s)) to (Place place.Null) (record { sorted = record { pure = h.pure; atoms = h.atoms }; slots = refl })),
        (
          inr (kept_slot s (make j.types block m) to (variable_content (Pointer block) (length s.vars))
              (record { sorted = (let w = sorted_with_atom (with_variables (i ∷ []) m) a v (variable_next s.vars i _ refl) in record { pure = w.pure; atoms = w.atoms }); slots = refl })),
          tt,
        ),
      )

  input_keeps : (to : ℕ) (site : Site) → IsGood s (input_done to site (begun s))
  input_keeps to site =
      let i = info sort.Input Int in
      let m : State = marked mark.Input site (begun s) in
      let v = sorted_variables m (i ∷ []) (record { pure = h.pure; atoms = h.atoms }) in
      let x = length s.vars in
      let t : State = with_variables (i ∷ []) m in
      let one = conjunct.AtMost (number (negsuc 0)) (variable x) in
      let two = conjunct.AtMost (variable x) (number (pos 255)) in
      let int : is_int t.vars x ≡ true = variable_next s.vars i _ refl in
      let p = sorted_assumed t one v (and_from _ _ refl (and_from _ _ int refl)) in
      let q = sorted_assumed (assumed one t) two p (and_from _ _ (and_from _ _ int refl) refl) in
      inr (kept_slot s (assumed two (assumed one t)) to (Word (variable x)) (record { sorted = q; slots = refl }))

  quotient_keeps : (to : ℕ) (p q : Polynomial) (o : Option Content) (t : State) → IsKept s t → is_int_polynomial t.vars p ≡ true → is_int_polynomial t.vars q ≡ true → IsKept s (quotient_by to p q o t)
  quotient_keeps to p q (Some c) t k e f = kept_slot s t to c k
  quotient_keeps to p q None t k e f =
      let i = info sort.Input Int in
      let v : State = with_variables (i ∷ []) t in
      let c = conjunct.Quotient (record { 0 = length t.vars }) p q in
      let int : is_int v.vars (length t.vars) ≡ true = variable_next t.vars i _ refl in
      let g = sorted_assumed v c (sorted_variables t (i ∷ []) k.sorted) (and_from _ _ int (and_from _ _ (polynomial_more t.vars (i ∷ []) p e) (polynomial_more t.vars (i ∷ []) q f))) in
      kept_slot s (assumed c v) to (Word (variable (length t.vars))) (record { sorted = g; slots = k.slots })

  zero_keeps : (to : ℕ) (site : Site) (p q : Polynomial) → is_open s.vars (conjunct.Equal q) ≡ true → IsGood s (words_divided to site way.ByZero (begun s) p q)
  zero_keeps to site p q e = elim (open_cases s.vars (conjunct.Equal q) e) [
    | inl l ↦ inl (long_terms (conjunct.Equal q) l)
    | inr r ↦ inr (kept_assumed s (begun s) (conjunct.Equal q) (begin s h) r)
  ]

  other_keeps : (to : ℕ) (site : Site) (p q : Polynomial) → (is_open s.vars (conjunct.Unequal q) && (is_long p || is_int_polynomial s.vars p)) ≡ true → IsGood s (words_divided to site way.Divided (begun s) p q)
  other_keeps to site p q e =
      let f = and_parts (is_open s.vars (conjunct.Unequal q)) (is_long p || is_int_polynomial s.vars p) e in
      by (open_cases s.vars (conjunct.Unequal q) f.0) (or_cases (is_long p) (is_int_polynomial s.vars p) f.1)
    where
      by : (is_long q ≡ true) ⊎ (is_int_polynomial s.vars q ≡ true) → (is_long p ≡ true) ⊎ (is_int_polynomial s.vars p ≡ true) → IsGood s (words_divided to site way.Divided (begun s) p q)
      by (inl l) w = inl (or_right (is_long p) (is_long q || false) (or_left (is_long q) false l))
      by (inr r) (inl l) = inl (or_left (is_long p) (is_long q || false) l)
      by (inr r) (inr i) =
          inr (quotient_keeps to p q (constant_quotient (word_of p) (word_of q)) (assumed (conjunct.Unequal q) (begun s)) (kept_assumed s (begun s) (conjunct.Unequal q) (begin s h) r) i r)

  divide_keeps : (to : ℕ) (site : Site) (a b : Content) → Each (λ w. IsGood s (divide_done to site a b w (begun s))) (divide_ways s.vars a b)
  divide_keeps to site (Word p) (Word q) =
      each_append _ _ _ (listed _ (is_open s.vars (conjunct.Equal q)) way.ByZero (zero_keeps to site p q))
      (listed _ (is_open s.vars (conjunct.Unequal q) && (is_long p || is_int_polynomial s.vars p)) way.Divided (other_keeps to site p q))
  divide_keeps to site (Word p) Unwritten = tt
  divide_keeps to site (Word p) (Place b) = tt
  divide_keeps to site (Word p) (Cell y) = tt
  divide_keeps to site Unwritten b = tt
  divide_keeps to site (Place a) b = tt
  divide_keeps to site (Cell x) b = tt

  return_keeps : (o : Option (Option Content)) → IsGood s (return_done o (begun s))
  return_keeps None = inr (begin s h)
  return_keeps (Some result) = inr (record { sorted = record { pure = h.pure; atoms = h.atoms }; slots = refl })

  same_keeps : (P : Way → Type 0) (b : Bool) → P way.On → Each P (listed_if b way.On)
  same_keeps P b p = listed P b way.On (λ e. p)

  pub command_keeps : (c : CommandTree) → Each (λ w. IsGood s (command_done j c w s)) (command_ways j s c)
  command_keeps (assign to op a b) = listed _ (is_some (operation op (operand_content s a) (operand_content s b))) way.On (λ e. assign_keeps to _ (operation op (operand_content s a) (operand_content s b)))
  command_keeps (unset to) = (inr (kept_slot s (begun s) to Unwritten (begin s h)), tt)
  command_keeps (read slot site) = read_keeps slot site (content_at s.slots slot)
  command_keeps (test to how a b site) =
      each_append _ _ _ (then_keeps to site (condition how (operand_content s a) (operand_content s b)) (contrary how (operand_content s a) (operand_content s b)))
      (else_keeps to site (condition how (operand_content s a) (operand_content s b)) (contrary how (operand_content s a) (operand_content s b)))
  command_keeps (choose slot first second) = listed _ _ way.On (λ e. inr (begin s h))
  command_keeps (loop site head body step) = (inr (record { sorted = record { pure = h.pure; atoms = h.atoms }; slots = refl }), tt)
  command_keeps leave = listed _ _ way.On (λ e. leaving_keeps (last_loop s.loops))
  command_keeps (load to at field block site) = pointer_keeps j s h block (load_access to field.0 site) (load_keeps s to field.0 site) at _
  command_keeps (store at field block from site) = pointer_keeps j s h block (store_access field.0 (operand_content s from) site) (store_keeps s field.0 (operand_content s from) site) at _
  command_keeps (malloc to block site) = malloc_keeps to block site (slice_get j.types block.0)
  command_keeps (free at block site) = pointer_keeps j s h block (free_access site) (free_keeps s site) at _
  command_keeps (input to site) = (input_keeps to site, tt)
  command_keeps (call to proc arguments site) = listed _ _ way.On (λ e. inr (record { sorted = record { pure = h.pure; atoms = h.atoms }; slots = refl }))
  command_keeps (return from) = listed _ _ way.On (λ e. return_keeps (returned s j.body.result from))
  command_keeps break = listed _ _ way.On (λ e. inr (record { sorted = record { pure = h.pure; atoms = h.atoms }; slots = refl }))
  command_keeps continue = listed _ _ way.On (λ e. inr (begin s h))
  command_keeps (stop word site) = (tt, tt)
  command_keeps (divide to a b site) = divide_keeps to site (operand_content s a) (operand_content s b)
