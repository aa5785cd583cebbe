-- An entry that loses blocks is a leak: from every calling state some call takes its path, and has lost them.
use Rattle.std.proofs.Common.{◌≡◌, ◌≢◌, inl, inr, ℕ, ◌<◌, ◌≤◌, Bool, true, false, nat_lt, if◌then◌else◌, List, [], ◌∷◌, length, map, Option, Some, None, slice_get, refl, sym, ap, ◌∙◌, subst, arith}
use Rattle.std.specs.Prelude.{AllPairs}
use Rattle.std.proofs.lemmas.List.{length-map}
use Rattle.std.proofs.lemmas.List.Kept.{AllPairs-cons}
use Rattle.std.proofs.lemmas.Option.{same_Some}
use Rattle.px_terms.specs.Valuations.{Valuation, FitsSort, Fits}
use Rattle.px_terms.specs.declared.types.Value.{Value}
use Rattle.px_terms.specs.declared.types.Value.TheVariants as value
use Rattle.px_terms.specs.declared.types.ValueType.{ValueType}
use Rattle.px_terms.specs.declared.types.BlockType.{BlockType}
use Rattle.px_terms.specs.declared.variables.Sort.{Sort}
use Rattle.px_terms.specs.declared.variables.Sort.TheVariants as sort
use Rattle.px_terms.specs.declared.variables.VarInfo.{VarInfo}
use Rattle.px_terms.proofs.Places.{block_is}
use Rattle.px_entry.specs.declared.atoms.Atom.{Atom}
use Rattle.px_entry.specs.declared.atoms.AtomState.{AtomState}
use Rattle.px_entry.specs.declared.atoms.AtomState.TheVariants as atom
use Rattle.px_entry.specs.declared.entries.Entry.{Entry}
use Rattle.px_entry.specs.declared.entries.Exit.{Exit}
use Rattle.px_entry.specs.Sorts.{is_some_and, is_made_sort, is_made}
use Rattle.px_entry.specs.Regular.{IsRegular}
use Rattle.px_entry.specs.Standing.{contents_value}
use Rattle.px_entry.proofs.Lists.{Each, each_all}
use Rattle.px_meaning.specs.Heaps.{HeapMap, Live, join}
use Rattle.px_meaning.specs.Calls.{Calls, IsCallingState}
use Rattle.px_meaning.specs.Triples.{state_of, block_of, heap_of, result_value, ending_of}
use Rattle.px_manifest.specs.Laws.{TestsDecide, IsTakenFrom, TakenFromAll}
use Rattle.px_leak.specs.declared.got.GotBlock.{GotBlock}
use Rattle.px_leak.specs.Reached.{IsReached}
use Rattle.px_leak.specs.Losses.{got_blocks, IsLiveState, IsLost, lost_blocks}
use Rattle.px_leak.specs.Leaks.{counted}
use Rattle.px_leak.specs.Unreached.{IsHeld, IsReachedIn, IsLostIn, LosesIn}
use Rattle.px_leak.specs.Laws.{LossesAreExact, LeaksRight}
use Rattle.px_leak.proofs.Members.{Has, has_from, has_to}
use Rattle.px_leak.proofs.ReachLemmas.{reached_exactly}
use Rattle.px_leak.proofs.HeapBlocks.{own_place, joined_there, block_new}
use Rattle.px_leak.proofs.ReachedBlocks.{met}
use Rattle.px_leak.proofs.LostBlocks.{got_made, Rising, lost_rising, lost_is, is_lost}

pub losses_exact : TestsDecide → LossesAreExact
losses_exact tests = record {
  reached = reached_exactly;
  lost = λ x s g. (
    λ h. let (got, l) = lost_is x (tests.asks x s) g (has_from (lost_blocks x) g h) in (has_to (got_blocks x) g got, l),
    λ h. has_to (lost_blocks x) g (is_lost x (tests.asks x s) g (has_from (got_blocks x) g h.0) h.1),
  );
}

-- ---- numbers of blocks

-- the number of a block, or 0
abbrev number : Value → ℕ
number (value.Word z) = 0
number value.Null = 0
number (value.Block n) = n
number value.Unwritten = 0

-- a made variable is a block
made_block : (vars : List VarInfo) (v : Valuation) → Fits vars v → (y : ℕ) → is_made vars y ≡ true → (i : VarInfo) × (slice_get vars y ≡ Some i) × (i.sort ≡ sort.Made) × (v y ≡ value.Block (number (v y)))
made_block vars v fits y m = by (slice_get vars y) refl m
  where
    made_sort : (s : Sort) → is_made_sort s ≡ true → s ≡ sort.Made
    made_sort sort.Given e = cc
    made_sort sort.Cell e = cc
    made_sort sort.Input e = cc
    made_sort sort.Made e = refl

    own : (n : ℕ) → v y ≡ value.Block n → v y ≡ value.Block (number (v y))
    own n e = e ∙ ap value.Block (sym (ap number e))

    by : (o : Option VarInfo) → slice_get vars y ≡ o → is_some_and o (λ i. is_made_sort i.sort) ≡ true → (i : VarInfo) × (slice_get vars y ≡ Some i) × (i.sort ≡ sort.Made) × (v y ≡ value.Block (number (v y)))
    by None at e = let f : ⊥ = cc in absurd f
    by (Some i) at e =
        let s = made_sort i.sort e in
        let (n, block) = block_is (v y) (subst (λ k. FitsSort k i.value (v y)) s (fits.sorts y i at)).1 in
        (i, at, s, own n block)

-- two made variables are two blocks
made_different : (vars : List VarInfo) (v : Valuation) → Fits vars v → (y z : ℕ) → is_made vars y ≡ true → is_made vars z ≡ true → y < z → number (v y) ≢ number (v z)
made_different vars v fits y z my mz l same =
    let (i, at, s, e) = made_block vars v fits y my in
    let (j, at', s', e') = made_block vars v fits z mz in
    fits.made y z i j at at' s (λ f. let g : ⊥ = omega arith in g) (e ∙ ap value.Block same ∙ sym e')

counted_least : (n : ℕ) → counted n ≤ n
counted_least n = by (nat_lt n 4294967295) refl
  where
    by : (b : Bool) → nat_lt n 4294967295 ≡ b → (if b then n else 4294967295) ≤ n
    by true e = omega arith
    by false e = grind arith

-- ---- a call has lost them

module _ (calls : Calls) (types : List BlockType) (parameters : List ValueType) (result : Option ValueType) (x : Entry)
    (regular : IsRegular types parameters result x) (lost : (g : GotBlock) → Has (lost_blocks x) g → Has (got_blocks x) g × IsLost x g.place) (empty : x.pre ≡ [])
    (arguments : List Value) (heap : HeapMap) (calling : IsCallingState types parameters arguments heap) (t : IsTakenFrom calls (length parameters) x arguments heap) where
  abbrev v : Valuation
  v = t.values

  abbrev Whole : HeapMap
  Whole = join (heap_of v x.post) heap

  abbrev IsGone : ℕ → Type 0
  IsGone = IsLostIn heap (result_value v x.result) Whole

  fits : Fits x.vars v
  fits = t.satisfies.fits

  -- the contents of a live block
  live_cells : (s : AtomState) → IsLiveState s → (cells : List Value) × (state_of v s ≡ Live cells)
  live_cells (atom.Live cells) h = (contents_value v cells, refl)
  live_cells atom.Freed h = absurd h

  unreached : (a : Atom) → Has x.post a → (n : ℕ) → v a.place.0 ≡ value.Block n → ¬ IsReached x a.place.0 → ¬ IsReachedIn Whole (IsHeld heap (result_value v x.result)) n
  unreached a h n e not_reached r = elim (met types parameters x regular.regular regular.given empty v arguments heap calling t.given t.placed t.apart n r) [
    | inl there ↦ there (block_new v x.post t.placed heap t.apart a h n e)
    | inr made ↦ not_reached (subst (λ (b : Atom). IsReached x b.place.0) (same_Some made.0 a (sym (own_place v x.post t.placed made.0 made.1 n made.2) ∙ own_place v x.post t.placed a h n e)) made.3)
  ]

  gone : (g : GotBlock) → Has (lost_blocks x) g → IsGone (number (v g.place))
  gone g h =
      let (got, l) = lost g h in
      let (i, at, s, e) = made_block x.vars v fits g.place (got_made x g got) in
      let place : v l.atom.place.0 ≡ value.Block (number (v g.place)) = ap v l.place ∙ e in
      let within = has_from x.post l.atom l.left in
      let (cells, live) = live_cells l.atom.state l.live in
      record {
        new = block_new v x.post t.placed heap t.apart l.atom within (number (v g.place)) place;
        block = block_of v l.atom;
        cells = cells;
        there = joined_there v x.post t.placed heap t.apart l.atom within (number (v g.place)) place;
        live = live;
        unreached = unreached l.atom within (number (v g.place)) place (subst (λ y. ¬ IsReached x y) (sym l.place) l.unreached);
      }

  abbrev numbers : List GotBlock → List ℕ
  numbers gs = map (λ (g : GotBlock). number (v g.place)) gs

  all_gone : (gs : List GotBlock) → ((g : GotBlock) → Has gs g → IsGone (number (v g.place))) → Each IsGone (numbers gs)
  all_gone [] each = tt
  all_gone (g ∷ gs) each = (each g (inl refl), all_gone gs (λ h k. each h (inr k)))

  all_different : (gs : List GotBlock) → Rising gs → ((g : GotBlock) → Has gs g → is_made x.vars g.place ≡ true) → AllPairs (λ m n. m ≢ n) (numbers gs)
  all_different [] r made = λ i j d l k. let f : ⊥ = omega arith in absurd f
  all_different (g ∷ gs) r made =
      AllPairs-cons (λ m n. m ≢ n) (number (v g.place)) (numbers gs)
      (each_all (λ n. number (v g.place) ≢ n) (numbers gs) (from_first gs (λ h k. made_different x.vars v fits g.place h.place (made g (inl refl)) (made h (inr k)) (r.0 h k))))
      (all_different gs r.1 (λ h k. made h (inr k)))
    where
      from_first : (hs : List GotBlock) → ((h : GotBlock) → Has hs h → number (v g.place) ≢ number (v h.place)) → Each (λ n. number (v g.place) ≢ n) (numbers hs)
      from_first [] each = tt
      from_first (h ∷ hs) each = (each h (inl refl), from_first hs (λ k m. each k (inr m)))

  pub loses : LosesIn heap (result_value v x.result) Whole (counted (length (lost_blocks x)))
  loses = record {
    blocks = numbers (lost_blocks x);
    many = subst (λ n. counted (length (lost_blocks x)) ≤ n) (sym (length-map (lost_blocks x) (λ (g : GotBlock). number (v g.place)))) (counted_least (length (lost_blocks x)));
    different = all_different (lost_blocks x) (lost_rising x) (λ g h. got_made x g (lost g h).0);
    lost = each_all IsGone (numbers (lost_blocks x)) (all_gone (lost_blocks x) gone);
  }

pub leaks_right : TestsDecide → (calls : Calls) → TakenFromAll calls → LeaksRight calls
leaks_right tests calls taken types parameters result x g regular valid satisfied h arguments heap calling =
    let lost = lost_is x (tests.asks x satisfied) in
    let one = (lost g (has_from (lost_blocks x) g h)).1 in
    let t = taken types parameters result x regular valid satisfied one.asks arguments heap calling in (
      result_value t.values x.result,
      join (heap_of t.values x.post) heap,
      subst (λ (e : Exit). calls arguments heap x.trace (ending_of t.values e x.result) (join (heap_of t.values x.post) heap)) one.returns t.call,
      loses calls types parameters result x regular lost one.asks.finds_none arguments heap calling t,
    )
