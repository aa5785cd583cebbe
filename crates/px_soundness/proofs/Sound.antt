-- An act of a path, and the step of the machine that it stands for.
--
-- Everything is said of one valuation of the state after an act, which is one of the state before it: variables and
-- conjuncts are only ever added. The blocks that the act met are in the further heap before it.
use Rattle.std.proofs.Common.{◌≡◌, ℕ, Bool, true, false, Some, List, [], ◌∷◌, ◌++◌, slice_get, refl, sym, ap, ◌∙◌, subst, append_assoc, append-nil}
use Rattle.px_base.specs.declared.trace.Mark.{Mark}
use Rattle.px_terms.specs.Valuations.{Valuation, Fits}
use Rattle.px_terms.specs.Conjuncts.{IsTrueUnder}
use Rattle.px_terms.specs.declared.variables.VarInfo.{VarInfo}
use Rattle.px_terms.specs.declared.conjuncts.Content.{Content}
use Rattle.px_terms.specs.declared.conjuncts.Conj.{Conj}
use Rattle.px_terms.proofs.Agreement.{fits_fewer}
use Rattle.px_core.specs.Control.{Item}
use Rattle.px_entry.specs.declared.atoms.Atom.{Atom}
use Rattle.px_entry.specs.declared.atoms.AtomState.{AtomState}
use Rattle.px_entry.specs.Decided.{decided, is_true, assume}
use Rattle.px_entry.specs.Standing.{contents_value}
use Rattle.px_entry.proofs.Lists.{Each}
use Rattle.px_callgraph.specs.declared.states.State.{State}
use Rattle.px_callgraph.specs.declared.states.Way.{Way}
use Rattle.px_callgraph.specs.States.{Outcome, goes, ends, past, drops}
use Rattle.px_callgraph.specs.Accesses.{listed_if, with_state, set_atom}
use Rattle.px_meaning.specs.Values.{Block}
use Rattle.px_meaning.specs.Heaps.{HeapMap, with_block, join, AreApart}
use Rattle.px_meaning.specs.Steps.{Next, Goes, Ends, Goal}
use Rattle.px_meaning.specs.CoreCalls.{after}
use Rattle.px_meaning.specs.Triples.{block_of, heap_of, ending_of}
use Rattle.px_meaning.proofs.Joins.{join_join, with_join}
use Rattle.px_soundness.proofs.AtomHeaps.{Placed, Kept, heap_append, placed_last, placed_front, placed_set, place_of, changed, apart_met, apart_within, kept_more}
use Rattle.px_soundness.proofs.Truths.{Says, assume_says}

-- ---- lists

-- P holds of each item
abbrev pub Each1 : {A : Type 0} → (A → Type 1) → List A → Type 1
Each1 P [] = Unit {1}
Each1 P (x ∷ xs) = P x × Each1 P xs

pub each1_append : {A : Type 0} (P : A → Type 1) (xs ys : List A) → Each1 P xs → Each1 P ys → Each1 P (xs ++ ys)
each1_append P [] ys p q = q
each1_append P (x ∷ xs) ys (h, p) q = (h, each1_append P xs ys p q)

pub each1_if : (P : Way → Type 1) (b : Bool) (w : Way) → (b ≡ true → P w) → Each1 P (listed_if b w)
each1_if P true w h = (h refl, tt)
each1_if P false w h = tt

-- ---- what holds of a state under a valuation

-- beside a further heap
pub record Holds (v : Valuation) (vars : List VarInfo) (pure : List Conj) (atoms : List Atom) (further : HeapMap) : Type 0 where
  pub fits : Fits vars v
  pub true_of : Each (IsTrueUnder v) pure
  pub placed : Placed v atoms
  pub apart : AreApart (heap_of v atoms) further

-- the state before another, under the same valuation: the blocks that were met are new to it
pub record Back (v : Valuation) (s t : State) (further : HeapMap) : Type 0 where
  pub new : List Atom
  pub pre : t.pre ≡ s.pre ++ new
  pub holds : Holds v s.vars s.pure s.atoms (join (heap_of v new) further)
  pub keeps : Kept v s.pre s.atoms → Kept v t.pre t.atoms

-- ---- what the machine can do

-- what may hold of the whole trace so far and of what comes next
abbrev pub WholeGoal : Type 1
WholeGoal = List Mark → Next → Type 0

-- the same goal of the events of a step
abbrev pub From : List Mark → WholeGoal → Goal Mark
From so_far K events next = K (after so_far events) next

abbrev pub Can : Type 1
Can = Valuation → HeapMap → WholeGoal → Type 0

-- the goal holds of the state after an act and of what the act comes to
abbrev pub Comes : Valuation → HeapMap → List Item → State → Outcome → WholeGoal → Type 0
Comes v further k t goes K = K t.trace (Goes k (contents_value v t.slots) (join (heap_of v t.atoms) further))
Comes v further k t (ends exit result) K = K t.trace (Ends (ending_of v exit result) (join (heap_of v t.atoms) further))
Comes v further k t past K = ⊥
Comes v further k t (drops word) K = ⊥

-- whatever the act comes to, the machine comes to from the state before it
unfoldable pub Sound : Can → State → List Item → State → Outcome → Type 1
Sound C s k t o = (v : Valuation) (further : HeapMap) → Holds v t.vars t.pure t.atoms further →
    (b : Back v s t further) × ((K : WholeGoal) → Comes v further k t o K → C v (join (heap_of v s.atoms) (join (heap_of v b.new) further)) K)

-- another name of the same state
pub sound_same : (C : Can) (s : State) (loops : _) (steps : ℕ) (k : List Item) (t : State) (o : Outcome) → Sound C (record s { loops = loops; steps = steps }) k t o → Sound C s k t o
unfolding Sound
sound_same C s loops steps k t o step v further h = let (b, go) = step v further h in (record { new = b.new; pre = b.pre; holds = b.holds; keeps = b.keeps }, go)

-- the machine can do as much by other means
pub sound_turn : (C D : Can) (s : State) (k : List Item) (t : State) (o : Outcome) → ((v : Valuation) (H : HeapMap) (K : WholeGoal) → C v H K → D v H K) → Sound C s k t o → Sound D s k t o
unfolding Sound
sound_turn C D s k t o f step v further h = let (b, go) = step v further h in (b, λ K l. f v _ K (go K l))

-- an act that changes slots, trace and loops alone
pub sound_plain : (C : Can) (s : State) (slots : List Content) (trace : List Mark) (loops : _) (steps : ℕ) (k : List Item) (o : Outcome) →
    ((v : Valuation) (further : HeapMap) → Holds v s.vars s.pure s.atoms further → (K : WholeGoal) → Comes v further k (record s { slots = slots; trace = trace; loops = loops; steps = steps }) o K → C v (join (heap_of v s.atoms) further) K) →
    Sound C s k (record s { slots = slots; trace = trace; loops = loops; steps = steps }) o
unfolding Sound
sound_plain C s slots trace loops steps k o f v further h = (record { new = []; pre = sym (append-nil s.pre); holds = h; keeps = λ kept. kept }, λ K l. f v further h K l)

-- from a state between
pub chain : (C D : Can) (s u : State) (k : List Item) (t : State) (o : Outcome) → Sound C u k t o →
    ((v : Valuation) (further : HeapMap) → Holds v u.vars u.pure u.atoms further →
    (b : Back v s u further) × ((K : WholeGoal) → C v (join (heap_of v u.atoms) further) K → D v (join (heap_of v s.atoms) (join (heap_of v b.new) further)) K)) →
    Sound D s k t o
unfolding Sound
chain C D s u k t o step back v further h =
    let (b2, go2) = step v further h in
    let F2 : HeapMap = join (heap_of v b2.new) further in
    let (b1, go1) = back v F2 b2.holds in
    let both : join (heap_of v (b1.new ++ b2.new)) further ≡ join (heap_of v b1.new) F2 = ap (λ g. join g further) (heap_append v b1.new b2.new) ∙ join_join (heap_of v b1.new) (heap_of v b2.new) further in (
      record {
        new = b1.new ++ b2.new;
        pre = b2.pre ∙ ap (λ x. x ++ b2.new) b1.pre ∙ append_assoc s.pre b1.new b2.new;
        holds = subst (Holds v s.vars s.pure s.atoms) (sym both) b1.holds;
        keeps = λ kept. b2.keeps (b1.keeps kept);
      },
      λ K l. subst (λ g. D v (join (heap_of v s.atoms) g) K) (sym both) (go1 K (go2 K l)),
    )

-- ---- a conjunct is assumed

pub sound_assumed : (C D : Can) (s : State) (c : Conj) (k : List Item) (t : State) (o : Outcome) →
    ((v : Valuation) → Fits s.vars v → is_true (decided s.vars c) ≡ true → Says v c) →
    Sound C (record s { pure = assume s.vars s.pure c }) k t o →
    ((v : Valuation) (further : HeapMap) (K : WholeGoal) → Holds v s.vars s.pure s.atoms further → Says v c → C v (join (heap_of v s.atoms) further) K → D v (join (heap_of v s.atoms) further) K) →
    Sound D s k t o
sound_assumed C D s c k t o known step turn =
    chain C D s (record s { pure = assume s.vars s.pure c }) k t o step (λ v further h.
    let (all, says) = assume_says s.vars s.pure c v (known v h.fits) h.true_of in
    let before : Holds v s.vars s.pure s.atoms further = record { fits = h.fits; true_of = all; placed = h.placed; apart = h.apart } in
    (record { new = []; pre = sym (append-nil s.pre); holds = before; keeps = λ kept. kept }, λ K l. turn v further K before says l))

-- ---- new variables

pub sound_variables : (C : Can) (s : State) (new : List VarInfo) (k : List Item) (t : State) (o : Outcome) →
    Sound C (record s { vars = s.vars ++ new }) k t o → Sound C s k t o
sound_variables C s new k t o step =
    chain C C s (record s { vars = s.vars ++ new }) k t o step (λ v further h. (
      record {
        new = [];
        pre = sym (append-nil s.pre);
        holds = record { fits = fits_fewer s.vars new v h.fits; true_of = h.true_of; placed = h.placed; apart = h.apart };
        keeps = λ kept. kept;
      },
      λ K l. l,
    ))

-- ---- a block that wasn't met

pub sound_met : (C D : Can) (s : State) (a : Atom) (vars : List VarInfo) (k : List Item) (t : State) (o : Outcome) →
    ((v : Valuation) → Fits vars v → Fits s.vars v) →
    Sound C (record s { vars = vars; pre = s.pre ++ a ∷ []; atoms = s.atoms ++ a ∷ [] }) k t o →
    ((v : Valuation) (H : HeapMap) (K : WholeGoal) → C v H K → D v H K) →
    Sound D s k t o
sound_met C D s a vars k t o fewer step turn =
    chain C D s (record s { vars = vars; pre = s.pre ++ a ∷ []; atoms = s.atoms ++ a ∷ [] }) k t o step (λ v further h.
    let (n, at, out) = placed_last v s.atoms a h.placed in (
      record {
        new = a ∷ [];
        pre = refl;
        holds = record {
          fits = fewer v h.fits;
          true_of = h.true_of;
          placed = placed_front v s.atoms (a ∷ []) h.placed;
          apart = apart_met v s.atoms a n further at out h.apart;
        };
        keeps = kept_more v s.pre s.atoms a n at out;
      },
      λ K l. subst (λ g. D v g K) (ap (λ g. join g further) (heap_append v s.atoms (a ∷ [])) ∙ join_join (heap_of v s.atoms) (heap_of v (a ∷ [])) further) (turn v _ K l),
    ))

-- ---- a block changes

pub sound_changed : (C : Can) (s : State) (n : ℕ) (b : Atom) (st : AtomState) (trace : List Mark) (k : List Item) → slice_get s.atoms n ≡ Some b →
    ((v : Valuation) (further : HeapMap) → Holds v s.vars s.pure s.atoms further → (K : WholeGoal) (m : ℕ) → v b.place.0 ≡ Block m →
    K trace (Goes k (contents_value v s.slots) (with_block (join (heap_of v s.atoms) further) m (block_of v (with_state st b)))) → C v (join (heap_of v s.atoms) further) K) →
    Sound C s k (record s { atoms = set_atom n st s.atoms; trace = trace }) goes
unfolding Sound
sound_changed C s n b st trace k e f v further h =
    let (placed, within) = placed_set v s.atoms n st h.placed in
    let (m, at) = place_of v s.atoms n b placed e in
    let before : Holds v s.vars s.pure s.atoms further = record { fits = h.fits; true_of = h.true_of; placed = placed; apart = apart_within (heap_of v s.atoms) (heap_of v (set_atom n st s.atoms)) further within h.apart } in (
      record {
        new = [];
        pre = sym (append-nil s.pre);
        holds = before;
        keeps = λ kept. record { placed = kept.placed; within = λ x none. kept.within x (within x none) };
      },
      λ K l. f v further before K m at
          (subst (λ g. K trace (Goes k (contents_value v s.slots) g))
          (ap (λ g. join g further) (changed v s.atoms n b m st placed e at) ∙ sym (with_join (heap_of v s.atoms) further m (block_of v (with_state st b)))) l),
    )
