-- The ways to meet a block that an entry requires.
use Rattle.std.proofs.Common.{◌≡◌, ℕ, suc, ◌+◌, ◌<◌, ◌≤◌, ◌++◌, inl, inr, Bool, true, false, not, ◌&&◌, List, [], ◌∷◌, map, drop, length, length-append, Some, None, refl, ap, sym, ◌∙◌, arith}
use Rattle.std.specs.Prelude.{◌⊎◌, zero, nat_eq, slice_index_or, slice_get}
use Rattle.std.proofs.lemmas.Option.{slice_get_within, get_or_from_slice_get}
use Rattle.std.specs.List.{list_all, list_any}
use Rattle.std.proofs.Math.Nat.{eq-or-lt_of_le}
use Rattle.std.proofs.Math.Seq.{get_or-append_seam}
use Rattle.std.proofs.lemmas.List.{get_or_append_left}
use Rattle.px_core.specs.Control.{Item}
use Rattle.px_terms.specs.declared.types.TypeId.{TypeId}
use Rattle.px_terms.specs.declared.types.BlockType.{BlockType}
use Rattle.px_terms.specs.declared.variables.VarInfo.{VarInfo}
use Rattle.px_terms.specs.declared.conjuncts.Place.{Place}
use Rattle.px_terms.specs.declared.conjuncts.Place.TheVariants as place
use Rattle.px_entry.specs.declared.atoms.Atom.{Atom}
use Rattle.px_entry.specs.Cases.{numbers_of, atom_cases, missing_case, may_be_missing, is_match, cases_of}
use Rattle.px_terms.specs.declared.conjuncts.Conj.{Conj}
use Rattle.px_entry.specs.declared.entries.Entry.{Entry}
use Rattle.px_callgraph.specs.declared.states.State.{State}
use Rattle.px_callgraph.specs.declared.states.Way.{Way}
use Rattle.px_callgraph.specs.declared.states.Way.TheVariants as way
use Rattle.px_entry.specs.declared.atoms.Case.{Case}
use Rattle.px_callgraph.specs.JobTree.{JobTree}
use Rattle.px_callgraph.specs.Accesses.{listed_if}
use Rattle.px_callgraph.specs.Renaming.{Substitution, new_variables, is_claim_open, claim_through, place_through}
use Rattle.px_callgraph.specs.Calls.{Calling, matching, case_way, required_ways, is_possible, stand_all, finish_call}
use Rattle.px_callgraph.specs.Alternatives.{stage_ways, stage_act, taking, leads, at}
use Rattle.px_calls.specs.declared.meeting.Progress.{Progress}
use Rattle.px_callgraph.specs.declared.outcomes.StepOutcome.{StepOutcome}
use Rattle.px_calls.specs.declared.call.CallProgress.{CallProgress}
use Rattle.px_calls.specs.Calls.{called}
use Rattle.px_calls.specs.Meeting.{stage_at, taken_case}
use Rattle.px_calls.specs.Required.{AreMarked}
use Rattle.px_calls.proofs.CalleeLemmas.{from_place}

numbers_alike : (f g : ℕ → Atom → Bool) (i : ℕ) (atoms : List Atom) → ((n : ℕ) → i ≤ n → n < i + length atoms → (a : Atom) → f n a ≡ g n a) → numbers_of f i atoms ≡ numbers_of g i atoms
numbers_alike f g i [] h = refl
numbers_alike f g i (a ∷ rest) h =
    ap (λ b. elim b as (λ _. List ℕ) [ true ↦ i ∷ numbers_of f (suc i) rest | false ↦ numbers_of f (suc i) rest ]) (h i (omega arith) (omega arith) a)
    ∙ ap (λ z. elim (g i a) as (λ _. List ℕ) [ true ↦ i ∷ z | false ↦ z ]) (numbers_alike f g (suc i) rest (λ n l m b. h n (omega arith) (omega arith) b))

-- marks say of each atom whether its number was used
pub same_cases : (vars : List VarInfo) (atoms : List Atom) (used : List ℕ) (marks : List Bool) (count : ℕ) (p : Place) (block : TypeId) (freed : Bool) → count ≡ length atoms → AreMarked used count marks →
    cases_of vars atoms (λ n. slice_index_or marks n false) p block freed ≡ cases_of vars atoms (λ n. list_any (nat_eq n) used) p block freed
same_cases vars atoms used marks count p block freed e h =
    ap (λ z. atom_cases z ++ missing_case (may_be_missing vars p))
    (numbers_alike (λ n a. not (slice_index_or marks n false) && is_match vars p block freed a) (λ n a. not (list_any (nat_eq n) used) && is_match vars p block freed a) 0 atoms
    (λ n l m a. ap (λ b. not b && is_match vars p block freed a) (h.is n (omega (arith, m, e)))))

-- one more mark
pub marked_more : (used : List ℕ) (n : ℕ) (marks more : List Bool) (b : Bool) → AreMarked used n marks → more ≡ marks ++ b ∷ [] → b ≡ list_any (nat_eq n) used → AreMarked used (n + 1) more
marked_more used n marks more b h e k = record {
  each = ap length e ∙ length-append marks (b ∷ []) ∙ ap (λ z. z + 1) h.each;
  is = λ m l. ap (λ z. slice_index_or z m false) e ∙ by m (turned m n (eq-or-lt_of_le (let q : m ≤ n = omega (arith, l) in q)));
}
  where
    turned : (m k : ℕ) → (m ≡ k) ⊎ (m < k) → (m < k) ⊎ (m ≡ k)
    turned m k (inl q) = inr q
    turned m k (inr l) = inl l

    by : (m : ℕ) → (m < n) ⊎ (m ≡ n) → slice_index_or (marks ++ b ∷ []) m false ≡ list_any (nat_eq m) used
    by m (inl l) = get_or_append_left marks (b ∷ []) false m (omega (arith, l, h.each)) ∙ h.is m l
    by m (inr q) = ap (λ z. slice_index_or (marks ++ b ∷ []) z false) (q ∙ sym h.each) ∙ get_or-append_seam marks b [] false ∙ k ∙ ap (λ z. list_any (nat_eq z) used) (sym q)

-- ---- what an entry still requires

pub rest_is : (pre : List Atom) (met : ℕ) (p : Atom) → slice_get pre met ≡ Some p → drop met pre ≡ p ∷ drop (met + 1) pre
rest_is pre met p e = from_place pre met p (slice_get_within pre met p e) (sym (get_or_from_slice_get pre met p p e))

pub none_required : (pre : List Atom) (met : ℕ) → slice_get pre met ≡ None → drop met pre ≡ []
none_required [] zero e = refl
none_required [] (suc met) e = refl
none_required (a ∷ pre) zero e = absurd (cc)
none_required (a ∷ pre) (suc met) e = none_required pre met e

-- the ways to meet the next block, or on
pub ways_required : (j : JobTree) (s : State) (c : Calling) (x : Entry) (σ : Substitution) (used : List ℕ) (met : ℕ) (p : Atom) → slice_get x.pre met ≡ Some p → required_ways s σ used p ≡ stage_ways j s c (matching x σ (drop met x.pre) used)
ways_required j s c x σ used met p e = ap (λ z. stage_ways j s c (matching x σ z used)) (sym (rest_is x.pre met p e))

pub ways_on : (j : JobTree) (s : State) (c : Calling) (x : Entry) (σ : Substitution) (used : List ℕ) (met : ℕ) → slice_get x.pre met ≡ None →
    listed_if (is_possible x (stand_all x σ s) s) way.On ≡ stage_ways j s c (matching x σ (drop met x.pre) used)
ways_on j s c x σ used met e = ap (λ z. stage_ways j s c (matching x σ z used)) (sym (none_required x.pre met e))

-- where a way leads
pub act_required : (j : JobTree) (s : State) (c : Calling) (x : Entry) (g : Progress) (p : Atom) (w : Way) (k : List Item) (types : List BlockType) (r : StepOutcome CallProgress) → slice_get x.pre g.met ≡ Some p → types ≡ j.types →
    called k r ≡ taking s c k (taken_case types x g p w (place_through g.substitution.items (place.Var p.place)) s) → called k r ≡ stage_act j s c k (stage_at x g) w
act_required j s c x g p w k types r e t h =
    h ∙ ap (λ z. taking s c k (taken_case z x g p w (place_through g.substitution.items (place.Var p.place)) s)) t
    ∙ ap (λ z. stage_act j s c k (matching x g.substitution.items z g.used.items) w) (sym (rest_is x.pre g.met p e))

pub act_finished : (j : JobTree) (s : State) (c : Calling) (x : Entry) (g : Progress) (w : Way) (k : List Item) (r : StepOutcome CallProgress) → slice_get x.pre g.met ≡ None →
    called k r ≡ leads s (finish_call c x g.substitution.items g.used.items s) (at k) → called k r ≡ stage_act j s c k (stage_at x g) w
act_finished j s c x g w k r e h = h ∙ ap (λ z. stage_act j s c k (matching x g.substitution.items z g.used.items) w) (sym (none_required x.pre g.met e))

-- whether an entry is possible
pub possible_by : (x : Entry) (σ : Substitution) (s : State) (vars : List VarInfo) (substitution : Substitution) (pure : List Conj) (b : Bool) → vars ≡ s.vars ++ new_variables x.vars → substitution ≡ stand_all x σ s → pure ≡ x.pure →
    b ≡ list_all (λ c. is_claim_open vars (claim_through substitution c)) pure → b ≡ is_possible x (stand_all x σ s) s
possible_by x σ s vars substitution pure b e f g h =
    h ∙ ap (λ z. list_all (λ c. is_claim_open z (claim_through substitution c)) pure) e
    ∙ ap (λ z. list_all (λ c. is_claim_open (s.vars ++ new_variables x.vars) (claim_through z c)) pure) f
    ∙ ap (list_all (λ c. is_claim_open (s.vars ++ new_variables x.vars) (claim_through (stand_all x σ s) c))) g

-- the cases as ways
pub ways_by : (s : State) (used : List ℕ) (p : Place) (block : TypeId) (freed : Bool) (vars : List VarInfo) (atoms : List Atom) (marks marked : List Bool) (f : Bool) (found listed : List Case) (count : ℕ) (ways : List Way) →
    ways ≡ map case_way listed → listed ≡ found → found ≡ cases_of vars atoms (λ n. slice_index_or marked n false) p block f → vars ≡ s.vars → atoms ≡ s.atoms → marked ≡ marks → f ≡ freed → count ≡ length s.atoms → AreMarked used count marks →
    ways ≡ map case_way (cases_of s.vars s.atoms (λ n. list_any (nat_eq n) used) p block freed)
ways_by s used p block freed vars atoms marks marked f found listed count ways e1 e2 e3 e4 e5 e6 e7 e8 h =
    e1 ∙ ap (map case_way)
    (e2 ∙ e3 ∙ ap (λ z. cases_of z atoms (λ n. slice_index_or marked n false) p block f) e4
    ∙ ap (λ z. cases_of s.vars z (λ n. slice_index_or marked n false) p block f) e5
    ∙ ap (λ z. cases_of s.vars s.atoms (λ n. slice_index_or z n false) p block f) e6
    ∙ ap (cases_of s.vars s.atoms (λ n. slice_index_or marks n false) p block) e7
    ∙ same_cases s.vars s.atoms used marks count p block freed e8 h)
