-- Where the act leads by which a block is met.
use Rattle.std.proofs.Common.{◌≡◌, ℕ, ◌+◌, ◌<◌, ◌≤◌, ◌^◌, ◌++◌, Bool, true, false, List, [], ◌∷◌, length, Option, Some, None, option_map, refl, ap, sym, subst, ◌∙◌, arith, length-append}
use Rattle.std.specs.Prelude.{slice_get, option_to_list, ◌||◌}
use Rattle.std.proofs.lemmas.Option.{slice_get_past}
use Rattle.std.proofs.lemmas.List.{length_push}
use Rattle.px_base.specs.Bounds.{most_atoms}
use Rattle.px_terms.specs.declared.types.BlockType.{BlockType}
use Rattle.px_terms.specs.declared.types.ValueType.{ValueType}
use Rattle.px_terms.specs.declared.variables.Var.{Var}
use Rattle.px_terms.specs.declared.conjuncts.Place.{Place}
use Rattle.px_terms.specs.declared.conjuncts.Place.TheVariants as place
use Rattle.px_terms.specs.declared.conjuncts.Conj.{Conj}
use Rattle.px_terms.specs.declared.conjuncts.Conj.TheVariants.{SamePlace}
use Rattle.px_entry.specs.declared.atoms.Atom.{Atom}
use Rattle.px_entry.specs.declared.entries.Entry.{Entry}
use Rattle.px_entry.specs.declared.atoms.AtomState.TheVariants.{Live, Freed}
use Rattle.px_entry.specs.declared.tables.Cause.TheVariants.{Long}
use Rattle.px_entry.specs.declared.tables.LongKind.{LongKind}
use Rattle.px_entry.specs.Cases.{is_freed}
use Rattle.px_entry.specs.Sorts.{is_made}
use Rattle.px_entry.specs.Decided.{is_true, stands_in, assume}
use Rattle.px_core.specs.Control.{Item}
use Rattle.px_callgraph.specs.declared.states.State.{State}
use Rattle.px_callgraph.specs.declared.states.Way.{Way}
use Rattle.px_callgraph.specs.declared.states.Way.TheVariants as way
use Rattle.px_callgraph.specs.States.{on, assumed, with_variables, met}
use Rattle.px_callgraph.specs.Accesses.{meet_live, meet_freed, block_cells, cell_infos, cell_contents, atom_of}
use Rattle.px_callgraph.specs.Calls.{Calling, Taken, unfit, meet_required}
use Rattle.px_callgraph.specs.declared.outcomes.StepOutcome.TheVariants.{Next}
use Rattle.px_callgraph.specs.Alternatives.{taking, going_on, dropped}
use Rattle.px_ways.specs.Additions.{with_conjuncts}
use Rattle.px_match.specs.declared.path_limits.Growth.{Growth}
use Rattle.px_calls.specs.declared.meeting.Progress.{Progress}
use Rattle.px_match.specs.PathLimits.{passes_grown, Grows}
use Rattle.px_callgraph.specs.declared.outcomes.StepOutcome.{StepOutcome}
use Rattle.px_calls.specs.declared.call.CallProgress.{CallProgress}
use Rattle.px_calls.specs.Calls.{IsTaking}
use Rattle.px_calls.specs.Meeting.{IsStaying, met_stage, taken_atom, taken_missing, taken_case}
use Rattle.px_match.proofs.PathLimitLemmas.{goes_on, cut_on, none}
use Rattle.px_callgraph.proofs.CallLemmas.{last_atom}
use Rattle.px_entry.proofs.TestLemmas.{number_itself}
use Rattle.px_callgraph.proofs.LengthLemmas.{length_infos}
use Rattle.px_ways.proofs.Additions.{assumed_by}

pub taking_on : (s : State) (g : Growth) (t : Taken) (c : Calling) (k : List Item) → None ≡ passes_grown s g → Grows s g (on t.state) → Next (going_on c k t.state t.stage) ≡ taking s c k t
taking_on s g t c k e h = goes_on s g t.state [] (λ u. going_on c k u t.stage) e h

pub taking_cut : (s : State) (g : Growth) (kind : LongKind) (t : Taken) (c : Calling) (k : List Item) → Some kind ≡ passes_grown s g → Grows s g (on t.state) → dropped s (Long kind) ≡ taking s c k t
taking_cut s g kind t c k e h = cut_on s g kind t.state [] (λ u. going_on c k u t.stage) e h

-- ---- nothing is met

abbrev pub nothing : Growth
nothing = record { marks = 0; commands = 0; conjuncts = 0; atoms = 0; variables = 0; long_term = false }

pub same_grows : (s : State) → Grows s nothing (on s)
same_grows s = record {
  marks = none (length s.trace);
  commands = none s.steps;
  conjuncts = none (length s.pure);
  atoms = none (length s.atoms);
  variables = none (length s.vars);
  long_term = refl;
}

-- ---- an atom

abbrev pub assuming : ℕ → Growth
assuming n = record { marks = 0; commands = 0; conjuncts = n; atoms = 0; variables = 0; long_term = false }

pub assumed_grows : (s : State) (c : Conj) (added : Option Conj) → assume s.vars s.pure c ≡ s.pure ++ option_to_list added → Grows s (assuming (length (option_to_list added))) (on (assumed c s))
assumed_grows s c added e = record {
  marks = none (length s.trace);
  commands = none s.steps;
  conjuncts = ap length e ∙ length-append s.pure (option_to_list added);
  atoms = none (length s.atoms);
  variables = none (length s.vars);
  long_term = refl;
}

-- ---- a block that wasn't met

abbrev pub meeting : ℕ → Growth
meeting cells = record { marks = 0; commands = 0; conjuncts = 0; atoms = 1; variables = cells; long_term = false }

pub live_grows : (s : State) (types : List BlockType) (a : Atom) (ts : List ValueType) → Grows s (meeting (length ts)) (on (with_variables (cell_infos ts) (met a s)))
live_grows s types a ts = record {
  marks = none (length s.trace);
  commands = none s.steps;
  conjuncts = none (length s.pure);
  atoms = length_push s.atoms a;
  variables = length-append s.vars (cell_infos ts) ∙ ap (λ z. length s.vars + z) (length_infos ts);
  long_term = refl;
}

pub freed_grows : (s : State) (a : Atom) → Grows s (meeting 0) (on (met a s))
freed_grows s a = record {
  marks = none (length s.trace);
  commands = none s.steps;
  conjuncts = none (length s.pure);
  atoms = length_push s.atoms a;
  variables = none (length s.vars);
  long_term = refl;
}

-- a place is itself, and that adds nothing
pub itself : (s : State) (v : Var) → assumed (SamePlace (place.Var v) (place.Var v)) s ≡ s
itself s v =
    ap (λ b. record s { pure = elim (is_true (elim b as (λ _. Option Bool) [ true ↦ Some true | false ↦ elim (is_made s.vars v.0 || is_made s.vars v.0) as (λ _. Option Bool) [ true ↦ Some false | false ↦ None ] ]) || stands_in s.pure (SamePlace (place.Var v) (place.Var v))) as (λ _. List Conj) [ true ↦ s.pure | false ↦ s.pure ++ SamePlace (place.Var v) (place.Var v) ∷ [] ] }) (number_itself v.0)

-- what a call comes to where the block is met by this act
met_by : (x : Entry) (g : Progress) (p : Atom) (v : Var) (t : State) (n : ℕ) (a : Atom) → a.place ≡ v → slice_get t.atoms n ≡ Some a →
    taken_atom x g p n (place.Var v) (slice_get t.atoms n) t ≡ record { state = t; stage = met_stage x g p a n }
met_by x g p v t n a q e =
    ap (λ z. taken_atom x g p n (place.Var v) z t) e
    ∙ ap (λ z. record { state = assumed (SamePlace (place.Var v) (place.Var z)) t; stage = met_stage x g p a n }) q
    ∙ ap (λ z. record { state = z; stage = met_stage x g p a n }) (itself t v)

-- a block that wasn't met yet
missing_by : (types : List BlockType) (x : Entry) (g : Progress) (p : Atom) (v : Var) (s t : State) (a : Atom) → meet_required types p (place.Var v) s ≡ t → a.place ≡ v → slice_get t.atoms (length s.atoms) ≡ Some a →
    taken_missing types x g p (place.Var v) s ≡ record { state = t; stage = met_stage x g p a (length s.atoms) }
missing_by types x g p v s t a e q h = ap (λ z. taken_atom x g p (length s.atoms) (place.Var v) (slice_get z.atoms (length s.atoms)) z) e ∙ met_by x g p v t (length s.atoms) a q h

abbrev pub live_atom : List BlockType → Atom → Var → State → Atom
live_atom types p v s = atom_of v p.block (Live (cell_contents (length s.vars) (block_cells types p.block)))

abbrev pub freed_atom : Atom → Var → Atom
freed_atom p v = atom_of v p.block Freed

required_by : (b : Bool) (types : List BlockType) (p : Atom) (v : Var) (s t : State) → is_freed p.state ≡ b → elim b as (λ _. State) [ true ↦ meet_freed p.block v s | false ↦ meet_live types p.block v s ] ≡ t →
    meet_required types p (place.Var v) s ≡ t
required_by b types p v s t e h = ap (λ z. elim z as (λ _. State) [ true ↦ meet_freed p.block v s | false ↦ meet_live types p.block v s ]) e ∙ h

pub live_taken : (types : List BlockType) (x : Entry) (g : Progress) (p : Atom) (v : Var) (s : State) → is_freed p.state ≡ false →
    taken_missing types x g p (place.Var v) s ≡ record { state = meet_live types p.block v s; stage = met_stage x g p (live_atom types p v s) (length s.atoms) }
live_taken types x g p v s e =
    missing_by types x g p v s (meet_live types p.block v s) (live_atom types p v s) (required_by false types p v s (meet_live types p.block v s) e refl) refl (last_atom s.atoms (live_atom types p v s))

pub freed_taken : (types : List BlockType) (x : Entry) (g : Progress) (p : Atom) (v : Var) (s : State) → is_freed p.state ≡ true →
    taken_missing types x g p (place.Var v) s ≡ record { state = meet_freed p.block v s; stage = met_stage x g p (freed_atom p v) (length s.atoms) }
freed_taken types x g p v s e =
    missing_by types x g p v s (meet_freed p.block v s) (freed_atom p v) (required_by true types p v s (meet_freed p.block v s) e refl) refl (last_atom s.atoms (freed_atom p v))

-- no way is named so at no place
pub no_place : (types : List BlockType) (x : Entry) (g : Progress) (p : Atom) (w : Way) (s : State) → taken_case types x g p w None s ≡ record { state = s; stage = unfit }
no_place types x g p way.On s = refl
no_place types x g p way.Then s = refl
no_place types x g p way.Else s = refl
no_place types x g p way.Null s = refl
no_place types x g p way.Made s = refl
no_place types x g p way.Written s = refl
no_place types x g p way.Unwritten s = refl
no_place types x g p (way.Atom n) s = refl
no_place types x g p way.MissingLive s = refl
no_place types x g p way.MissingFreed s = refl
no_place types x g p way.Missing s = refl
no_place types x g p (way.Entry n) s = refl
no_place types x g p way.Drop s = refl
no_place types x g p way.ByZero s = refl
no_place types x g p way.Divided s = refl

-- beyond the last atom there is none
pub null_taken : (types : List BlockType) (x : Entry) (g : Progress) (p : Atom) (s : State) → taken_missing types x g p place.Null s ≡ record { state = s; stage = unfit }
null_taken types x g p s = ap (λ z. taken_atom x g p (length s.atoms) place.Null z s) (slice_get_past s.atoms (length s.atoms) (omega arith))

-- the atom whose place is this one
pub atom_there : (o : Option Atom) (x : Var) → Some x ≡ option_map (λ (a : Atom). a.place) o → (b : Atom) × (o ≡ Some b) × (b.place ≡ x)
atom_there None x e = absurd (cc)
atom_there (Some b) x e = (b, refl, cc)

pub no_atom : (o : Option Atom) (x : Entry) (g : Progress) (p : Atom) (n : ℕ) (a : Place) (s : State) → None ≡ option_map (λ (b : Atom). b.place) o → taken_atom x g p n a o s ≡ record { state = s; stage = unfit }
no_atom None x g p n a s e = refl
no_atom (Some b) x g p n a s e = absurd (cc)

-- what holds of an atom that is there
pub by_atom : (P : Option Atom → Type 0) (o : Option Atom) (v : Var) → Some v ≡ option_map (λ (a : Atom). a.place) o → ((b : Atom) → o ≡ Some b → b.place ≡ v → P (Some b)) → P o
by_atom P None v e h = absurd (cc)
by_atom P (Some b) v e h = h b refl cc

-- ---- acts

-- a limit is passed
pub cut_taken : (r : StepOutcome CallProgress) (s : State) (g : Growth) (kind : LongKind) (t : Taken) (c : Calling) → r ≡ dropped s (Long kind) → Some kind ≡ passes_grown s g → Grows s g (on t.state) → IsTaking s c t r
cut_taken r s g kind t c e h k = subst (IsTaking s c t) (sym e) ((λ items. taking_cut s g kind t c items h k), tt)

-- or none is
pub staying_taken : (r : StepOutcome CallProgress) (s : State) (g : Growth) (t : Taken) (c : Calling) → IsStaying t.state c t.stage r → None ≡ passes_grown s g → Grows s g (on t.state) → length t.state.atoms < 2 ^ 32 → IsTaking s c t r
staying_taken r s g t c st h k few = ((λ items. st.0 items ∙ taking_on s g t c items h k), st.1 few)

assumed_many : (s : State) (a : Place) (v : Var) (added : Option Conj) (n : ℕ) → n ≡ length (option_to_list added) → assume s.vars s.pure (SamePlace a (place.Var v)) ≡ s.pure ++ option_to_list added →
    Grows s (assuming n) (on (assumed (SamePlace a (place.Var v)) s))
assumed_many s a v added n m e = record {
  marks = none (length s.trace);
  commands = none s.steps;
  conjuncts = ap length e ∙ length-append s.pure (option_to_list added) ∙ ap (λ z. length s.pure + z) (sym m);
  atoms = none (length s.atoms);
  variables = none (length s.vars);
  long_term = refl;
}

-- the block of an atom at this place
pub place_cut : (r : StepOutcome CallProgress) (s : State) (x : Entry) (g : Progress) (p : Atom) (n : ℕ) (a : Place) (b : Atom) (v : Var) (added : Option Conj) (m : ℕ) (kind : LongKind) (c : Calling) →
    r ≡ dropped s (Long kind) → Some kind ≡ passes_grown s (assuming m) → m ≡ length (option_to_list added) →
    assume s.vars s.pure (SamePlace a (place.Var v)) ≡ s.pure ++ option_to_list added → b.place ≡ v → IsTaking s c (taken_atom x g p n a (Some b) s) r
place_cut r s x g p n a b v added m kind c e h l k q =
    subst (λ z. IsTaking s c (record { state = assumed (SamePlace a (place.Var z)) s; stage = met_stage x g p b n }) r) (sym q)
    (cut_taken r s (assuming m) kind (record { state = assumed (SamePlace a (place.Var v)) s; stage = met_stage x g p b n }) c e h (assumed_many s a v added m l k))

pub place_met : (r : StepOutcome CallProgress) (s u : State) (x : Entry) (g : Progress) (p : Atom) (n : ℕ) (a : Place) (b : Atom) (v : Var) (added : Option Conj) (m : ℕ) (c : Calling) →
    IsStaying u c (met_stage x g p b n) r → u ≡ with_conjuncts (option_to_list added) s → None ≡ passes_grown s (assuming m) → m ≡ length (option_to_list added) →
    assume s.vars s.pure (SamePlace a (place.Var v)) ≡ s.pure ++ option_to_list added → b.place ≡ v → length s.atoms < 2 ^ 32 → IsTaking s c (taken_atom x g p n a (Some b) s) r
place_met r s u x g p n a b v added m c st w h l k q few =
    let d : u ≡ assumed (SamePlace a (place.Var v)) s = w ∙ assumed_by s (SamePlace a (place.Var v)) added k in
    subst (λ z. IsTaking s c (record { state = assumed (SamePlace a (place.Var z)) s; stage = met_stage x g p b n }) r) (sym q)
    (staying_taken r s (assuming m) (record { state = assumed (SamePlace a (place.Var v)) s; stage = met_stage x g p b n }) c (subst (λ z. IsStaying z c (met_stage x g p b n) r) d st) h
    (assumed_many s a v added m l k) few)

few_more : (s : State) (a : Atom) → length s.atoms + 1 ≤ most_atoms → length (s.atoms ++ a ∷ []) < 2 ^ 32
few_more s a h = let e : length (s.atoms ++ a ∷ []) ≡ length s.atoms + 1 = length_push s.atoms a in omega (arith, e, h)

-- a live block that wasn't met yet
pub live_cut : (r : StepOutcome CallProgress) (s : State) (types : List BlockType) (x : Entry) (g : Progress) (p : Atom) (v : Var) (m : ℕ) (kind : LongKind) (c : Calling) →
    r ≡ dropped s (Long kind) → Some kind ≡ passes_grown s (meeting m) → m ≡ length (block_cells types p.block) → is_freed p.state ≡ false →
    IsTaking s c (taken_missing types x g p (place.Var v) s) r
live_cut r s types x g p v m kind c e h l f =
    subst (λ z. IsTaking s c z r) (sym (live_taken types x g p v s f))
    (cut_taken r s (meeting m) kind (record { state = meet_live types p.block v s; stage = met_stage x g p (live_atom types p v s) (length s.atoms) }) c e h
    (subst (λ z. Grows s (meeting z) (on (meet_live types p.block v s))) (sym l) (live_grows s types (live_atom types p v s) (block_cells types p.block))))

pub live_met : (r : StepOutcome CallProgress) (s u : State) (types : List BlockType) (x : Entry) (g : Progress) (p : Atom) (v : Var) (m n : ℕ) (c : Calling) →
    ((b : Atom) → slice_get u.atoms n ≡ Some b → IsStaying u c (met_stage x g p b n) r) → u ≡ meet_live types p.block v s → n ≡ length s.atoms →
    None ≡ passes_grown s (meeting m) → m ≡ length (block_cells types p.block) → length s.atoms + 1 ≤ most_atoms → is_freed p.state ≡ false → IsTaking s c (taken_missing types x g p (place.Var v) s) r
live_met r s u types x g p v m n c st w q h l few f =
    let a : Atom = live_atom types p v s in
    let there : slice_get u.atoms n ≡ Some a = ap (λ z. slice_get z.atoms n) w ∙ ap (slice_get (s.atoms ++ a ∷ [])) q ∙ last_atom s.atoms a in
    let st1 : IsStaying (meet_live types p.block v s) c (met_stage x g p a (length s.atoms)) r = subst (λ z. IsStaying (meet_live types p.block v s) c (met_stage x g p a z) r) q (subst (λ z. IsStaying z c (met_stage x g p a n) r) w (st a there)) in
    subst (λ z. IsTaking s c z r) (sym (live_taken types x g p v s f))
    (staying_taken r s (meeting m) (record { state = meet_live types p.block v s; stage = met_stage x g p a (length s.atoms) }) c st1 h
    (subst (λ z. Grows s (meeting z) (on (meet_live types p.block v s))) (sym l) (live_grows s types a (block_cells types p.block))) (few_more s a few))

-- a freed one
pub freed_cut : (r : StepOutcome CallProgress) (s : State) (types : List BlockType) (x : Entry) (g : Progress) (p : Atom) (v : Var) (kind : LongKind) (c : Calling) →
    r ≡ dropped s (Long kind) → Some kind ≡ passes_grown s (meeting 0) → is_freed p.state ≡ true → IsTaking s c (taken_missing types x g p (place.Var v) s) r
freed_cut r s types x g p v kind c e h f =
    subst (λ z. IsTaking s c z r) (sym (freed_taken types x g p v s f))
    (cut_taken r s (meeting 0) kind (record { state = meet_freed p.block v s; stage = met_stage x g p (freed_atom p v) (length s.atoms) }) c e h (freed_grows s (freed_atom p v)))

pub freed_met : (r : StepOutcome CallProgress) (s u : State) (types : List BlockType) (x : Entry) (g : Progress) (p : Atom) (v : Var) (n : ℕ) (c : Calling) →
    ((b : Atom) → slice_get u.atoms n ≡ Some b → IsStaying u c (met_stage x g p b n) r) → u ≡ meet_freed p.block v s → n ≡ length s.atoms →
    None ≡ passes_grown s (meeting 0) → length s.atoms + 1 ≤ most_atoms → is_freed p.state ≡ true → IsTaking s c (taken_missing types x g p (place.Var v) s) r
freed_met r s u types x g p v n c st w q h few f =
    let a : Atom = freed_atom p v in
    let there : slice_get u.atoms n ≡ Some a = ap (λ z. slice_get z.atoms n) w ∙ ap (slice_get (s.atoms ++ a ∷ [])) q ∙ last_atom s.atoms a in
    let st1 : IsStaying (meet_freed p.block v s) c (met_stage x g p a (length s.atoms)) r = subst (λ z. IsStaying (meet_freed p.block v s) c (met_stage x g p a z) r) q (subst (λ z. IsStaying z c (met_stage x g p a n) r) w (st a there)) in
    subst (λ z. IsTaking s c z r) (sym (freed_taken types x g p v s f))
    (staying_taken r s (meeting 0) (record { state = meet_freed p.block v s; stage = met_stage x g p a (length s.atoms) }) c st1 h (freed_grows s a) (few_more s a few))
