-- The choices of a call: whatever they lead to, a call of the machine leads to, and it is well-formed.
use Rattle.std.proofs.Common.{◌≡◌, ℕ, Bool, true, false, nat_eq, Option, Some, None, List, [], ◌∷◌, ◌++◌, map, length, refl, sym, ap, ◌∙◌, subst, append-nil}
use Rattle.std.specs.List.{list_all, list_any}
use Rattle.std.proofs.lemmas.Option.{same_Some}
use Rattle.px_base.specs.declared.trace.Site.{Site}
use Rattle.px_base.specs.declared.trace.ProcId.{ProcId}
use Rattle.px_base.specs.declared.trace.Mark.{Mark}
use Rattle.px_terms.specs.Valuations.{Valuation, Fits}
use Rattle.px_terms.specs.Conjuncts.{IsTrueUnder}
use Rattle.px_terms.specs.declared.conjuncts.Place.TheVariants as place
use Rattle.px_terms.specs.declared.conjuncts.Content.{Content}
use Rattle.px_core.specs.declared.command.Operand.{Operand}
use Rattle.px_core.specs.Constants.{AreInRange}
use Rattle.px_core.specs.Control.{Item}
use Rattle.px_entry.specs.declared.atoms.Atom.{Atom}
use Rattle.px_entry.specs.declared.atoms.Case.{Case}
use Rattle.px_entry.specs.declared.atoms.Case.TheVariants as case
use Rattle.px_entry.specs.declared.entries.Entry.{Entry}
use Rattle.px_entry.specs.declared.tables.LongKind.{LongKind}
use Rattle.px_entry.specs.Regular.{is_regular}
use Rattle.px_entry.proofs.Lists.{Each}
use Rattle.px_callgraph.specs.declared.states.State.{State}
use Rattle.px_callgraph.specs.declared.states.Way.{Way}
use Rattle.px_callgraph.specs.declared.states.Way.TheVariants as way
use Rattle.px_callgraph.specs.JobTree.{JobTree}
use Rattle.px_callgraph.specs.States.{Outcome, goes, ends, past, drops, Done, on}
use Rattle.px_callgraph.specs.Accesses.{listed_if}
use Rattle.px_callgraph.specs.Commands.{is_argument, argument_contents}
use Rattle.px_callgraph.specs.Renaming.{Substitution, stand_new, place_through}
use Rattle.px_callgraph.specs.Calls.{Calling, matching, Taken, case_way, cases_at, required_ways, take_case, stand_all, is_possible, finish_call}
use Rattle.px_callgraph.specs.declared.outcomes.StepOutcome.TheVariants.{Next, Ends, Cut, Past}
use Rattle.px_callgraph.specs.Alternatives.{Walk, Leads, passes, led, limited, within_limits, leads, at, going_on, ways, act}
use Rattle.px_callgraph.specs.Derivations.{same_way, still_there, take_listed, take_way, then_take, take_choices, choice_way}
use Rattle.px_callgraph.specs.Callees.{NamedIn}
use Rattle.px_check.proofs.TakeLemmas.{there_is}
use Rattle.px_meaning.specs.Steps.{ProcedureCalls}
use Rattle.px_meaning.specs.Triples.{IsValid}
use Rattle.px_soundness.proofs.WellFormed.{Good}
use Rattle.px_soundness.proofs.WellFormed.{ItemsKeep, Opens}
use Rattle.px_soundness.proofs.AtomHeaps.{absent}
use Rattle.px_soundness.proofs.Sound.{Can, Sound}
use Rattle.px_soundness.proofs.Walks.{SoundLeads, Good1, listed_has}
use Rattle.px_soundness.proofs.EntryParts.{given_of}
use Rattle.px_soundness.proofs.CallPending.{Pending, pending_moved, moved_loops}
use Rattle.px_soundness.proofs.CallWellFormed.{finish_well_formed}
use Rattle.px_soundness.proofs.Through.{stood, through}
use Rattle.px_soundness.proofs.EntryTypes.{new_types}
use Rattle.px_soundness.proofs.CallMatches.{found_more, AllMet}
use Rattle.px_soundness.proofs.CallStages.{Matched}
use Rattle.px_soundness.proofs.CallReady.{stands_before}
use Rattle.px_soundness.proofs.CallArguments.{arguments_written, arguments_passed}
use Rattle.px_soundness.proofs.CallCases.{Took, each_took}
use Rattle.px_soundness.proofs.CallEnds.{enter_mark, calling, CallCan}
use Rattle.px_soundness.proofs.CallFinish.{finish_sound}

-- ---- where a way leads

pub taken : (j : JobTree) (w : Walk) (name : Way) (a : Leads) → take_listed j w name ≡ Some a → (list_any (same_way name) (ways j w) ≡ true) × (still_there (act j w name) ≡ Some a)
taken j w name a e = by (list_any (same_way name) (ways j w)) refl e
  where
    by : (b : Bool) → list_any (same_way name) (ways j w) ≡ b → (elim b as (λ _. Option Leads) [ true ↦ still_there (act j w name) | false ↦ None ]) ≡ Some a → (list_any (same_way name) (ways j w) ≡ true) × (still_there (act j w name) ≡ Some a)
    by true is e = (is, e)
    by false is e = absent e

pub then_taken : (f : Leads → Option Leads) (o : Option Leads) (a : Leads) → then_take f o ≡ Some a → (b : Leads) × (o ≡ Some b) × (f b ≡ Some a)
then_taken f None a e = absent e
then_taken f (Some b) a e = (b, refl, e)

module _ (C : Can) (u : State) (k : List Item) (d : Done) (go : State → Walk) (same : at k d.state ≡ go d.state) where
  anywhere : (t : State) (o : Outcome) → (o ≡ goes → ⊥) → Sound C u k t o → Sound C u [] t o
  unfolding Sound
  anywhere t goes f h = absurd (f refl)
  anywhere t (ends e r) f h = h
  anywhere t past f h = h
  anywhere t (drops word) f h = h

  led_sound : (o : Outcome) → Sound C u k d.state o → (p : Option LongKind) → SoundLeads C u (limited u (led u d go o) p)
  led_sound goes h None = subst (λ (w : Walk). Sound C u w.control w.state goes) same h
  led_sound (ends e r) h None = anywhere d.state (ends e r) (λ f. cc) h
  led_sound past h None = tt
  led_sound (drops word) h None = tt
  led_sound o h (Some kind) = tt

  pub leads_sound : Sound C u k d.state d.outcome → SoundLeads C u (leads u d go)
  leads_sound h = by d.outcome refl
    where
      by : (o : Outcome) → d.outcome ≡ o → SoundLeads C u (within_limits u d go o)
      by goes is = led_sound goes (subst (Sound C u k d.state) is h) (passes d)
      by (ends e r) is = led_sound (ends e r) (subst (Sound C u k d.state) is h) (passes d)
      by past is = tt
      by (drops word) is = led_sound (drops word) (subst (Sound C u k d.state) is h) (passes d)

-- a call goes on only where no limit is passed
pub goes_on : (u : State) (d : Done) (go : State → Walk) (a : Leads) → d.outcome ≡ goes → still_there (leads u d go) ≡ Some a → Next (go d.state) ≡ a
goes_on u d go a is e = by (passes d) (subst (λ o. still_there (within_limits u d go o) ≡ Some a) is e)
  where
    by : (p : Option LongKind) → still_there (limited u (Next (go d.state)) p) ≡ Some a → Next (go d.state) ≡ a
    by None e = same_Some _ _ e
    by (Some kind) e = absent e

no_on : (cs : List Case) → list_any (same_way way.On) (map case_way cs) ≡ true → ⊥
no_on [] e = let f : false ≡ true = e in cc
no_on (case.Atom n ∷ cs) e = no_on cs e
no_on (case.Missing ∷ cs) e = no_on cs e

pub possible_on : (b : Bool) → list_any (same_way way.On) (listed_if b way.On) ≡ true → b ≡ true
possible_on true e = refl
possible_on false e = e

no_choice : (q b : Bool) (n : ℕ) → list_any (same_way (elim q as (λ _. Way) [ true ↦ way.Missing | false ↦ way.Atom n ])) (listed_if b way.On) ≡ true → ⊥
no_choice true true n e = let f : false ≡ true = e in cc
no_choice true false n e = let f : false ≡ true = e in cc
no_choice false true n e = let f : false ≡ true = e in cc
no_choice false false n e = let f : false ≡ true = e in cc

-- from a state between
module _ (C : Can) (u t : State) (chain : (k : List Item) (end : State) (o : Outcome) → Sound C t k end o → Sound C u k end o) where
  pub back : (a : Leads) → SoundLeads C t a → SoundLeads C u a
  back (Next w) h = chain w.control w.state goes h
  back (Ends e exit result) h = chain [] e (ends exit result) h
  back (Cut e gap) h = tt
  back (Past e) h = tt

-- ---- the choices

module _ (j : JobTree) (calls : ProcedureCalls Mark) (s : State) (k : List Item) (to : Option ℕ) (proc : ProcId) (arguments : List Operand) (site : Site)
    (range : AreInRange arguments) (fit : list_all is_argument (argument_contents s arguments) ≡ true) (good : Each (Good s.vars s.pure) (argument_contents s arguments))
    (x : Entry) (regular : is_regular j.types (length (argument_contents s arguments)) x ≡ true) (valid : IsValid (calls proc.0) (length (argument_contents s arguments)) x)
    (keeps : ItemsKeep (λ f. NamedIn f j.body.commands) k) (opens : Opens k s.loops) where
  abbrev args : List Content
  args = argument_contents s arguments

  abbrev C : Can
  C = CallCan j calls s k to proc arguments site

  abbrev going : Calling
  going = calling j calls s k to proc arguments site args

  -- a state of the call
  pub record During (u : State) : Type 0 where
    pub slots : u.slots ≡ s.slots
    pub trace : u.trace ≡ s.trace ++ enter_mark proc site ∷ []
    pub loops : u.loops ≡ s.loops
    pub fewer : (v : Valuation) → Fits u.vars v → Fits s.vars v
    pub before : (v : Valuation) → Fits u.vars v → Each (IsTrueUnder v) u.pure → Each (IsTrueUnder v) s.pure

  met_all : (u : State) (σ : Substitution) (used : List ℕ) (m : Matched j.types args x u σ [] used) → AllMet u.vars u.pure u.atoms σ used x.pre
  met_all u σ used m = subst (AllMet u.vars u.pure u.atoms σ used) (sym (append-nil m.first) ∙ sym m.split) m.met

  ended : (u : State) (σ : Substitution) (used : List ℕ) → During u → Matched j.types args x u σ [] used → Pending j x u σ → is_possible x (stand_all x σ u) u ≡ true → Good1 j C u (leads u (finish_call going x σ used u) (at k))
  ended u σ used during m pending possible = (
    leads_sound C u k (finish_call going x σ used u) (at k) refl
        (finish_sound j calls s k to proc arguments site j.types (length args) x regular u σ used
        (stands_before j.types args x u σ used m (given_of j.types (length args) x regular)) (new_types j.types (length args) x regular) m.good m.distinct (met_all u σ used m) possible (length args) valid
        (λ v f h. arguments_written s v (during.fewer v f) (during.before v f h) arguments range fit good)
        (λ v f h. arguments_passed s v (during.fewer v f) (during.before v f h) (through v (stand_all x σ u)) arguments range (λ y c e. ap (stood v) (found_more σ (stand_new 0 (length u.vars) x.vars) y c (m.given y c e))))
        args during.slots during.trace),
    finish_well_formed j args x regular u σ used m pending going k keeps (subst (Opens k) (sym during.loops) opens),
  )

  during_took : (u : State) (σ : Substitution) (p : Atom) (rest : List Atom) (t : Taken) → During u → Took C j.types args x u σ p rest t → During t.state
  during_took u σ p rest t h took = record {
    slots = took.slots ∙ h.slots;
    trace = took.trace ∙ h.trace;
    loops = moved_loops j.types u σ p t.state took.substitution took.moved ∙ h.loops;
    fewer = λ v f. h.fewer v (took.fewer v f);
    before = λ v f e. h.before v (took.fewer v f) (took.before v f e);
  }

  pub choices_good : (cs : List ℕ) (u : State) (σ : Substitution) (rest : List Atom) (used : List ℕ) (a : Leads) → During u → Matched j.types args x u σ rest used → Pending j x u σ → take_choices j cs (Next (going_on going k u (matching x σ rest used))) ≡ Some a → Good1 j C u a
  unfolding ways act
  choices_good [] u σ [] used a during m pending e =
      let (listed, there) = taken j (going_on going k u (matching x σ [] used)) way.On a e in
      subst (Good1 j C u) (there_is (leads u (finish_call going x σ used u) (at k)) a there) (ended u σ used during m pending (possible_on (is_possible x (stand_all x σ u) u) listed))
  choices_good [] u σ (p ∷ rest) used a during m pending e =
      let (listed, there) = taken j (going_on going k u (matching x σ (p ∷ rest) used)) way.On a e in
      absurd (no_on (cases_at u used p (place_through σ (place.Var p.place))) listed)
  choices_good (c ∷ cs) u σ [] used a during m pending e =
      let (b, first, onward) = then_taken (take_choices j cs) (take_way j (choice_way c) (Next (going_on going k u (matching x σ [] used)))) a e in
      let (listed, there) = taken j (going_on going k u (matching x σ [] used)) (choice_way c (going_on going k u (matching x σ [] used))) b first in
      absurd (no_choice (nat_eq c (length u.atoms)) (is_possible x (stand_all x σ u) u) c listed)
  choices_good (c ∷ cs) u σ (p ∷ rest) used a during m pending e =
      let walk : Walk = going_on going k u (matching x σ (p ∷ rest) used) in
      let name : Way = choice_way c walk in
      let (b, first, onward) = then_taken (take_choices j cs) (take_way j (choice_way c) (Next walk)) a e in
      let (listed, there) = taken j walk name b first in
      let t : Taken = take_case j.types x σ rest used p name (place_through σ (place.Var p.place)) u in
      let took : Took C j.types args x u σ p rest t = listed_has (λ w. Took C j.types args x u σ p rest (take_case j.types x σ rest used p w (place_through σ (place.Var p.place)) u)) name (required_ways u σ used p) (each_took C j.types args x u σ p rest used m) listed in
      let is : Next (going_on going k t.state t.stage) ≡ b = goes_on u (on t.state) (λ z. going_on going k z t.stage) b refl there in
      let next : take_choices j cs (Next (going_on going k t.state (matching x took.substitution rest took.used))) ≡ Some a =
      subst (λ st. take_choices j cs (Next (going_on going k t.state st)) ≡ Some a) took.stage (subst (λ z. take_choices j cs z ≡ Some a) (sym is) onward) in
      let (sound, well_formed) = choices_good cs t.state took.substitution rest took.used a (during_took u σ p rest t during took) took.matched (pending_moved j args x regular u σ p rest used m pending t.state took.substitution took.moved) next in
      (back C u t.state took.chain a sound, well_formed)
