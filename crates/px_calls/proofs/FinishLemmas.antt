-- What an entry says is done, and how much that adds to its caller's state.
use Rattle.std.proofs.Common.{◌≡◌, ◌<◌, ◌≤◌, ◌+◌, ℕ, Bool, true, false, ◌||◌, ◌^◌, List, [], ◌∷◌, ◌++◌, length, length-append, Option, Some, None, refl, ap, sym, ◌∙◌, arith}
use Rattle.std.specs.Prelude.{flat_map}
use Rattle.std.specs.List.{list_any}
use Rattle.std.proofs.Math.Bool.{or-false}
use Rattle.std.proofs.lemmas.List.Folds.{list_any-append}
use Rattle.px_base.specs.Bounds.{most_atoms}
use Rattle.px_base.specs.declared.trace.Mark.{Mark}
use Rattle.px_base.specs.declared.trace.Kind.{Kind}
use Rattle.px_base.specs.declared.trace.Site.{Site}
use Rattle.px_base.specs.declared.trace.MarkKind.TheVariants as mark
use Rattle.px_terms.specs.Polynomials.{Polynomial}
use Rattle.px_terms.specs.declared.variables.VarInfo.{VarInfo}
use Rattle.px_terms.specs.declared.conjuncts.Conj.{Conj}
use Rattle.px_terms.specs.declared.conjuncts.Content.{Content}
use Rattle.px_terms.specs.declared.conjuncts.Content.TheVariants.{Unwritten}
use Rattle.px_entry.specs.declared.atoms.Atom.{Atom}
use Rattle.px_entry.specs.declared.entries.Entry.{Entry}
use Rattle.px_entry.specs.declared.entries.Exit.{Exit}
use Rattle.px_entry.specs.declared.entries.Exit.TheVariants as exits
use Rattle.px_entry.specs.declared.tables.LongKind.{LongKind}
use Rattle.px_entry.specs.Sorts.{is_long}
use Rattle.px_entry.specs.Constraint.{found_atoms, made_atoms}
use Rattle.px_core.specs.Control.{Item}
use Rattle.px_callgraph.specs.declared.states.State.{State}
use Rattle.px_callgraph.specs.States.{Outcome, goes, ends, marked, set_slot}
use Rattle.px_callgraph.specs.Renaming.{Substitution, stand_new, new_variables, claim_through, claim_terms, state_terms, content_through, content_terms}
use Rattle.px_callgraph.specs.Calls.{Calling, stand_all, finish_call, entry_terms, update_atoms, made_through, keep_result, result_through, result_terms}
use Rattle.px_callgraph.specs.declared.outcomes.StepOutcome.TheVariants.{Next, Ends}
use Rattle.px_callgraph.specs.Alternatives.{leads, dropped, at}
use Rattle.px_entry.specs.declared.tables.Cause.TheVariants.{Long}
use Rattle.px_callgraph.specs.declared.outcomes.StepOutcome.{StepOutcome}
use Rattle.px_calls.specs.declared.call.CallProgress.{CallProgress}
use Rattle.px_match.specs.declared.path_limits.Growth.{Growth}
use Rattle.px_calls.specs.declared.finishing.Said.{Said}
use Rattle.px_calls.specs.declared.finishing.Given.{Given}
use Rattle.px_calls.specs.Calls.{called}
use Rattle.px_match.specs.PathLimits.{passes_grown, Grows}
use Rattle.px_calls.specs.Leaving.{update_states}
use Rattle.px_calls.specs.Finishing.{IsSaid, IsGiven, done_by, finish_by, adding, applied}
use Rattle.px_match.specs.Through.{IsThrough}
use Rattle.px_calls.proofs.LeaveLemmas.{updated_by, update_many, states_many, first_false, second_false}
use Rattle.px_match.proofs.PathLimitLemmas.{goes_on, ends_so, cut_on, cut_ended, none, none_long}

-- ---- how much is added

long_said : (s : State) (σ : Substitution) (x : Entry) (said : Said) → IsSaid s σ x said → list_any is_long (entry_terms x σ) ≡ (said.assumed.long || said.left.long)
long_said s σ x said h =
    list_any-append is_long (flat_map (λ c. claim_terms (claim_through σ c)) x.pure) (flat_map (λ (a : Atom). state_terms σ a.state) x.post)
    ∙ ap (λ z. z || list_any is_long (flat_map (λ (a : Atom). state_terms σ a.state) x.post)) (sym h.assumed.long_one)
    ∙ ap (λ z. said.assumed.long || z) (sym h.left.long_one)

-- the state after all that an entry says, but for its end
says_much : (s : State) (σ : Substitution) (x : Entry) (used : List ℕ) (said : Said) (terms : List Polynomial) (long : Bool) (o : Outcome) → IsSaid s σ x said →
    list_any is_long terms ≡ (said.assumed.long || said.left.long || long) → Grows s (adding x said (length x.trace) long) (record { state = done_by x σ used s; terms = terms; outcome = o })
says_much s σ x used said terms long o h t = record {
  marks = length-append s.trace x.trace;
  commands = none s.steps;
  conjuncts = h.assumed.count;
  atoms =
      length-append (update_atoms σ used (found_atoms x.vars x.post) s.atoms) (flat_map (made_through σ) (made_atoms x.vars x.post))
      ∙ ap (λ z. z + length (flat_map (made_through σ) (made_atoms x.vars x.post))) (update_many σ used (found_atoms x.vars x.post) s.atoms)
      ∙ ap (λ z. length s.atoms + z) (sym h.left.count);
  variables = length-append s.vars (new_variables x.vars);
  long_term = t;
}

pub fails_so : (s : State) (σ : Substitution) (x : Entry) (used : List ℕ) (said : Said) (c : Calling) (kind : Kind) (site : Site) → IsSaid s σ x said →
    Grows s (adding x said (length x.trace) false) (finish_by c x σ used s (exits.Error kind site))
fails_so s σ x used said c kind site h =
    says_much s σ x used said (entry_terms x σ) false (ends (exits.Error kind site) None) h (long_said s σ x said h ∙ sym (or-false (said.assumed.long || said.left.long)))

-- a result changes slots alone
kept_much : (s u : State) (g : Growth) (terms : List Polynomial) (to : Option ℕ) (c : Content) → Grows s g (record { state = u; terms = terms; outcome = goes }) →
    Grows s g (record { state = keep_result to c u; terms = terms; outcome = goes })
kept_much s u g terms None c h = h
kept_much s u g terms (Some n) c h = record { marks = h.marks; commands = h.commands; conjuncts = h.conjuncts; atoms = h.atoms; variables = h.variables; long_term = h.long_term }

marked_much : (s : State) (σ : Substitution) (x : Entry) (used : List ℕ) (said : Said) (marks : ℕ) (long : Bool) (terms : List Polynomial) (site : Site) → marks ≡ length x.trace + 1 →
    Grows s (adding x said (length x.trace) long) (record { state = done_by x σ used s; terms = terms; outcome = goes }) →
    Grows s (adding x said marks long) (record { state = marked mark.Leave site (done_by x σ used s); terms = terms; outcome = goes })
marked_much s σ x used said marks long terms site m h = record {
  marks =
      length-append (s.trace ++ x.trace) (record { kind = mark.Leave; site = site } ∷ [])
      ∙ ap (λ z. z + 1) h.marks ∙ (let e : length s.trace + length x.trace + 1 ≡ length s.trace + marks = omega (arith, m) in e);
  commands = h.commands;
  conjuncts = h.conjuncts;
  atoms = h.atoms;
  variables = h.variables;
  long_term = h.long_term;
}

pub returns_so : (s : State) (σ : Substitution) (x : Entry) (used : List ℕ) (said : Said) (c : Calling) (g : Given) (marks : ℕ) → IsSaid s σ x said → IsGiven σ c.to x.result g → marks ≡ length x.trace + 1 →
    Grows s (adding x said marks g.long) (finish_by c x σ used s exits.Ok)
returns_so s σ x used said c g marks h k m =
    let terms : List Polynomial = entry_terms x σ ++ result_terms σ c.to x.result in
    let t : list_any is_long terms ≡ (said.assumed.long || said.left.long || g.long) =
    list_any-append is_long (entry_terms x σ) (result_terms σ c.to x.result) ∙ ap (λ z. z || list_any is_long (result_terms σ c.to x.result)) (long_said s σ x said h)
    ∙ ap (λ z. (said.assumed.long || said.left.long) || z) (sym k.long_one) in
    kept_much s (marked mark.Leave c.site (done_by x σ used s)) (adding x said marks g.long) terms c.to (result_through σ x.result)
    (marked_much s σ x used said marks g.long terms c.site m (says_much s σ x used said terms g.long goes h t))

-- ---- the state

abbrev with_parts : State → List VarInfo → List Conj → List Atom → List Mark → State
with_parts s vars pure atoms marks = record s { vars = vars; pure = pure; atoms = atoms; trace = s.trace ++ marks }

pub applied_is : (s : State) (σ : Substitution) (x : Entry) (used : List ℕ) (said : Said) → IsSaid s σ x said → said.assumed.long ≡ false → said.left.long ≡ false → applied s said used x.trace ≡ done_by x σ used s
applied_is s σ x used said h a l =
    let atoms : update_states used said.left.found.items s.atoms ++ said.left.made ≡ update_atoms σ used (found_atoms x.vars x.post) s.atoms ++ flat_map (made_through σ) (made_atoms x.vars x.post) =
    ap (λ z. update_states used z s.atoms ++ said.left.made) (h.left.found l)
    ∙ ap (λ z. z ++ said.left.made) (sym (updated_by σ used (found_atoms x.vars x.post) s.atoms))
    ∙ ap (λ z. update_atoms σ used (found_atoms x.vars x.post) s.atoms ++ z) (h.left.made l) in
    let pure : s.pure ++ said.assumed.added ≡ (done_by x σ used s).pure = sym (h.assumed.exact (sym h.assumed.long_one ∙ a)) in
    ap (λ z. with_parts s z (s.pure ++ said.assumed.added) (update_states used said.left.found.items s.atoms ++ said.left.made) x.trace) h.vars
    ∙ ap (λ z. with_parts s (s.vars ++ new_variables x.vars) z (update_states used said.left.found.items s.atoms ++ said.left.made) x.trace) pure
    ∙ ap (λ z. with_parts s (s.vars ++ new_variables x.vars) (done_by x σ used s).pure z x.trace) atoms

-- ---- where the act leads

pub returned_led : (s t u : State) (σ : Substitution) (x : Entry) (used : List ℕ) (said : Said) (c : Calling) (g : Given) (marks : ℕ) (k : List Item) → IsSaid s σ x said → IsGiven σ c.to x.result g → marks ≡ length x.trace + 1 →
    None ≡ passes_grown s (adding x said marks g.long) → t ≡ applied s said used x.trace → u ≡ keep_result c.to g.content (marked mark.Leave c.site t) →
    Next (at k u) ≡ leads s (finish_by c x σ used s exits.Ok) (at k)
returned_led s t u σ x used said c g marks k h q m e a b =
    let l : (said.assumed.long || said.left.long || g.long) ≡ false = none_long s (adding x said marks g.long) e in
    let d : t ≡ done_by x σ used s =
    a ∙ applied_is s σ x used said h (first_false said.assumed.long said.left.long (first_false (said.assumed.long || said.left.long) g.long l))
    (second_false said.assumed.long said.left.long (first_false (said.assumed.long || said.left.long) g.long l)) in
    ap (λ z. Next (at k z)) (b ∙ q.kept (second_false (said.assumed.long || said.left.long) g.long l) (marked mark.Leave c.site t) ∙ ap (λ z. keep_result c.to (result_through σ x.result) (marked mark.Leave c.site z)) d)
    ∙ goes_on s (adding x said marks g.long) (keep_result c.to (result_through σ x.result) (marked mark.Leave c.site (done_by x σ used s))) (entry_terms x σ ++ result_terms σ c.to x.result) (at k) e
    (returns_so s σ x used said c g marks h q m)

pub returned_cut : (s : State) (σ : Substitution) (x : Entry) (used : List ℕ) (said : Said) (c : Calling) (g : Given) (marks : ℕ) (kind : LongKind) (k : List Item) → IsSaid s σ x said → IsGiven σ c.to x.result g →
    marks ≡ length x.trace + 1 → Some kind ≡ passes_grown s (adding x said marks g.long) → dropped s (Long kind) ≡ leads s (finish_by c x σ used s exits.Ok) (at k)
returned_cut s σ x used said c g marks kind k h q m e =
    cut_on s (adding x said marks g.long) kind (keep_result c.to (result_through σ x.result) (marked mark.Leave c.site (done_by x σ used s))) (entry_terms x σ ++ result_terms σ c.to x.result) (at k) e
    (returns_so s σ x used said c g marks h q m)

pub failed_led : (s t : State) (σ : Substitution) (x : Entry) (used : List ℕ) (said : Said) (c : Calling) (kind : Kind) (site : Site) (k : List Item) → IsSaid s σ x said →
    None ≡ passes_grown s (adding x said (length x.trace) false) → t ≡ applied s said used x.trace →
    Ends t (exits.Error kind site) None ≡ leads s (finish_by c x σ used s (exits.Error kind site)) (at k)
failed_led s t σ x used said c kind site k h e a =
    let l : (said.assumed.long || said.left.long || false) ≡ false = none_long s (adding x said (length x.trace) false) e in
    let d : t ≡ done_by x σ used s =
    a ∙ applied_is s σ x used said h (first_false said.assumed.long said.left.long (first_false (said.assumed.long || said.left.long) false l))
    (second_false said.assumed.long said.left.long (first_false (said.assumed.long || said.left.long) false l)) in
    ap (λ z. Ends z (exits.Error kind site) None) d
    ∙ ends_so s (adding x said (length x.trace) false) (done_by x σ used s) (entry_terms x σ) (exits.Error kind site) None (at k) e (fails_so s σ x used said c kind site h)

pub failed_cut : (s : State) (σ : Substitution) (x : Entry) (used : List ℕ) (said : Said) (c : Calling) (kind : Kind) (site : Site) (passed : LongKind) (k : List Item) → IsSaid s σ x said →
    Some passed ≡ passes_grown s (adding x said (length x.trace) false) → dropped s (Long passed) ≡ leads s (finish_by c x σ used s (exits.Error kind site)) (at k)
failed_cut s σ x used said c kind site passed k h e =
    cut_ended s (adding x said (length x.trace) false) passed (done_by x σ used s) (entry_terms x σ) (exits.Error kind site) None (at k) e (fails_so s σ x used said c kind site h)

-- ---- by what code answers

grown_by : (s : State) (x : Entry) (said : Said) (o : Option LongKind) (grown : Growth) (marks count : ℕ) (long : Bool) → o ≡ passes_grown s grown → grown ≡ adding x said marks long → marks ≡ count → o ≡ passes_grown s (adding x said count long)
grown_by s x said o grown marks count long e g m = e ∙ ap (passes_grown s) (g ∙ ap (λ z. adding x said z long) m)

pub fail_cut : (s : State) (σ : Substitution) (x : Entry) (used : List ℕ) (said : Said) (c : Calling) (kind : Kind) (site : Site) (passed : LongKind) (k : List Item) (grown : Growth) (marks : ℕ) (r : StepOutcome CallProgress) →
    r ≡ dropped s (Long passed) → Some passed ≡ passes_grown s grown → grown ≡ adding x said marks false → marks ≡ length x.trace → IsSaid s σ x said →
    called k r ≡ leads s (finish_by c x σ used s (exits.Error kind site)) (at k)
fail_cut s σ x used said c kind site passed k grown marks r q e g m h = ap (called k) q ∙ failed_cut s σ x used said c kind site passed k h (grown_by s x said (Some passed) grown marks (length x.trace) false e g m)

pub fail_led : (s t : State) (σ : Substitution) (x : Entry) (used : List ℕ) (said : Said) (c : Calling) (kind : Kind) (site : Site) (k : List Item) (grown : Growth) (marks : ℕ) (trace : List Mark) →
    None ≡ passes_grown s grown → grown ≡ adding x said marks false → marks ≡ length x.trace → t ≡ applied s said used trace → trace ≡ x.trace → IsSaid s σ x said →
    Ends t (exits.Error kind site) None ≡ leads s (finish_by c x σ used s (exits.Error kind site)) (at k)
fail_led s t σ x used said c kind site k grown marks trace e g m a b h =
    failed_led s t σ x used said c kind site k h (grown_by s x said None grown marks (length x.trace) false e g m) (a ∙ ap (applied s said used) b)

more_marks : (marks n count : ℕ) → marks ≡ n + 1 → n ≡ count → marks ≡ count + 1
more_marks marks n count m l = m ∙ ap (λ z. z + 1) l

pub return_cut : (s : State) (σ : Substitution) (x : Entry) (used : List ℕ) (said : Said) (c : Calling) (given : Given) (kind : LongKind) (k : List Item) (grown : Growth) (marks n : ℕ) (r : StepOutcome CallProgress) →
    r ≡ dropped s (Long kind) → Some kind ≡ passes_grown s grown → grown ≡ adding x said marks given.long → marks ≡ n + 1 → n ≡ length x.trace → IsSaid s σ x said → IsGiven σ c.to x.result given →
    called k r ≡ leads s (finish_by c x σ used s exits.Ok) (at k)
return_cut s σ x used said c given kind k grown marks n r q e g m l h j =
    ap (called k) q ∙ returned_cut s σ x used said c given marks kind k h j (more_marks marks n (length x.trace) m l) (e ∙ ap (passes_grown s) g)

pub return_led : (s t m u : State) (σ : Substitution) (x : Entry) (used : List ℕ) (said : Said) (c : Calling) (given : Given) (k : List Item) (grown : Growth) (marks n : ℕ) (trace : List Mark) →
    None ≡ passes_grown s grown → grown ≡ adding x said marks given.long → marks ≡ n + 1 → n ≡ length x.trace → t ≡ applied s said used trace → trace ≡ x.trace → m ≡ marked mark.Leave c.site t →
    u ≡ keep_result c.to given.content m → IsSaid s σ x said → IsGiven σ c.to x.result given → Next (at k u) ≡ leads s (finish_by c x σ used s exits.Ok) (at k)
return_led s t m u σ x used said c given k grown marks n trace e g p l a b d f h j =
    returned_led s t u σ x used said c given marks k h j (more_marks marks n (length x.trace) p l) (e ∙ ap (passes_grown s) g) (a ∙ ap (applied s said used) b) (f ∙ ap (keep_result c.to given.content) d)

-- few blocks are known after it
kept_atoms : (to : Option ℕ) (c : Content) (s : State) → (keep_result to c s).atoms ≡ s.atoms
kept_atoms None c s = refl
kept_atoms (Some n) c s = refl

pub return_few : (s t m u : State) (x : Entry) (used : List ℕ) (said : Said) (to : Option ℕ) (content : Content) (site : Site) (grown : Growth) (marks : ℕ) (long : Bool) (trace : List Mark) →
    grown ≡ adding x said marks long → length s.atoms + grown.atoms ≤ most_atoms → t ≡ applied s said used trace → m ≡ marked mark.Leave site t → u ≡ keep_result to content m → length u.atoms < 2 ^ 32
return_few s t m u x used said to content site grown marks long trace g few a d f =
    let many : length u.atoms ≡ length s.atoms + length said.left.made =
    ap (λ (z : State). length z.atoms) (f ∙ ap (keep_result to content) d)
    ∙ ap length (kept_atoms to content (marked mark.Leave site t))
    ∙ ap (λ (z : State). length z.atoms) a
    ∙ length-append (update_states used said.left.found.items s.atoms) said.left.made
    ∙ ap (λ z. z + length said.left.made) (states_many used said.left.found.items s.atoms) in
    let made : grown.atoms ≡ length said.left.made = ap (λ (z : Growth). z.atoms) g in
    omega (arith, many, made, few)

-- ---- results

pub nothing_given : (σ : Substitution) (result : Option Content) (g : Given) → g.long ≡ false → g.content ≡ Unwritten → (to : Option ℕ) → (to ≡ None) → IsGiven σ to result g
nothing_given σ result g l c None e = record { long_one = l; kept = λ _ s. refl }
nothing_given σ result g l c (Some n) e = absurd (cc)

pub no_result : (σ : Substitution) (to : Option ℕ) (g : Given) → g.long ≡ false → g.content ≡ Unwritten → IsGiven σ to None g
no_result σ None g l c = record { long_one = l; kept = λ _ s. refl }
no_result σ (Some n) g l c = record { long_one = l; kept = λ _ s. ap (λ z. set_slot n z s) c }

pub some_given : (σ : Substitution) (n : ℕ) (c : Content) (o : Option Content) (g : Given) → IsThrough o (content_through σ c) (content_terms σ c) → (o ≡ Some g.content) → g.long ≡ false → IsGiven σ (Some n) (Some c) g
some_given σ n c None g h e l = absurd (cc)
some_given σ n c (Some d) g h e l = record { long_one = l ∙ sym h.1; kept = λ _ s. ap (λ z. set_slot n z s) (let q : g.content ≡ content_through σ c = (let w : d ≡ g.content = cc in sym w ∙ h.0) in q) }

pub long_given : (σ : Substitution) (n : ℕ) (c : Content) (g : Given) → list_any is_long (content_terms σ c) ≡ true → g.long ≡ true → IsGiven σ (Some n) (Some c) g
long_given σ n c g h l = record { long_one = l ∙ sym h; kept = λ e. absurd (cc) }

-- ---- the entry's own end

pub finish_is : (c : Calling) (x : Entry) (σ all : Substitution) (used : List ℕ) (s : State) (exit : Exit) → x.exit ≡ exit → all ≡ stand_all x σ s → finish_by c x all used s exit ≡ finish_call c x σ used s
finish_is c x σ all used s exit q e = ap (λ z. finish_by c x z used s exit) e ∙ ap (finish_by c x (stand_all x σ s) used s) (sym q)

pub finish_as : (c : Calling) (x : Entry) (σ all given : Substitution) (used us : List ℕ) (s : State) (exit : Exit) (n : ℕ) (vars : List VarInfo) → x.exit ≡ exit → given ≡ all → all ≡ σ ++ stand_new 0 n vars → n ≡ length s.vars → vars ≡ x.vars → us ≡ used →
    finish_by c x given us s exit ≡ finish_call c x σ used s
finish_as c x σ all given used us s exit n vars q g a m v u =
    ap (λ z. finish_by c x given z s exit) u
    ∙ finish_is c x σ given used s exit q (g ∙ a ∙ ap (λ z. σ ++ stand_new 0 z vars) m ∙ ap (λ z. σ ++ stand_new 0 (length s.vars) z) v)
