-- What an act adds, held against the limits of a path, says what they say of its post-state.
use Rattle.std.proofs.Common.{◌≡◌, ℕ, suc, ◌+◌, Bool, true, false, nat_lt, List, [], ◌∷◌, length, Option, Some, None, refl, ap, sym, ◌∙◌, arith}
use Rattle.std.specs.List.{list_any}
use Rattle.px_base.specs.Bounds.{most_marks, most_steps, most_conjuncts, most_atoms, most_variables}
use Rattle.px_terms.specs.Polynomials.{Polynomial}
use Rattle.px_terms.specs.declared.conjuncts.Content.{Content}
use Rattle.px_entry.specs.declared.entries.Exit.{Exit}
use Rattle.px_entry.specs.declared.tables.Cause.TheVariants.{Long}
use Rattle.px_entry.specs.declared.tables.LongKind.{LongKind}
use Rattle.px_entry.specs.declared.tables.LongKind.TheVariants as long
use Rattle.px_entry.specs.Sorts.{is_long}
use Rattle.px_callgraph.specs.declared.states.State.{State}
use Rattle.px_callgraph.specs.States.{goes, ends, Done}
use Rattle.px_callgraph.specs.declared.outcomes.StepOutcome.TheVariants.{Next, Ends}
use Rattle.px_callgraph.specs.Alternatives.{first_true, passes, dropped, limited, leads}
use Rattle.px_match.specs.declared.path_limits.Growth.{Growth}
use Rattle.px_match.specs.PathLimits.{passes_grown, Grows}

-- the first limit that is passed by so many marks, commands, conjuncts, blocks and variables
abbrev pub first_of : ℕ → ℕ → ℕ → ℕ → ℕ → Bool → Option LongKind
first_of trace steps pure atoms vars term = first_true (
    (nat_lt most_marks trace, long.Trace) ∷ (nat_lt most_steps steps, long.Steps) ∷ (nat_lt most_conjuncts pure, long.Conjuncts)
    ∷ (nat_lt most_atoms atoms, long.Atoms) ∷ (nat_lt most_variables vars, long.Variables) ∷ (term, long.Term) ∷ [])

pub grown_passes : (s : State) (g : Growth) (d : Done) → Grows s g d → passes d ≡ passes_grown s g
grown_passes s g d h =
    ap (λ z. first_of z d.state.steps (length d.state.pure) (length d.state.atoms) (length d.state.vars) (list_any is_long d.terms)) h.marks
    ∙ ap (λ z. first_of (length s.trace + g.marks) z (length d.state.pure) (length d.state.atoms) (length d.state.vars) (list_any is_long d.terms)) h.commands
    ∙ ap (λ z. first_of (length s.trace + g.marks) (s.steps + g.commands) z (length d.state.atoms) (length d.state.vars) (list_any is_long d.terms)) h.conjuncts
    ∙ ap (λ z. first_of (length s.trace + g.marks) (s.steps + g.commands) (length s.pure + g.conjuncts) z (length d.state.vars) (list_any is_long d.terms)) h.atoms
    ∙ ap (λ z. first_of (length s.trace + g.marks) (s.steps + g.commands) (length s.pure + g.conjuncts) (length s.atoms + g.atoms) z (list_any is_long d.terms)) h.variables
    ∙ ap (λ z. first_of (length s.trace + g.marks) (s.steps + g.commands) (length s.pure + g.conjuncts) (length s.atoms + g.atoms) (length s.vars + g.variables) z) h.long_term

-- ---- where an act leads, by the limits' answer

-- no limit is passed, and the path goes on
pub goes_on : {A : Type 0} (s : State) (g : Growth) (u : State) (terms : List Polynomial) (go : State → A) → None ≡ passes_grown s g → Grows s g (record { state = u; terms = terms; outcome = goes }) →
    Next (go u) ≡ leads s (record { state = u; terms = terms; outcome = goes }) go
goes_on s g u terms go e h = ap (limited s (Next (go u))) (e ∙ sym (grown_passes s g (record { state = u; terms = terms; outcome = goes }) h))

-- or the procedure ends
pub ends_so : {A : Type 0} (s : State) (g : Growth) (u : State) (terms : List Polynomial) (exit : Exit) (result : Option Content) (go : State → A) →
    None ≡ passes_grown s g → Grows s g (record { state = u; terms = terms; outcome = ends exit result }) →
    Ends u exit result ≡ leads s (record { state = u; terms = terms; outcome = ends exit result }) go
ends_so s g u terms exit result go e h =
    ap (limited s (Ends u exit result)) (e ∙ sym (grown_passes s g (record { state = u; terms = terms; outcome = ends exit result }) h))

-- one is passed, and the state before the act is dropped
pub cut_on : {A : Type 0} (s : State) (g : Growth) (kind : LongKind) (u : State) (terms : List Polynomial) (go : State → A) → Some kind ≡ passes_grown s g →
    Grows s g (record { state = u; terms = terms; outcome = goes }) → dropped s (Long kind) ≡ leads s (record { state = u; terms = terms; outcome = goes }) go
cut_on s g kind u terms go e h = ap (limited s (Next (go u))) (e ∙ sym (grown_passes s g (record { state = u; terms = terms; outcome = goes }) h))

pub cut_ended : {A : Type 0} (s : State) (g : Growth) (kind : LongKind) (u : State) (terms : List Polynomial) (exit : Exit) (result : Option Content) (go : State → A) →
    Some kind ≡ passes_grown s g → Grows s g (record { state = u; terms = terms; outcome = ends exit result }) →
    dropped s (Long kind) ≡ leads s (record { state = u; terms = terms; outcome = ends exit result }) go
cut_ended s g kind u terms exit result go e h =
    ap (limited s (Ends u exit result)) (e ∙ sym (grown_passes s g (record { state = u; terms = terms; outcome = ends exit result }) h))

-- ---- what acts add

pub next : (n : ℕ) → suc n ≡ n + 1
next n = omega arith

pub none : (n : ℕ) → n ≡ n + 0
none n = omega arith

-- ---- polynomials that are too long

short_by : (a b c e f l : Bool) → None ≡ first_true ((a, long.Trace) ∷ (b, long.Steps) ∷ (c, long.Conjuncts) ∷ (e, long.Atoms) ∷ (f, long.Variables) ∷ (l, long.Term) ∷ []) → l ≡ false
short_by true b c e f l h = cc
short_by false true c e f l h = cc
short_by false false true e f l h = cc
short_by false false false true f l h = cc
short_by false false false false true l h = cc
short_by false false false false false true h = cc
short_by false false false false false false h = refl

-- where no limit is passed, no polynomial is too long
pub none_long : (s : State) (g : Growth) → None ≡ passes_grown s g → g.long_term ≡ false
none_long s g h =
    short_by (nat_lt most_marks (length s.trace + g.marks)) (nat_lt most_steps (s.steps + g.commands)) (nat_lt most_conjuncts (length s.pure + g.conjuncts))
    (nat_lt most_atoms (length s.atoms + g.atoms)) (nat_lt most_variables (length s.vars + g.variables)) g.long_term h

-- so where one is made, some limit is passed
pub long_passes : (s : State) (g : Growth) → g.long_term ≡ true → None ≡ passes_grown s g → ⊥
long_passes s g l h = let e : true ≡ false = sym l ∙ none_long s g h in cc
