-- What an act adds, held against the limits of a path, says what they say of the state after it.
use Rattle.std.proofs.Common.{◌≡◌, ℕ, suc, ◌+◌, false, List, [], ◌∷◌, ◌++◌, length, Option, Some, None, Result, refl, ap, sym, ◌∙◌, length-append}
use Rattle.std.specs.Prelude.{option_to_list}
use Rattle.std.specs.List.{list_any}
use Rattle.std.specs.Result.{IfOk}
use Rattle.std.proofs.lemmas.Result.{IfOk-weaker}
use Rattle.std.proofs.lemmas.List.{length_push}
use Rattle.px_base.specs.declared.trace.Mark.{Mark}
use Rattle.px_terms.specs.Polynomials.{Polynomial}
use Rattle.px_terms.specs.declared.conjuncts.Content.{Content}
use Rattle.px_terms.specs.declared.conjuncts.Conj.{Conj}
use Rattle.px_terms.specs.declared.faults.NoMemory.{NoMemory}
use Rattle.px_terms.specs.declared.variables.VarInfo.{VarInfo}
use Rattle.px_entry.specs.declared.atoms.Atom.{Atom}
use Rattle.px_entry.specs.declared.entries.Exit.{Exit}
use Rattle.px_entry.specs.declared.tables.Cause.TheVariants.{Long}
use Rattle.px_entry.specs.declared.tables.LongKind.{LongKind}
use Rattle.px_entry.specs.Sorts.{is_long}
use Rattle.px_entry.specs.Decided.{assume}
use Rattle.px_callgraph.specs.declared.states.State.{State}
use Rattle.px_callgraph.specs.States.{Outcome, goes, ends, on}
use Rattle.px_callgraph.specs.declared.outcomes.StepOutcome.TheVariants.{Next, Ends}
use Rattle.px_callgraph.specs.Alternatives.{dropped, limited}
use Rattle.px_steps.specs.Led.{at_state, led_of}
use Rattle.px_steps.specs.declared.led.Led.{Led}
use Rattle.px_match.specs.declared.path_limits.Growth.{Growth}
use Rattle.px_match.specs.PathLimits.{passes_grown, Grows}
use Rattle.px_match.proofs.PathLimitLemmas.{first_of, goes_on, ends_so, cut_on, cut_ended, next, none}

-- ---- where an act leads, by the limits' answer

-- no limit is passed, and the path goes on
pub next_led : (s : State) (g : Growth) (t u : State) (terms : List Polynomial) → t ≡ u → None ≡ passes_grown s g →
    Grows s g (record { state = u; terms = terms; outcome = goes }) → Next t ≡ led_of s (record { state = u; terms = terms; outcome = goes })
unfolding led_of
next_led s g t u terms q e h = ap Next q ∙ goes_on s g u terms (λ z. z) e h

-- or the procedure ends
pub ends_led : (s : State) (g : Growth) (t u : State) (exit : Exit) (result : Option Content) → t ≡ u → None ≡ passes_grown s g →
    Grows s g (record { state = u; terms = []; outcome = ends exit result }) → Ends t exit result ≡ led_of s (record { state = u; terms = []; outcome = ends exit result })
unfolding led_of
ends_led s g t u exit result q e h = ap (λ z. Ends z exit result) q ∙ ends_so s g u [] exit result (λ z. z) e h

-- one is passed, and the state before the act is dropped
pub cut_at : (s : State) (g : Growth) (kind : LongKind) (u : State) (terms : List Polynomial) → Some kind ≡ passes_grown s g →
    Grows s g (record { state = u; terms = terms; outcome = goes }) → dropped s (Long kind) ≡ led_of s (record { state = u; terms = terms; outcome = goes })
unfolding led_of
cut_at s g kind u terms e h = cut_on s g kind u terms (λ z. z) e h

pub cut_led : (r : Result Led NoMemory) (s : State) (g : Growth) (u : State) (terms : List Polynomial) (kind : LongKind) →
    Some kind ≡ passes_grown s g → Grows s g (record { state = u; terms = terms; outcome = goes }) →
    IfOk r (λ x. at_state x s ≡ dropped s (Long kind)) → IfOk r (λ x. at_state x s ≡ led_of s (record { state = u; terms = terms; outcome = goes }))
cut_led r s g u terms kind e h k = IfOk-weaker r _ _ (λ x q. q ∙ cut_at s g kind u terms e h) k

pub cut_end_led : (r : Result Led NoMemory) (s : State) (g : Growth) (u : State) (exit : Exit) (result : Option Content) (kind : LongKind) →
    Some kind ≡ passes_grown s g → Grows s g (record { state = u; terms = []; outcome = ends exit result }) →
    IfOk r (λ x. at_state x s ≡ dropped s (Long kind)) → IfOk r (λ x. at_state x s ≡ led_of s (record { state = u; terms = []; outcome = ends exit result }))
unfolding led_of
cut_end_led r s g u exit result kind e h k = IfOk-weaker r _ _ (λ x q. q ∙ cut_ended s g kind u [] exit result (λ z. z) e h) k

-- ---- what acts add

-- a command with one mark
abbrev pub marking : Growth
marking = record { marks = 1; commands = 1; conjuncts = 0; atoms = 0; variables = 0; long_term = false }

pub marked_grows : (s u : State) (m : Mark) (terms : List Polynomial) (o : Outcome) →
    u.trace ≡ s.trace ++ m ∷ [] → u.steps ≡ suc s.steps → u.pure ≡ s.pure → u.atoms ≡ s.atoms → u.vars ≡ s.vars → list_any is_long terms ≡ false →
    Grows s marking (record { state = u; terms = terms; outcome = o })
marked_grows s u m terms o t n p a v l = record {
  marks = ap length t ∙ length_push s.trace m;
  commands = n ∙ next s.steps;
  conjuncts = ap length p ∙ none (length s.pure);
  atoms = ap length a ∙ none (length s.atoms);
  variables = ap length v ∙ none (length s.vars);
  long_term = l;
}

-- a mark alone
abbrev pub turning : Growth
turning = record { marks = 1; commands = 0; conjuncts = 0; atoms = 0; variables = 0; long_term = false }

pub turned_grows : (s u : State) (m : Mark) → u.trace ≡ s.trace ++ m ∷ [] → u.steps ≡ s.steps → u.pure ≡ s.pure → u.atoms ≡ s.atoms → u.vars ≡ s.vars →
    Grows s turning (record { state = u; terms = []; outcome = goes })
turned_grows s u m t n p a v = record {
  marks = ap length t ∙ length_push s.trace m;
  commands = n ∙ none s.steps;
  conjuncts = ap length p ∙ none (length s.pure);
  atoms = ap length a ∙ none (length s.atoms);
  variables = ap length v ∙ none (length s.vars);
  long_term = refl;
}

-- a command that assumes a conjunct, of which so many are added
abbrev pub assuming : ℕ → ℕ → Growth
assuming marks conjuncts = record { marks = marks; commands = 1; conjuncts = conjuncts; atoms = 0; variables = 0; long_term = false }

pub assumed_grows : (s u : State) (c : Conj) (added : Option Conj) (k n : ℕ) (terms : List Polynomial) (o : Outcome) →
    assume s.vars s.pure c ≡ s.pure ++ option_to_list added → n ≡ length (option_to_list added) →
    length u.trace ≡ length s.trace + k → u.steps ≡ suc s.steps → u.pure ≡ assume s.vars s.pure c → u.atoms ≡ s.atoms → u.vars ≡ s.vars → list_any is_long terms ≡ false →
    Grows s (assuming k n) (record { state = u; terms = terms; outcome = o })
assumed_grows s u c added k n terms o e m t b p a v l = record {
  marks = t;
  commands = b ∙ next s.steps;
  conjuncts = ap length (p ∙ e) ∙ length-append s.pure (option_to_list added) ∙ ap (λ z. length s.pure + z) (sym m);
  atoms = ap length a ∙ none (length s.atoms);
  variables = ap length v ∙ none (length s.vars);
  long_term = l;
}

-- ---- polynomials that are too long

-- where none is, an act is as one that makes none
pub same_terms : (s u : State) (terms : List Polynomial) → list_any is_long terms ≡ false → led_of s (on u) ≡ led_of s (record { state = u; terms = terms; outcome = goes })
unfolding led_of
same_terms s u terms l = ap (λ z. limited s (Next u) (first_of (length u.trace) u.steps (length u.pure) (length u.atoms) (length u.vars) z)) (sym l)

pub same_end_terms : (s u : State) (terms : List Polynomial) (exit : Exit) (result : Option Content) → list_any is_long terms ≡ false →
    led_of s (record { state = u; terms = []; outcome = ends exit result }) ≡ led_of s (record { state = u; terms = terms; outcome = ends exit result })
unfolding led_of
same_end_terms s u terms exit result l =
    ap (λ z. limited s (Ends u exit result) (first_of (length u.trace) u.steps (length u.pure) (length u.atoms) (length u.vars) z)) (sym l)

-- `malloc` gives a block
abbrev pub making : Growth
making = record { marks = 1; commands = 1; conjuncts = 0; atoms = 1; variables = 1; long_term = false }

pub made_grows : (s u : State) (m : Mark) (a : Atom) (i : VarInfo) →
    u.trace ≡ s.trace ++ m ∷ [] → u.steps ≡ suc s.steps → u.pure ≡ s.pure → u.atoms ≡ s.atoms ++ a ∷ [] → u.vars ≡ s.vars ++ i ∷ [] →
    Grows s making (record { state = u; terms = []; outcome = goes })
made_grows s u m a i t b p x v = record {
  marks = ap length t ∙ length_push s.trace m;
  commands = b ∙ next s.steps;
  conjuncts = ap length p ∙ none (length s.pure);
  atoms = ap length x ∙ length_push s.atoms a;
  variables = ap length v ∙ length_push s.vars i;
  long_term = refl;
}
