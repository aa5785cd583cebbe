-- Acts whose polynomials are too long to be kept, and acts whose aren't.
use Rattle.std.proofs.Common.{◌≡◌, ℕ, suc, true, false, List, [], ◌∷◌, ◌++◌, length, Option, ap, sym, ◌∙◌, pos, subst}
use Rattle.std.specs.List.{list_any}
use Rattle.std.proofs.lemmas.List.{length_push}
use Rattle.px_base.specs.declared.trace.Mark.{Mark}
use Rattle.px_terms.specs.Polynomials.{Polynomial}
use Rattle.px_terms.specs.declared.conjuncts.Content.{Content}
use Rattle.px_terms.specs.declared.conjuncts.Content.TheVariants.{Word}
use Rattle.px_terms.specs.declared.conjuncts.Conj.{Conj}
use Rattle.px_entry.specs.Sorts.{is_long, is_long_conjunct}
use Rattle.px_entry.specs.Decided.{assume}
use Rattle.px_callgraph.specs.declared.states.State.{State}
use Rattle.px_callgraph.specs.States.{on, goes, begun, set_slot, assumed, number}
use Rattle.px_callgraph.specs.Operations.{conjunct_terms}
use Rattle.px_callgraph.specs.Commands.{test_outcome, assign_done, terms_of}
use Rattle.px_match.specs.declared.operations.Operated.{Operated}
use Rattle.px_match.specs.declared.operations.Operated.TheVariants.{Made}
use Rattle.px_match.specs.declared.conditions.Compared.{Compared}
use Rattle.px_match.specs.declared.conditions.Compared.TheVariants.{Assumes}
use Rattle.px_match.specs.Operated.{IsOperated, IsCompared}
use Rattle.px_match.specs.declared.path_limits.Growth.{Growth}
use Rattle.px_steps.specs.Led.{led_of}
use Rattle.px_match.specs.PathLimits.{Grows}
use Rattle.px_match.proofs.PathLimitLemmas.{next, none}
use Rattle.px_match.proofs.LongLemmas.{long_terms, long_assumed}
use Rattle.px_steps.proofs.PathLimitLemmas.{same_terms}

-- an assignment, and a test, whose polynomial is too long
abbrev pub long_alone : Growth
long_alone = record { marks = 0; commands = 1; conjuncts = 0; atoms = 0; variables = 0; long_term = true }

pub long_grows : (s u : State) (terms : List Polynomial) → u.trace ≡ s.trace → u.steps ≡ suc s.steps → u.pure ≡ s.pure → u.atoms ≡ s.atoms → u.vars ≡ s.vars → list_any is_long terms ≡ true →
    Grows s long_alone (record { state = u; terms = terms; outcome = goes })
long_grows s u terms t b p a v l = record {
  marks = ap length t ∙ none (length s.trace);
  commands = b ∙ next s.steps;
  conjuncts = ap length p ∙ none (length s.pure);
  atoms = ap length a ∙ none (length s.atoms);
  variables = ap length v ∙ none (length s.vars);
  long_term = l;
}

abbrev pub long_test : Growth
long_test = record { marks = 1; commands = 1; conjuncts = 1; atoms = 0; variables = 0; long_term = true }

pub long_test_grows : (s u : State) (m : Mark) (c : Conj) → u.trace ≡ s.trace ++ m ∷ [] → u.steps ≡ suc s.steps → u.pure ≡ assume s.vars s.pure c → u.atoms ≡ s.atoms → u.vars ≡ s.vars → is_long_conjunct c ≡ true →
    Grows s long_test (record { state = u; terms = conjunct_terms c; outcome = goes })
long_test_grows s u m c t b p a v l = record {
  marks = ap length t ∙ length_push s.trace m;
  commands = b ∙ next s.steps;
  conjuncts = ap length (p ∙ long_assumed s.vars s.pure c l) ∙ length_push s.pure c;
  atoms = ap length a ∙ none (length s.atoms);
  variables = ap length v ∙ none (length s.vars);
  long_term = long_terms c ∙ l;
}

-- a conjunct that is kept makes no difference to the limits
pub short_led : (s u : State) (c : Conj) → is_long_conjunct c ≡ false → led_of s (on u) ≡ led_of s (record { state = u; terms = conjunct_terms c; outcome = goes })
short_led s u c l = same_terms s u (conjunct_terms c) (long_terms c ∙ l)

-- a test that assumes a conjunct
pub assumes_led : (s m : State) (to outcome : ℕ) (p : Compared) (d : Conj) (o : Option Conj) → p ≡ Assumes d → IsCompared p o →
    led_of s (on (set_slot to (Word (number (pos outcome))) (assumed d m))) ≡ led_of s (test_outcome to outcome o m)
assumes_led s m to outcome p d o e h =
    let k : IsCompared (Assumes d) o = subst (λ z. IsCompared z o) e h in
    short_led s (set_slot to (Word (number (pos outcome))) (assumed d m)) d k.1 ∙ ap (λ z. led_of s (test_outcome to outcome z m)) (sym k.0)

-- an assignment of what an operator makes
pub made_led : (s : State) (to : ℕ) (p : Operated) (d : Content) (o : Option Content) (terms : Content → List Polynomial) → p ≡ Made d → IsOperated p o terms →
    led_of s (on (set_slot to d (begun s))) ≡ led_of s (assign_done to (terms_of o terms) o (begun s))
made_led s to p d o terms e h =
    let k : IsOperated (Made d) o terms = subst (λ z. IsOperated z o terms) e h in
    same_terms s (set_slot to d (begun s)) (terms d) k.1 ∙ ap (λ z. led_of s (assign_done to (terms_of z terms) z (begun s))) (sym k.0)
