-- The two bounds of an input.
use Rattle.std.proofs.Common.{◌≡◌, ℕ, suc, ◌+◌, Bool, true, false, not, ◌||◌, List, [], ◌∷◌, ◌++◌, length, refl, ap, sym, ◌∙◌, append_assoc, append-nil, length-append}
use Rattle.std.specs.List.{list_any}
use Rattle.std.proofs.lemmas.List.{length_push}
use Rattle.px_base.specs.declared.trace.Mark.{Mark}
use Rattle.px_terms.specs.declared.variables.VarInfo.{VarInfo}
use Rattle.px_terms.specs.declared.conjuncts.Conj.{Conj}
use Rattle.px_entry.specs.Equality.{same_conjunct}
use Rattle.px_entry.specs.Decided.{assume}
use Rattle.px_callgraph.specs.declared.states.State.{State}
use Rattle.px_callgraph.specs.States.{goes}
use Rattle.px_callgraph.specs.Commands.{is_input_byte, assume_all}
use Rattle.px_match.specs.declared.path_limits.Growth.{Growth}
use Rattle.px_match.specs.PathLimits.{Grows}
use Rattle.px_ways.specs.Additions.{with_conjuncts, kept_if, least_bound, most_bound}
use Rattle.px_steps.specs.Additions.{ones}
use Rattle.px_match.proofs.PathLimitLemmas.{next, none}

pub kept : (b : Bool) (pure : List Conj) (c : Conj) → elim b as (λ _. List Conj) [ true ↦ pure | false ↦ pure ++ c ∷ [] ] ≡ pure ++ kept_if (not b) c
kept true pure c = sym (append-nil pure)
kept false pure c = refl

none_more : (x : ℕ) (b : Bool) (pure : List Conj) → list_any (same_conjunct (most_bound x)) (pure ++ kept_if b (least_bound x)) ≡ list_any (same_conjunct (most_bound x)) pure
none_more x true [] = refl
none_more x false [] = refl
none_more x b (c ∷ pure) = ap (λ z. same_conjunct (most_bound x) c || z) (none_more x b pure)

-- neither bound is decided, and each is added where it doesn't stand yet
pub both_assumed : (vars : List VarInfo) (pure : List Conj) (x : ℕ) (least most : Bool) →
    least ≡ not (list_any (same_conjunct (least_bound x)) pure) → most ≡ not (list_any (same_conjunct (most_bound x)) pure) →
    assume vars (assume vars pure (least_bound x)) (most_bound x) ≡ (pure ++ kept_if least (least_bound x)) ++ kept_if most (most_bound x)
both_assumed vars pure x least most e h =
    let first : assume vars pure (least_bound x) ≡ pure ++ kept_if least (least_bound x) =
    kept (list_any (same_conjunct (least_bound x)) pure) pure (least_bound x) ∙ ap (λ b. pure ++ kept_if b (least_bound x)) (sym e) in
    ap (λ z. assume vars z (most_bound x)) first
    ∙ kept (list_any (same_conjunct (most_bound x)) (pure ++ kept_if least (least_bound x))) (pure ++ kept_if least (least_bound x)) (most_bound x)
    ∙ ap (λ b. (pure ++ kept_if least (least_bound x)) ++ kept_if (not b) (most_bound x)) (none_more x least pure)
    ∙ ap (λ b. (pure ++ kept_if least (least_bound x)) ++ kept_if b (most_bound x)) (sym h)

pub length_kept : (b : Bool) (c : Conj) → length (kept_if b c) ≡ ones b
length_kept true c = refl
length_kept false c = refl

length_both : (pure : List Conj) (x : ℕ) (least most : Bool) →
    length ((pure ++ kept_if least (least_bound x)) ++ kept_if most (most_bound x)) ≡ length pure + (ones least + ones most)
length_both pure x least most =
    ap length (append_assoc pure (kept_if least (least_bound x)) (kept_if most (most_bound x)))
    ∙ length-append pure (kept_if least (least_bound x) ++ kept_if most (most_bound x))
    ∙ ap (λ n. length pure + n) (length-append (kept_if least (least_bound x)) (kept_if most (most_bound x))
    ∙ ap (λ n. n + length (kept_if most (most_bound x))) (length_kept least (least_bound x))
    ∙ ap (λ n. ones least + n) (length_kept most (most_bound x)))

abbrev pub reading : ℕ → Growth
reading n = record { marks = 1; commands = 1; conjuncts = n; atoms = 0; variables = 1; long_term = false }

pub input_grows : (s u : State) (m : Mark) (i : VarInfo) (vars : List VarInfo) (x n : ℕ) (least most : Bool) →
    least ≡ not (list_any (same_conjunct (least_bound x)) s.pure) → most ≡ not (list_any (same_conjunct (most_bound x)) s.pure) → n ≡ ones least + ones most →
    u.trace ≡ s.trace ++ m ∷ [] → u.steps ≡ suc s.steps → u.pure ≡ assume vars (assume vars s.pure (least_bound x)) (most_bound x) → u.atoms ≡ s.atoms → u.vars ≡ s.vars ++ i ∷ [] →
    Grows s (reading n) (record { state = u; terms = []; outcome = goes })
input_grows s u m i vars x n least most e h k t b p a v = record {
  marks = ap length t ∙ length_push s.trace m;
  commands = b ∙ next s.steps;
  conjuncts = ap length (p ∙ both_assumed vars s.pure x least most e h) ∙ length_both s.pure x least most ∙ ap (λ z. length s.pure + z) (sym k);
  atoms = ap length a ∙ none (length s.atoms);
  variables = ap length v ∙ length_push s.vars i;
  long_term = refl;
}

-- the state with both
pub bounded : (s : State) (x : ℕ) (least most : Bool) →
    least ≡ not (list_any (same_conjunct (least_bound x)) s.pure) → most ≡ not (list_any (same_conjunct (most_bound x)) s.pure) →
    with_conjuncts (kept_if most (most_bound x)) (with_conjuncts (kept_if least (least_bound x)) s) ≡ assume_all (is_input_byte x) s
bounded s x least most e h = ap (λ z. record s { pure = z }) (sym (both_assumed s.vars s.pure x least most e h))
