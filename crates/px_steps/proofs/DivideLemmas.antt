-- A division, by 0 and by what isn't 0.
use Rattle.std.proofs.Common.{◌≡◌, ℕ, ◌+◌, Bool, true, false, not, ◌||◌, ◌&&◌, List, [], ◌∷◌, ◌++◌, length, Option, None, refl, ap, sym, ◌∙◌, length-append, arith}
use Rattle.std.specs.Prelude.{option_to_list}
use Rattle.std.specs.List.{list_any}
use Rattle.std.proofs.lemmas.List.{length_push}
use Rattle.px_base.specs.declared.trace.Site.{Site}
use Rattle.px_base.specs.declared.trace.Kind.TheVariants.{DivisionByZero}
use Rattle.px_terms.specs.Polynomials.{Polynomial}
use Rattle.px_terms.specs.Substitutions.{variable}
use Rattle.px_terms.specs.declared.types.ValueType.TheVariants.{Int}
use Rattle.px_terms.specs.declared.variables.VarInfo.{VarInfo}
use Rattle.px_terms.specs.declared.variables.Sort.TheVariants as sort
use Rattle.px_terms.specs.declared.conjuncts.Content.{Content}
use Rattle.px_terms.specs.declared.conjuncts.Content.TheVariants.{Word}
use Rattle.px_terms.specs.declared.conjuncts.Conj.{Conj}
use Rattle.px_terms.specs.declared.conjuncts.Conj.TheVariants.{Equal, Unequal}
use Rattle.px_entry.specs.declared.entries.Exit.TheVariants.{Error}
use Rattle.px_entry.specs.Sorts.{is_long}
use Rattle.px_entry.specs.Equality.{same_conjunct}
use Rattle.px_entry.specs.Decided.{word_of, decided, is_true, stands_in, assume}
use Rattle.px_callgraph.specs.declared.states.State.{State}
use Rattle.px_callgraph.specs.declared.states.Way.TheVariants as way
use Rattle.px_callgraph.specs.States.{on, fails, begun, assumed, set_slot, info, with_variables}
use Rattle.px_callgraph.specs.Commands.{constant_quotient, quotient_by, words_divided}
use Rattle.px_match.specs.declared.path_limits.Growth.{Growth}
use Rattle.px_match.specs.PathLimits.{Grows}
use Rattle.px_match.proofs.PathLimitLemmas.{next, none}
use Rattle.px_ways.specs.Additions.{kept_if, quotient_bound, with_quotient}
use Rattle.px_steps.specs.Led.{led_of}
use Rattle.px_steps.specs.Additions.{ones}
use Rattle.px_steps.proofs.InputLemmas.{kept, length_kept}
use Rattle.px_steps.proofs.PathLimitLemmas.{same_terms, same_end_terms}

-- ---- polynomials that are kept

either_short : (p q : Polynomial) → is_long p ≡ false → is_long q ≡ false → (is_long p || is_long q) ≡ false
either_short p q e h = ap (λ b. b || is_long q) e ∙ h

one_short : (q : Polynomial) → is_long q ≡ false → list_any is_long (q ∷ []) ≡ false
one_short q h = ap (λ b. b || false) h

both_short : (p q : Polynomial) → is_long p ≡ false → is_long q ≡ false → list_any is_long (p ∷ q ∷ []) ≡ false
both_short p q e h = ap (λ b. b || (is_long q || false)) e ∙ one_short q h

pub zero_led : (s : State) (site : Site) (q : Polynomial) → is_long q ≡ false →
    led_of s (fails DivisionByZero site (assumed (Equal q) (begun s))) ≡ led_of s (record (fails DivisionByZero site (assumed (Equal q) (begun s))) { terms = q ∷ [] })
zero_led s site q h = same_end_terms s (assumed (Equal q) (begun s)) (q ∷ []) (Error DivisionByZero site) None (one_short q h)

pub divided_led : (s : State) (to : ℕ) (p q : Polynomial) (o : Option Content) → o ≡ constant_quotient (word_of p) (word_of q) → is_long p ≡ false → is_long q ≡ false → (site : Site) →
    led_of s (on (quotient_by to p q o (assumed (Unequal q) (begun s)))) ≡ led_of s (words_divided to site way.Divided (begun s) p q)
divided_led s to p q o is e h site =
    ap (λ z. led_of s (on (quotient_by to p q z (assumed (Unequal q) (begun s))))) is
    ∙ same_terms s (quotient_by to p q (constant_quotient (word_of p) (word_of q)) (assumed (Unequal q) (begun s))) (p ∷ q ∷ []) (both_short p q e h)

-- ---- the quotient as a new variable

abbrev quotient_info : VarInfo
quotient_info = info sort.Input Int

any_push : (x : ℕ) (p q : Polynomial) (pure : List Conj) → list_any (same_conjunct (quotient_bound x p q)) (pure ++ Unequal q ∷ []) ≡ list_any (same_conjunct (quotient_bound x p q)) pure
any_push x p q [] = refl
any_push x p q (c ∷ pure) = ap (λ z. same_conjunct (quotient_bound x p q) c || z) (any_push x p q pure)

-- that what is divided by isn't 0 is no quotient
any_assumed : (x : ℕ) (p q : Polynomial) (pure : List Conj) (b : Bool) →
    list_any (same_conjunct (quotient_bound x p q)) (elim b as (λ _. List Conj) [ true ↦ pure | false ↦ pure ++ Unequal q ∷ [] ]) ≡ list_any (same_conjunct (quotient_bound x p q)) pure
any_assumed x p q pure true = refl
any_assumed x p q pure false = any_push x p q pure

-- the quotient is assumed after that
pub quotient_assumed : (vars more : List VarInfo) (pure : List Conj) (x : ℕ) (p q : Polynomial) (lacking : Bool) → lacking ≡ not (list_any (same_conjunct (quotient_bound x p q)) pure) →
    is_long p ≡ false → is_long q ≡ false →
    assume more (assume vars pure (Unequal q)) (quotient_bound x p q) ≡ assume vars pure (Unequal q) ++ kept_if lacking (quotient_bound x p q)
quotient_assumed vars more pure x p q lacking l e h =
    let c = quotient_bound x p q in
    let before = assume vars pure (Unequal q) in
    ap (λ z. elim (not z && list_any (same_conjunct c) before) as (λ _. List Conj) [ true ↦ before | false ↦ before ++ c ∷ [] ]) (either_short p q e h)
    ∙ kept (list_any (same_conjunct c) before) before c
    ∙ ap (λ b. before ++ kept_if (not b) c) (any_assumed x p q pure (is_true (decided vars (Unequal q)) || stands_in pure (Unequal q)))
    ∙ ap (λ b. before ++ kept_if b c) (sym l)

pub both_assumed : (vars more : List VarInfo) (pure : List Conj) (x : ℕ) (p q : Polynomial) (other : Option Conj) (lacking : Bool) → assume vars pure (Unequal q) ≡ pure ++ option_to_list other →
    lacking ≡ not (list_any (same_conjunct (quotient_bound x p q)) pure) → is_long p ≡ false → is_long q ≡ false →
    assume more (assume vars pure (Unequal q)) (quotient_bound x p q) ≡ (pure ++ option_to_list other) ++ kept_if lacking (quotient_bound x p q)
both_assumed vars more pure x p q other lacking o l e h =
    quotient_assumed vars more pure x p q lacking l e h ∙ ap (λ z. z ++ kept_if lacking (quotient_bound x p q)) o

length_both : (pure : List Conj) (other : Option Conj) (lacking : Bool) (c : Conj) →
    length ((pure ++ option_to_list other) ++ kept_if lacking c) ≡ length pure + (length (option_to_list other) + ones lacking)
length_both pure other lacking c =
    let a : length ((pure ++ option_to_list other) ++ kept_if lacking c) ≡ length (pure ++ option_to_list other) + length (kept_if lacking c) = length-append (pure ++ option_to_list other) (kept_if lacking c) in
    let b : length (pure ++ option_to_list other) ≡ length pure + length (option_to_list other) = length-append pure (option_to_list other) in
    let d : length (kept_if lacking c) ≡ ones lacking = length_kept lacking c in
    omega arith

-- a command that adds a variable and so many conjuncts
abbrev pub dividing : ℕ → Growth
dividing n = record { marks = 0; commands = 1; conjuncts = n; atoms = 0; variables = 1; long_term = false }

-- the state after it
abbrev pub quotient_made : State → ℕ → Polynomial → Polynomial → State
quotient_made s to p q = quotient_by to p q None (assumed (Unequal q) (begun s))

module _ (s : State) (to : ℕ) (p q : Polynomial) (other : Option Conj) (lacking : Bool)
    (o : assume s.vars s.pure (Unequal q) ≡ s.pure ++ option_to_list other)
    (l : lacking ≡ not (list_any (same_conjunct (quotient_bound (length s.vars) p q)) s.pure))
    (e : is_long p ≡ false) (h : is_long q ≡ false) where
  pub made_grows : (n : ℕ) → n ≡ length (option_to_list other) + ones lacking → Grows s (dividing n) (on (quotient_made s to p q))
  made_grows n k = record {
    marks = none (length s.trace);
    commands = next s.steps;
    conjuncts =
        ap length (both_assumed s.vars (s.vars ++ quotient_info ∷ []) s.pure (length s.vars) p q other lacking o l e h)
        ∙ length_both s.pure other lacking (quotient_bound (length s.vars) p q) ∙ ap (λ z. length s.pure + z) (sym k);
    atoms = none (length s.atoms);
    variables = length_push s.vars quotient_info;
    long_term = refl;
  }

  pub made_is : with_quotient to p q (option_to_list other) lacking s ≡ quotient_made s to p q
  made_is =
      ap (λ z. set_slot to (Word (variable (length s.vars))) (record (with_variables (quotient_info ∷ []) (begun s)) { pure = z }))
      (sym (both_assumed s.vars (s.vars ++ quotient_info ∷ []) s.pure (length s.vars) p q other lacking o l e h))
