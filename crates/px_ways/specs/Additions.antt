-- What acts add to a state.
use Rattle.std.specs.Prelude.{ℕ, pos, negsuc, Bool, true, false, List, [], ◌∷◌, ◌++◌, length}
use Rattle.px_base.specs.declared.trace.Site.{Site}
use Rattle.px_base.specs.declared.trace.MarkKind.TheVariants as mark
use Rattle.px_terms.specs.Polynomials.{Polynomial}
use Rattle.px_terms.specs.Substitutions.{variable}
use Rattle.px_terms.specs.declared.types.ValueType.TheVariants.{Int}
use Rattle.px_terms.specs.declared.variables.Sort.TheVariants as sort
use Rattle.px_terms.specs.declared.conjuncts.Content.TheVariants.{Word}
use Rattle.px_terms.specs.declared.conjuncts.Conj.{Conj}
use Rattle.px_terms.specs.declared.conjuncts.Conj.TheVariants.{AtMost, Quotient}
use Rattle.px_callgraph.specs.declared.states.State.{State}
use Rattle.px_callgraph.specs.States.{number, begun, marked, set_slot, info, with_variables}

-- one more open loop, whose body was begun so often
abbrev pub with_loop : Site → ℕ → State → State
with_loop site made s = record s { loops = s.loops ++ (site, made) ∷ [] }

-- more conjuncts
abbrev pub with_conjuncts : List Conj → State → State
with_conjuncts new s = record s { pure = s.pure ++ new }

-- a conjunct, where it is to be added
abbrev pub kept_if : Bool → Conj → List Conj
kept_if true c = c ∷ []
kept_if false c = []

-- the two bounds of an input, which is the variable with this number
abbrev pub least_bound : ℕ → Conj
least_bound x = AtMost (number (negsuc 0)) (variable x)

abbrev pub most_bound : ℕ → Conj
most_bound x = AtMost (variable x) (number (pos 255))

-- a value from outside, by a new variable, with those of its bounds that are to be added
abbrev pub with_input : ℕ → Site → Bool → Bool → State → State
with_input to site least most s =
    set_slot to (Word (variable (length s.vars)))
    (with_conjuncts (kept_if most (most_bound (length s.vars))) (with_conjuncts (kept_if least (least_bound (length s.vars)))
    (with_variables (info sort.Input Int ∷ []) (marked mark.Input site (begun s)))))

-- that the variable with this number is a quotient
abbrev pub quotient_bound : ℕ → Polynomial → Polynomial → Conj
quotient_bound x p q = Quotient (record { 0 = x }) p q

-- a quotient, by a new variable: what is assumed before, and that it is this quotient, where that is to be added
abbrev pub with_quotient : ℕ → Polynomial → Polynomial → List Conj → Bool → State → State
with_quotient to p q other lacking s =
    set_slot to (Word (variable (length s.vars)))
    (with_conjuncts (kept_if lacking (quotient_bound (length s.vars) p q))
    (with_variables (info sort.Input Int ∷ []) (with_conjuncts other (begun s))))
