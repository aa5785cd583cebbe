-- The alternatives of divisions, worked by hand.
use Rattle.std.specs.Prelude.{◌≡◌, ℕ, pos, negsuc, List, [], ◌∷◌, ◌++◌, None, replicate}
use Rattle.px_base.specs.declared.trace.Kind.TheVariants.{DivisionByZero}
use Rattle.px_terms.specs.Polynomials.{Polynomial}
use Rattle.px_terms.specs.declared.types.ValueType.TheVariants.{Int}
use Rattle.px_terms.specs.declared.variables.Sort.TheVariants as sort
use Rattle.px_terms.specs.declared.conjuncts.Content.TheVariants.{Word}
use Rattle.px_terms.specs.declared.conjuncts.Conj.{Conj}
use Rattle.px_terms.specs.declared.conjuncts.Conj.TheVariants as conjunct
use Rattle.px_core.specs.declared.command.Operand.{Operand}
use Rattle.px_core.specs.declared.command.Operand.TheVariants as operand
use Rattle.px_core.specs.CommandTree.{divide}
use Rattle.px_entry.specs.declared.entries.Exit.TheVariants.{Error}
use Rattle.px_entry.specs.declared.tables.LongKind.TheVariants as long
use Rattle.px_callgraph.specs.declared.states.State.{State}
use Rattle.px_callgraph.specs.declared.states.Alternative.{Alternative}
use Rattle.px_callgraph.specs.declared.states.Alternative.TheVariants.{Next, Ends}
use Rattle.px_callgraph.specs.Alternatives.{alternatives}
use Rattle.px_callgraph.specs.WorkedStates.{here, var, of_sort, constant, x_plus, word_of, job}
use Rattle.px_callgraph.specs.WorkedCommands.{with_n, second_is, far, less_than_five, too_long}

-- the second slot gets a over b in a state with n
abbrev pub divided : State → Operand → Operand → List Alternative
divided s a b = alternatives job s (divide 1 a b here)

-- n is 0, and it isn't
abbrev pub is_zero : Conj
is_zero = conjunct.Equal (x_plus 0 0)

abbrev pub is_other : Conj
is_other = conjunct.Unequal (x_plus 0 0)

-- x1 is the quotient
abbrev pub is_quotient : Polynomial → Polynomial → Conj
is_quotient p q = conjunct.Quotient (var 1) p q

-- it ends in a division by 0, with these conjuncts
abbrev pub by_zero : List Conj → Alternative
by_zero pure = Ends (record with_n { pure = pure; steps = 1 }) (Error DivisionByZero here) None

-- x1 is new, and the second slot has it
abbrev pub by_input : List Conj → Alternative
by_input pure = Next (record (second_is (word_of 1) with_n) { vars = of_sort sort.Given Int ∷ of_sort sort.Input Int ∷ []; pure = pure })

abbrev pub by_constant : ℕ → Alternative
by_constant c = Next (second_is (Word (constant c)) with_n)

pub record WorkedDivisions : Type 0 where
  -- 10 / n: by 0, and by what isn't 0
  pub by_variable : divided with_n (operand.Word (pos 10)) (operand.Slot 0) ≡ by_zero (is_zero ∷ []) ∷ by_input (is_other ∷ is_quotient (constant 10) (x_plus 0 0) ∷ []) ∷ []
  -- that n isn't 0 stands there already
  pub stands : divided (record with_n { pure = is_other ∷ [] }) (operand.Word (pos 10)) (operand.Slot 0) ≡
      by_zero (is_other ∷ is_zero ∷ []) ∷ by_input (is_other ∷ is_quotient (constant 10) (x_plus 0 0) ∷ []) ∷ []
  -- n / 2
  pub of_variable : divided with_n (operand.Slot 0) (operand.Word (pos 2)) ≡ by_input (is_quotient (x_plus 0 0) (constant 2) ∷ []) ∷ []
  -- n / 0, and 7 / 0
  pub never : divided with_n (operand.Slot 0) (operand.Word (pos 0)) ≡ by_zero [] ∷ []
  pub constant_by_zero : divided with_n (operand.Word (pos 7)) (operand.Word (pos 0)) ≡ by_zero [] ∷ []
  -- -7 / 2 is -3: truncated towards zero
  pub constants : divided with_n (operand.Word (negsuc 6)) (operand.Word (pos 2)) ≡ by_constant 4294967293 ∷ []
  -- the least int by -1 is itself
  pub least : divided with_n (operand.Word (negsuc 2147483647)) (operand.Word (negsuc 0)) ≡ by_constant 2147483648 ∷ []
  -- a place isn't divided, and neither is what was never written
  pub not_words : divided with_n (operand.Slot 0) operand.Null ≡ []
  pub unwritten : divided with_n (operand.Slot 1) (operand.Word (pos 2)) ≡ []
  -- that n is 0 is the 200th conjunct; that it isn't and the quotient are one too many
  pub conjunct_too_many : divided (far 0 199 0) (operand.Word (pos 10)) (operand.Slot 0) ≡
      by_zero (replicate 199 less_than_five ++ is_zero ∷ []) ∷ too_long (far 0 199 0) long.Conjuncts ∷ []
  pub steps : divided (far 0 0 4000) (operand.Slot 0) (operand.Word (pos 0)) ≡ too_long (far 0 0 4000) long.Steps ∷ []
