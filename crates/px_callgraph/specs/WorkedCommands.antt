-- The alternatives of commands on words, of loops and of limits, worked by hand.
use Rattle.std.specs.Prelude.{◌≡◌, ℕ, zero, suc, pos, negsuc, List, [], ◌∷◌, ◌++◌, Some, None, replicate}
use Rattle.px_base.specs.declared.trace.MarkKind.TheVariants as mark
use Rattle.px_base.specs.declared.trace.Kind.TheVariants.{UninitialisedRead}
use Rattle.px_base.specs.declared.trace.MarkKind.{MarkKind}
use Rattle.px_terms.specs.Terms.{Term}
use Rattle.px_terms.specs.declared.conjuncts.Content.{Content}
use Rattle.px_entry.specs.declared.tables.LongKind.{LongKind}
use Rattle.px_terms.specs.declared.types.ValueType.TheVariants.{Int, Pointer}
use Rattle.px_terms.specs.declared.variables.Sort.TheVariants as sort
use Rattle.px_terms.specs.declared.conjuncts.Content.TheVariants.{Unwritten, Word, Cell}
use Rattle.px_terms.specs.declared.conjuncts.Conj.{Conj}
use Rattle.px_terms.specs.declared.conjuncts.Conj.TheVariants as conjunct
use Rattle.px_core.specs.declared.command.Operand.TheVariants as operand
use Rattle.px_core.specs.declared.command.Operator.TheVariants.{Neg, Add, Mul}
use Rattle.px_core.specs.declared.command.Comparison.TheVariants.{Equal, Less, AtMost}
use Rattle.px_core.specs.CommandTree.{CommandTree, assign, unset, read, test, loop, leave, input, return, break, continue, stop, no_commands}
use Rattle.px_entry.specs.declared.entries.Exit.TheVariants.{Ok, Error}
use Rattle.px_entry.specs.declared.tables.Cause.TheVariants.{Long, Outside}
use Rattle.px_entry.specs.declared.tables.LongKind.TheVariants as long
use Rattle.px_callgraph.specs.declared.states.State.{State}
use Rattle.px_callgraph.specs.declared.states.Alternative.{Alternative}
use Rattle.px_callgraph.specs.declared.states.Alternative.TheVariants.{Next, Ends, Cut, Beyond}
use Rattle.px_callgraph.specs.Alternatives.{alternatives}
use Rattle.px_callgraph.specs.WorkedStates.{here, node, var, of_sort, times, poly, constant, x_plus, word_of, place_of, a_mark, a_gap, plain, job_with, job}

-- ---- words and tests

-- x0 is a parameter `int n`, the second slot is free
abbrev pub with_n : State
with_n = plain (word_of 0 ∷ Unwritten ∷ []) (of_sort sort.Given Int ∷ [])

-- one command was done: the second slot has this content
abbrev pub second_is : Content → State → State
second_is c s = record s { slots = word_of 0 ∷ c ∷ []; steps = suc s.steps }

-- one test was done
abbrev pub tested : MarkKind → ℕ → List Conj → State → Alternative
tested kind outcome pure s = Next (record (second_is (Word (constant outcome)) s) { pure = pure; trace = s.trace ++ a_mark kind ∷ [] })

abbrev pub less_than_five : Conj
less_than_five = conjunct.Less (x_plus 0 0) (constant 5)

abbrev pub n_less_than_five : CommandTree
n_less_than_five = test 1 Less (operand.Slot 0) (operand.Word (pos 5)) here

-- the first two slots have sums of 9 and of 8 variables
abbrev pub sum_of_variables : ℕ → ℕ → List Term
sum_of_variables x zero = []
sum_of_variables x (suc n) = times 1 x ∷ sum_of_variables (suc x) n

abbrev pub with_sums : State
with_sums = plain (Word (poly 0 (sum_of_variables 0 9)) ∷ Word (poly 0 (sum_of_variables 9 8)) ∷ []) (replicate 17 (of_sort sort.Given Int))

-- the first slot has x0 to the third power
abbrev pub with_cube : State
with_cube = record with_n { slots = Word (poly 0 (record { coefficient = 1; vars = 0 ∷ 0 ∷ 0 ∷ [] } ∷ [])) ∷ Unwritten ∷ [] }

pub record WorkedWords : Type 0 where
  -- n == 10
  pub equal : alternatives job with_n (test 1 Equal (operand.Slot 0) (operand.Word (pos 10)) here) ≡
      tested mark.Then 1 (conjunct.Equal (x_plus 0 4294967286) ∷ []) with_n
      ∷ tested mark.Else 0 (conjunct.Unequal (x_plus 0 4294967286) ∷ []) with_n ∷ []
  -- 3 < 2 is decided
  pub decided : alternatives job with_n (test 1 Less (operand.Word (pos 3)) (operand.Word (pos 2)) here) ≡ tested mark.Else 0 [] with_n ∷ []
  -- -3 <= 2 is, too: orders are signed
  pub signed : alternatives job with_n (test 1 AtMost (operand.Word (negsuc 2)) (operand.Word (pos 2)) here) ≡ tested mark.Then 1 [] with_n ∷ []
  -- n < 5 stands there already; its contrary is 5 <= n
  pub stands : alternatives job (record with_n { pure = less_than_five ∷ [] }) n_less_than_five ≡
      tested mark.Then 1 (less_than_five ∷ []) with_n ∷ tested mark.Else 0 (less_than_five ∷ conjunct.AtMost (constant 5) (x_plus 0 0) ∷ []) with_n ∷ []
  pub negated : alternatives job with_n (assign 1 Neg (operand.Slot 0) (operand.Word (pos 0))) ≡
      Next (second_is (Word (poly 0 (times 4294967295 0 ∷ []))) with_n) ∷ []
  pub unset_slot : alternatives job with_n (unset 1) ≡ Next (second_is Unwritten with_n) ∷ []
  -- n + NULL doesn't fit
  pub not_words : alternatives job with_n (assign 1 Add (operand.Slot 0) operand.Null) ≡ []
  pub input_byte : alternatives job with_n (input 1 here) ≡
      Next (record (second_is (word_of 1) with_n) {
        vars = of_sort sort.Given Int ∷ of_sort sort.Input Int ∷ [];
        pure = conjunct.AtMost (constant 4294967295) (x_plus 1 0) ∷ conjunct.AtMost (x_plus 1 0) (constant 255) ∷ [];
        trace = a_mark mark.Input ∷ [];
      }) ∷ []
  -- a read of a word, of what was never written, and of what stands in a cell
  pub read_word : alternatives job with_n (read 0 here) ≡ Next (record with_n { steps = 1 }) ∷ []
  pub read_unwritten : alternatives job with_n (read 1 here) ≡ Ends (record with_n { steps = 1 }) (Error UninitialisedRead here) None ∷ []
  pub read_cell : alternatives job (plain (Cell (var 0) ∷ []) (of_sort sort.Cell (Pointer node) ∷ [])) (read 0 here) ≡
      Next (record (plain (place_of 0 ∷ []) (of_sort sort.Cell (Pointer node) ∷ [])) { pure = conjunct.Written (var 0) ∷ []; steps = 1 })
      ∷ Ends (record (plain (Cell (var 0) ∷ []) (of_sort sort.Cell (Pointer node) ∷ [])) { pure = conjunct.Unwritten (var 0) ∷ []; steps = 1 }) (Error UninitialisedRead here) None ∷ []
  -- what is returned has the type of the results
  pub return_word : alternatives (job_with (Some Int) []) with_n (return (Some (operand.Slot 0))) ≡ Ends (record with_n { steps = 1 }) Ok (Some (word_of 0)) ∷ []
  pub return_nothing : alternatives (job_with (Some Int) []) with_n (return None) ≡ Ends (record with_n { steps = 1 }) Ok (Some Unwritten) ∷ []
  pub return_too_much : alternatives job with_n (return (Some (operand.Slot 0))) ≡ []
  pub return_wrong_type : alternatives (job_with (Some (Pointer node)) []) with_n (return (Some (operand.Slot 0))) ≡ []
  -- what isn't understood is a drop, with no conjunct and no mark
  pub stopped : alternatives job with_n (stop 7 here) ≡ Cut (a_gap [] (Outside 7)) ∷ []

-- ---- loops

abbrev pub a_loop : CommandTree
a_loop = loop here no_commands no_commands no_commands

-- in a loop whose body was begun so often, in another
abbrev pub in_loops : ℕ → State
in_loops made = record with_n { loops = (here, 1) ∷ (here, made) ∷ [] }

pub record WorkedLoops : Type 0 where
  -- at the end of the head, with a bound of 3
  pub once_more : alternatives job (in_loops 2) a_loop ≡ Next (record (in_loops 3) { trace = a_mark mark.Iter ∷ [] }) ∷ []
  pub beyond : alternatives job (in_loops 3) a_loop ≡ Beyond ∷ []
  pub left : alternatives job (in_loops 2) leave ≡ Next (record with_n { loops = (here, 1) ∷ []; trace = a_mark mark.Done ∷ []; steps = 1 }) ∷ []
  pub broken : alternatives job (in_loops 2) break ≡ Next (record with_n { loops = (here, 1) ∷ []; steps = 1 }) ∷ []
  pub continued : alternatives job (in_loops 2) continue ≡ Next (record (in_loops 2) { steps = 1 }) ∷ []
  pub in_none : alternatives job with_n leave ≡ []

-- ---- limits

-- a state with so many marks, conjuncts and commands begun
abbrev pub far : ℕ → ℕ → ℕ → State
far marks conjuncts steps = record with_n { trace = replicate marks (a_mark mark.Access); pure = replicate conjuncts less_than_five; steps = steps }

abbrev pub too_long : State → LongKind → Alternative
too_long s kind = Cut (a_gap s.trace (Long kind))

pub record WorkedLimits : Type 0 where
  -- each alternative that is listed is a drop
  pub full_trace : alternatives job (far 256 0 0) n_less_than_five ≡ too_long (far 256 0 0) long.Trace ∷ too_long (far 256 0 0) long.Trace ∷ []
  -- the first of several limits
  pub first : alternatives job (far 256 200 4000) n_less_than_five ≡ too_long (far 256 200 4000) long.Trace ∷ too_long (far 256 200 4000) long.Trace ∷ []
  pub steps : alternatives job (far 0 0 4000) (unset 1) ≡ too_long (far 0 0 4000) long.Steps ∷ []
  -- what isn't understood is a command that begins
  pub stop_too_far : alternatives job (far 0 0 4000) (stop 7 here) ≡ too_long (far 0 0 4000) long.Steps ∷ []
  -- n < 5 stands there, and 5 <= n is the 200th conjunct, or one more
  pub last_conjunct : alternatives job (far 0 199 0) n_less_than_five ≡
      tested mark.Then 1 (replicate 199 less_than_five) with_n ∷ tested mark.Else 0 (replicate 199 less_than_five ++ conjunct.AtMost (constant 5) (x_plus 0 0) ∷ []) with_n ∷ []
  pub conjunct_too_many : alternatives job (far 0 200 0) n_less_than_five ≡
      tested mark.Then 1 (replicate 200 less_than_five) with_n ∷ too_long (far 0 200 0) long.Conjuncts ∷ []
  -- a difference of 17 monomials: neither side is decided
  pub long_difference : alternatives job with_sums (test 0 Equal (operand.Slot 0) (operand.Slot 1) here) ≡ too_long with_sums long.Term ∷ too_long with_sums long.Term ∷ []
  -- and as the 201st conjunct
  pub long_conjunct : alternatives job (record with_sums { pure = replicate 200 less_than_five }) (test 0 Equal (operand.Slot 0) (operand.Slot 1) here) ≡
      too_long with_sums long.Conjuncts ∷ too_long with_sums long.Conjuncts ∷ []
  -- a product of degree 6
  pub long_product : alternatives job with_cube (assign 1 Mul (operand.Slot 0) (operand.Slot 0)) ≡ too_long with_cube long.Term ∷ []
