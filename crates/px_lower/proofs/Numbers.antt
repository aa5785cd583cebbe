-- New slots are taken in order: what lowering uses lies below the next new slot.
use Rattle.std.proofs.Common.{◌≡◌, ℕ, suc, ◌<◌, ◌≤◌, Option, None, Some, subst, arith, le_refl, le_trans}
use Rattle.std.proofs.lemmas.Option.{same_Some}
use Rattle.px_base.specs.declared.trace.Site.{Site}
use Rattle.px_base.specs.declared.trace.FieldId.{FieldId}
use Rattle.px_terms.specs.declared.types.TypeId.{TypeId}
use Rattle.px_syntax.specs.declared.typed_expression.Arithmetic.{Arithmetic}
use Rattle.px_syntax.specs.TypedTree.{Expression, constant, null, local, negated, arithmetic, truth, cell, allocate, get_char, call, stop, Expressions, no_expressions, an_expression, Arguments, no_arguments, an_argument, passed, erased, Condition, compare, word, pointer, both, either, opposite, Place, local_place, cell_place, Statement, block, declare, assign, update, run_call, free, input, choose, loop, break, continue, return, evaluate, access, Statements, no_statements, a_statement}
use Rattle.px_syntax.specs.declared.typed_expression.Arithmetic.TheVariants.{Add, Subtract, Multiply, Divide, Remainder}
use Rattle.px_core.specs.declared.command.Operand.{Operand}
use Rattle.px_core.specs.declared.command.Operand.TheVariants.{Slot, Word, Null}
use Rattle.px_core.specs.WellFormed.{IsOperandBelow}
use Rattle.px_lower.specs.Lowering.{lowered_expression, lowered_arguments, lowered_passed, lowered_condition, reached, copied, lowered_declaration, lowered_assignment, lowered_update, lowered_access, lowered_head, lowered_return, lowered_statement, lowered_statements, result_slot}
use Rattle.px_lower.specs.Scopes.{IsWithin}
use Rattle.px_lower.proofs.Sequences.{grown, valued}

pub one_more : (n : ℕ) → n ≤ suc n
one_more n = omega arith

-- the slot of a result is a new one
pub result_more : (op : Arithmetic) (n : ℕ) → n ≤ suc (result_slot op n)
result_more Add n = one_more n
result_more Subtract n = one_more n
result_more Multiply n = one_more n
result_more (Divide site) n = one_more n
result_more (Remainder site) n = omega arith

-- a right side, whose outcome is copied
right_grows : (d : Condition) (to : ℕ) → suc to ≤ (lowered_condition d (suc to)).next → suc to ≤ (copied to (lowered_condition d (suc to))).next
right_grows d to h = grown (lowered_condition d (suc to)) _ (suc to) h (λ right. le_refl _)

mutual
  pub grows : (e : Expression) (n : ℕ) → n ≤ (lowered_expression e n).next
  grows (constant z) n = le_refl n
  grows null n = le_refl n
  grows (local i site) n = le_refl n
  grows (negated e) n = grown (lowered_expression e n) _ n (grows e n) (λ x. one_more _)
  grows (arithmetic op a b) n =
      grown (lowered_expression a n) _ n (grows a n) (λ x.
      let m = (lowered_expression a n).next in
      grown (lowered_expression b m) _ m (grows b m) (λ y. result_more op _))
  grows (truth c) n = grown (lowered_condition c n) _ n (grows_test c n) (λ x. le_refl _)
  grows (cell p field t site) n = grown (lowered_expression p n) _ n (grows p n) (λ x. one_more _)
  grows (allocate t site) n = one_more n
  grows (get_char site) n = one_more n
  grows (call proc arguments result site) n = grown (lowered_arguments arguments n) _ n (grows_each arguments n) (λ xs. one_more _)
  grows (stop number site parts) n = grown (lowered_passed parts n) _ n (grows_passed parts n) (λ x. le_refl _)

  pub grows_each : (es : Arguments) (n : ℕ) → n ≤ (lowered_arguments es n).next
  grows_each no_arguments n = le_refl n
  grows_each (an_argument (passed e) rest) n =
      grown (lowered_expression e n) _ n (grows e n) (λ x.
      let m = (lowered_expression e n).next in
      grown (lowered_arguments rest m) _ m (grows_each rest m) (λ xs. le_refl _))
  grows_each (an_argument (erased parts) rest) n = grown (lowered_passed parts n) _ n (grows_passed parts n) (λ x. grows_each rest (lowered_passed parts n).next)

  pub grows_passed : (es : Expressions) (n : ℕ) → n ≤ (lowered_passed es n).next
  grows_passed no_expressions n = le_refl n
  grows_passed (an_expression (local i site) rest) n = grows_passed rest n
  grows_passed (an_expression (cell p field t site) rest) n =
      grown (lowered_expression p n) _ n (grows p n) (λ x. let m = (lowered_expression p n).next in le_trans (one_more m) (grows_passed rest (suc m)))
  grows_passed (an_expression (call proc arguments result site) rest) n =
      grown (lowered_arguments arguments n) _ n (grows_each arguments n) (λ xs. grows_passed rest (lowered_arguments arguments n).next)
  grows_passed (an_expression (constant z) rest) n = grown (lowered_expression (constant z) n) (λ _ n. lowered_passed rest n) n (grows (constant z) n) (λ x. grows_passed rest (lowered_expression (constant z) n).next)
  grows_passed (an_expression null rest) n = grown (lowered_expression null n) (λ _ n. lowered_passed rest n) n (grows null n) (λ x. grows_passed rest (lowered_expression null n).next)
  grows_passed (an_expression (negated e) rest) n = grown (lowered_expression (negated e) n) (λ _ n. lowered_passed rest n) n (grows (negated e) n) (λ x. grows_passed rest (lowered_expression (negated e) n).next)
  grows_passed (an_expression (arithmetic op a b) rest) n = grown (lowered_expression (arithmetic op a b) n) (λ _ n. lowered_passed rest n) n (grows (arithmetic op a b) n) (λ x. grows_passed rest (lowered_expression (arithmetic op a b) n).next)
  grows_passed (an_expression (truth c) rest) n = grown (lowered_expression (truth c) n) (λ _ n. lowered_passed rest n) n (grows (truth c) n) (λ x. grows_passed rest (lowered_expression (truth c) n).next)
  grows_passed (an_expression (allocate t site) rest) n = grown (lowered_expression (allocate t site) n) (λ _ n. lowered_passed rest n) n (grows (allocate t site) n) (λ x. grows_passed rest (lowered_expression (allocate t site) n).next)
  grows_passed (an_expression (get_char site) rest) n = grown (lowered_expression (get_char site) n) (λ _ n. lowered_passed rest n) n (grows (get_char site) n) (λ x. grows_passed rest (lowered_expression (get_char site) n).next)
  grows_passed (an_expression (stop number site parts) rest) n = grown (lowered_expression (stop number site parts) n) (λ _ n. lowered_passed rest n) n (grows (stop number site parts) n) (λ x. grows_passed rest (lowered_expression (stop number site parts) n).next)

  pub grows_test : (c : Condition) (n : ℕ) → n ≤ (lowered_condition c n).next
  grows_test (compare r a b site) n =
      grown (lowered_expression a n) _ n (grows a n) (λ x.
      let m = (lowered_expression a n).next in
      grown (lowered_expression b m) _ m (grows b m) (λ y. one_more _))
  grows_test (word e site) n = grown (lowered_expression e n) _ n (grows e n) (λ x. one_more _)
  grows_test (pointer e site) n = grown (lowered_expression e n) _ n (grows e n) (λ x. one_more _)
  grows_test (both c d) n = grown (lowered_condition c n) _ n (grows_test c n) (λ left. le_trans (one_more _) (right_grows d (lowered_condition c n).next (grows_test d (suc (lowered_condition c n).next))))
  grows_test (either c d) n = grown (lowered_condition c n) _ n (grows_test c n) (λ left. le_trans (one_more _) (right_grows d (lowered_condition c n).next (grows_test d (suc (lowered_condition c n).next))))
  grows_test (opposite c) n = grown (lowered_condition c n) _ n (grows_test c n) (λ x. one_more _)

pub grows_right : (d : Condition) (to : ℕ) → suc to ≤ (copied to (lowered_condition d (suc to))).next
grows_right d to = right_grows d to (grows_test d (suc to))

-- a condition's slot is below the next one
at_next : (n slot : ℕ) → Some n ≡ Some slot → slot < suc n
at_next n slot e = let q : n ≡ slot = same_Some n slot e in omega arith

below_right : (d : Condition) (to slot : ℕ) → Some to ≡ Some slot → slot < (copied to (lowered_condition d (suc to))).next
below_right d to slot e = subst (λ s. s < (copied to (lowered_condition d (suc to))).next) (same_Some to slot e) (grows_right d to)

pub slot_below : (c : Condition) (n slot : ℕ) → (lowered_condition c n).value ≡ Some slot → slot < (lowered_condition c n).next
slot_below (compare r a b site) n =
    valued (lowered_expression a n) _ (λ next slot. slot < next) (λ x _.
    valued (lowered_expression b (lowered_expression a n).next) _ (λ next slot. slot < next) (λ y _ slot is. at_next _ slot is))
slot_below (word e site) n = valued (lowered_expression e n) _ (λ next slot. slot < next) (λ x _ slot is. at_next _ slot is)
slot_below (pointer e site) n = valued (lowered_expression e n) _ (λ next slot. slot < next) (λ x _ slot is. at_next _ slot is)
slot_below (both c d) n = valued (lowered_condition c n) _ (λ next slot. slot < next) (λ left _ slot is. below_right d (lowered_condition c n).next slot is)
slot_below (either c d) n = valued (lowered_condition c n) _ (λ next slot. slot < next) (λ left _ slot is. below_right d (lowered_condition c n).next slot is)
slot_below (opposite c) n = valued (lowered_condition c n) _ (λ next slot. slot < next) (λ x _ slot is. at_next _ slot is)

-- so is the operand of an expression
operand_is : (n : ℕ) (a b : Operand) → Some a ≡ Some b → IsOperandBelow n a → IsOperandBelow n b
operand_is n a b e h = subst (IsOperandBelow n) (same_Some a b e) h

in_next : (n : ℕ) (a : Operand) → Some (Slot n) ≡ Some a → IsOperandBelow (suc n) a
in_next n a e = operand_is (suc n) (Slot n) a e (let q : n < suc n = omega arith in q)

pub operand_below : (m n : ℕ) (e : Expression) → IsWithin m e → m ≤ n → (a : Operand) → (lowered_expression e n).value ≡ Some a → IsOperandBelow (lowered_expression e n).next a
operand_below m n (constant z) h le a is = operand_is n (Word z) a is tt
operand_below m n null h le a is = operand_is n Null a is tt
operand_below m n (local i site) h le a is = operand_is n (Slot i) a is (let q : i < n = omega arith in q)
operand_below m n (negated e) h le a is = valued (lowered_expression e n) _ (λ next a. IsOperandBelow next a) (λ x _ a is. in_next _ a is) a is
operand_below m n (arithmetic op l r) h le a is =
    valued (lowered_expression l n) _ (λ next a. IsOperandBelow next a) (λ x _.
    valued (lowered_expression r (lowered_expression l n).next) _ (λ next a. IsOperandBelow next a) (λ y _ a is. in_next _ a is)) a is
operand_below m n (truth c) h le a is =
    valued (lowered_condition c n) _ (λ next a. IsOperandBelow next a) (λ slot there a is. operand_is _ (Slot slot) a is (slot_below c n slot there)) a is
operand_below m n (cell p field t site) h le a is = valued (lowered_expression p n) _ (λ next a. IsOperandBelow next a) (λ x _ a is. in_next _ a is) a is
operand_below m n (allocate t site) h le a is = in_next n a is
operand_below m n (get_char site) h le a is = in_next n a is
operand_below m n (call proc arguments result site) h le a is = valued (lowered_arguments arguments n) _ (λ next a. IsOperandBelow next a) (λ xs _ a is. in_next _ a is) a is
operand_below m n (stop number site parts) h le a is = valued (lowered_passed parts n) _ (λ next a. IsOperandBelow next a) (λ x _ a is. cc) a is

pub grows_declaration : (i : ℕ) (e : Option Expression) (n : ℕ) → n ≤ (lowered_declaration i e n).next
grows_declaration i None n = le_refl n
grows_declaration i (Some e) n = grown (lowered_expression e n) _ n (grows e n) (λ x. le_refl _)

pub grows_assignment : (place : Place) (e : Expression) (n : ℕ) → n ≤ (lowered_assignment place e n).next
grows_assignment (local_place i at) e n = grown (lowered_expression e n) _ n (grows e n) (λ x. le_refl _)
grows_assignment (cell_place p field t site) e n =
    grown (lowered_expression p n) _ n (grows p n) (λ at.
    let m = (lowered_expression p n).next in
    grown (lowered_expression e m) _ m (grows e m) (λ x. le_refl _))

pub grows_update : (op : Arithmetic) (place : Place) (e : Expression) (n : ℕ) → n ≤ (lowered_update op place e n).next
grows_update op (local_place i at) e n = grown (lowered_expression e n) _ n (grows e n) (λ x. result_more op _)
grows_update op (cell_place p field t site) e n =
    grown (lowered_expression p n) _ n (grows p n) (λ at.
    let m = (lowered_expression p n).next in
    le_trans (one_more m) (grown (lowered_expression e (suc m)) _ (suc m) (grows e (suc m)) (λ x. result_more op _)))

pub grows_access : (p : Expression) (parts : Expressions) (field : FieldId) (t : TypeId) (site : Site) (n : ℕ) → n ≤ (lowered_access p parts field t site n).next
grows_access p parts field t site n =
    grown (lowered_expression p n) _ n (grows p n) (λ at.
    let m = (lowered_expression p n).next in
    grown (lowered_passed parts m) (λ _ n. reached at field t site n) m (grows_passed parts m) (λ u. one_more (lowered_passed parts m).next))

pub grows_head : (c : Option Condition) (n : ℕ) → n ≤ (lowered_head c n).next
grows_head None n = le_refl n
grows_head (Some c) n = grown (lowered_condition c n) _ n (grows_test c n) (λ slot. le_refl _)

pub grows_return : (e : Option Expression) (n : ℕ) → n ≤ (lowered_return e n).next
grows_return None n = le_refl n
grows_return (Some e) n = grown (lowered_expression e n) _ n (grows e n) (λ x. le_refl _)

mutual
  pub grows_statement : (s : Statement) (n : ℕ) → n ≤ (lowered_statement s n).next
  grows_statement (block statements) n = grows_statements statements n
  grows_statement (declare i e) n = grows_declaration i e n
  grows_statement (assign place e) n = grows_assignment place e n
  grows_statement (update op place e) n = grows_update op place e n
  grows_statement (run_call proc arguments site) n = grown (lowered_arguments arguments n) _ n (grows_each arguments n) (λ xs. le_refl _)
  grows_statement (free e t site) n = grown (lowered_expression e n) _ n (grows e n) (λ x. le_refl _)
  grows_statement (input site) n = one_more n
  grows_statement (choose c first second) n =
      grown (lowered_condition c n) _ n (grows_test c n) (λ slot.
      let m = (lowered_condition c n).next in
      le_trans (grows_statement first m) (grows_statement second (lowered_statement first m).next))
  grows_statement (loop site c body step) n =
      le_trans (grows_head c n) (le_trans (grows_statement body (lowered_head c n).next) (grows_statement step (lowered_statement body (lowered_head c n).next).next))
  grows_statement break n = le_refl n
  grows_statement continue n = le_refl n
  grows_statement (return e) n = grows_return e n
  grows_statement (evaluate e) n = grows_passed (an_expression e no_expressions) n
  grows_statement (access p parts field t site) n = grows_access p parts field t site n

  pub grows_statements : (ss : Statements) (n : ℕ) → n ≤ (lowered_statements ss n).next
  grows_statements no_statements n = le_refl n
  grows_statements (a_statement s rest) n =
      grown (lowered_statement s n) _ n (grows_statement s n) (λ _. grows_statements rest (lowered_statement s n).next)
