-- The commands of a tree that keeps the typing rules keep to types, and are well-formed.
use Rattle.std.proofs.Common.{◌≡◌, ◌∙◌, ℕ, suc, pos, ◌<◌, ◌≤◌, Bool, true, false, IsTrue, List, [], ◌∷◌, ◌++◌, Option, None, Some, IfSome, IsSomeAnd, refl, sym, ap, subst, arith, le_trans, option_map}
use Rattle.std.specs.Prelude.{⊤}
use Rattle.px_base.specs.declared.trace.Site.{Site}
use Rattle.px_base.specs.declared.trace.FieldId.{FieldId}
use Rattle.px_core.specs.declared.command.Operand.{Operand}
use Rattle.px_core.specs.declared.command.Operand.TheVariants as operand
use Rattle.px_core.specs.declared.command.Operator.{Operator}
use Rattle.px_core.specs.declared.command.Operator.TheVariants.{Copy, Neg, Add, Sub, Mul}
use Rattle.px_core.specs.CommandTree.{CommandTree, CommandTrees, commands_of, no_commands}
use Rattle.px_core.specs.CommandTree as command
use Rattle.px_core.specs.WellFormed.{Where, InHead, InBody, InStep, IsBreakable, IsOperandBelow, AreOperandsBelow, to_be_settled, SettlesNext, IsWellFormed, AreWellFormed}
use Rattle.px_syntax.specs.declared.typed_expression.Arithmetic.{Arithmetic}
use Rattle.px_syntax.specs.declared.typed_expression.Arithmetic.TheVariants as arith
use Rattle.px_syntax.specs.declared.typed_expression.Relation.{Relation}
use Rattle.px_syntax.specs.declared.typed_expression.Relation.TheVariants as relation
use Rattle.px_syntax.specs.TypedTree.{Expression, constant, null, local, negated, arithmetic, truth, cell, allocate, get_char, call, stop, Expressions, no_expressions, an_expression, Arguments, no_arguments, an_argument, passed, erased, Condition, compare, word, pointer, both, either, opposite, Place, local_place, cell_place, Statement, block, declare, assign, update, run_call, free, input, choose, loop, break, continue, return, evaluate, access, Statements, no_statements, a_statement}
use Rattle.px_syntax.specs.ProgramTree.{ProcedureTree}
use Rattle.px_meaning.specs.Values.{TypeId, ValueType, Int, Pointer}
use Rattle.px_meaning.specs.CoreTypes.{SlotTypes, IsOperandOf, AreOperandsOf, IsOperationOf, IsTyped, AreTyped}
use Rattle.px_meaning.specs.TypedProgram.{TypedProgram}
use Rattle.px_meaning.proofs.TypedSteps.{none_fits, one_fits}
use Rattle.px_meaning.specs.TreeTypes.{LocalTypes, type_of_cell, AgreesWith, IsOf, AreOf, ArePassed, IsCondition, IsPlaceOf, IsConditionIf, IsDeclared, IsReturned, IsStep, AreSteps, IsStatement, AreStatements}
use Rattle.px_meaning.proofs.TypedTrees.{defined_some}
use Rattle.px_lower.specs.Lowering.{Lowered, and_then, doing, copy, comparison, copied, loaded, reached, lowered_expression, lowered_arguments, lowered_passed, lowered_condition, lowered_declaration, lowered_assignment, lowered_update, lowered_access, lowered_head, lowered_return, lowered_statement, lowered_statements, applied, result_slot}
use Rattle.px_lower.specs.LoweredProgram.{lowered, lowered_program}
use Rattle.px_lower.proofs.NewSlots.{NewSlot, holding, an_outcome, Kinds, past_then, past_grows, split, Said, Slotted, alone, stopped, slotted_then, slotted_before}

module _ (P : TypedProgram) (locals : LocalTypes) (result : Option ValueType) (m : ℕ) (low : (i : ℕ) (t : ValueType) → locals i ≡ Some t → i < m) where
  -- ---- what is said of commands

  abbrev pub types_in : Kinds → SlotTypes
  types_in K i = (K i).type

  abbrev pub outcomes_in : Kinds → ℕ → Bool
  outcomes_in K i = (K i).outcome

  abbrev pub All : Where → Said (List CommandTree)
  All place K N cs = AreTyped (lowered_program P) (types_in K) result (commands_of cs) × AreWellFormed N (outcomes_in K) place (commands_of cs)

  abbrev OneOf : Where → Kinds → ℕ → CommandTree → Type 0
  OneOf place K N c = IsTyped (lowered_program P) (types_in K) result c × IsWellFormed N (outcomes_in K) place c

  settled_more : (o : Option ℕ) (rest ds : List CommandTree) → IfSome o (λ s. SettlesNext s (commands_of rest)) → IfSome o (λ s. SettlesNext s (commands_of (rest ++ ds)))
  settled_more None rest ds h = tt
  settled_more (Some s) [] ds h = absurd h
  settled_more (Some s) (c ∷ rest) ds h = h

  pub all_more : (place : Where) (K : Kinds) (N : ℕ) (cs ds : List CommandTree) → All place K N cs → All place K N ds → All place K N (cs ++ ds)
  all_more place K N [] ds p q = q
  all_more place K N (c ∷ cs) ds p q =
      let r = all_more place K N cs ds (p.0.1, p.1.2) q in
      ((p.0.0, r.0), (p.1.0, settled_more (to_be_settled c) cs ds p.1.1, r.1))

  pub none : (place : Where) (K : Kinds) (N : ℕ) → All place K N []
  none place K N = (tt, tt)

  -- a command that nothing has to follow
  one : (place : Where) (K : Kinds) (N : ℕ) (c : CommandTree) → to_be_settled c ≡ None → OneOf place K N c → All place K N (c ∷ [])
  one place K N c e h = ((h.0, tt), (h.1, subst (λ o. IfSome o (λ s. SettlesNext s no_commands)) (sym e) tt, tt))

  -- ---- what is said of values

  -- the locals are typed slots below m that aren't outcomes
  abbrev pub Begins : Kinds → ℕ → Type 0
  Begins K N = (m ≤ N) × ((i : ℕ) (t : ValueType) → locals i ≡ Some t → K i ≡ holding t)

  abbrev Of : ValueType → Said Operand
  Of t K N a = IsOperandOf (types_in K) t a × IsOperandBelow N a

  abbrev AllOf : List ValueType → Said (List Operand)
  AllOf ts K N xs = AreOperandsOf (types_in K) ts xs × AreOperandsBelow N xs

  abbrev IsOutcome : Said ℕ
  IsOutcome K N slot = (types_in K slot ≡ Int) × (outcomes_in K slot ≡ true) × (slot < N)

  abbrev pub Any : Said ⊤
  Any K N u = Unit {0}

  kind_type : (k k' : NewSlot) → k ≡ k' → k.type ≡ k'.type
  kind_type k k' e = ap (λ (k : NewSlot). k.type) e

  kind_outcome : (k k' : NewSlot) → k ≡ k' → k.outcome ≡ k'.outcome
  kind_outcome k k' e = ap (λ (k : NewSlot). k.outcome) e

  no_outcome : (b : Bool) {X : Type 0} → b ≡ false → IsTrue b → X
  no_outcome b e h = let d : false ≡ true = sym e ∙ h in cc

  -- ---- single commands

  operand_as : (K : Kinds) (t u : ValueType) (a : Operand) → t ≡ u → IsOperandOf (types_in K) t a → IsOperandOf (types_in K) u a
  operand_as K t u a e h = subst (λ t. IsOperandOf (types_in K) t a) e h

  -- a value that is no outcome, in a slot
  put_in : (place : Where) (K : Kinds) (N to : ℕ) (op : Operator) (a b : Operand) → to < N → outcomes_in K to ≡ false → IsOperandBelow N a → IsOperandBelow N b → IsOperationOf (types_in K) (types_in K to) op a b → All place K N (command.assign to op a b ∷ [])
  put_in place K N to op a b room plain p q typed = one place K N (command.assign to op a b) refl (typed, ((room, p, q, no_outcome (outcomes_in K to) plain)))

  -- a quotient in a slot
  divide_in : (place : Where) (K : Kinds) (N to : ℕ) (a b : Operand) (site : Site) → to < N → K to ≡ holding Int → Of Int K N a → Of Int K N b → All place K N (command.divide to a b site ∷ [])
  divide_in place K N to a b site room is p q =
      one place K N (command.divide to a b site) refl ((kind_type (K to) (holding Int) is, p.0, q.0), ((room, kind_outcome (K to) (holding Int) is), p.1, q.1))

  -- a copy to a local
  to_local : (place : Where) (K : Kinds) (N i : ℕ) (t : ValueType) (a : Operand) → Begins K N → locals i ≡ Some t → Of t K N a → All place K N (copy i a ∷ [])
  to_local place K N i t a g is h =
      let e = g.1 i t is in
      let l = low i t is in
      let room : i < N = let fits : m ≤ N = g.0 in omega arith in
      put_in place K N i Copy a (operand.Word (pos 0)) room (kind_outcome (K i) (holding t) e) h.1 tt (operand_as K t (types_in K i) a (sym (kind_type (K i) (holding t) e)) h.0)

  -- a copy of an outcome
  copy_outcome : (place : Where) (K : Kinds) (N to slot : ℕ) → IsOutcome K N to → IsOutcome K N slot → All place K N (copy to (operand.Slot slot) ∷ [])
  copy_outcome place K N to slot t s = one place K N (copy to (operand.Slot slot)) refl (s.0 ∙ sym t.0, (t.2, s.2, tt, λ _. s.1))

  load_read : (place : Where) (K : Kinds) (N to : ℕ) (at : Operand) (field : FieldId) (b : TypeId) (t : ValueType) (site : Site) → to < N → K to ≡ holding t → type_of_cell P.types b field ≡ Some t → Of (Pointer b) K N at →
      All place K N (command.load to at field b site ∷ command.read to site ∷ [])
  load_read place K N to at field b t site room is type h =
      (((h.0, type ∙ ap Some (sym (kind_type (K to) (holding t) is))), (tt, tt)), (((room, kind_outcome (K to) (holding t) is), h.1), refl, (room, tt, tt)))

  load_unset : (place : Where) (K : Kinds) (N to : ℕ) (at : Operand) (field : FieldId) (b : TypeId) (t : ValueType) (site : Site) → to < N → K to ≡ holding t → type_of_cell P.types b field ≡ Some t → Of (Pointer b) K N at →
      All place K N (command.load to at field b site ∷ command.unset to ∷ [])
  load_unset place K N to at field b t site room is type h =
      (((h.0, type ∙ ap Some (sym (kind_type (K to) (holding t) is))), (tt, tt)), (((room, kind_outcome (K to) (holding t) is), h.1), refl, (room, tt, tt)))

  -- the type of what is compared
  abbrev Suits : Relation → ValueType → Type 0
  Suits relation.SamePlace t = (b : TypeId) × (t ≡ Pointer b)
  Suits relation.OtherPlace t = (b : TypeId) × (t ≡ Pointer b)
  Suits relation.Equal t = t ≡ Int
  Suits relation.Unequal t = t ≡ Int
  Suits relation.Less t = t ≡ Int
  Suits relation.Greater t = t ≡ Int
  Suits relation.AtMost t = t ≡ Int
  Suits relation.AtLeast t = t ≡ Int

  compares : (r : Relation) (a b : Expression) (site : Site) → IsCondition P locals (compare r a b site) → (t : ValueType) × Suits r t × IsOf P locals t a × IsOf P locals t b
  compares relation.SamePlace a b site h = (Pointer h.0, (h.0, refl), h.1, h.2)
  compares relation.OtherPlace a b site h = (Pointer h.0, (h.0, refl), h.1, h.2)
  compares relation.Equal a b site h = (Int, refl, h.0, h.1)
  compares relation.Unequal a b site h = (Int, refl, h.0, h.1)
  compares relation.Less a b site h = (Int, refl, h.0, h.1)
  compares relation.Greater a b site h = (Int, refl, h.0, h.1)
  compares relation.AtMost a b site h = (Int, refl, h.0, h.1)
  compares relation.AtLeast a b site h = (Int, refl, h.0, h.1)

  compared : (place : Where) (K : Kinds) (N : ℕ) (r : Relation) (t : ValueType) → Suits r t → (to : ℕ) (a b : Operand) (site : Site) → to < N → types_in K to ≡ Int → Of t K N a → Of t K N b → All place K N (comparison r to a b site ∷ [])
  compared place K N relation.SamePlace t (k, e) to a b site room s p q =
      (((s, (k, operand_as K t (Pointer k) a e p.0, operand_as K t (Pointer k) b e q.0)), tt), ((room, p.1, q.1), tt, tt))
  compared place K N relation.OtherPlace t (k, e) to a b site room s p q =
      (((s, (k, operand_as K t (Pointer k) a e p.0, operand_as K t (Pointer k) b e q.0)), tt), ((room, p.1, q.1), tt, tt))
  compared place K N relation.Equal t e to a b site room s p q = (((s, (operand_as K t Int a e p.0, operand_as K t Int b e q.0)), tt), ((room, p.1, q.1), tt, tt))
  compared place K N relation.Unequal t e to a b site room s p q = (((s, (operand_as K t Int a e p.0, operand_as K t Int b e q.0)), tt), ((room, p.1, q.1), tt, tt))
  compared place K N relation.Less t e to a b site room s p q = (((s, (operand_as K t Int a e p.0, operand_as K t Int b e q.0)), tt), ((room, p.1, q.1), tt, tt))
  compared place K N relation.Greater t e to a b site room s p q = (((s, (operand_as K t Int b e q.0, operand_as K t Int a e p.0)), tt), ((room, q.1, p.1), tt, tt))
  compared place K N relation.AtMost t e to a b site room s p q = (((s, (operand_as K t Int a e p.0, operand_as K t Int b e q.0)), tt), ((room, p.1, q.1), tt, tt))
  compared place K N relation.AtLeast t e to a b site room s p q = (((s, (operand_as K t Int b e q.0, operand_as K t Int a e p.0)), tt), ((room, q.1, p.1), tt, tt))

  used_call : (K : Kinds) (o : Option ProcedureTree) (ts : List ValueType) (r : ValueType) (xs : List Operand) (to : ℕ) → AgreesWith o ts (Some r) → AreOperandsOf (types_in K) ts xs → types_in K to ≡ r →
      IfSome (option_map lowered o) (λ b. AreOperandsOf (types_in K) b.parameters xs × IfSome (Some to) (λ n. b.result ≡ Some (types_in K n)))
  used_call K None ts r xs to a h e = tt
  used_call K (Some p) ts r xs to a h e = (subst (λ ts. AreOperandsOf (types_in K) ts xs) (sym a.0) h, a.1 ∙ ap Some (sym e))

  unused_call : (K : Kinds) (o : Option ProcedureTree) (ts : List ValueType) (xs : List Operand) → AgreesWith o ts None → AreOperandsOf (types_in K) ts xs →
      IfSome (option_map lowered o) (λ b. AreOperandsOf (types_in K) b.parameters xs × IfSome None (λ n. b.result ≡ Some (types_in K n)))
  unused_call K None ts xs a h = tt
  unused_call K (Some p) ts xs a h = (subst (λ ts. AreOperandsOf (types_in K) ts xs) (sym a.0) h, tt)

  -- ---- trees

  module _ (place : Where) where
    abbrev pub Good : {A : Type 0} → (Kinds → ℕ → Type 0) → ℕ → Lowered A → Said A → Type 0
    Good given n x V = Slotted (All place) (all_more place) (none place) given n x V

    -- what is given goes on to hold that of the locals
    abbrev pub Has : (Kinds → ℕ → Type 0) → Type 0
    Has given = (K : Kinds) (N : ℕ) → given K N → Begins K N

    then' : {A B : Type 0} (given : Kinds → ℕ → Type 0) (V : Said A) (W : Said B) (n : ℕ) (x : Lowered A) (f : A → ℕ → Lowered B) → Good given n x V → ((a : A) → Good (λ K N. given K N × V K N a) x.next (f a x.next) W) → Good given n (and_then x f) W
    then' given V W n x f p more = slotted_then (All place) (all_more place) (none place) given V W n x f p more

    -- commands whose result has a new slot
    gives_new : {A : Type 0} (given : Kinds → ℕ → Type 0) (V : Said A) (n : ℕ) (kind : NewSlot) (cs : List CommandTree) (a : A) → ((K : Kinds) (N : ℕ) → given K N → n < N → K n ≡ kind → All place K N cs × V K N a) →
        Good given n (record { commands = cs; value = Some a; next = suc n }) V
    gives_new given V n kind cs a h = alone (All place) (all_more place) (none place) given V n (suc n) (kind ∷ []) cs a refl (λ K N g le f. h K N g le f.0)

    -- commands that take no new slot
    takes_none : {A : Type 0} (given : Kinds → ℕ → Type 0) (V : Said A) (n : ℕ) (cs : List CommandTree) (a : A) → ((K : Kinds) (N : ℕ) → given K N → All place K N cs × V K N a) →
        Good given n (record { commands = cs; value = Some a; next = n }) V
    takes_none given V n cs a h = alone (All place) (all_more place) (none place) given V n n [] cs a refl (λ K N g le f. h K N g)

    slot_of : (t : ValueType) (K : Kinds) (N n : ℕ) → n < N → K n ≡ holding t → Of t K N (operand.Slot n)
    slot_of t K N n room is = (kind_type (K n) (holding t) is, room)

    outcome_of : (K : Kinds) (N n : ℕ) → n < N → K n ≡ an_outcome → IsOutcome K N n
    outcome_of K N n room is = (kind_type (K n) an_outcome is, kind_outcome (K n) an_outcome is, room)

    -- an operator between operands
    plain_good : (given : Kinds → ℕ → Type 0) (t : ValueType) → t ≡ Int → (op : Operator) (a b : Operand) (n : ℕ) →
        ((K : Kinds) (N : ℕ) → given K N → n < N → types_in K n ≡ Int → IsOperationOf (types_in K) (types_in K n) op a b × IsOperandBelow N a × IsOperandBelow N b) →
        Good given n (record { commands = command.assign n op a b ∷ []; value = Some (operand.Slot n); next = suc n }) (Of t)
    plain_good given t e op a b n h =
        gives_new given (Of t) n (holding Int) _ (operand.Slot n) (λ K N g room is.
        let s = kind_type (K n) (holding Int) is in
        let q = h K N g room s in
        (put_in place K N n op a b room (kind_outcome (K n) (holding Int) is) q.1 q.2 q.0, (s ∙ sym e, room)))

    applied_good : (given : Kinds → ℕ → Type 0) (t : ValueType) → t ≡ Int → (op : Arithmetic) (a b : Operand) (n : ℕ) → ((K : Kinds) (N : ℕ) → given K N → Of Int K N a) → ((K : Kinds) (N : ℕ) → given K N → Of Int K N b) →
        Good given n (applied op a b n) (Of t)
    applied_good given t e arith.Add a b n l r = plain_good given t e Add a b n (λ K N g room s. ((s, (l K N g).0, (r K N g).0), (l K N g).1, (r K N g).1))
    applied_good given t e arith.Subtract a b n l r = plain_good given t e Sub a b n (λ K N g room s. ((s, (l K N g).0, (r K N g).0), (l K N g).1, (r K N g).1))
    applied_good given t e arith.Multiply a b n l r = plain_good given t e Mul a b n (λ K N g room s. ((s, (l K N g).0, (r K N g).0), (l K N g).1, (r K N g).1))
    applied_good given t e (arith.Divide site) a b n l r =
        gives_new given (Of t) n (holding Int) _ (operand.Slot n) (λ K N g room is. (divide_in place K N n a b site room is (l K N g) (r K N g), (kind_type (K n) (holding Int) is ∙ sym e, room)))
    applied_good given t e (arith.Remainder site) a b n l r =
        alone (All place) (all_more place) (none place) given (Of t) n (suc (suc (suc n))) (holding Int ∷ holding Int ∷ holding Int ∷ []) _ (operand.Slot (suc (suc n))) refl (λ K N g le f.
        let room : n < N = omega arith in
        let room1 : suc n < N = omega arith in
        let room2 : suc (suc n) < N = omega arith in
        let s = kind_type (K n) (holding Int) f.0 in
        let s1 = kind_type (K (suc n)) (holding Int) f.1.0 in
        let s2 = kind_type (K (suc (suc n))) (holding Int) f.1.1.0 in
        let product = command.assign (suc n) Mul (operand.Slot n) b in
        let difference = command.assign (suc (suc n)) Sub a (operand.Slot (suc n)) in (
          all_more place K N (command.divide n a b site ∷ []) (product ∷ difference ∷ []) (divide_in place K N n a b site room f.0 (l K N g) (r K N g))
              (all_more place K N (product ∷ []) (difference ∷ [])
              (put_in place K N (suc n) Mul (operand.Slot n) b room1 (kind_outcome (K (suc n)) (holding Int) f.1.0) room (r K N g).1 (s1, s, (r K N g).0))
              (put_in place K N (suc (suc n)) Sub a (operand.Slot (suc n)) room2 (kind_outcome (K (suc (suc n))) (holding Int) f.1.1.0) (l K N g).1 room1 (s2, (l K N g).0, s1))),
          (s2 ∙ sym e, room2),
        ))

    -- a copy of the outcome of the left side, and the right side where that one doesn't decide
    right_side : (given : Kinds → ℕ → Type 0) → (left : ℕ) → ((K : Kinds) (N : ℕ) → given K N → IsOutcome K N left) → (to : ℕ) (d : Condition) →
        Good (λ K N. given K N × IsOutcome K N to) (suc to) (lowered_condition d (suc to)) IsOutcome → (choice : CommandTrees → CommandTree) →
        ((K : Kinds) (N : ℕ) (right : List CommandTree) → IsOutcome K N to → All place K N right → All place K N (choice (commands_of right) ∷ [])) →
        Good given to (record { commands = copy to (operand.Slot left) ∷ choice (commands_of (copied to (lowered_condition d (suc to))).commands) ∷ []; value = Some to; next = (copied to (lowered_condition d (suc to))).next }) IsOutcome
    right_side given left is_left to d h choice good_choice =
        let x = lowered_condition d (suc to) in
        let y = then' (λ K N. given K N × IsOutcome K N to) IsOutcome Any (suc to) x (λ right n. doing (copy to (operand.Slot right)) n) h (λ right.
        takes_none _ Any x.next _ tt (λ K N g. (copy_outcome place K N to right g.0.1 g.1, tt))) in
        alone (All place) (all_more place) (none place) given IsOutcome to _ (an_outcome ∷ y.new) _ to y.counts (λ K N g le f.
        let room : to < N = le_trans (subst (λ i. suc to ≤ i) y.counts (past_grows (suc to) y.new)) le in
        let t = outcome_of K N to room f.0 in
        let w = y.good K N (g, t) le f.1 in
        let z = (copied to (lowered_condition d (suc to))).commands in
        (all_more place K N (copy to (operand.Slot left) ∷ []) (choice (commands_of z) ∷ []) (copy_outcome place K N to left t (is_left K N g)) (good_choice K N z t w.0), t))

    mutual
      expression_good : (given : Kinds → ℕ → Type 0) → Has given → (t : ValueType) (e : Expression) (n : ℕ) → IsOf P locals t e → Good given n (lowered_expression e n) (Of t)
      expression_good given has t (constant z) n h = takes_none given (Of t) n [] (operand.Word z) (λ K N g. (none place K N, (h, tt)))
      expression_good given has t null n h = takes_none given (Of t) n [] operand.Null (λ K N g. (none place K N, (h, tt)))
      expression_good given has t (local i site) n h = takes_none given (Of t) n (command.read i site ∷ []) (operand.Slot i) (λ K N g.
          let b = has K N g in
          let l = low i t h in
          let room : i < N = let fits : m ≤ N = b.0 in omega arith in
          (one place K N (command.read i site) refl (tt, room), (kind_type (K i) (holding t) (b.1 i t h), room)))
      expression_good given has t (negated e) n h =
          let x = lowered_expression e n in
          then' given (Of Int) (Of t) n x _ (expression_good given has Int e n h.1) (λ a.
          gives_new _ (Of t) x.next (holding Int) _ (operand.Slot x.next) (λ K N g room is.
          (put_in place K N x.next Neg a (operand.Word (pos 0)) room (kind_outcome (K x.next) (holding Int) is) g.1.1 tt (kind_type (K x.next) (holding Int) is, g.1.0), (kind_type (K x.next) (holding Int) is ∙ sym h.0, room))))
      expression_good given has t (arithmetic op l r) n h =
          let x = lowered_expression l n in
          let y = lowered_expression r x.next in
          then' given (Of Int) (Of t) n x _ (expression_good given has Int l n h.1) (λ a.
          then' _ (Of Int) (Of t) x.next y _ (expression_good _ (λ K N g. has K N g.0) Int r x.next h.2) (λ b.
          applied_good _ t h.0 op a b y.next (λ K N g. g.0.1) (λ K N g. g.1)))
      expression_good given has t (truth c) n h =
          let x = lowered_condition c n in
          then' given IsOutcome (Of t) n x _ (test_good given has c n h.1) (λ slot.
          takes_none _ (Of t) x.next [] (operand.Slot slot) (λ K N g. (none place K N, (g.1.0 ∙ sym h.0, g.1.2))))
      expression_good given has t (cell p field b site) n h =
          let x = lowered_expression p n in
          then' given (Of (Pointer b)) (Of t) n x _ (expression_good given has (Pointer b) p n h.0) (λ a.
          gives_new _ (Of t) x.next (holding t) _ (operand.Slot x.next) (λ K N g room is. (load_read place K N x.next a field b t site room is h.1 g.1, slot_of t K N x.next room is)))
      expression_good given has t (allocate b site) n h =
          gives_new given (Of t) n (holding (Pointer b)) _ (operand.Slot n) (λ K N g room is.
          let s = kind_type (K n) (holding (Pointer b)) is in
          (one place K N (command.malloc n b site) refl ((s, defined_some _ h.1), (room, kind_outcome (K n) (holding (Pointer b)) is)), (s ∙ sym h.0, room)))
      expression_good given has t (get_char site) n h =
          gives_new given (Of t) n (holding Int) _ (operand.Slot n) (λ K N g room is.
          let s = kind_type (K n) (holding Int) is in
          (one place K N (command.input n site) refl (s, (room, kind_outcome (K n) (holding Int) is)), (s ∙ sym h, room)))
      expression_good given has t (call proc es r site) n h =
          let x = lowered_arguments es n in
          then' given (AllOf h.1.0) (Of t) n x _ (each_good given has h.1.0 es n h.1.1) (λ xs.
          gives_new _ (Of t) x.next (holding r) _ (operand.Slot x.next) (λ K N g room is.
          let s = kind_type (K x.next) (holding r) is in (
            ((used_call K (P.procedures proc.0) h.1.0 r xs x.next h.1.2 g.1.0 s, (tt, tt)), (((room, kind_outcome (K x.next) (holding r) is), g.1.1), refl, (room, tt, tt))),
            (s ∙ sym h.0, room),
          )))
      expression_good given has t (stop number site parts) n h =
          let x = lowered_passed parts n in
          then' given Any (Of t) n x _ (passed_good given has parts n h) (λ u.
          stopped (All place) (all_more place) (none place) _ (Of t) x.next _ (λ K N g. one place K N (command.stop number site) refl (tt, tt)))

      each_good : (given : Kinds → ℕ → Type 0) → Has given → (ts : List ValueType) (es : Arguments) (n : ℕ) → AreOf P locals ts es → Good given n (lowered_arguments es n) (AllOf ts)
      each_good given has [] no_arguments n h = takes_none given (AllOf []) n [] [] (λ K N g. (none place K N, (tt, tt)))
      each_good given has (t ∷ ts) (an_argument (passed e) rest) n h =
          let x = lowered_expression e n in
          let y = lowered_arguments rest x.next in
          then' given (Of t) (AllOf (t ∷ ts)) n x _ (expression_good given has t e n h.0) (λ a.
          then' _ (AllOf ts) (AllOf (t ∷ ts)) x.next y _ (each_good _ (λ K N g. has K N g.0) ts rest x.next h.1) (λ xs.
          takes_none _ (AllOf (t ∷ ts)) y.next [] (a ∷ xs) (λ K N g. (none place K N, ((g.0.1.0, g.1.0), (g.0.1.1, g.1.1))))))
      each_good given has [] (an_argument (passed e) rest) n h = absurd h
      each_good given has (t ∷ ts) no_arguments n h = absurd h
      each_good given has ts (an_argument (erased parts) rest) n h =
          let x = lowered_passed parts n in
          then' given Any (AllOf ts) n x (λ _ n. lowered_arguments rest n) (passed_good given has parts n h.0) (λ u. each_good _ (λ K N g. has K N g.0) ts rest x.next h.1)

      passed_good : (given : Kinds → ℕ → Type 0) → Has given → (es : Expressions) (n : ℕ) → ArePassed P locals es → Good given n (lowered_passed es n) Any
      passed_good given has no_expressions n h = takes_none given Any n [] tt (λ K N g. (none place K N, tt))
      passed_good given has (an_expression (local i site) rest) n h = passed_good given has rest n h.1
      passed_good given has (an_expression (cell p field b site) rest) n h =
          let x = lowered_expression p n in
          let t = h.0.0 in
          then' given (Of (Pointer b)) Any n x _ (expression_good given has (Pointer b) p n h.0.1.0) (λ a.
          then' _ Any Any x.next (reached a field b site x.next) (λ _ n. lowered_passed rest n)
          (gives_new _ Any x.next (holding t) _ tt (λ K N g room is. (load_unset place K N x.next a field b t site room is h.0.1.1 g.1, tt)))
          (λ u. passed_good _ (λ K N g. has K N g.0.0) rest (suc x.next) h.1))
      passed_good given has (an_expression (call proc es r site) rest) n h =
          let x = lowered_arguments es n in
          then' given (AllOf h.0.0) Any n x _ (each_good given has h.0.0 es n h.0.1) (λ xs.
          then' _ Any Any x.next (doing (command.call None proc xs site) x.next) (λ _ n. lowered_passed rest n)
          (takes_none _ Any x.next _ tt (λ K N g. (one place K N (command.call None proc xs site) refl (unused_call K (P.procedures proc.0) h.0.0 xs h.0.2 g.1.0, g.1.1), tt)))
          (λ u. passed_good _ (λ K N g. has K N g.0.0) rest x.next h.1))
      passed_good given has (an_expression (constant z) rest) n h =
          let x = lowered_expression (constant z) n in
          then' given (Of h.0.0) Any n x (λ _ n. lowered_passed rest n) (expression_good given has h.0.0 (constant z) n h.0.1) (λ a. passed_good _ (λ K N g. has K N g.0) rest x.next h.1)
      passed_good given has (an_expression null rest) n h =
          let x = lowered_expression null n in
          then' given (Of h.0.0) Any n x (λ _ n. lowered_passed rest n) (expression_good given has h.0.0 null n h.0.1) (λ a. passed_good _ (λ K N g. has K N g.0) rest x.next h.1)
      passed_good given has (an_expression (negated e) rest) n h =
          let x = lowered_expression (negated e) n in
          then' given (Of h.0.0) Any n x (λ _ n. lowered_passed rest n) (expression_good given has h.0.0 (negated e) n h.0.1) (λ a. passed_good _ (λ K N g. has K N g.0) rest x.next h.1)
      passed_good given has (an_expression (arithmetic op l r) rest) n h =
          let x = lowered_expression (arithmetic op l r) n in
          then' given (Of h.0.0) Any n x (λ _ n. lowered_passed rest n) (expression_good given has h.0.0 (arithmetic op l r) n h.0.1) (λ a. passed_good _ (λ K N g. has K N g.0) rest x.next h.1)
      passed_good given has (an_expression (truth c) rest) n h =
          let x = lowered_expression (truth c) n in
          then' given (Of h.0.0) Any n x (λ _ n. lowered_passed rest n) (expression_good given has h.0.0 (truth c) n h.0.1) (λ a. passed_good _ (λ K N g. has K N g.0) rest x.next h.1)
      passed_good given has (an_expression (allocate b site) rest) n h =
          let x = lowered_expression (allocate b site) n in
          then' given (Of h.0.0) Any n x (λ _ n. lowered_passed rest n) (expression_good given has h.0.0 (allocate b site) n h.0.1) (λ a. passed_good _ (λ K N g. has K N g.0) rest x.next h.1)
      passed_good given has (an_expression (get_char site) rest) n h =
          let x = lowered_expression (get_char site) n in
          then' given (Of h.0.0) Any n x (λ _ n. lowered_passed rest n) (expression_good given has h.0.0 (get_char site) n h.0.1) (λ a. passed_good _ (λ K N g. has K N g.0) rest x.next h.1)
      passed_good given has (an_expression (stop number site parts) rest) n h =
          let x = lowered_expression (stop number site parts) n in
          then' given (Of h.0.0) Any n x (λ _ n. lowered_passed rest n) (expression_good given has h.0.0 (stop number site parts) n h.0.1) (λ a. passed_good _ (λ K N g. has K N g.0) rest x.next h.1)

      test_good : (given : Kinds → ℕ → Type 0) → Has given → (c : Condition) (n : ℕ) → IsCondition P locals c → Good given n (lowered_condition c n) IsOutcome
      test_good given has (compare r l q site) n h =
          let x = lowered_expression l n in
          let y = lowered_expression q x.next in
          let (t, suits, hl, hq) = compares r l q site h in
          then' given (Of t) IsOutcome n x _ (expression_good given has t l n hl) (λ a.
          then' _ (Of t) IsOutcome x.next y _ (expression_good _ (λ K N g. has K N g.0) t q x.next hq) (λ b.
          gives_new _ IsOutcome y.next an_outcome _ y.next (λ K N g room is.
          (compared place K N r t suits y.next a b site room (kind_type (K y.next) an_outcome is) g.0.1 g.1, outcome_of K N y.next room is))))
      test_good given has (word e site) n h =
          let x = lowered_expression e n in
          then' given (Of Int) IsOutcome n x _ (expression_good given has Int e n h) (λ a.
          gives_new _ IsOutcome x.next an_outcome _ x.next (λ K N g room is.
          (compared place K N relation.Unequal Int refl x.next a (operand.Word (pos 0)) site room (kind_type (K x.next) an_outcome is) g.1 ((refl, none_fits), tt), outcome_of K N x.next room is)))
      test_good given has (pointer e site) n h =
          let x = lowered_expression e n in
          then' given (Of (Pointer h.0)) IsOutcome n x _ (expression_good given has (Pointer h.0) e n h.1) (λ a.
          gives_new _ IsOutcome x.next an_outcome _ x.next (λ K N g room is.
          (compared place K N relation.OtherPlace (Pointer h.0) (h.0, refl) x.next a operand.Null site room (kind_type (K x.next) an_outcome is) g.1 ((h.0, refl), tt), outcome_of K N x.next room is)))
      test_good given has (both c d) n h =
          let x = lowered_condition c n in
          let to = x.next in
          then' given IsOutcome IsOutcome n x _ (test_good given has c n h.0) (λ left.
          right_side _ left (λ K N g. g.1) to d (test_good _ (λ K N g. has K N g.0.0) d (suc to) h.1) (λ right. command.choose to right no_commands) (λ K N right t w. (((t.0, w.0, tt), tt), ((t.2, t.1, w.1, tt), tt, tt))))
      test_good given has (either c d) n h =
          let x = lowered_condition c n in
          let to = x.next in
          then' given IsOutcome IsOutcome n x _ (test_good given has c n h.0) (λ left.
          right_side _ left (λ K N g. g.1) to d (test_good _ (λ K N g. has K N g.0.0) d (suc to) h.1) (λ right. command.choose to no_commands right) (λ K N right t w. (((t.0, tt, w.0), tt), ((t.2, t.1, tt, w.1), tt, tt))))
      test_good given has (opposite c) n h =
          let x = lowered_condition c n in
          then' given IsOutcome IsOutcome n x _ (test_good given has c n h) (λ slot.
          gives_new _ IsOutcome x.next an_outcome _ x.next (λ K N g room is.
          let s = kind_type (K x.next) an_outcome is in
          (one place K N (command.assign x.next Sub (operand.Word (pos 1)) (operand.Slot slot)) refl ((s, (refl, one_fits), g.1.0), (room, tt, g.1.2, λ _. (refl, g.1.1))), outcome_of K N x.next room is)))

    -- ---- simple statements

    unset_good : (given : Kinds → ℕ → Type 0) → Has given → (i : ℕ) (t : ValueType) → locals i ≡ Some t → (K : Kinds) (N : ℕ) → given K N → All place K N (command.unset i ∷ [])
    unset_good given has i t is K N g =
        let l = low i t is in
        let room : i < N = let fits : m ≤ N = (has K N g).0 in omega arith in
        one place K N (command.unset i) refl (tt, room)

    declaration_good : (given : Kinds → ℕ → Type 0) → Has given → (i : ℕ) (o : Option ValueType) (e : Option Expression) (n : ℕ) → locals i ≡ o → IsDeclared P locals o e → Good given n (lowered_declaration i e n) Any
    declaration_good given has i None e n is h = absurd h
    declaration_good given has i (Some t) None n is h = takes_none given Any n _ tt (λ K N g. (unset_good given has i t is K N g, tt))
    declaration_good given has i (Some t) (Some e) n is h =
        let x = lowered_expression e n in
        let y = then' given (Of t) Any n x (λ x n. doing (copy i x) n) (expression_good given has t e n h) (λ a. takes_none _ Any x.next _ tt (λ K N g. (to_local place K N i t a (has K N g.0) is g.1, tt))) in
        slotted_before (All place) (all_more place) (none place) given Any n (command.unset i ∷ []) (and_then x (λ x n. doing (copy i x) n)) (λ K N g le. unset_good given has i t is K N g) y

    assignment_good : (given : Kinds → ℕ → Type 0) → Has given → (t : ValueType) (to : Place) (e : Expression) (n : ℕ) → IsPlaceOf P locals t to → IsOf P locals t e → Good given n (lowered_assignment to e n) Any
    assignment_good given has t (local_place i site) e n hp h =
        let x = lowered_expression e n in
        then' given (Of t) Any n x _ (expression_good given has t e n h) (λ a. takes_none _ Any x.next _ tt (λ K N g. (to_local place K N i t a (has K N g.0) hp g.1, tt)))
    assignment_good given has t (cell_place p field b site) e n hp h =
        let x = lowered_expression p n in
        let y = lowered_expression e x.next in
        then' given (Of (Pointer b)) Any n x _ (expression_good given has (Pointer b) p n hp.0) (λ a.
        then' _ (Of t) Any x.next y _ (expression_good _ (λ K N g. has K N g.0) t e x.next h) (λ c.
        takes_none _ Any y.next _ tt (λ K N g. (one place K N (command.store a field b c site) refl ((g.0.1.0, (t, hp.1, g.1.0)), (g.0.1.1, g.1.1)), tt))))

    update_good : (given : Kinds → ℕ → Type 0) → Has given → (op : Arithmetic) (to : Place) (e : Expression) (n : ℕ) → IsPlaceOf P locals Int to → IsOf P locals Int e → Good given n (lowered_update op to e n) Any
    update_good given has op (local_place i site) e n hp h =
        let x = lowered_expression e n in
        let f = λ (x : Operand) (n : ℕ). and_then (applied op (operand.Slot i) x n) (λ new n. doing (copy i new) n) in
        let y = then' given (Of Int) Any n x f (expression_good given has Int e n h) (λ a.
        then' _ (Of Int) Any x.next (applied op (operand.Slot i) a x.next) (λ new n. doing (copy i new) n)
        (applied_good _ Int refl op (operand.Slot i) a x.next (λ K N g.
        let b = has K N g.0 in
        let l = low i Int hp in
        let li : i < N = let fits : m ≤ N = b.0 in omega arith in
        (kind_type (K i) (holding Int) (b.1 i Int hp), li)) (λ K N g. g.1))
        (λ new. takes_none _ Any (suc (result_slot op x.next)) _ tt (λ K N g. (to_local place K N i Int new (has K N g.0.0) hp g.1, tt)))) in
        slotted_before (All place) (all_more place) (none place) given Any n (command.read i site ∷ []) (and_then x f) (λ K N g le.
        let l = low i Int hp in
        let li : i < N = let fits : m ≤ N = (has K N g).0 in omega arith in
        one place K N (command.read i site) refl (tt, li)) y
    update_good given has op (cell_place p field b site) e n hp h =
        let x = lowered_expression p n in
        let old = operand.Slot x.next in
        let y = lowered_expression e (suc x.next) in
        then' given (Of (Pointer b)) Any n x _ (expression_good given has (Pointer b) p n hp.0) (λ at.
        then' _ (Of Int) Any x.next (loaded at field b site x.next) (λ old n. and_then (lowered_expression e n) (λ c n. and_then (applied op old c n) (λ new n. doing (command.store at field b new site) n)))
        (gives_new _ (Of Int) x.next (holding Int) _ old (λ K N g room is. (load_read place K N x.next at field b Int site room is hp.1 g.1, slot_of Int K N x.next room is))) (λ was.
        then' _ (Of Int) Any (suc x.next) y (λ c n. and_then (applied op was c n) (λ new n. doing (command.store at field b new site) n)) (expression_good _ (λ K N g. has K N g.0.0) Int e (suc x.next) h) (λ a.
        then' _ (Of Int) Any y.next (applied op was a y.next) (λ new n. doing (command.store at field b new site) n)
        (applied_good _ Int refl op was a y.next (λ K N g. g.0.1) (λ K N g. g.1))
        (λ new. takes_none _ Any (suc (result_slot op y.next)) _ tt (λ K N g.
        (one place K N (command.store at field b new site) refl ((g.0.0.0.1.0, (Int, hp.1, g.1.0)), (g.0.0.0.1.1, g.1.1)), tt))))))

    access_good : (given : Kinds → ℕ → Type 0) → Has given → (p : Expression) (parts : Expressions) (field : FieldId) (b : TypeId) (site : Site) (n : ℕ) → IsOf P locals (Pointer b) p → ArePassed P locals parts →
        (t : ValueType) → type_of_cell P.types b field ≡ Some t → Good given n (lowered_access p parts field b site n) Any
    access_good given has p parts field b site n h hs t type =
        let x = lowered_expression p n in
        let y = lowered_passed parts x.next in
        then' given (Of (Pointer b)) Any n x _ (expression_good given has (Pointer b) p n h) (λ a.
        then' _ Any Any x.next y (λ _ n. reached a field b site n) (passed_good _ (λ K N g. has K N g.0) parts x.next hs) (λ u.
        gives_new _ Any y.next (holding t) _ tt (λ K N g room is. (load_unset place K N y.next a field b t site room is type g.0.1, tt))))

    return_good : (given : Kinds → ℕ → Type 0) → Has given → (o : Option ValueType) (e : Option Expression) (n : ℕ) → o ≡ result → IsReturned P locals o e → Good given n (lowered_return e n) Any
    return_good given has None None n is h = takes_none given Any n _ tt (λ K N g. (one place K N (command.return None) refl (tt, tt), tt))
    return_good given has None (Some e) n is h = absurd h
    return_good given has (Some t) None n is h = absurd h
    return_good given has (Some t) (Some e) n is h =
        let x = lowered_expression e n in
        then' given (Of t) Any n x _ (expression_good given has t e n h) (λ a. takes_none _ Any x.next _ tt (λ K N g.
        (one place K N (command.return (Some a)) refl (subst (λ o. IsSomeAnd o (λ t. IsOperandOf (types_in K) t a)) is g.1.0, g.1.1), tt)))

  head_good : (given : Kinds → ℕ → Type 0) → Has InHead given → (c : Option Condition) (n : ℕ) → IsConditionIf P locals c → Good InHead given n (lowered_head c n) Any
  head_good given has None n h = takes_none InHead given Any n [] tt (λ K N g. (none InHead K N, tt))
  head_good given has (Some c) n h =
      let x = lowered_condition c n in
      then' InHead given IsOutcome Any n x _ (test_good InHead given has c n h) (λ slot. takes_none InHead _ Any x.next _ tt (λ K N g.
      ((((g.1.0, tt, (tt, tt)), tt), ((g.1.2, g.1.1, tt, (refl, tt, tt)), tt, tt)), tt)))

  -- ---- statements

  -- a statement that breaks or continues stands in a loop's body
  abbrev pub Stands : Bool → Where → Type 0
  Stands inside place = IsTrue inside → place ≡ InBody

  breakable : (place : Where) → place ≡ InBody → IsBreakable place
  breakable place e = subst IsBreakable (sym e) tt

  mutual
    pub statement_good : (inside : Bool) (place : Where) → Stands inside place → (given : Kinds → ℕ → Type 0) → Has place given → (s : Statement) (n : ℕ) → IsStatement P locals result inside s → Good place given n (lowered_statement s n) Any
    statement_good inside place stands given has (block statements) n h = statements_good inside place stands given has statements n h
    statement_good inside place stands given has (declare i e) n h = declaration_good place given has i (locals i) e n refl h
    statement_good inside place stands given has (assign to e) n h = assignment_good place given has h.0 to e n h.1 h.2
    statement_good inside place stands given has (update op to e) n h = update_good place given has op to e n h.0 h.1
    statement_good inside place stands given has (run_call proc es site) n h =
        let x = lowered_arguments es n in
        then' place given (AllOf h.0) Any n x _ (each_good place given has h.0 es n h.1) (λ xs. takes_none place _ Any x.next _ tt (λ K N g.
        (one place K N (command.call None proc xs site) refl (unused_call K (P.procedures proc.0) h.0 xs h.2 g.1.0, g.1.1), tt)))
    statement_good inside place stands given has (free e b site) n h =
        let x = lowered_expression e n in
        then' place given (Of (Pointer b)) Any n x _ (expression_good place given has (Pointer b) e n h) (λ a. takes_none place _ Any x.next _ tt (λ K N g. (one place K N (command.free a b site) refl (g.1.0, g.1.1), tt)))
    statement_good inside place stands given has (input site) n h =
        gives_new place given Any n (holding Int) _ tt (λ K N g room is. (one place K N (command.input n site) refl (kind_type (K n) (holding Int) is, (room, kind_outcome (K n) (holding Int) is)), tt))
    statement_good inside place stands given has (choose c first second) n h =
        let x = lowered_condition c n in
        then' place given IsOutcome Any n x _ (test_good place given has c n h.0) (λ slot.
        let more = λ (K : Kinds) (N : ℕ). given K N × IsOutcome K N slot in
        let y = lowered_statement first x.next in
        let z = lowered_statement second y.next in
        let p = statement_good inside place stands more (λ K N g. has K N g.0) first x.next h.1 in
        let q = statement_good inside place stands more (λ K N g. has K N g.0) second y.next h.2 in
        alone (All place) (all_more place) (none place) more Any x.next z.next (p.new ++ q.new) _ tt (past_then x.next y.next z.next p.new q.new p.counts q.counts) (λ K N g le f.
        let parts = split K x.next y.next p.new q.new p.counts f in
        let further : y.next ≤ z.next = subst (λ i. y.next ≤ i) q.counts (past_grows y.next q.new) in
        let a = (p.good K N g (le_trans further le) parts.0).0 in
        let b = (q.good K N g le parts.1).0 in
        (one place K N (command.choose slot (commands_of y.commands) (commands_of z.commands)) refl ((g.1.0, a.0, b.0), (g.1.2, g.1.1, a.1, b.1)), tt)))
    statement_good inside place stands given has (loop site c body step) n h =
        let x = lowered_head c n in
        let y = lowered_statement body x.next in
        let z = lowered_statement step y.next in
        let p = head_good given has c n h.0 in
        let q = statement_good true InBody (λ _. refl) given has body x.next h.1 in
        let r = step_good given has step y.next h.2 inside h.3 in
        alone (All place) (all_more place) (none place) given Any n z.next (p.new ++ (q.new ++ r.new)) _ tt (past_then n x.next z.next p.new (q.new ++ r.new) p.counts (past_then x.next y.next z.next q.new r.new q.counts r.counts)) (λ K N g le f.
        let parts = split K n x.next p.new (q.new ++ r.new) p.counts f in
        let parts' = split K x.next y.next q.new r.new q.counts parts.1 in
        let further : y.next ≤ z.next = subst (λ i. y.next ≤ i) r.counts (past_grows y.next r.new) in
        let further' : x.next ≤ y.next = subst (λ i. x.next ≤ i) q.counts (past_grows x.next q.new) in
        let a = (p.good K N g (le_trans further' (le_trans further le)) parts.0).0 in
        let b = (q.good K N g (le_trans further le) parts'.0).0 in
        let d = (r.good K N g le parts'.1).0 in
        (one place K N (command.loop site (commands_of x.commands) (commands_of y.commands) (commands_of z.commands)) refl ((a.0, b.0, d.0), (a.1, b.1, d.1)), tt))
    statement_good inside place stands given has break n h = takes_none place given Any n _ tt (λ K N g. (one place K N command.break refl (tt, breakable place (stands h)), tt))
    statement_good inside place stands given has continue n h = takes_none place given Any n _ tt (λ K N g. (one place K N command.continue refl (tt, stands h), tt))
    statement_good inside place stands given has (return e) n h = return_good place given has result e n refl h
    statement_good inside place stands given has (evaluate e) n h = passed_good place given has (an_expression e no_expressions) n h
    statement_good inside place stands given has (access p parts field b site) n h = access_good place given has p parts field b site n h.0 h.1 h.2.0 h.2.1

    statements_good : (inside : Bool) (place : Where) → Stands inside place → (given : Kinds → ℕ → Type 0) → Has place given → (ss : Statements) (n : ℕ) → AreStatements P locals result inside ss → Good place given n (lowered_statements ss n) Any
    statements_good inside place stands given has no_statements n h = takes_none place given Any n [] tt (λ K N g. (none place K N, tt))
    statements_good inside place stands given has (a_statement s rest) n h =
        let x = lowered_statement s n in
        then' place given Any Any n x _ (statement_good inside place stands given has s n h.0) (λ u. statements_good inside place stands _ (λ K N g. has K N g.0) rest x.next h.1)

    -- the step of a loop neither breaks nor continues
    step_good : (given : Kinds → ℕ → Type 0) → Has InStep given → (s : Statement) (n : ℕ) → IsStep P locals s → (inside : Bool) → IsStatement P locals result inside s → Good InStep given n (lowered_statement s n) Any
    step_good given has (block statements) n k inside h = steps_good given has statements n k inside h
    step_good given has (assign to e) n k inside h = assignment_good InStep given has h.0 to e n h.1 h.2
    step_good given has (update op to e) n k inside h = update_good InStep given has op to e n h.0 h.1
    step_good given has (run_call proc es site) n k inside h =
        let x = lowered_arguments es n in
        then' InStep given (AllOf h.0) Any n x _ (each_good InStep given has h.0 es n h.1) (λ xs. takes_none InStep _ Any x.next _ tt (λ K N g.
        (one InStep K N (command.call None proc xs site) refl (unused_call K (P.procedures proc.0) h.0 xs h.2 g.1.0, g.1.1), tt)))
    step_good given has (free e b site) n k inside h =
        let x = lowered_expression e n in
        then' InStep given (Of (Pointer b)) Any n x _ (expression_good InStep given has (Pointer b) e n h) (λ a. takes_none InStep _ Any x.next _ tt (λ K N g. (one InStep K N (command.free a b site) refl (g.1.0, g.1.1), tt)))
    step_good given has (input site) n k inside h =
        gives_new InStep given Any n (holding Int) _ tt (λ K N g room is. (one InStep K N (command.input n site) refl (kind_type (K n) (holding Int) is, (room, kind_outcome (K n) (holding Int) is)), tt))
    step_good given has (declare i e) n k inside h = absurd k
    step_good given has (choose c first second) n k inside h = absurd k
    step_good given has (loop site c body step) n k inside h = absurd k
    step_good given has break n k inside h = absurd k
    step_good given has continue n k inside h = absurd k
    step_good given has (return e) n k inside h = absurd k
    step_good given has (evaluate e) n k inside h = passed_good InStep given has (an_expression e no_expressions) n h
    step_good given has (access p parts field b site) n k inside h = access_good InStep given has p parts field b site n h.0 h.1 h.2.0 h.2.1

    steps_good : (given : Kinds → ℕ → Type 0) → Has InStep given → (ss : Statements) (n : ℕ) → AreSteps P locals ss → (inside : Bool) → AreStatements P locals result inside ss → Good InStep given n (lowered_statements ss n) Any
    steps_good given has no_statements n k inside h = takes_none InStep given Any n [] tt (λ K N g. (none InStep K N, tt))
    steps_good given has (a_statement s rest) n k inside h =
        let x = lowered_statement s n in
        then' InStep given Any Any n x _ (step_good given has s n k.0 inside h.0) (λ u. steps_good _ (λ K N g. has K N g.0) rest x.next k.1 inside h.1)
