-- What an arm of the lowering of statements gave, and the turns of the loop over statements.
use Rattle.std.specs.Prelude.{⊤}
use Rattle.std.proofs.Common.{◌≡◌, ◌∙◌, ℕ, suc, ◌<◌, ◌≤◌, ◌+◌, List, [], ◌∷◌, ◌++◌, length, drop, get_or, map, Option, None, Some, Result, Ok, Err, Box, Global, refl, sym, ap, ap₂, subst, append_assoc, append-nil}
use Rattle.std.specs.Prelude.{option_map}
use Rattle.std.proofs.lemmas.List.{at_drop_all}
use Rattle.px_base.specs.declared.trace.Site.{Site}
use Rattle.px_base.specs.declared.trace.ProcId.{ProcId}
use Rattle.px_base.specs.declared.trace.FieldId.{FieldId}
use Rattle.px_terms.specs.declared.types.TypeId.{TypeId}
use Rattle.px_core.specs.declared.command.Operand.{Operand}
use Rattle.px_core.specs.declared.command.Operand.TheVariants.{Slot}
use Rattle.px_core.specs.CommandTree.{CommandTree, unset, load, read, store, no_commands, a_command, commands_of, leave}
use Rattle.px_core.specs.CommandTree as command
use Rattle.px_syntax.specs.declared.typed_expression.Arithmetic.{Arithmetic}
use Rattle.px_syntax.specs.declared.typed_expression.CellLink.{CellLink}
use Rattle.px_syntax.specs.declared.typed_expression.TypedExpression.{TypedExpression}
use Rattle.px_syntax.specs.declared.typed_expression.Condition.{Condition}
use Rattle.px_syntax.specs.declared.typed_statement.Place.{Place}
use Rattle.px_syntax.specs.declared.typed_statement.Place.TheVariants as P
use Rattle.px_syntax.specs.declared.typed_statement.TypedStatement.{TypedStatement}
use Rattle.px_syntax.specs.TypedTree.{Expression, Expressions, Arguments, Condition as Test, cell_place, Statement, statements_of}
use Rattle.px_syntax.specs.TypedTree as tree
use Rattle.px_syntax.specs.TypedViews.{typed_expression, typed_condition, typed_place, typed_statement}
use Rattle.px_lower.specs.declared.put.Given.{Given}
use Rattle.px_lower.specs.declared.put.Decided.{Decided}
use Rattle.px_lower.specs.declared.put.Halt.{Halt}
use Rattle.px_lower.specs.declared.commands.Operands.{Operands}
use Rattle.px_lower.specs.Lowering.{Lowered, and_then, doing, loaded, reached, copy, lowered_expression, lowered_arguments, lowered_passed, lowered_condition, lowered_declaration, lowered_assignment, lowered_update, lowered_access, lowered_head, lowered_return, lowered_statement, lowered_statements, applied, operation, result_slot}
use Rattle.px_lower.specs.Chains.{Gives, GivesAll, Decides, Does, Ends}
use Rattle.px_lower.proofs.Chains.{fails_first, goes_on, next_one}
use Rattle.px_lower.proofs.Arms.{IsErr, begun, slot, nothing, itself, ends_with_value, goes_on_with_value, ends_with_outcome, goes_on_with_outcome, ends_with_arguments, goes_on_with_arguments, ends_there, goes_on_there}
use Rattle.px_lower.proofs.ConditionArms.{list_ended}

-- ---- declarations and returns

abbrev pub value_of : Option (Box TypedExpression Global) → Option Expression
value_of v = option_map (λ b. typed_expression b.value) v

module _ (v : Option (Box TypedExpression Global)) (box : Box TypedExpression Global) (o : TypedExpression) (is : v ≡ Some box) (is_o : o ≡ box.value) (n : ℕ) (first mid : List CommandTree) where
  value_is : value_of v ≡ Some (typed_expression o)
  value_is = ap value_of is ∙ sym (ap (λ o. Some (typed_expression o)) is_o)

  -- a declaration, whose local is unset first
  module _ (i : ℕ) (begin : List CommandTree) (unset_first : begin ≡ first ++ unset i ∷ []) where
    abbrev copies : Operand → ℕ → Lowered ⊤
    copies x n = doing (copy i x) n

    of_declaration : (last : List CommandTree) (z : Result ℕ Halt) → Does (and_then (lowered_expression (typed_expression o) n) copies) begin last z → Does (lowered_declaration i (value_of v) n) first last z
    of_declaration last z q =
        subst (λ v. Does (lowered_declaration i v n) first last z) (sym value_is)
        (begun nothing itself (unset i ∷ []) (and_then (lowered_expression (typed_expression o) n) copies) first begin last z unset_first q)

    pub declaration_fails : (h : Halt) (z : Result ℕ Halt) → IsErr z h → Gives (lowered_expression (typed_expression o) n) begin mid (Err h) → Does (lowered_declaration i (value_of v) n) first mid z
    declaration_fails h z p q =
        of_declaration mid z (ends_with_value (typed_expression o) n begin mid nothing itself (and_then (lowered_expression (typed_expression o) n) copies) copies refl h z p q)

    pub declaration_returns : (x : Given) (z : ℕ) (last : List CommandTree) → Gives (lowered_expression (typed_expression o) n) begin mid (Ok x) → last ≡ mid ++ copy i x.operand ∷ [] → z ≡ x.next → Does (lowered_declaration i (value_of v) n) first last (Ok z)
    declaration_returns x z last q c m =
        of_declaration last (Ok z) (goes_on_with_value (typed_expression o) n begin mid nothing itself (and_then (lowered_expression (typed_expression o) n) copies) copies refl x last (Ok z) q (c, refl, sym m))

  abbrev returning : Operand → ℕ → Lowered ⊤
  returning x n = doing (command.return (Some x)) n

  pub return_fails : (h : Halt) (z : Result ℕ Halt) → IsErr z h → Gives (lowered_expression (typed_expression o) n) first mid (Err h) → Does (lowered_return (value_of v) n) first mid z
  return_fails h z p q = ends_with_value (typed_expression o) n first mid nothing itself (lowered_return (value_of v) n) returning (ap (λ v. lowered_return v n) value_is) h z p q

  pub return_returns : (x : Given) (z : ℕ) (last : List CommandTree) → Gives (lowered_expression (typed_expression o) n) first mid (Ok x) → last ≡ mid ++ command.return (Some x.operand) ∷ [] → z ≡ x.next → Does (lowered_return (value_of v) n) first last (Ok z)
  return_returns x z last q c m =
      goes_on_with_value (typed_expression o) n first mid nothing itself (lowered_return (value_of v) n) returning (ap (λ v. lowered_return v n) value_is) x last (Ok z) q (c, refl, sym m)

-- ---- the head of a loop

abbrev pub test_of : Option (Box Condition Global) → Option Test
test_of v = option_map (λ b. typed_condition b.value) v

module _ (v : Option (Box Condition Global)) (box : Box Condition Global) (o : Condition) (is : v ≡ Some box) (is_o : o ≡ box.value) (n : ℕ) (first mid : List CommandTree) where
  abbrev leaving : ℕ → ℕ → Lowered ⊤
  leaving slot n = doing (command.choose slot no_commands (a_command leave no_commands)) n

  head_is : lowered_head (test_of v) n ≡ and_then (lowered_condition (typed_condition o) n) leaving
  head_is = ap (λ v. lowered_head (test_of v) n) is ∙ sym (ap (λ o. lowered_head (Some (typed_condition o)) n) is_o)

  pub head_fails : (h : Halt) (z : Result ℕ Halt) → IsErr z h → Decides (lowered_condition (typed_condition o) n) first mid (Err h) → Does (lowered_head (test_of v) n) first mid z
  head_fails h z p q = ends_with_outcome (typed_condition o) n first mid nothing itself (lowered_head (test_of v) n) leaving head_is h z p q

  pub head_returns : (x : Decided) (z : ℕ) (last : List CommandTree) → Decides (lowered_condition (typed_condition o) n) first mid (Ok x) → last ≡ mid ++ command.choose x.slot no_commands (a_command leave no_commands) ∷ [] → z ≡ x.next →
      Does (lowered_head (test_of v) n) first last (Ok z)
  head_returns x z last q c m = goes_on_with_outcome (typed_condition o) n first mid nothing itself (lowered_head (test_of v) n) leaving head_is x last (Ok z) q (c, refl, sym m)

-- ---- assignments

module _ (place : Place) (e : TypedExpression) (n : ℕ) (first mid : List CommandTree) where
  abbrev assigned : Lowered ⊤
  assigned = lowered_assignment (typed_place place) (typed_expression e) n

  module _ (i : ℕ) (site : Site) (is : place ≡ P.Local i site) where
    abbrev copies_to : Operand → ℕ → Lowered ⊤
    copies_to x n = doing (copy i x) n

    local_is : assigned ≡ and_then (lowered_expression (typed_expression e) n) copies_to
    local_is = ap (λ p. lowered_assignment (typed_place p) (typed_expression e) n) is

    pub local_fails : (h : Halt) (z : Result ℕ Halt) → IsErr z h → Gives (lowered_expression (typed_expression e) n) first mid (Err h) → Does assigned first mid z
    local_fails h z p q = ends_with_value (typed_expression e) n first mid nothing itself assigned copies_to local_is h z p q

    pub local_returns : (x : Given) (z : ℕ) (last : List CommandTree) → Gives (lowered_expression (typed_expression e) n) first mid (Ok x) → last ≡ mid ++ copy i x.operand ∷ [] → z ≡ x.next → Does assigned first last (Ok z)
    local_returns x z last q c m = goes_on_with_value (typed_expression e) n first mid nothing itself assigned copies_to local_is x last (Ok z) q (c, refl, sym m)

  module _ (site : Site) (field : FieldId) (block : TypeId) (box : Box TypedExpression Global) (pointer : TypedExpression) (is : place ≡ P.Cell site field block box) (is_p : pointer ≡ box.value) where
    abbrev stores_at : Operand → Operand → ℕ → Lowered ⊤
    stores_at at x n = doing (store at field block x site) n

    abbrev then_stores : Operand → ℕ → Lowered ⊤
    then_stores at n = and_then (lowered_expression (typed_expression e) n) (stores_at at)

    cell_is : assigned ≡ and_then (lowered_expression (typed_expression pointer) n) then_stores
    cell_is = ap (λ p. lowered_assignment (typed_place p) (typed_expression e) n) is ∙ sym (ap (λ p. lowered_assignment (cell_place (typed_expression p) field block site) (typed_expression e) n) is_p)

    pub pointer_fails : (h : Halt) (z : Result ℕ Halt) → IsErr z h → Gives (lowered_expression (typed_expression pointer) n) first mid (Err h) → Does assigned first mid z
    pointer_fails h z p q = ends_with_value (typed_expression pointer) n first mid nothing itself assigned then_stores cell_is h z p q

    module _ (at : Given) (pointed : Gives (lowered_expression (typed_expression pointer) n) first mid (Ok at)) (second : List CommandTree) where
      pub stored_fails : (h : Halt) (z : Result ℕ Halt) → IsErr z h → Gives (lowered_expression (typed_expression e) at.next) mid second (Err h) → Does assigned first second z
      stored_fails h z p q =
          goes_on_with_value (typed_expression pointer) n first mid nothing itself assigned then_stores cell_is at second z pointed
          (ends_with_value (typed_expression e) at.next mid second nothing itself (then_stores at.operand at.next) (stores_at at.operand) refl h z p q)

      pub stored_returns : (x : Given) (z : ℕ) (last : List CommandTree) → Gives (lowered_expression (typed_expression e) at.next) mid second (Ok x) → last ≡ second ++ store at.operand field block x.operand site ∷ [] → z ≡ x.next → Does assigned first last (Ok z)
      stored_returns x z last q c m =
          goes_on_with_value (typed_expression pointer) n first mid nothing itself assigned then_stores cell_is at last (Ok z) pointed
          (goes_on_with_value (typed_expression e) at.next mid second nothing itself (then_stores at.operand at.next) (stores_at at.operand) refl x last (Ok z) q (c, refl, sym m))

-- ---- updates

module _ (op : Arithmetic) (place : Place) (e : TypedExpression) (n : ℕ) (first : List CommandTree) where
  abbrev updated : Lowered ⊤
  updated = lowered_update op (typed_place place) (typed_expression e) n

  module _ (i : ℕ) (site : Site) (is : place ≡ P.Local i site) (mid second : List CommandTree) (was : mid ≡ first ++ read i site ∷ []) where
    abbrev new_local : Operand → ℕ → Lowered ⊤
    new_local x n = and_then (applied op (Slot i) x n) (λ new n. doing (copy i new) n)

    abbrev behind_read : Lowered ⊤
    behind_read = and_then (lowered_expression (typed_expression e) n) new_local

    of_local : (last : List CommandTree) (z : Result ℕ Halt) → Does behind_read mid last z → Does updated first last z
    of_local last z q = subst (λ p. Does (lowered_update op (typed_place p) (typed_expression e) n) first last z) (sym is) (begun nothing itself (read i site ∷ []) behind_read first mid last z was q)

    pub update_local_fails : (h : Halt) (z : Result ℕ Halt) → IsErr z h → Gives (lowered_expression (typed_expression e) n) mid second (Err h) → Does updated first second z
    update_local_fails h z p q = of_local second z (ends_with_value (typed_expression e) n mid second nothing itself behind_read new_local refl h z p q)

    pub update_local_returns : (x new : Given) (z : ℕ) (third last : List CommandTree) → Gives (lowered_expression (typed_expression e) n) mid second (Ok x) →
        third ≡ second ++ operation op (Slot i) x.operand x.next → new.operand ≡ Slot (result_slot op x.next) → new.next ≡ suc (result_slot op x.next) → last ≡ third ++ copy i new.operand ∷ [] → z ≡ new.next → Does updated first last (Ok z)
    update_local_returns x new z third last q c o m d k =
        of_local last (Ok z) (goes_on_with_value (typed_expression e) n mid second nothing itself behind_read new_local refl x last (Ok z) q
        (d ∙ ap (λ o. third ++ copy i o ∷ []) o ∙ ap (λ cs. cs ++ copy i (Slot (result_slot op x.next)) ∷ []) c ∙ append_assoc second (operation op (Slot i) x.operand x.next) (copy i (Slot (result_slot op x.next)) ∷ []), refl, sym (k ∙ m)))

  module _ (site : Site) (field : FieldId) (block : TypeId) (box : Box TypedExpression Global) (pointer : TypedExpression) (is : place ≡ P.Cell site field block box) (is_p : pointer ≡ box.value) (mid : List CommandTree) where
    abbrev stores_new : Operand → Operand → Operand → ℕ → Lowered ⊤
    stores_new at old x n = and_then (applied op old x n) (λ new n. doing (store at field block new site) n)

    abbrev behind_load : Operand → Operand → ℕ → Lowered ⊤
    behind_load at old n = and_then (lowered_expression (typed_expression e) n) (stores_new at old)

    abbrev then_updates : Operand → ℕ → Lowered ⊤
    then_updates at n = and_then (loaded at field block site n) (behind_load at)

    update_is : updated ≡ and_then (lowered_expression (typed_expression pointer) n) then_updates
    update_is = ap (λ p. lowered_update op (typed_place p) (typed_expression e) n) is ∙ sym (ap (λ p. lowered_update op (cell_place (typed_expression p) field block site) (typed_expression e) n) is_p)

    pub update_pointer_fails : (h : Halt) (z : Result ℕ Halt) → IsErr z h → Gives (lowered_expression (typed_expression pointer) n) first mid (Err h) → Does updated first mid z
    update_pointer_fails h z p q = ends_with_value (typed_expression pointer) n first mid nothing itself updated then_updates update_is h z p q

    module _ (at old : Given) (pointed : Gives (lowered_expression (typed_expression pointer) n) first mid (Ok at)) (second third : List CommandTree) (loads : second ≡ mid ++ load at.next at.operand field block site ∷ read at.next site ∷ [])
        (is_old : old.operand ≡ Slot at.next) (is_next : old.next ≡ suc at.next) where
      -- from the load on
      of_load : (last : List CommandTree) (z : Result ℕ Halt) → Does (behind_load at.operand old.operand old.next) second last z → Does updated first last z
      of_load last z q =
          goes_on_with_value (typed_expression pointer) n first mid nothing itself updated then_updates update_is at last z pointed
          (begun nothing itself (load at.next at.operand field block site ∷ read at.next site ∷ []) (behind_load at.operand (Slot at.next) (suc at.next)) mid second last z loads
          (subst (λ n. Does (behind_load at.operand (Slot at.next) n) second last z) is_next (subst (λ o. Does (behind_load at.operand o old.next) second last z) is_old q)))

      pub update_value_fails : (h : Halt) (z : Result ℕ Halt) → IsErr z h → Gives (lowered_expression (typed_expression e) old.next) second third (Err h) → Does updated first third z
      update_value_fails h z p q =
          of_load third z (ends_with_value (typed_expression e) old.next second third nothing itself (behind_load at.operand old.operand old.next) (stores_new at.operand old.operand) refl h z p q)

      pub update_returns : (x new : Given) (z : ℕ) (fourth last : List CommandTree) → Gives (lowered_expression (typed_expression e) old.next) second third (Ok x) →
          fourth ≡ third ++ operation op old.operand x.operand x.next → new.operand ≡ Slot (result_slot op x.next) → new.next ≡ suc (result_slot op x.next) → last ≡ fourth ++ store at.operand field block new.operand site ∷ [] → z ≡ new.next → Does updated first last (Ok z)
      update_returns x new z fourth last q c o m d k =
          of_load last (Ok z) (goes_on_with_value (typed_expression e) old.next second third nothing itself (behind_load at.operand old.operand old.next) (stores_new at.operand old.operand) refl x last (Ok z) q (
            d ∙ ap (λ o. fourth ++ store at.operand field block o site ∷ []) o ∙ ap (λ cs. cs ++ store at.operand field block (Slot (result_slot op x.next)) site ∷ []) c
                ∙ append_assoc third (operation op old.operand x.operand x.next) (store at.operand field block (Slot (result_slot op x.next)) site ∷ []),
            refl,
            sym (k ∙ m),
          ))

-- ---- accesses

module _ (p : Expression) (parts : Expressions) (l : CellLink) (n : ℕ) (first mid : List CommandTree) where
  abbrev accessed : Lowered ⊤
  accessed = lowered_access p parts l.field l.block l.site n

  abbrev reaches_at : Operand → ⊤ → ℕ → Lowered ⊤
  reaches_at at _ n = reached at l.field l.block l.site n

  abbrev then_reaches : Operand → ℕ → Lowered ⊤
  then_reaches at n = and_then (lowered_passed parts n) (reaches_at at)

  pub accessed_pointer_fails : (h : Halt) (z : Result ℕ Halt) → IsErr z h → Gives (lowered_expression p n) first mid (Err h) → Does accessed first mid z
  accessed_pointer_fails h z q g = ends_with_value p n first mid nothing itself accessed then_reaches refl h z q g

  module _ (at : Given) (pointed : Gives (lowered_expression p n) first mid (Ok at)) (second : List CommandTree) where
    pub accessed_parts_fail : (h : Halt) (z : Result ℕ Halt) → IsErr z h → Does (lowered_passed parts at.next) mid second (Err h) → Does accessed first second z
    accessed_parts_fail h z q g =
        goes_on_with_value p n first mid nothing itself accessed then_reaches refl at second z pointed
        (ends_there (lowered_passed parts at.next) mid second nothing itself (then_reaches at.operand at.next) (reaches_at at.operand) refl h z q g)

    pub accessed_returns : (m z : ℕ) (last : List CommandTree) → Does (lowered_passed parts at.next) mid second (Ok m) → last ≡ second ++ load m at.operand l.field l.block l.site ∷ unset m ∷ [] → z ≡ suc m → Does accessed first last (Ok z)
    accessed_returns m z last g c d =
        goes_on_with_value p n first mid nothing itself accessed then_reaches refl at last (Ok z) pointed
        (goes_on_there (lowered_passed parts at.next) mid second nothing itself (then_reaches at.operand at.next) (reaches_at at.operand) refl m last (Ok z) g (c, refl, sym d))

-- ---- statements one after another

abbrev pub statements_from : List TypedStatement → ℕ → Lowered ⊤
statements_from ss n = lowered_statements (statements_of (map typed_statement ss)) n

module _ (ss : List TypedStatement) (i : ℕ) (s : TypedStatement) (lt : i < length ss) (is : s ≡ get_or ss i s) (n : ℕ) (first mid : List CommandTree) where
  abbrev this_statement : Lowered ⊤
  this_statement = lowered_statement (typed_statement s) n

  statements_are : statements_from (drop i ss) n ≡ and_then this_statement (λ _ n. statements_from (drop (i + 1) ss) n)
  statements_are = next_one (λ ls. statements_from ls n) ss i s lt is

  pub statement_more : (x : ℕ) (last : List CommandTree) (r : Result ℕ Halt) → Does this_statement first mid (Ok x) → Does (statements_from (drop (i + 1) ss) x) mid last r → Does (statements_from (drop i ss) n) first last r
  statement_more x last r p q =
      subst (λ w. Does w first last r) (sym statements_are) (goes_on nothing itself nothing itself this_statement (λ _ n. statements_from (drop (i + 1) ss) n) first mid last x r p q)

  pub statement_fails : (h : Halt) → Does this_statement first mid (Err h) → Does (statements_from (drop i ss) n) first mid (Err h)
  statement_fails h p = subst (λ w. Does w first mid (Err h)) (sym statements_are) (fails_first nothing itself nothing itself this_statement (λ _ n. statements_from (drop (i + 1) ss) n) first mid mid h p)

pub statements_end : (ss : List TypedStatement) (i : ℕ) → length ss ≤ i → (n : ℕ) (out : List CommandTree) → Does (statements_from (drop i ss) n) out out (Ok n)
statements_end ss i le n out = subst (λ w. Does w out out (Ok n)) (sym (at_drop_all (λ ls. statements_from ls n) ss i le)) (sym (append-nil out), refl, refl)

-- ---- statements with lists of their own

module _ (s : Statement) (c : Test) (one two : Statement) (n : ℕ) (first mid : List CommandTree) (is : s ≡ tree.choose c one two) where
  abbrev branches : ℕ → ℕ → Lowered ⊤
  branches slot n =
      let y = lowered_statement one n in
      let z = lowered_statement two y.next in
      record { commands = command.choose slot (commands_of y.commands) (commands_of z.commands) ∷ []; value = Some tt; next = z.next }

  choose_is : lowered_statement s n ≡ and_then (lowered_condition c n) branches
  choose_is = ap (λ t. lowered_statement t n) is

  pub choose_fails : (h : Halt) (z : Result ℕ Halt) → IsErr z h → Decides (lowered_condition c n) first mid (Err h) → Does (lowered_statement s n) first mid z
  choose_fails h z p q = ends_with_outcome c n first mid nothing itself (lowered_statement s n) branches choose_is h z p q

  pub choose_returns : (x : Decided) (last from thens from' others : List CommandTree) (r r' : Result ℕ Halt) (m k : ℕ) → Decides (lowered_condition c n) first mid (Ok x) → from ≡ [] → Does (lowered_statement one x.next) from thens r → Ends r m →
      from' ≡ [] → Does (lowered_statement two m) from' others r' → Ends r' k → last ≡ mid ++ command.choose x.slot (commands_of thens) (commands_of others) ∷ [] → Does (lowered_statement s n) first last (Ok k)
  choose_returns x last from thens from' others r r' m k q e y a e' z b p =
      let (ys, to) = list_ended (lowered_statement one x.next) from thens r m e y a in
      let (zs, end) = list_ended (lowered_statement two m) from' others r' k e' z b in
      let w = λ (m : ℕ). lowered_statement two m in
      goes_on_with_outcome c n first mid nothing itself (lowered_statement s n) branches choose_is x last (Ok k) q
      (p ∙ ap₂ (λ a b. mid ++ command.choose x.slot (commands_of a) (commands_of b) ∷ []) ys (zs ∙ ap (λ m. (w m).commands) to), refl, sym (end ∙ ap (λ m. (w m).next) to))

module _ (s : Statement) (site : Site) (c : Option Test) (body step : Statement) (n : ℕ) (is : s ≡ tree.loop site c body step) where
  pub loop_returns : (first last from heads from' bodies from'' steps : List CommandTree) (r r' r'' : Result ℕ Halt) (m k l : ℕ) → from ≡ [] → Does (lowered_head c n) from heads r → Ends r m → from' ≡ [] → Does (lowered_statement body m) from' bodies r' → Ends r' k →
      from'' ≡ [] → Does (lowered_statement step k) from'' steps r'' → Ends r'' l → last ≡ first ++ command.loop site (commands_of heads) (commands_of bodies) (commands_of steps) ∷ [] → Does (lowered_statement s n) first last (Ok l)
  loop_returns first last from heads from' bodies from'' steps r r' r'' m k l e x a e' y b e'' z d p =
      let (xs, to) = list_ended (lowered_head c n) from heads r m e x a in
      let (ys, on) = list_ended (lowered_statement body m) from' bodies r' k e' y b in
      let (zs, end) = list_ended (lowered_statement step k) from'' steps r'' l e'' z d in
      let v = lowered_head c n in
      let w = λ (m : ℕ). lowered_statement body m in
      let u = λ (m : ℕ). lowered_statement step m in
      let on' : k ≡ (w v.next).next = on ∙ ap (λ m. (w m).next) to in
      let ys' : bodies ≡ (w v.next).commands = ys ∙ ap (λ m. (w m).commands) to in
      let zs' : steps ≡ (u (w v.next).next).commands = zs ∙ ap (λ k. (u k).commands) on' in
      let end' : l ≡ (u (w v.next).next).next = end ∙ ap (λ k. (u k).next) on' in
      subst (λ t. Does (lowered_statement t n) first last (Ok l)) (sym is)
      (p ∙ ap (λ a. first ++ command.loop site (commands_of a) (commands_of bodies) (commands_of steps) ∷ []) xs ∙ ap₂ (λ b d. first ++ command.loop site (commands_of v.commands) (commands_of b) (commands_of d) ∷ []) ys' zs', refl, sym end')

-- one part, and a command behind it
module _ (s : Statement) (e : Expression) (n : ℕ) (first mid : List CommandTree) (block : TypeId) (site : Site) (is : s ≡ tree.free e block site) where
  abbrev freeing : Operand → ℕ → Lowered ⊤
  freeing x n = doing (command.free x block site) n

  pub free_fails : (h : Halt) (z : Result ℕ Halt) → IsErr z h → Gives (lowered_expression e n) first mid (Err h) → Does (lowered_statement s n) first mid z
  free_fails h z p q = ends_with_value e n first mid nothing itself (lowered_statement s n) freeing (ap (λ t. lowered_statement t n) is) h z p q

  pub free_returns : (x : Given) (z : ℕ) (last : List CommandTree) → Gives (lowered_expression e n) first mid (Ok x) → last ≡ mid ++ command.free x.operand block site ∷ [] → z ≡ x.next → Does (lowered_statement s n) first last (Ok z)
  free_returns x z last q c m = goes_on_with_value e n first mid nothing itself (lowered_statement s n) freeing (ap (λ t. lowered_statement t n) is) x last (Ok z) q (c, refl, sym m)

module _ (es : Arguments) (n : ℕ) (first mid : List CommandTree) (proc : ProcId) (site : Site) where
  abbrev calling : List Operand → ℕ → Lowered ⊤
  calling xs n = doing (command.call None proc xs site) n

  pub call_fails : (h : Halt) (z : Result ℕ Halt) → IsErr z h → GivesAll (lowered_arguments es n) first mid (Err h) → Does (lowered_statement (tree.run_call proc es site) n) first mid z
  call_fails h z p q = ends_with_arguments es n first mid nothing itself (lowered_statement (tree.run_call proc es site) n) calling refl h z p q

  pub call_puts : (x : Operands) (z : ℕ) (last : List CommandTree) → GivesAll (lowered_arguments es n) first mid (Ok x) → last ≡ mid ++ command.call None proc x.operands.items site ∷ [] → z ≡ x.next → Does (lowered_statement (tree.run_call proc es site) n) first last (Ok z)
  call_puts x z last q c m = goes_on_with_arguments es n first mid nothing itself (lowered_statement (tree.run_call proc es site) n) calling refl x last (Ok z) q (c, refl, sym m)
