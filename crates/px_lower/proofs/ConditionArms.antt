-- What an arm of the lowering of conditions gave, and the turns of loops over arguments and values that aren't read.
use Rattle.std.specs.Prelude.{⊤}
use Rattle.std.proofs.Common.{◌≡◌, ◌∙◌, ℕ, suc, pos, ◌<◌, ◌≤◌, ◌+◌, List, [], ◌∷◌, ◌++◌, length, drop, get_or, map, Option, None, Some, Result, Ok, Err, Box, Vec, Global, refl, sym, ap, ap₂, subst, append_assoc, append-nil}
use Rattle.std.proofs.lemmas.List.{at_drop_all}
use Rattle.px_base.specs.declared.trace.Site.{Site}
use Rattle.px_core.specs.declared.command.Operand.{Operand}
use Rattle.px_core.specs.declared.command.Operand.TheVariants.{Slot, Word, Null}
use Rattle.px_core.specs.declared.command.Operator.TheVariants.{Sub}
use Rattle.px_core.specs.declared.command.Comparison.TheVariants as test
use Rattle.px_core.specs.CommandTree.{CommandTree, assign, test, choose, no_commands, commands_of}
use Rattle.px_syntax.specs.declared.typed_expression.Relation.{Relation}
use Rattle.px_syntax.specs.declared.typed_expression.Relation.TheVariants as relation
use Rattle.px_syntax.specs.declared.typed_expression.RelationLink.{RelationLink}
use Rattle.px_syntax.specs.declared.typed_expression.TypedExpression.{TypedExpression}
use Rattle.px_syntax.specs.declared.typed_expression.Argument.{Argument}
use Rattle.px_syntax.specs.declared.typed_expression.Condition.{Condition}
use Rattle.px_syntax.specs.declared.typed_expression.Condition.TheVariants as C
use Rattle.px_syntax.specs.TypedTree.{Expression, no_expressions, an_expression, Condition as Test, expressions_of, arguments_of, compare, word, pointer, both, either, opposite}
use Rattle.px_syntax.specs.TypedViews.{typed_expression, typed_argument, typed_condition, relation_link, compared, all_of, any_of}
use Rattle.px_meaning.proofs.TreesSeen.{compare_seen, both_seen, either_seen}
use Rattle.px_lower.specs.declared.put.Given.{Given}
use Rattle.px_lower.specs.declared.put.Decided.{Decided}
use Rattle.px_lower.specs.declared.put.Halt.{Halt}
use Rattle.px_lower.specs.declared.put.Halt.TheVariants.{Stopped, NoMemory}
use Rattle.px_lower.specs.declared.commands.Operands.{Operands}
use Rattle.px_lower.specs.Lowering.{Lowered, made_of, and_then, ready, doing, deciding, copied, copy, and_rest, or_rest, lowered_expression, lowered_arguments, lowered_passed, lowered_condition, comparison}
use Rattle.px_lower.specs.Chains.{Gives, GivesAll, GivesMore, Decides, Does, Ends}
use Rattle.px_lower.proofs.Sequences.{then_assoc}
use Rattle.px_lower.proofs.Chains.{fails_first, goes_on, next_one, compare_left_fails, compare_right_fails, compares, compared_fails, and_left_fails, or_left_fails, and_decides, or_decides, all_fails, any_fails, passed_one, no_argument, argument_one}
use Rattle.px_lower.proofs.Arms.{IsErr, handed_on, operand, next, slot, after, operands, behind, nothing, itself, ends_with_value, goes_on_with_value, ends_with_outcome, goes_on_with_outcome, this_argument}

-- ---- conditions

module _ (e : Condition) (f r : TypedExpression) (links : List RelationLink) (left : Box TypedExpression Global) (row : Vec RelationLink Global) (relation : Relation) (right : Box TypedExpression Global) (site : Site)
    (is : e ≡ C.Compare left row relation right site) (is_f : f ≡ left.value) (is_links : links ≡ row.items) (is_r : r ≡ right.value) (n : ℕ) (first : List CommandTree) where
  abbrev operand_on_left : Expression
  operand_on_left = compared (typed_expression f) (map relation_link links)

  of_compare : (last : List CommandTree) (z : Result Decided Halt) → Decides (lowered_condition (compare relation operand_on_left (typed_expression r) site) n) first last z → Decides (lowered_condition (typed_condition e) n) first last z
  of_compare last z q = subst (λ t. Decides (lowered_condition t n) first last z) (sym (compare_seen e f r links left row relation right site is is_f is_links is_r)) q

  pub first_operand_fails : (mid : List CommandTree) (h : Halt) (z : Result Decided Halt) → IsErr z h → Gives (lowered_expression (typed_expression f) n) first mid (Err h) → Decides (lowered_condition (typed_condition e) n) first mid z
  first_operand_fails mid h z p q =
      handed_on slot after (lowered_condition (typed_condition e) n) first mid z h p
      (of_compare mid (Err h) (compare_left_fails relation operand_on_left (typed_expression r) site n first mid h (compared_fails (typed_expression f) (map relation_link links) n first mid h q)))

  module _ (x : Given) (begin mid : List CommandTree) (start : Gives (lowered_expression (typed_expression f) n) first begin (Ok x)) where
    abbrev Chain : Result Given Halt → Type 0
    Chain z = (t : Expression) (m : ℕ) (ds : List CommandTree) → Gives (lowered_expression t m) ds begin (Ok x) → Gives (lowered_expression (compared t (map relation_link links)) m) ds mid z

    pub left_operand_fails : (h : Halt) (z : Result Decided Halt) → IsErr z h → Chain (Err h) → Decides (lowered_condition (typed_condition e) n) first mid z
    left_operand_fails h z p chain =
        handed_on slot after (lowered_condition (typed_condition e) n) first mid z h p
        (of_compare mid (Err h) (compare_left_fails relation operand_on_left (typed_expression r) site n first mid h (chain (typed_expression f) n first start)))

    module _ (y : Given) (chain : Chain (Ok y)) (second : List CommandTree) where
      pub right_operand_fails : (h : Halt) (z : Result Decided Halt) → IsErr z h → Gives (lowered_expression (typed_expression r) y.next) mid second (Err h) → Decides (lowered_condition (typed_condition e) n) first second z
      right_operand_fails h z p q =
          handed_on slot after (lowered_condition (typed_condition e) n) first second z h p
          (of_compare second (Err h) (compare_right_fails relation operand_on_left (typed_expression r) site n first mid y (chain (typed_expression f) n first start) second h q))

      pub compare_returns : (last : List CommandTree) (v : Given) (z : Decided) → Gives (lowered_expression (typed_expression r) y.next) mid second (Ok v) →
          last ≡ second ++ comparison relation v.next y.operand v.operand site ∷ [] → z.slot ≡ v.next → z.next ≡ suc v.next → Decides (lowered_condition (typed_condition e) n) first last (Ok z)
      compare_returns last v z q c o m =
          of_compare last (Ok z) (compares relation operand_on_left (typed_expression r) site n first mid y (chain (typed_expression f) n first start) second last v z q c o m)

module _ (e : Condition) (o : TypedExpression) (box : Box TypedExpression Global) (site : Site) (n : ℕ) (first mid : List CommandTree) (is_o : o ≡ box.value) where
  abbrev with_zero : Operand → ℕ → Lowered ℕ
  with_zero x n = deciding (λ to. test to test.Unequal x (Word (pos 0)) site) n

  abbrev with_null : Operand → ℕ → Lowered ℕ
  with_null x n = deciding (λ to. test to test.OtherPlace x Null site) n

  word_is : e ≡ C.Word box site → lowered_condition (typed_condition e) n ≡ and_then (lowered_expression (typed_expression o) n) with_zero
  word_is is = ap (λ c. lowered_condition (typed_condition c) n) is ∙ sym (ap (λ o. lowered_condition (word (typed_expression o) site) n) is_o)

  pointer_is : e ≡ C.Pointer box site → lowered_condition (typed_condition e) n ≡ and_then (lowered_expression (typed_expression o) n) with_null
  pointer_is is = ap (λ c. lowered_condition (typed_condition c) n) is ∙ sym (ap (λ o. lowered_condition (pointer (typed_expression o) site) n) is_o)

  pub word_fails : e ≡ C.Word box site → (h : Halt) (z : Result Decided Halt) → IsErr z h → Gives (lowered_expression (typed_expression o) n) first mid (Err h) → Decides (lowered_condition (typed_condition e) n) first mid z
  word_fails is h z p q = ends_with_value (typed_expression o) n first mid slot after (lowered_condition (typed_condition e) n) with_zero (word_is is) h z p q

  pub word_returns : e ≡ C.Word box site → (x : Given) (z : Decided) (last : List CommandTree) → Gives (lowered_expression (typed_expression o) n) first mid (Ok x) → last ≡ mid ++ test x.next test.Unequal x.operand (Word (pos 0)) site ∷ [] → z.slot ≡ x.next → z.next ≡ suc x.next →
      Decides (lowered_condition (typed_condition e) n) first last (Ok z)
  word_returns is x z last q c v m = goes_on_with_value (typed_expression o) n first mid slot after (lowered_condition (typed_condition e) n) with_zero (word_is is) x last (Ok z) q (c, ap Some (sym v), sym m)

  -- the same where zero is an operand of its own
  pub word_compared : e ≡ C.Word box site → (x zero : Given) (z : Decided) (last : List CommandTree) → zero.operand ≡ Word (pos 0) → zero.next ≡ x.next → Gives (lowered_expression (typed_expression o) n) first mid (Ok x) →
      last ≡ mid ++ comparison relation.Unequal zero.next x.operand zero.operand site ∷ [] → z.slot ≡ zero.next → z.next ≡ suc zero.next → Decides (lowered_condition (typed_condition e) n) first last (Ok z)
  word_compared is x zero z last a b q c v m = word_returns is x z last q (c ∙ ap₂ (λ to a. mid ++ test to test.Unequal x.operand a site ∷ []) b a) (v ∙ b) (m ∙ ap suc b)

  pub pointer_fails : e ≡ C.Pointer box site → (h : Halt) (z : Result Decided Halt) → IsErr z h → Gives (lowered_expression (typed_expression o) n) first mid (Err h) → Decides (lowered_condition (typed_condition e) n) first mid z
  pointer_fails is h z p q = ends_with_value (typed_expression o) n first mid slot after (lowered_condition (typed_condition e) n) with_null (pointer_is is) h z p q

  pub pointer_returns : e ≡ C.Pointer box site → (x : Given) (z : Decided) (last : List CommandTree) → Gives (lowered_expression (typed_expression o) n) first mid (Ok x) → last ≡ mid ++ test x.next test.OtherPlace x.operand Null site ∷ [] → z.slot ≡ x.next → z.next ≡ suc x.next →
      Decides (lowered_condition (typed_condition e) n) first last (Ok z)
  pointer_returns is x z last q c v m = goes_on_with_value (typed_expression o) n first mid slot after (lowered_condition (typed_condition e) n) with_null (pointer_is is) x last (Ok z) q (c, ap Some (sym v), sym m)

  pub pointer_compared : e ≡ C.Pointer box site → (x null : Given) (z : Decided) (last : List CommandTree) → null.operand ≡ Null → null.next ≡ x.next → Gives (lowered_expression (typed_expression o) n) first mid (Ok x) →
      last ≡ mid ++ comparison relation.OtherPlace null.next x.operand null.operand site ∷ [] → z.slot ≡ null.next → z.next ≡ suc null.next → Decides (lowered_condition (typed_condition e) n) first last (Ok z)
  pointer_compared is x null z last a b q c v m = pointer_returns is x z last q (c ∙ ap₂ (λ to a. mid ++ test to test.OtherPlace x.operand a site ∷ []) b a) (v ∙ b) (m ∙ ap suc b)

module _ (e c : Condition) (box : Box Condition Global) (is : e ≡ C.Not box) (is_c : c ≡ box.value) (n : ℕ) (first mid : List CommandTree) where
  abbrev opposing : ℕ → ℕ → Lowered ℕ
  opposing x n = deciding (λ to. assign to Sub (Word (pos 1)) (Slot x)) n

  opposite_is : lowered_condition (typed_condition e) n ≡ and_then (lowered_condition (typed_condition c) n) opposing
  opposite_is = ap (λ c. lowered_condition (typed_condition c) n) is ∙ sym (ap (λ c. lowered_condition (opposite (typed_condition c)) n) is_c)

  pub opposite_fails : (h : Halt) (z : Result Decided Halt) → IsErr z h → Decides (lowered_condition (typed_condition c) n) first mid (Err h) → Decides (lowered_condition (typed_condition e) n) first mid z
  opposite_fails h z p q = ends_with_outcome (typed_condition c) n first mid slot after (lowered_condition (typed_condition e) n) opposing opposite_is h z p q

  pub opposite_returns : (x z : Decided) (last : List CommandTree) → Decides (lowered_condition (typed_condition c) n) first mid (Ok x) → last ≡ mid ++ assign x.next Sub (Word (pos 1)) (Slot x.slot) ∷ [] → z.slot ≡ x.next → z.next ≡ suc x.next →
      Decides (lowered_condition (typed_condition e) n) first last (Ok z)
  opposite_returns x z last q d v m = goes_on_with_outcome (typed_condition c) n first mid slot after (lowered_condition (typed_condition e) n) opposing opposite_is x last (Ok z) q (d, ap Some (sym v), sym m)

module _ (e f r : Condition) (links : List Condition) (left : Box Condition Global) (row : Vec Condition Global) (right : Box Condition Global) (is_f : f ≡ left.value) (is_links : links ≡ row.items) (is_r : r ≡ right.value) (n : ℕ) (first : List CommandTree) where
  module _ (is : e ≡ C.And left row right) where
    abbrev all_on_left : Test
    all_on_left = all_of (typed_condition f) (map typed_condition links)

    of_and : (last : List CommandTree) (z : Result Decided Halt) → Decides (lowered_condition (both all_on_left (typed_condition r)) n) first last z → Decides (lowered_condition (typed_condition e) n) first last z
    of_and last z q = subst (λ t. Decides (lowered_condition t n) first last z) (sym (both_seen e f r links left row right is is_f is_links is_r)) q

    pub first_and_fails : (mid : List CommandTree) (h : Halt) (z : Result Decided Halt) → IsErr z h → Decides (lowered_condition (typed_condition f) n) first mid (Err h) → Decides (lowered_condition (typed_condition e) n) first mid z
    first_and_fails mid h z p q =
        handed_on slot after (lowered_condition (typed_condition e) n) first mid z h p
        (of_and mid (Err h) (and_left_fails all_on_left (typed_condition r) n first mid h (all_fails (typed_condition f) (map typed_condition links) n first mid h q)))

    module _ (x : Decided) (begin mid : List CommandTree) (start : Decides (lowered_condition (typed_condition f) n) first begin (Ok x)) where
      abbrev AndChain : Result Decided Halt → Type 0
      AndChain z = (t : Test) (m : ℕ) (ds : List CommandTree) → Decides (lowered_condition t m) ds begin (Ok x) → Decides (lowered_condition (all_of t (map typed_condition links)) m) ds mid z

      pub left_and_fails : (h : Halt) (z : Result Decided Halt) → IsErr z h → AndChain (Err h) → Decides (lowered_condition (typed_condition e) n) first mid z
      left_and_fails h z p chain =
          handed_on slot after (lowered_condition (typed_condition e) n) first mid z h p (of_and mid (Err h) (and_left_fails all_on_left (typed_condition r) n first mid h (chain (typed_condition f) n first start)))

      pub and_returns : (y z : Decided) (last : List CommandTree) → AndChain (Ok y) →
          (let w = and_rest y.slot y.next (copied y.next (lowered_condition (typed_condition r) (suc y.next))) in last ≡ mid ++ w.commands → z.slot ≡ y.next → z.next ≡ w.next → Decides (lowered_condition (typed_condition e) n) first last (Ok z))
      and_returns y z last chain c o m = of_and last (Ok z) (and_decides all_on_left (typed_condition r) n first mid last y z (chain (typed_condition f) n first start) c o m)

  module _ (is : e ≡ C.Or left row right) where
    abbrev any_on_left : Test
    any_on_left = any_of (typed_condition f) (map typed_condition links)

    of_or : (last : List CommandTree) (z : Result Decided Halt) → Decides (lowered_condition (either any_on_left (typed_condition r)) n) first last z → Decides (lowered_condition (typed_condition e) n) first last z
    of_or last z q = subst (λ t. Decides (lowered_condition t n) first last z) (sym (either_seen e f r links left row right is is_f is_links is_r)) q

    pub first_or_fails : (mid : List CommandTree) (h : Halt) (z : Result Decided Halt) → IsErr z h → Decides (lowered_condition (typed_condition f) n) first mid (Err h) → Decides (lowered_condition (typed_condition e) n) first mid z
    first_or_fails mid h z p q =
        handed_on slot after (lowered_condition (typed_condition e) n) first mid z h p
        (of_or mid (Err h) (or_left_fails any_on_left (typed_condition r) n first mid h (any_fails (typed_condition f) (map typed_condition links) n first mid h q)))

    module _ (x : Decided) (begin mid : List CommandTree) (start : Decides (lowered_condition (typed_condition f) n) first begin (Ok x)) where
      abbrev OrChain : Result Decided Halt → Type 0
      OrChain z = (t : Test) (m : ℕ) (ds : List CommandTree) → Decides (lowered_condition t m) ds begin (Ok x) → Decides (lowered_condition (any_of t (map typed_condition links)) m) ds mid z

      pub left_or_fails : (h : Halt) (z : Result Decided Halt) → IsErr z h → OrChain (Err h) → Decides (lowered_condition (typed_condition e) n) first mid z
      left_or_fails h z p chain =
          handed_on slot after (lowered_condition (typed_condition e) n) first mid z h p (of_or mid (Err h) (or_left_fails any_on_left (typed_condition r) n first mid h (chain (typed_condition f) n first start)))

      pub or_returns : (y z : Decided) (last : List CommandTree) → OrChain (Ok y) →
          (let w = or_rest y.slot y.next (copied y.next (lowered_condition (typed_condition r) (suc y.next))) in last ≡ mid ++ w.commands → z.slot ≡ y.next → z.next ≡ w.next → Decides (lowered_condition (typed_condition e) n) first last (Ok z))
      or_returns y z last chain c o m = of_or last (Ok z) (or_decides any_on_left (typed_condition r) n first mid last y z (chain (typed_condition f) n first start) c o m)

-- commands that have a list of their own
pub list_ended : (w : Lowered ⊤) (first after : List CommandTree) (r : Result ℕ Halt) (n : ℕ) → first ≡ [] → Does w first after r → Ends r n → (after ≡ w.commands) × (n ≡ w.next)
list_ended w first after (Ok m) n none q e = (q.0 ∙ ap (λ cs. cs ++ w.commands) none, e ∙ sym q.2)
list_ended w first after (Err (Stopped m)) n none q e = (q.0 ∙ ap (λ cs. cs ++ w.commands) none, e ∙ sym q.2)
list_ended w first after (Err NoMemory) n none q e = absurd e

-- two commands, one after another
pub both_put : (first mid last : List CommandTree) (a b : CommandTree) → mid ≡ first ++ a ∷ [] → last ≡ mid ++ b ∷ [] → last ≡ first ++ a ∷ b ∷ []
both_put first mid last a b e f = f ∙ ap (λ cs. cs ++ b ∷ []) e ∙ append_assoc first (a ∷ []) (b ∷ [])

module _ (left to : ℕ) (c : Test) (first mid last right none : List CommandTree) (r : Result ℕ Halt) (n : ℕ) (copies : mid ≡ first ++ copy to (Slot left) ∷ []) (empty : none ≡ []) where
  abbrev right_side : Lowered ⊤
  right_side = copied to (lowered_condition c (suc to))

  pub and_puts : last ≡ mid ++ choose to (commands_of right) (commands_of none) ∷ [] → (from : List CommandTree) → from ≡ [] → Does right_side from right r → Ends r n → (last ≡ first ++ (and_rest left to right_side).commands) × (n ≡ (and_rest left to right_side).next)
  and_puts e from is q k =
      let (l, m) = list_ended right_side from right r n is q k in
      (both_put first mid last (copy to (Slot left)) (choose to (commands_of right_side.commands) no_commands) copies (e ∙ ap₂ (λ a b. mid ++ choose to (commands_of a) (commands_of b) ∷ []) l empty), m)

  pub or_puts : last ≡ mid ++ choose to (commands_of none) (commands_of right) ∷ [] → (from : List CommandTree) → from ≡ [] → Does right_side from right r → Ends r n → (last ≡ first ++ (or_rest left to right_side).commands) × (n ≡ (or_rest left to right_side).next)
  or_puts e from is q k =
      let (l, m) = list_ended right_side from right r n is q k in
      (both_put first mid last (copy to (Slot left)) (choose to no_commands (commands_of right_side.commands)) copies (e ∙ ap₂ (λ a b. mid ++ choose to (commands_of b) (commands_of a) ∷ []) l empty), m)

-- the outcome of a right side
module _ (c : Test) (n to : ℕ) (first mid : List CommandTree) where
  abbrev copying : ℕ → ℕ → Lowered ⊤
  copying right n = doing (copy to (Slot right)) n

  pub outcome_fails : (h : Halt) (z : Result ℕ Halt) → IsErr z h → Decides (lowered_condition c n) first mid (Err h) → Does (copied to (lowered_condition c n)) first mid z
  outcome_fails h z p q = ends_with_outcome c n first mid nothing itself (copied to (lowered_condition c n)) copying refl h z p q

  pub outcome_returns : (x : Decided) (z : ℕ) (last : List CommandTree) → Decides (lowered_condition c n) first mid (Ok x) → last ≡ mid ++ copy to (Slot x.slot) ∷ [] → z ≡ x.next → Does (copied to (lowered_condition c n)) first last (Ok z)
  outcome_returns x z last q c' m = goes_on_with_outcome c n first mid nothing itself (copied to (lowered_condition c n)) copying refl x last (Ok z) q (c', refl, sym m)

-- ---- values that aren't read, one after another

abbrev pub passed_all : List TypedExpression → ℕ → Lowered ⊤
passed_all es n = lowered_passed (expressions_of (map typed_expression es)) n

module _ (es : List TypedExpression) (i : ℕ) (e : TypedExpression) (lt : i < length es) (is : e ≡ get_or es i e) (n : ℕ) (first mid : List CommandTree) where
  abbrev this_one : Lowered ⊤
  this_one = lowered_passed (an_expression (typed_expression e) no_expressions) n

  passed_from : passed_all (drop i es) n ≡ and_then this_one (λ _ n. passed_all (drop (i + 1) es) n)
  passed_from = next_one (λ ls. passed_all ls n) es i e lt is ∙ passed_one (typed_expression e) (expressions_of (map typed_expression (drop (i + 1) es))) n

  pub passed_more : (x : ℕ) (last : List CommandTree) (r : Result ℕ Halt) → Does this_one first mid (Ok x) → Does (passed_all (drop (i + 1) es) x) mid last r → Does (passed_all (drop i es) n) first last r
  passed_more x last r p q =
      subst (λ w. Does w first last r) (sym passed_from) (goes_on nothing itself nothing itself this_one (λ _ n. passed_all (drop (i + 1) es) n) first mid last x r p q)

  pub passed_fails : (h : Halt) → Does this_one first mid (Err h) → Does (passed_all (drop i es) n) first mid (Err h)
  passed_fails h p = subst (λ w. Does w first mid (Err h)) (sym passed_from) (fails_first nothing itself nothing itself this_one (λ _ n. passed_all (drop (i + 1) es) n) first mid mid h p)

pub passed_end : (es : List TypedExpression) (i : ℕ) → length es ≤ i → (n : ℕ) (out : List CommandTree) → Does (passed_all (drop i es) n) out out (Ok n)
passed_end es i le n out = subst (λ w. Does w out out (Ok n)) (sym (at_drop_all (λ ls. passed_all ls n) es i le)) (sym (append-nil out), refl, refl)

-- ---- arguments, one after another

abbrev pub all_arguments : List Argument → ℕ → Lowered (List Operand)
all_arguments es n = lowered_arguments (arguments_of (map typed_argument es)) n

-- those that are left, behind those that are there
abbrev pub arguments_behind : List Operand → List Argument → ℕ → Lowered (List Operand)
arguments_behind there es n = and_then (all_arguments es n) (λ xs n. ready (there ++ xs) n)

-- more of them are there
more_arguments : (there xs : List Operand) (w : Lowered (List Operand)) → and_then w (λ ys n. ready ((there ++ xs) ++ ys) n) ≡ and_then (and_then w (λ ys n. ready (xs ++ ys) n)) (λ zs n. ready (there ++ zs) n)
more_arguments there xs w = by w.value
  where
    by : (o : Option (List Operand)) → made_of w.commands w.next o (λ ys n. ready ((there ++ xs) ++ ys) n) ≡ and_then (made_of w.commands w.next o (λ ys n. ready (xs ++ ys) n)) (λ zs n. ready (there ++ zs) n)
    by None = refl
    by (Some ys) = ap₂ (λ cs zs. let v : Lowered (List Operand) = record { commands = cs; value = Some zs; next = w.next } in v) (sym (append-nil (w.commands ++ []))) (append_assoc there xs ys)

pub arguments_begin : (there : List Operand) (es : List Argument) (n : ℕ) (first last : List CommandTree) (r : Result Operands Halt) → there ≡ [] → GivesAll (arguments_behind there es n) first last r → GivesAll (all_arguments es n) first last r
arguments_begin there es n first last r is q = subst (λ w. GivesAll w first last r) (no_argument (all_arguments es n)) (subst (λ xs. GivesAll (arguments_behind xs es n) first last r) is q)

module _ (es : List Argument) (i : ℕ) (e : Argument) (lt : i < length es) (is : e ≡ get_or es i e) (there values : List Operand) (n : ℕ) (first mid : List CommandTree) where
  abbrev with_rest : List Operand → ℕ → Lowered (List Operand)
  with_rest xs n = and_then (and_then (all_arguments (drop (i + 1) es) n) (λ ys n. ready (xs ++ ys) n)) (λ zs n. ready (there ++ zs) n)

  arguments_from : arguments_behind there (drop i es) n ≡ and_then (this_argument e n first) with_rest
  arguments_from =
      next_one (λ ls. arguments_behind there ls n) es i e lt is
      ∙ ap (λ w. and_then w (λ zs n. ready (there ++ zs) n)) (argument_one (typed_argument e) (arguments_of (map typed_argument (drop (i + 1) es))) n)
      ∙ then_assoc (this_argument e n first) (λ xs n. and_then (all_arguments (drop (i + 1) es) n) (λ ys n. ready (xs ++ ys) n)) (λ zs n. ready (there ++ zs) n)

  pub argument_more : (x : ℕ) (last : List CommandTree) (r : Result Operands Halt) → GivesMore (this_argument e n first) first mid there values (Ok x) → GivesAll (arguments_behind values (drop (i + 1) es) x) mid last r → GivesAll (arguments_behind there (drop i es) n) first last r
  argument_more x last r (more, are, p) q =
      subst (λ w. GivesAll w first last r) (sym arguments_from) (goes_on (λ xs. xs) (λ xs. x) operands behind (this_argument e n first) with_rest first mid last more r p
      (subst (λ w. GivesAll w mid last r) (more_arguments there more (all_arguments (drop (i + 1) es) x)) (subst (λ v. GivesAll (arguments_behind v (drop (i + 1) es) x) mid last r) are q)))

  pub argument_fails : (h : Halt) → GivesMore (this_argument e n first) first mid there values (Err h) → GivesAll (arguments_behind there (drop i es) n) first mid (Err h)
  argument_fails h p = subst (λ w. GivesAll w first mid (Err h)) (sym arguments_from) (fails_first (λ xs. xs) (λ xs. 0) operands behind (this_argument e n first) with_rest first mid mid h p)

pub arguments_end : (es : List Argument) (i : ℕ) → length es ≤ i → (there : List Operand) (n : ℕ) (out : List CommandTree) (z : Operands) → z.operands.items ≡ there → z.next ≡ n → GivesAll (arguments_behind there (drop i es) n) out out (Ok z)
arguments_end es i le there n out z o m =
    subst (λ w. GivesAll w out out (Ok z)) (sym (at_drop_all (λ ls. arguments_behind there ls n) es i le)) (sym (append-nil out), ap Some (append-nil there ∙ sym o), sym m)
