-- What an arm of the lowering of expressions and conditions gave: it ends as a part of it ends, or puts its own command
-- behind those of its parts.
use Rattle.std.specs.Prelude.{⊤}
use Rattle.std.proofs.Common.{◌≡◌, ◌∙◌, ℕ, suc, pos, List, [], ◌∷◌, ◌++◌, map, None, Some, Result, Ok, Err, Box, Vec, Global, refl, sym, ap, subst, append_assoc, append-nil}
use Rattle.px_base.specs.declared.trace.Site.{Site}
use Rattle.px_base.specs.declared.trace.ProcId.{ProcId}
use Rattle.px_base.specs.declared.trace.FieldId.{FieldId}
use Rattle.px_terms.specs.declared.types.TypeId.{TypeId}
use Rattle.px_terms.specs.declared.types.ValueType.{ValueType}
use Rattle.px_core.specs.declared.command.Operand.{Operand}
use Rattle.px_core.specs.declared.command.Operand.TheVariants.{Slot, Word}
use Rattle.px_core.specs.declared.command.Operator.TheVariants.{Neg}
use Rattle.px_core.specs.CommandTree.{CommandTree, assign, unset, load, read}
use Rattle.px_core.specs.CommandTree as command
use Rattle.px_syntax.specs.declared.typed_expression.Arithmetic.{Arithmetic}
use Rattle.px_syntax.specs.declared.typed_expression.CellLink.{CellLink}
use Rattle.px_syntax.specs.declared.typed_expression.ArithmeticLink.{ArithmeticLink}
use Rattle.px_syntax.specs.declared.typed_expression.TypedExpression.{TypedExpression, TypedExpression-F, out-TypedExpression, roll-TypedExpression, roll-out-TypedExpression}
use Rattle.px_syntax.specs.declared.typed_expression.TypedExpression.TheVariants as E
use Rattle.px_syntax.specs.declared.typed_expression.Argument.{Argument}
use Rattle.px_syntax.specs.declared.typed_expression.Argument.TheVariants as A
use Rattle.px_syntax.specs.declared.typed_expression.Condition.{Condition}
use Rattle.px_syntax.specs.TypedTree.{Expression, no_expressions, an_expression, Arguments, no_arguments, an_argument, Condition as Test, expressions_of, arguments_of, constant, null, local, negated, arithmetic, truth, cell, allocate, get_char, call, stop}
use Rattle.px_syntax.specs.TypedViews.{typed_expression, typed_argument, typed_condition, arithmetic_link, calculated, cells}
use Rattle.px_syntax.proofs.TypedEquations.{typed-Arithmetic, typed-Stop}
use Rattle.px_meaning.proofs.TreesSeen.{arithmetic_seen, cell_seen, call_seen, erased_seen, stop_seen}
use Rattle.px_lower.specs.declared.put.Given.{Given}
use Rattle.px_lower.specs.declared.put.Decided.{Decided}
use Rattle.px_lower.specs.declared.put.Halt.{Halt}
use Rattle.px_lower.specs.declared.put.Halt.TheVariants.{Stopped, NoMemory}
use Rattle.px_lower.specs.declared.commands.Operands.{Operands}
use Rattle.px_lower.specs.Lowering.{Lowered, before, and_then, ready, doing, giving, reached, called, stopping, lowered_expression, lowered_arguments, lowered_passed, lowered_condition, operation, result_slot}
use Rattle.px_lower.specs.Chains.{Puts, Gives, GivesAll, GivesMore, Decides, Does}
use Rattle.px_lower.proofs.Chains.{fails_first, goes_on, left_fails, right_fails, calculates, calculated_fails, cell_fails, cell_loads, truth_gives, truth_fails}

-- ---- what a `?` hands on

-- it is the error of what was called
abbrev pub IsErr : {A : Type 0} → Result A Halt → Halt → Type 0
IsErr r h = (x : Halt) × (r ≡ Err x) × (x ≡ h)

pub handed_on : {A B : Type 0} (value : A → B) (next : A → ℕ) (wanted : Lowered B) (first after : List CommandTree) (r : Result A Halt) (h : Halt) → IsErr r h → Puts value next wanted first after (Err h) → Puts value next wanted first after r
handed_on value next wanted first after r h p q = subst (λ z. Puts value next wanted first after z) (sym (p.1 ∙ ap (λ z. Err z) p.2)) q

pub out_of_memory : {A B : Type 0} (value : A → B) (next : A → ℕ) (wanted : Lowered B) (first after : List CommandTree) (r : Result A Halt) → IsErr r NoMemory → Puts value next wanted first after r
out_of_memory value next wanted first after r p = handed_on value next wanted first after r NoMemory p tt

-- commands before those
pub begun : {A B : Type 0} (value : A → B) (next : A → ℕ) (cs : List CommandTree) (wanted : Lowered B) (first mid after : List CommandTree) (r : Result A Halt) → mid ≡ first ++ cs → Puts value next wanted mid after r → Puts value next (before cs wanted) first after r
begun value next cs wanted first mid after (Ok x) e q = (q.0 ∙ ap (λ z. z ++ wanted.commands) e ∙ append_assoc first cs wanted.commands, q.1, q.2)
begun value next cs wanted first mid after (Err (Stopped n)) e q = (q.0 ∙ ap (λ z. z ++ wanted.commands) e ∙ append_assoc first cs wanted.commands, q.1, q.2)
begun value next cs wanted first mid after (Err NoMemory) e q = tt

abbrev pub operand : Given → Operand
operand x = x.operand

abbrev pub next : Given → ℕ
next x = x.next

abbrev pub slot : Decided → ℕ
slot x = x.slot

abbrev pub after : Decided → ℕ
after x = x.next

abbrev pub operands : Operands → List Operand
operands x = x.operands.items

abbrev pub behind : Operands → ℕ
behind x = x.next

abbrev pub nothing : ℕ → ⊤
nothing n = tt

abbrev pub itself : ℕ → ℕ
itself n = n

-- ---- one part, and a command behind it

module _ (t : Expression) (n : ℕ) (first mid : List CommandTree) where
  -- an expression, and what is made of its value
  module _ {B D : Type 0} (value : B → D) (next' : B → ℕ) (whole : Lowered D) (f : Operand → ℕ → Lowered D) (is : whole ≡ and_then (lowered_expression t n) f) where
    pub ends_with_value : (h : Halt) (r : Result B Halt) → IsErr r h → Gives (lowered_expression t n) first mid (Err h) → Puts value next' whole first mid r
    ends_with_value h r p q =
        handed_on value next' whole first mid r h p
        (subst (λ w. Puts value next' w first mid (Err h)) (sym is) (fails_first operand next value next' (lowered_expression t n) f first mid mid h q))

    pub goes_on_with_value : (x : Given) (last : List CommandTree) (r : Result B Halt) → Gives (lowered_expression t n) first mid (Ok x) → Puts value next' (f x.operand x.next) mid last r → Puts value next' whole first last r
    goes_on_with_value x last r p q = subst (λ w. Puts value next' w first last r) (sym is) (goes_on operand next value next' (lowered_expression t n) f first mid last x r p q)

module _ (c : Test) (n : ℕ) (first mid : List CommandTree) where
  -- a condition, and what is made of its outcome
  module _ {B D : Type 0} (value : B → D) (next' : B → ℕ) (whole : Lowered D) (f : ℕ → ℕ → Lowered D) (is : whole ≡ and_then (lowered_condition c n) f) where
    pub ends_with_outcome : (h : Halt) (r : Result B Halt) → IsErr r h → Decides (lowered_condition c n) first mid (Err h) → Puts value next' whole first mid r
    ends_with_outcome h r p q =
        handed_on value next' whole first mid r h p
        (subst (λ w. Puts value next' w first mid (Err h)) (sym is) (fails_first slot after value next' (lowered_condition c n) f first mid mid h q))

    pub goes_on_with_outcome : (x : Decided) (last : List CommandTree) (r : Result B Halt) → Decides (lowered_condition c n) first mid (Ok x) → Puts value next' (f x.slot x.next) mid last r → Puts value next' whole first last r
    goes_on_with_outcome x last r p q = subst (λ w. Puts value next' w first last r) (sym is) (goes_on slot after value next' (lowered_condition c n) f first mid last x r p q)

module _ (es : Arguments) (n : ℕ) (first mid : List CommandTree) where
  -- arguments, and what is made of their values
  module _ {B D : Type 0} (value : B → D) (next' : B → ℕ) (whole : Lowered D) (f : List Operand → ℕ → Lowered D) (is : whole ≡ and_then (lowered_arguments es n) f) where
    pub ends_with_arguments : (h : Halt) (r : Result B Halt) → IsErr r h → GivesAll (lowered_arguments es n) first mid (Err h) → Puts value next' whole first mid r
    ends_with_arguments h r p q =
        handed_on value next' whole first mid r h p
        (subst (λ w. Puts value next' w first mid (Err h)) (sym is) (fails_first operands behind value next' (lowered_arguments es n) f first mid mid h q))

    pub goes_on_with_arguments : (x : Operands) (last : List CommandTree) (r : Result B Halt) → GivesAll (lowered_arguments es n) first mid (Ok x) → Puts value next' (f x.operands.items x.next) mid last r → Puts value next' whole first last r
    goes_on_with_arguments x last r p q = subst (λ w. Puts value next' w first last r) (sym is) (goes_on operands behind value next' (lowered_arguments es n) f first mid last x r p q)

module _ (w : Lowered ⊤) (first mid : List CommandTree) where
  -- what gives no value, and what follows it
  module _ {B D : Type 0} (value : B → D) (next' : B → ℕ) (whole : Lowered D) (f : ⊤ → ℕ → Lowered D) (is : whole ≡ and_then w f) where
    pub ends_there : (h : Halt) (r : Result B Halt) → IsErr r h → Does w first mid (Err h) → Puts value next' whole first mid r
    ends_there h r p q =
        handed_on value next' whole first mid r h p (subst (λ w. Puts value next' w first mid (Err h)) (sym is) (fails_first nothing itself value next' w f first mid mid h q))

    pub goes_on_there : (x : ℕ) (last : List CommandTree) (r : Result B Halt) → Does w first mid (Ok x) → Puts value next' (f tt x) mid last r → Puts value next' whole first last r
    goes_on_there x last r p q = subst (λ w. Puts value next' w first last r) (sym is) (goes_on nothing itself value next' w f first mid last x r p q)

-- ---- expressions

module _ (e o : TypedExpression) (box : Box TypedExpression Global) (is : e ≡ E.Negate box) (is_o : o ≡ box.value) (n : ℕ) (first mid : List CommandTree) where
  negated_form : typed_expression e ≡ negated (typed_expression o)
  negated_form = ap typed_expression is ∙ sym (ap (λ e. negated (typed_expression e)) is_o)

  abbrev negating : Operand → ℕ → Lowered Operand
  negating x n = giving (λ to. assign to Neg x (Word (pos 0))) n

  pub negate_fails : (h : Halt) (r : Result Given Halt) → IsErr r h → Gives (lowered_expression (typed_expression o) n) first mid (Err h) → Gives (lowered_expression (typed_expression e) n) first mid r
  negate_fails h r p q =
      ends_with_value (typed_expression o) n first mid operand next (lowered_expression (typed_expression e) n) negating (ap (λ t. lowered_expression t n) negated_form) h r p q

  pub negate_returns : (x z : Given) (last : List CommandTree) → Gives (lowered_expression (typed_expression o) n) first mid (Ok x) → last ≡ mid ++ assign x.next Neg x.operand (Word (pos 0)) ∷ [] → z.operand ≡ Slot x.next → z.next ≡ suc x.next →
      Gives (lowered_expression (typed_expression e) n) first last (Ok z)
  negate_returns x z last q c v m =
      goes_on_with_value (typed_expression o) n first mid operand next (lowered_expression (typed_expression e) n) negating (ap (λ t. lowered_expression t n) negated_form) x last (Ok z) q (c, ap Some (sym v), sym m)

module _ (e f r : TypedExpression) (links : List ArithmeticLink) (left : Box TypedExpression Global) (row : Vec ArithmeticLink Global) (op : Arithmetic) (right : Box TypedExpression Global)
    (is : e ≡ E.Arithmetic left row op right) (is_f : f ≡ left.value) (is_links : links ≡ row.items) (is_r : r ≡ right.value) (n : ℕ) (first : List CommandTree) where
  abbrev operand_on_left : Expression
  operand_on_left = calculated (typed_expression f) (map arithmetic_link links)

  -- what holds of the tree's form holds of the tree
  of_arithmetic : (last : List CommandTree) (z : Result Given Halt) → Gives (lowered_expression (arithmetic op operand_on_left (typed_expression r)) n) first last z → Gives (lowered_expression (typed_expression e) n) first last z
  of_arithmetic last z q = subst (λ t. Gives (lowered_expression t n) first last z) (sym (arithmetic_seen e f r links left row op right is is_f is_links is_r)) q

  pub first_operand_fails : (mid : List CommandTree) (h : Halt) (z : Result Given Halt) → IsErr z h → Gives (lowered_expression (typed_expression f) n) first mid (Err h) → Gives (lowered_expression (typed_expression e) n) first mid z
  first_operand_fails mid h z p q =
      handed_on operand next (lowered_expression (typed_expression e) n) first mid z h p
      (of_arithmetic mid (Err h) (left_fails op operand_on_left (typed_expression r) n first mid h (calculated_fails (typed_expression f) (map arithmetic_link links) n first mid h q)))

  module _ (x : Given) (begin mid : List CommandTree) (start : Gives (lowered_expression (typed_expression f) n) first begin (Ok x)) where
    abbrev Chain : Result Given Halt → Type 0
    Chain z = (t : Expression) (m : ℕ) (ds : List CommandTree) → Gives (lowered_expression t m) ds begin (Ok x) → Gives (lowered_expression (calculated t (map arithmetic_link links)) m) ds mid z

    pub left_operand_fails : (h : Halt) (z : Result Given Halt) → IsErr z h → Chain (Err h) → Gives (lowered_expression (typed_expression e) n) first mid z
    left_operand_fails h z p chain =
        handed_on operand next (lowered_expression (typed_expression e) n) first mid z h p (of_arithmetic mid (Err h) (left_fails op operand_on_left (typed_expression r) n first mid h (chain (typed_expression f) n first start)))

    module _ (y : Given) (chain : Chain (Ok y)) (second : List CommandTree) where
      pub right_operand_fails : (h : Halt) (z : Result Given Halt) → IsErr z h → Gives (lowered_expression (typed_expression r) y.next) mid second (Err h) → Gives (lowered_expression (typed_expression e) n) first second z
      right_operand_fails h z p q =
          handed_on operand next (lowered_expression (typed_expression e) n) first second z h p
          (of_arithmetic second (Err h) (right_fails op operand_on_left (typed_expression r) n first mid y (chain (typed_expression f) n first start) second h q))

      pub arithmetic_returns : (last : List CommandTree) (v z : Given) → Gives (lowered_expression (typed_expression r) y.next) mid second (Ok v) →
          last ≡ second ++ operation op y.operand v.operand v.next → z.operand ≡ Slot (result_slot op v.next) → z.next ≡ suc (result_slot op v.next) → Gives (lowered_expression (typed_expression e) n) first last (Ok z)
      arithmetic_returns last v z q c o m =
          of_arithmetic last (Ok z) (calculates op operand_on_left (typed_expression r) n first mid y (chain (typed_expression f) n first start) second last v z q c o m)

module _ (e : TypedExpression) (c : Condition) (box : Box Condition Global) (is : e ≡ E.Truth box) (is_c : c ≡ box.value) (n : ℕ) (first mid : List CommandTree) where
  truth_form : typed_expression e ≡ truth (typed_condition c)
  truth_form = ap typed_expression is ∙ sym (ap (λ c. truth (typed_condition c)) is_c)

  of_truth : (z : Result Given Halt) → Gives (lowered_expression (truth (typed_condition c)) n) first mid z → Gives (lowered_expression (typed_expression e) n) first mid z
  of_truth z q = subst (λ t. Gives (lowered_expression t n) first mid z) (sym truth_form) q

  pub condition_fails : (h : Halt) (z : Result Given Halt) → IsErr z h → Decides (lowered_condition (typed_condition c) n) first mid (Err h) → Gives (lowered_expression (typed_expression e) n) first mid z
  condition_fails h z p q = handed_on operand next (lowered_expression (typed_expression e) n) first mid z h p (of_truth (Err h) (truth_fails (typed_condition c) n first mid h q))

  pub truth_returns : (x : Decided) (z : Given) → Decides (lowered_condition (typed_condition c) n) first mid (Ok x) → z.operand ≡ Slot x.slot → z.next ≡ x.next → Gives (lowered_expression (typed_expression e) n) first mid (Ok z)
  truth_returns x z q o m = of_truth (Ok z) (truth_gives (typed_condition c) n first mid x z q o m)

module _ (e f : TypedExpression) (links : List CellLink) (at : Box TypedExpression Global) (row : Vec CellLink Global) (l : CellLink) (is : e ≡ E.Cell at row l.field l.block l.site) (is_f : f ≡ at.value) (is_links : links ≡ row.items)
    (n : ℕ) (first mid : List CommandTree) where
  of_cell : (last : List CommandTree) (z : Result Given Halt) → Gives (lowered_expression (cell (cells (typed_expression f) links) l.field l.block l.site) n) first last z → Gives (lowered_expression (typed_expression e) n) first last z
  of_cell last z q = subst (λ t. Gives (lowered_expression t n) first last z) (sym (cell_seen e f links at row l.field l.block l.site is is_f is_links)) q

  pub pointer_fails : (h : Halt) (z : Result Given Halt) → IsErr z h → Gives (lowered_expression (cells (typed_expression f) links) n) first mid (Err h) → Gives (lowered_expression (typed_expression e) n) first mid z
  pointer_fails h z p q = handed_on operand next (lowered_expression (typed_expression e) n) first mid z h p (of_cell mid (Err h) (cell_fails (cells (typed_expression f) links) l n first mid h q))

  pub cell_returns : (x z : Given) (last : List CommandTree) → Gives (lowered_expression (cells (typed_expression f) links) n) first mid (Ok x) →
      last ≡ mid ++ load x.next x.operand l.field l.block l.site ∷ read x.next l.site ∷ [] → z.operand ≡ Slot x.next → z.next ≡ suc x.next → Gives (lowered_expression (typed_expression e) n) first last (Ok z)
  cell_returns x z last q c o m = of_cell last (Ok z) (cell_loads (cells (typed_expression f) links) l n first mid last x z q c o m)

  -- where its value isn't read
  abbrev passed_cell : Lowered ⊤
  passed_cell = lowered_passed (an_expression (typed_expression e) no_expressions) n

  abbrev reaching : Operand → ℕ → Lowered ⊤
  reaching x n = and_then (reached x l.field l.block l.site n) (λ _ n. ready tt n)

  passed_cell_is : passed_cell ≡ and_then (lowered_expression (cells (typed_expression f) links) n) reaching
  passed_cell_is = ap (λ t. lowered_passed (an_expression t no_expressions) n) (cell_seen e f links at row l.field l.block l.site is is_f is_links)

  pub passed_pointer_fails : (h : Halt) (z : Result ℕ Halt) → IsErr z h → Gives (lowered_expression (cells (typed_expression f) links) n) first mid (Err h) → Does passed_cell first mid z
  passed_pointer_fails h z p q = ends_with_value (cells (typed_expression f) links) n first mid nothing itself passed_cell reaching passed_cell_is h z p q

  pub passed_cell_returns : (x : Given) (z : ℕ) (last : List CommandTree) → Gives (lowered_expression (cells (typed_expression f) links) n) first mid (Ok x) →
      last ≡ mid ++ load x.next x.operand l.field l.block l.site ∷ unset x.next ∷ [] → z ≡ suc x.next → Does passed_cell first last (Ok z)
  passed_cell_returns x z last q c m = goes_on_with_value (cells (typed_expression f) links) n first mid nothing itself passed_cell reaching passed_cell_is x last (Ok z) q (c, refl, sym m)

module _ (e : TypedExpression) (es : List Argument) (proc : ProcId) (row : Vec Argument Global) (type : ValueType) (site : Site) (is : e ≡ E.Call proc row type site) (is_es : es ≡ row.items) (n : ℕ) (first mid : List CommandTree) where
  abbrev all_arguments : Arguments
  all_arguments = arguments_of (map typed_argument es)

  abbrev calling : List Operand → ℕ → Lowered Operand
  calling xs n = called proc xs site n

  call_is : lowered_expression (typed_expression e) n ≡ and_then (lowered_arguments all_arguments n) calling
  call_is = ap (λ t. lowered_expression t n) (call_seen e es proc row type site is is_es)

  pub arguments_fail : (h : Halt) (z : Result Given Halt) → IsErr z h → GivesAll (lowered_arguments all_arguments n) first mid (Err h) → Gives (lowered_expression (typed_expression e) n) first mid z
  arguments_fail h z p q = ends_with_arguments all_arguments n first mid operand next (lowered_expression (typed_expression e) n) calling call_is h z p q

  pub call_returns : (x : Operands) (z : Given) (last : List CommandTree) → GivesAll (lowered_arguments all_arguments n) first mid (Ok x) →
      last ≡ mid ++ command.call (Some x.next) proc x.operands.items site ∷ read x.next site ∷ [] → z.operand ≡ Slot x.next → z.next ≡ suc x.next → Gives (lowered_expression (typed_expression e) n) first last (Ok z)
  call_returns x z last q c o m = goes_on_with_arguments all_arguments n first mid operand next (lowered_expression (typed_expression e) n) calling call_is x last (Ok z) q (c, ap Some (sym o), sym m)

  -- where its value isn't read
  abbrev passed_call : Lowered ⊤
  passed_call = lowered_passed (an_expression (typed_expression e) no_expressions) n

  abbrev passing : List Operand → ℕ → Lowered ⊤
  passing xs n = and_then (doing (command.call None proc xs site) n) (λ _ n. ready tt n)

  passed_call_is : passed_call ≡ and_then (lowered_arguments all_arguments n) passing
  passed_call_is = ap (λ t. lowered_passed (an_expression t no_expressions) n) (call_seen e es proc row type site is is_es)

  pub passed_arguments_fail : (h : Halt) (z : Result ℕ Halt) → IsErr z h → GivesAll (lowered_arguments all_arguments n) first mid (Err h) → Does passed_call first mid z
  passed_arguments_fail h z p q = ends_with_arguments all_arguments n first mid nothing itself passed_call passing passed_call_is h z p q

  pub passed_call_returns : (x : Operands) (z : ℕ) (last : List CommandTree) → GivesAll (lowered_arguments all_arguments n) first mid (Ok x) → last ≡ mid ++ command.call None proc x.operands.items site ∷ [] → z ≡ x.next → Does passed_call first last (Ok z)
  passed_call_returns x z last q c m = goes_on_with_arguments all_arguments n first mid nothing itself passed_call passing passed_call_is x last (Ok z) q (c, refl, sym m)

module _ (e : TypedExpression) (es : List TypedExpression) (number : ℕ) (site : Site) (row : Vec TypedExpression Global) (is : e ≡ E.Stop number site row) (is_es : es ≡ row.items) (n : ℕ) (first mid : List CommandTree) where
  abbrev all_parts : Lowered ⊤
  all_parts = lowered_passed (expressions_of (map typed_expression es)) n

  stop_is : lowered_expression (typed_expression e) n ≡ and_then all_parts (λ _ n. stopping number site n)
  stop_is = ap (λ t. lowered_expression t n) (stop_seen e es number site row is is_es)

  pub parts_fail : (h : Halt) (z : Result Given Halt) → IsErr z h → Does all_parts first mid (Err h) → Gives (lowered_expression (typed_expression e) n) first mid z
  parts_fail h z p q = ends_there all_parts first mid operand next (lowered_expression (typed_expression e) n) (λ _ n. stopping number site n) stop_is h z p q

  pub stop_returns : (x : ℕ) (last : List CommandTree) → Does all_parts first mid (Ok x) → last ≡ mid ++ command.stop number site ∷ [] → Gives (lowered_expression (typed_expression e) n) first last (Err (Stopped x))
  stop_returns x last q c = goes_on_there all_parts first mid operand next (lowered_expression (typed_expression e) n) (λ _ n. stopping number site n) stop_is x last (Err (Stopped x)) q (c, refl, refl)

-- ---- an argument

module _ (e : Argument) (n : ℕ) (first : List CommandTree) where
  abbrev pub this_argument : Lowered (List Operand)
  this_argument = lowered_arguments (an_argument (typed_argument e) no_arguments) n

  -- it is the error of what was called
  pub argument_handed_on : (mid : List CommandTree) (there values : List Operand) (h : Halt) (r : Result ℕ Halt) → IsErr r h → GivesMore this_argument first mid there values (Err h) → GivesMore this_argument first mid there values r
  argument_handed_on mid there values h r p q = subst (λ z. GivesMore this_argument first mid there values z) (sym (p.1 ∙ ap (λ z. Err z) p.2)) q

  pub argument_without_memory : (mid : List CommandTree) (there values : List Operand) (r : Result ℕ Halt) → IsErr r NoMemory → GivesMore this_argument first mid there values r
  argument_without_memory mid there values r p = argument_handed_on mid there values NoMemory r p tt

  module _ (t : TypedExpression) (is : e ≡ A.Passed t) (mid : List CommandTree) where
    abbrev alone : Operand → ℕ → Lowered (List Operand)
    alone x n = ready (x ∷ []) n

    value_is : this_argument ≡ and_then (lowered_expression (typed_expression t) n) alone
    value_is = ap (λ e. lowered_arguments (an_argument (typed_argument e) no_arguments) n) is

    pub value_fails : (there values : List Operand) (h : Halt) → Gives (lowered_expression (typed_expression t) n) first mid (Err h) → GivesMore this_argument first mid there values (Err h)
    value_fails there values h p =
        subst (λ w. GivesMore w first mid there values (Err h)) (sym value_is) (fails_first operand next (λ xs. xs) (λ xs. 0) (lowered_expression (typed_expression t) n) alone first mid mid h p)

    pub value_returns : (there values : List Operand) (x : Given) → Gives (lowered_expression (typed_expression t) n) first mid (Ok x) → values ≡ there ++ x.operand ∷ [] → GivesMore this_argument first mid there values (Ok x.next)
    value_returns there values x p are =
        subst (λ w. GivesMore w first mid there values (Ok x.next)) (sym value_is)
        (x.operand ∷ [], are, goes_on operand next (λ xs. xs) (λ xs. x.next) (lowered_expression (typed_expression t) n) alone first mid mid x (Ok (x.operand ∷ [])) p (sym (append-nil mid), refl, refl))

  module _ (es : List TypedExpression) (row : Vec TypedExpression Global) (is : e ≡ A.Erased row) (is_es : es ≡ row.items) (mid : List CommandTree) (there : List Operand) where
    abbrev erased_parts : Lowered ⊤
    erased_parts = lowered_passed (expressions_of (map typed_expression es)) n

    abbrev no_value : ⊤ → ℕ → Lowered (List Operand)
    no_value _ n = ready [] n

    erased_is : this_argument ≡ and_then erased_parts no_value
    erased_is = ap (λ a. lowered_arguments (an_argument a no_arguments) n) (erased_seen e es row is is_es)

    pub parts_done : (r : Result ℕ Halt) → Does erased_parts first mid r → GivesMore this_argument first mid there there r
    parts_done (Ok x) p =
        subst (λ w. GivesMore w first mid there there (Ok x)) (sym erased_is)
        ([], sym (append-nil there), goes_on nothing itself (λ xs. xs) (λ xs. x) erased_parts no_value first mid mid x (Ok []) p (sym (append-nil mid), refl, refl))
    parts_done (Err h) p = subst (λ w. GivesMore w first mid there there (Err h)) (sym erased_is) (fails_first nothing itself (λ xs. xs) (λ xs. 0) erased_parts no_value first mid mid h p)

-- ---- trees that are what they are seen as

pub of_tree : (e e' : TypedExpression) (n : ℕ) (first last : List CommandTree) (z : Result Given Halt) → e ≡ e' → Gives (lowered_expression (typed_expression e') n) first last z → Gives (lowered_expression (typed_expression e) n) first last z
of_tree e e' n first last z is q = subst (λ e. Gives (lowered_expression (typed_expression e) n) first last z) (sym is) q

-- none of those whose values have cases of their own where they aren't read
abbrev pub IsPlain : Expression → Type 0
IsPlain (local i site) = ⊥
IsPlain (cell p field block site) = ⊥
IsPlain (call proc es type site) = ⊥
IsPlain e = ⊤

pub plain_seen : (e : TypedExpression) → ((i : ℕ) (site : Site) → e ≡ E.Local i site → ⊥) →
    ((p : Box TypedExpression Global) (row : Vec CellLink Global) (field : FieldId) (block : TypeId) (site : Site) → e ≡ E.Cell p row field block site → ⊥) →
    ((proc : ProcId) (row : Vec Argument Global) (type : ValueType) (site : Site) → e ≡ E.Call proc row type site → ⊥) → IsPlain (typed_expression e)
plain_seen e no_local no_cell no_call = by (out-TypedExpression e) (roll-out-TypedExpression e)
  where
    same : (e' : TypedExpression) → e ≡ e' → IsPlain (typed_expression e') → IsPlain (typed_expression e)
    same e' is h = subst (λ e. IsPlain (typed_expression e)) (sym is) h

    by : (x : _) → roll-TypedExpression x ≡ e → IsPlain (typed_expression e)
    by (TypedExpression-F.Constant z) is = same (E.Constant z) (sym is ∙ E.rolls-Constant z) tt
    by TypedExpression-F.Null is = same E.Null (sym is ∙ E.rolls-Null) tt
    by (TypedExpression-F.Local i site) is = absurd (no_local i site (sym is ∙ E.rolls-Local i site))
    by (TypedExpression-F.Negate b) is = same (E.Negate b) (sym is ∙ E.rolls-Negate b) tt
    by (TypedExpression-F.Arithmetic left row op right) is = same (E.Arithmetic left row op right) (sym is ∙ E.rolls-Arithmetic left row op right) (subst IsPlain (sym (typed-Arithmetic left row op right)) tt)
    by (TypedExpression-F.Truth c) is = same (E.Truth c) (sym is ∙ E.rolls-Truth c) tt
    by (TypedExpression-F.Cell p row field block site) is = absurd (no_cell p row field block site (sym is ∙ E.rolls-Cell p row field block site))
    by (TypedExpression-F.Allocate block site) is = same (E.Allocate block site) (sym is ∙ E.rolls-Allocate block site) tt
    by (TypedExpression-F.GetChar site) is = same (E.GetChar site) (sym is ∙ E.rolls-GetChar site) tt
    by (TypedExpression-F.Call proc row type site) is = absurd (no_call proc row type site (sym is ∙ E.rolls-Call proc row type site))
    by (TypedExpression-F.Stop number site row) is = same (E.Stop number site row) (sym is ∙ E.rolls-Stop number site row) (subst IsPlain (sym (typed-Stop number site row)) tt)

passed_plain : (t : Expression) → IsPlain t → (n : ℕ) → lowered_passed (an_expression t no_expressions) n ≡ and_then (lowered_expression t n) (λ _ n. ready tt n)
passed_plain (constant z) h n = refl
passed_plain null h n = refl
passed_plain (local i site) h n = absurd h
passed_plain (negated e) h n = refl
passed_plain (arithmetic op a b) h n = refl
passed_plain (truth c) h n = refl
passed_plain (cell p field block site) h n = absurd h
passed_plain (allocate block site) h n = refl
passed_plain (get_char site) h n = refl
passed_plain (call proc es type site) h n = absurd h
passed_plain (stop number site parts) h n = refl

pub passed_plain_fails : (t : Expression) → IsPlain t → (n : ℕ) (first mid : List CommandTree) (h : Halt) (z : Result ℕ Halt) → IsErr z h → Gives (lowered_expression t n) first mid (Err h) → Does (lowered_passed (an_expression t no_expressions) n) first mid z
passed_plain_fails t plain n first mid h z p q =
    ends_with_value t n first mid nothing itself (lowered_passed (an_expression t no_expressions) n) (λ _ n. ready tt n) (passed_plain t plain n) h z p q

pub passed_plain_returns : (t : Expression) → IsPlain t → (n : ℕ) (first mid : List CommandTree) (x : Given) → Gives (lowered_expression t n) first mid (Ok x) → Does (lowered_passed (an_expression t no_expressions) n) first mid (Ok x.next)
passed_plain_returns t plain n first mid x q =
    goes_on_with_value t n first mid nothing itself (lowered_passed (an_expression t no_expressions) n) (λ _ n. ready tt n) (passed_plain t plain n) x mid (Ok x.next) q (sym (append-nil mid), refl, refl)
