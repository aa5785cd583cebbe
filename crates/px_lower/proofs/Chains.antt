-- What commands that were put one after another gave.
use Rattle.std.specs.Prelude.{⊤}
use Rattle.std.proofs.Common.{◌≡◌, ◌∙◌, ℕ, suc, ◌<◌, ◌≤◌, ◌+◌, List, [], ◌∷◌, ◌++◌, length, drop, get_or, map, Option, None, Some, Result, Ok, Err, refl, sym, ap, subst, append_assoc, append-nil}
use Rattle.px_core.specs.declared.command.Operand.{Operand}
use Rattle.px_core.specs.declared.command.Operand.TheVariants.{Slot}
use Rattle.px_core.specs.CommandTree.{CommandTree, load, read}
use Rattle.px_core.specs.CommandTree as command
use Rattle.px_base.specs.declared.trace.Site.{Site}
use Rattle.px_syntax.specs.declared.typed_expression.Arithmetic.{Arithmetic}
use Rattle.px_syntax.specs.declared.typed_expression.CellLink.{CellLink}
use Rattle.px_syntax.specs.declared.typed_expression.Relation.{Relation}
use Rattle.px_syntax.specs.TypedTree.{Expression, constant, null, local, negated, arithmetic, truth, cell, allocate, get_char, call, stop, Expressions, no_expressions, an_expression, Arguments, Argument, no_arguments, an_argument, passed, erased, Condition, compare, both, either}
use Rattle.std.proofs.lemmas.List.{at_drop_more, at_drop_all}
use Rattle.px_syntax.specs.declared.typed_expression.ArithmeticLink.{ArithmeticLink}
use Rattle.px_syntax.specs.declared.typed_expression.RelationLink.{RelationLink}
use Rattle.px_syntax.specs.declared.typed_expression.Condition.{Condition as RustCondition}
use Rattle.px_syntax.specs.TypedViews.{ArithmeticLinkTree, RelationLinkTree, typed_expression, typed_condition, arithmetic_link, relation_link, calculated, compared, cells, all_of, any_of}
use Rattle.px_lower.specs.declared.put.Given.{Given}
use Rattle.px_lower.specs.declared.put.Decided.{Decided}
use Rattle.px_lower.specs.declared.put.Halt.{Halt}
use Rattle.px_lower.specs.declared.put.Halt.TheVariants.{Stopped, NoMemory}
use Rattle.px_lower.specs.Lowering.{Lowered, made_of, before as behind, and_then, ready, doing, deciding, loaded, reached, copied, and_rest, or_rest, lowered_expression, lowered_arguments, lowered_passed, lowered_condition, comparison, applied, operation, result_slot}
use Rattle.px_lower.specs.Chains.{Puts, Gives, Decides}
use Rattle.px_lower.proofs.Sequences.{then_assoc}

module _ {A B C D : Type 0} (value : A → C) (next : A → ℕ) (value' : B → D) (next' : B → ℕ) (x : Lowered C) (f : C → ℕ → Lowered D) (before mid after : List CommandTree) where
  -- what the first comes to, where it doesn't go on, both come to
  pub fails_first : (h : Halt) → Puts value next x before after (Err h) → Puts value' next' (and_then x f) before after (Err h)
  fails_first NoMemory p = tt
  fails_first (Stopped n) p =
      let whole = λ (o : Option C). made_of x.commands x.next o f in
      subst (λ o. Puts value' next' (whole o) before after (Err (Stopped n))) (sym p.1) (p.0, refl, p.2)

  -- where it goes on, they come to what the second comes to
  pub goes_on : (a : A) (r : Result B Halt) → Puts value next x before mid (Ok a) → Puts value' next' (f (value a) (next a)) mid after r → Puts value' next' (and_then x f) before after r
  goes_on a r p q =
      subst (λ o. Puts value' next' (made_of x.commands x.next o f) before after r) (sym p.1)
      (subst (λ n. Puts value' next' (made_of x.commands x.next (Some (value a)) (λ c _. f c n)) before after r) (sym p.2) (moved r q))
    where
      whole : (cs : List CommandTree) → after ≡ mid ++ cs → after ≡ before ++ (x.commands ++ cs)
      whole cs e = e ∙ ap (λ z. z ++ cs) p.0 ∙ append_assoc before x.commands cs

      moved : (r : Result B Halt) → Puts value' next' (f (value a) (next a)) mid after r → Puts value' next' (made_of x.commands x.next (Some (value a)) (λ c _. f c (next a))) before after r
      moved (Ok b) q = (whole (f (value a) (next a)).commands q.0, q.1, q.2)
      moved (Err NoMemory) q = tt
      moved (Err (Stopped n)) q = (whole (f (value a) (next a)).commands q.0, q.1, q.2)

-- a command with an outcome in the next new slot
decides_new : (c : ℕ → CommandTree) (mid third : List CommandTree) (n : ℕ) (z : Decided) → third ≡ mid ++ c n ∷ [] → z.slot ≡ n → z.next ≡ suc n → Decides (deciding c n) mid third (Ok z)
decides_new c mid third n z e o m = (e, ap Some (sym o), sym m)

abbrev operand : Given → Operand
operand x = x.operand

abbrev next : Given → ℕ
next x = x.next

abbrev outcome : Decided → ℕ
outcome x = x.slot

abbrev after : Decided → ℕ
after x = x.next

-- ---- operators

module _ (op : Arithmetic) (e r : Expression) (n : ℕ) (before first : List CommandTree) where
  abbrev right_of : Operand → ℕ → Lowered Operand
  right_of a n = and_then (lowered_expression r n) (λ b n. applied op a b n)

  pub left_fails : (h : Halt) → Gives (lowered_expression e n) before first (Err h) → Gives (lowered_expression (arithmetic op e r) n) before first (Err h)
  left_fails h p = fails_first operand next operand next (lowered_expression e n) right_of before first first h p

  module _ (x : Given) (left : Gives (lowered_expression e n) before first (Ok x)) (second : List CommandTree) where
    pub right_fails : (h : Halt) → Gives (lowered_expression r x.next) first second (Err h) → Gives (lowered_expression (arithmetic op e r) n) before second (Err h)
    right_fails h p =
        goes_on operand next operand next (lowered_expression e n) right_of before first second x (Err h) left
        (fails_first operand next operand next (lowered_expression r x.next) (λ b n. applied op x.operand b n) first second second h p)

    pub calculates : (third : List CommandTree) (y z : Given) → Gives (lowered_expression r x.next) first second (Ok y) →
        third ≡ second ++ operation op x.operand y.operand y.next → z.operand ≡ Slot (result_slot op y.next) → z.next ≡ suc (result_slot op y.next) → Gives (lowered_expression (arithmetic op e r) n) before third (Ok z)
    calculates third y z right c o m =
        goes_on operand next operand next (lowered_expression e n) right_of before first third x (Ok z) left
        (goes_on operand next operand next (lowered_expression r x.next) (λ b n. applied op x.operand b n) first second third y (Ok z) right
        (c, ap Some (sym o), sym m))

-- an operand that fails is one of a chain that does
pub calculated_fails : (t : Expression) (links : List ArithmeticLinkTree) (n : ℕ) (before after' : List CommandTree) (h : Halt) → Gives (lowered_expression t n) before after' (Err h) → Gives (lowered_expression (calculated t links) n) before after' (Err h)
calculated_fails t [] n before after' h p = p
calculated_fails t (l ∷ links) n before after' h p = calculated_fails (arithmetic l.operator t l.operand) links n before after' h (left_fails l.operator t l.operand n before after' h p)

-- ---- cells

module _ (p : Expression) (l : CellLink) (n : ℕ) (before first : List CommandTree) where
  abbrev load_of : Operand → ℕ → Lowered Operand
  load_of a n = loaded a l.field l.block l.site n

  pub cell_fails : (h : Halt) → Gives (lowered_expression p n) before first (Err h) → Gives (lowered_expression (cell p l.field l.block l.site) n) before first (Err h)
  cell_fails h q = fails_first operand next operand next (lowered_expression p n) load_of before first first h q

  pub cell_loads : (second : List CommandTree) (x z : Given) → Gives (lowered_expression p n) before first (Ok x) →
      second ≡ first ++ load x.next x.operand l.field l.block l.site ∷ read x.next l.site ∷ [] → z.operand ≡ Slot x.next → z.next ≡ suc x.next → Gives (lowered_expression (cell p l.field l.block l.site) n) before second (Ok z)
  cell_loads second x z q c o m = goes_on operand next operand next (lowered_expression p n) load_of before first second x (Ok z) q (c, ap Some (sym o), sym m)

-- ---- comparisons

module _ (relation : Relation) (e r : Expression) (site : Site) (n : ℕ) (before first : List CommandTree) where
  abbrev compared_with : Operand → ℕ → Lowered ℕ
  compared_with a n = and_then (lowered_expression r n) (λ b n. deciding (λ to. comparison relation to a b site) n)

  pub compare_left_fails : (h : Halt) → Gives (lowered_expression e n) before first (Err h) → Decides (lowered_condition (compare relation e r site) n) before first (Err h)
  compare_left_fails h p = fails_first operand next outcome after (lowered_expression e n) compared_with before first first h p

  module _ (x : Given) (left : Gives (lowered_expression e n) before first (Ok x)) (second : List CommandTree) where
    pub compare_right_fails : (h : Halt) → Gives (lowered_expression r x.next) first second (Err h) → Decides (lowered_condition (compare relation e r site) n) before second (Err h)
    compare_right_fails h p =
        goes_on operand next outcome after (lowered_expression e n) compared_with before first second x (Err h) left
        (fails_first operand next outcome after (lowered_expression r x.next) (λ b n. deciding (λ to. comparison relation to x.operand b site) n) first second second h p)

    pub compares : (third : List CommandTree) (y : Given) (z : Decided) → Gives (lowered_expression r x.next) first second (Ok y) →
        third ≡ second ++ comparison relation y.next x.operand y.operand site ∷ [] → z.slot ≡ y.next → z.next ≡ suc y.next → Decides (lowered_condition (compare relation e r site) n) before third (Ok z)
    compares third y z right c o m =
        goes_on operand next outcome after (lowered_expression e n) compared_with before first third x (Ok z) left
        (goes_on operand next outcome after (lowered_expression r x.next) (λ b n. deciding (λ to. comparison relation to x.operand b site) n) first second third y (Ok z) right
        (decides_new (λ to. comparison relation to x.operand y.operand site) second third y.next z c o m))

-- an outcome as a value
pub truth_gives : (c : Condition) (n : ℕ) (before mid : List CommandTree) (z : Decided) (x : Given) → Decides (lowered_condition c n) before mid (Ok z) → x.operand ≡ Slot z.slot → x.next ≡ z.next → Gives (lowered_expression (truth c) n) before mid (Ok x)
truth_gives c n before mid z x p o m =
    goes_on outcome after operand next (lowered_condition c n) (λ slot n. ready (Slot slot) n) before mid mid z (Ok x) p (sym (append-nil mid), ap Some (sym o), sym m)

pub truth_fails : (c : Condition) (n : ℕ) (before mid : List CommandTree) (h : Halt) → Decides (lowered_condition c n) before mid (Err h) → Gives (lowered_expression (truth c) n) before mid (Err h)
truth_fails c n before mid h p = fails_first outcome after operand next (lowered_condition c n) (λ slot n. ready (Slot slot) n) before mid mid h p

-- ---- `&&` and `||`

module _ (c d : Condition) (n : ℕ) (before first : List CommandTree) where
  abbrev and_right : ℕ → ℕ → Lowered ℕ
  and_right left to = and_rest left to (copied to (lowered_condition d (suc to)))

  abbrev or_right : ℕ → ℕ → Lowered ℕ
  or_right left to = or_rest left to (copied to (lowered_condition d (suc to)))

  pub and_left_fails : (h : Halt) → Decides (lowered_condition c n) before first (Err h) → Decides (lowered_condition (both c d) n) before first (Err h)
  and_left_fails h p = fails_first outcome after outcome after (lowered_condition c n) and_right before first first h p

  pub or_left_fails : (h : Halt) → Decides (lowered_condition c n) before first (Err h) → Decides (lowered_condition (either c d) n) before first (Err h)
  or_left_fails h p = fails_first outcome after outcome after (lowered_condition c n) or_right before first first h p

  pub and_decides : (second : List CommandTree) (x z : Decided) → Decides (lowered_condition c n) before first (Ok x) →
      second ≡ first ++ (and_right x.slot x.next).commands → z.slot ≡ x.next → z.next ≡ (and_right x.slot x.next).next → Decides (lowered_condition (both c d) n) before second (Ok z)
  and_decides second x z p q o m = goes_on outcome after outcome after (lowered_condition c n) and_right before first second x (Ok z) p (q, ap Some (sym o), sym m)

  pub or_decides : (second : List CommandTree) (x z : Decided) → Decides (lowered_condition c n) before first (Ok x) →
      second ≡ first ++ (or_right x.slot x.next).commands → z.slot ≡ x.next → z.next ≡ (or_right x.slot x.next).next → Decides (lowered_condition (either c d) n) before second (Ok z)
  or_decides second x z p q o m = goes_on outcome after outcome after (lowered_condition c n) or_right before first second x (Ok z) p (q, ap Some (sym o), sym m)

-- ---- values that aren't read

-- the first, and then the rest
pub passed_one : (e : Expression) (rest : Expressions) (n : ℕ) → lowered_passed (an_expression e rest) n ≡ and_then (lowered_passed (an_expression e no_expressions) n) (λ _ n. lowered_passed rest n)
passed_one (local i site) rest n = refl
passed_one (cell p field block site) rest n = sym (then_assoc (lowered_expression p n) (λ x n. and_then (reached x field block site n) (λ _ n. lowered_passed no_expressions n)) (λ _ n. lowered_passed rest n))
passed_one (call proc arguments result site) rest n =
    sym (then_assoc (lowered_arguments arguments n) (λ xs n. and_then (doing (command.call None proc xs site) n) (λ _ n. lowered_passed no_expressions n)) (λ _ n. lowered_passed rest n))
passed_one (constant z) rest n = sym (then_assoc (lowered_expression (constant z) n) (λ _ n. lowered_passed no_expressions n) (λ _ n. lowered_passed rest n))
passed_one null rest n = sym (then_assoc (lowered_expression null n) (λ _ n. lowered_passed no_expressions n) (λ _ n. lowered_passed rest n))
passed_one (negated e) rest n = sym (then_assoc (lowered_expression (negated e) n) (λ _ n. lowered_passed no_expressions n) (λ _ n. lowered_passed rest n))
passed_one (arithmetic op a b) rest n = sym (then_assoc (lowered_expression (arithmetic op a b) n) (λ _ n. lowered_passed no_expressions n) (λ _ n. lowered_passed rest n))
passed_one (truth c) rest n = sym (then_assoc (lowered_expression (truth c) n) (λ _ n. lowered_passed no_expressions n) (λ _ n. lowered_passed rest n))
passed_one (allocate block site) rest n = sym (then_assoc (lowered_expression (allocate block site) n) (λ _ n. lowered_passed no_expressions n) (λ _ n. lowered_passed rest n))
passed_one (get_char site) rest n = sym (then_assoc (lowered_expression (get_char site) n) (λ _ n. lowered_passed no_expressions n) (λ _ n. lowered_passed rest n))
passed_one (stop number site parts) rest n = sym (then_assoc (lowered_expression (stop number site parts) n) (λ _ n. lowered_passed no_expressions n) (λ _ n. lowered_passed rest n))

-- ---- one link further

pub next_one : {L Y : Type 0} (F : List L → Y) (links : List L) (i : ℕ) (l : L) → i < length links → l ≡ get_or links i l → F (drop i links) ≡ F (l ∷ drop (i + 1) links)
next_one F links i l lt is = at_drop_more F links i l lt ∙ ap (λ k. F (k ∷ drop (i + 1) links)) (sym is)

-- the chain is that of some tree with the links from this one on, whose commands gave this
abbrev pub Calculates : Expression → List ArithmeticLink → ℕ → ℕ → List CommandTree → List CommandTree → Given → Type 0
Calculates e links i n before out x = (t : Expression) × (calculated e (map arithmetic_link links) ≡ calculated t (map arithmetic_link (drop i links))) × Gives (lowered_expression t n) before out (Ok x)

module _ (e : Expression) (links : List ArithmeticLink) (i : ℕ) (l : ArithmeticLink) (n : ℕ) (before first second : List CommandTree) (x : Given) (lt : i < length links) (is : l ≡ get_or links i l) (so_far : Calculates e links i n before first x) where
  calculated_on : calculated e (map arithmetic_link links) ≡ calculated (arithmetic l.operator so_far.0 (typed_expression l.operand)) (map arithmetic_link (drop (i + 1) links))
  calculated_on = so_far.1 ∙ next_one (λ ls. calculated so_far.0 (map arithmetic_link ls)) links i l lt is

  pub calculated_step : (third : List CommandTree) (y z : Given) → Gives (lowered_expression (typed_expression l.operand) x.next) first second (Ok y) →
      third ≡ second ++ operation l.operator x.operand y.operand y.next → z.operand ≡ Slot (result_slot l.operator y.next) → z.next ≡ suc (result_slot l.operator y.next) → Calculates e links (i + 1) n before third z
  calculated_step third y z right c o m =
      (arithmetic l.operator so_far.0 (typed_expression l.operand), calculated_on, calculates l.operator so_far.0 (typed_expression l.operand) n before first x so_far.2 second third y z right c o m)

  pub calculated_stops : (h : Halt) → Gives (lowered_expression (typed_expression l.operand) x.next) first second (Err h) → Gives (lowered_expression (calculated e (map arithmetic_link links)) n) before second (Err h)
  calculated_stops h right =
      subst (λ u. Gives (lowered_expression u n) before second (Err h)) (sym calculated_on)
      (calculated_fails (arithmetic l.operator so_far.0 (typed_expression l.operand)) (map arithmetic_link (drop (i + 1) links)) n before second h
      (right_fails l.operator so_far.0 (typed_expression l.operand) n before first x so_far.2 second h right))

pub calculated_all : (e : Expression) (links : List ArithmeticLink) (i n : ℕ) (before out : List CommandTree) (x : Given) → length links ≤ i → Calculates e links i n before out x → Gives (lowered_expression (calculated e (map arithmetic_link links)) n) before out (Ok x)
calculated_all e links i n before out x le (t, same, g) = subst (λ u. Gives (lowered_expression u n) before out (Ok x)) (sym (same ∙ at_drop_all (λ ls. calculated t (map arithmetic_link ls)) links i le)) g

-- the same of comparisons, each of the outcome of those before it
pub compared_fails : (t : Expression) (links : List RelationLinkTree) (n : ℕ) (before after' : List CommandTree) (h : Halt) → Gives (lowered_expression t n) before after' (Err h) → Gives (lowered_expression (compared t links) n) before after' (Err h)
compared_fails t [] n before after' h p = p
compared_fails t (l ∷ links) n before after' h p =
    compared_fails (truth (compare l.relation t l.operand l.site)) links n before after' h
    (truth_fails (compare l.relation t l.operand l.site) n before after' h (compare_left_fails l.relation t l.operand l.site n before after' h p))

abbrev pub Compares : Expression → List RelationLink → ℕ → ℕ → List CommandTree → List CommandTree → Given → Type 0
Compares e links i n before out x = (t : Expression) × (compared e (map relation_link links) ≡ compared t (map relation_link (drop i links))) × Gives (lowered_expression t n) before out (Ok x)

module _ (e : Expression) (links : List RelationLink) (i : ℕ) (l : RelationLink) (n : ℕ) (before first second : List CommandTree) (x : Given) (lt : i < length links) (is : l ≡ get_or links i l) (so_far : Compares e links i n before first x) where
  abbrev one_compared : Condition
  one_compared = compare l.relation so_far.0 (typed_expression l.operand) l.site

  compared_on : compared e (map relation_link links) ≡ compared (truth one_compared) (map relation_link (drop (i + 1) links))
  compared_on = so_far.1 ∙ next_one (λ ls. compared so_far.0 (map relation_link ls)) links i l lt is

  pub compared_step : (third : List CommandTree) (y : Given) (z : Decided) (v : Given) → Gives (lowered_expression (typed_expression l.operand) x.next) first second (Ok y) →
      third ≡ second ++ comparison l.relation y.next x.operand y.operand l.site ∷ [] → z.slot ≡ y.next → z.next ≡ suc y.next → v.operand ≡ Slot z.slot → v.next ≡ z.next → Compares e links (i + 1) n before third v
  compared_step third y z v right c o m p q = (
    truth one_compared,
    compared_on,
    truth_gives one_compared n before third z v (compares l.relation so_far.0 (typed_expression l.operand) l.site n before first x so_far.2 second third y z right c o m) p q,
  )

  pub compared_stops : (h : Halt) → Gives (lowered_expression (typed_expression l.operand) x.next) first second (Err h) → Gives (lowered_expression (compared e (map relation_link links)) n) before second (Err h)
  compared_stops h right =
      subst (λ u. Gives (lowered_expression u n) before second (Err h)) (sym compared_on)
      (compared_fails (truth one_compared) (map relation_link (drop (i + 1) links)) n before second h
      (truth_fails one_compared n before second h (compare_right_fails l.relation so_far.0 (typed_expression l.operand) l.site n before first x so_far.2 second h right)))

pub compared_all : (e : Expression) (links : List RelationLink) (i n : ℕ) (before out : List CommandTree) (x : Given) → length links ≤ i → Compares e links i n before out x → Gives (lowered_expression (compared e (map relation_link links)) n) before out (Ok x)
compared_all e links i n before out x le (t, same, g) = subst (λ u. Gives (lowered_expression u n) before out (Ok x)) (sym (same ∙ at_drop_all (λ ls. compared t (map relation_link ls)) links i le)) g

-- cells
abbrev pub Loads : Expression → List CellLink → ℕ → ℕ → List CommandTree → List CommandTree → Given → Type 0
Loads e links i n before out x = (t : Expression) × (cells e links ≡ cells t (drop i links)) × Gives (lowered_expression t n) before out (Ok x)

pub cells_step : (e : Expression) (links : List CellLink) (i : ℕ) (d : CellLink) (n : ℕ) (before first second : List CommandTree) (x z : Given) → i < length links → Loads e links i n before first x →
    (let l = get_or links i d in second ≡ first ++ load x.next x.operand l.field l.block l.site ∷ read x.next l.site ∷ []) → z.operand ≡ Slot x.next → z.next ≡ suc x.next → Loads e links (i + 1) n before second z
cells_step e links i d n before first second x z lt (t, same, g) c o m =
    let l = get_or links i d in
    (cell t l.field l.block l.site, same ∙ at_drop_more (λ ls. cells t ls) links i d lt, cell_loads t l n before first second x z g c o m)

pub cells_all : (e : Expression) (links : List CellLink) (i n : ℕ) (before out : List CommandTree) (x : Given) → length links ≤ i → Loads e links i n before out x → Gives (lowered_expression (cells e links) n) before out (Ok x)
cells_all e links i n before out x le (t, same, g) = subst (λ u. Gives (lowered_expression u n) before out (Ok x)) (sym (same ∙ at_drop_all (λ ls. cells t ls) links i le)) g

pub cells_fails : (t : Expression) (links : List CellLink) (n : ℕ) (before out : List CommandTree) (h : Halt) → Gives (lowered_expression t n) before out (Err h) → Gives (lowered_expression (cells t links) n) before out (Err h)
cells_fails t [] n before out h p = p
cells_fails t (l ∷ links) n before out h p = cells_fails (cell t l.field l.block l.site) links n before out h (cell_fails t l n before out h p)

-- `&&` and `||`
abbrev pub Holds : (Condition → List Condition → Condition) → Condition → List RustCondition → ℕ → ℕ → List CommandTree → List CommandTree → Decided → Type 0
Holds chain c links i n before out x = (t : Condition) × (chain c (map typed_condition links) ≡ chain t (map typed_condition (drop i links))) × Decides (lowered_condition t n) before out (Ok x)

pub all_step : (c : Condition) (links : List RustCondition) (i : ℕ) (d : RustCondition) (n : ℕ) (before first second : List CommandTree) (x z : Decided) → i < length links → d ≡ get_or links i d → Holds all_of c links i n before first x →
    (let y = and_rest x.slot x.next (copied x.next (lowered_condition (typed_condition d) (suc x.next))) in (second ≡ first ++ y.commands) × (z.slot ≡ x.next) × (z.next ≡ y.next)) → Holds all_of c links (i + 1) n before second z
all_step c links i d n before first second x z lt is (t, same, g) (p, q, r) =
    (both t (typed_condition d), same ∙ next_one (λ ls. all_of t (map typed_condition ls)) links i d lt is, and_decides t (typed_condition d) n before first second x z g p q r)

pub any_step : (c : Condition) (links : List RustCondition) (i : ℕ) (d : RustCondition) (n : ℕ) (before first second : List CommandTree) (x z : Decided) → i < length links → d ≡ get_or links i d → Holds any_of c links i n before first x →
    (let y = or_rest x.slot x.next (copied x.next (lowered_condition (typed_condition d) (suc x.next))) in (second ≡ first ++ y.commands) × (z.slot ≡ x.next) × (z.next ≡ y.next)) → Holds any_of c links (i + 1) n before second z
any_step c links i d n before first second x z lt is (t, same, g) (p, q, r) =
    (either t (typed_condition d), same ∙ next_one (λ ls. any_of t (map typed_condition ls)) links i d lt is, or_decides t (typed_condition d) n before first second x z g p q r)

pub holds_all : (chain : Condition → List Condition → Condition) → ((t : Condition) → chain t [] ≡ t) → (c : Condition) (links : List RustCondition) (i n : ℕ) (before out : List CommandTree) (x : Decided) → length links ≤ i → Holds chain c links i n before out x →
    Decides (lowered_condition (chain c (map typed_condition links)) n) before out (Ok x)
holds_all chain ends c links i n before out x le (t, same, g) = subst (λ u. Decides (lowered_condition u n) before out (Ok x)) (sym (same ∙ at_drop_all (λ ls. chain t (map typed_condition ls)) links i le ∙ ends t)) g

pub all_fails : (t : Condition) (cs : List Condition) (n : ℕ) (before out : List CommandTree) (h : Halt) → Decides (lowered_condition t n) before out (Err h) → Decides (lowered_condition (all_of t cs) n) before out (Err h)
all_fails t [] n before out h p = p
all_fails t (c ∷ cs) n before out h p = all_fails (both t c) cs n before out h (and_left_fails t c n before out h p)

pub any_fails : (t : Condition) (cs : List Condition) (n : ℕ) (before out : List CommandTree) (h : Halt) → Decides (lowered_condition t n) before out (Err h) → Decides (lowered_condition (any_of t cs) n) before out (Err h)
any_fails t [] n before out h p = p
any_fails t (c ∷ cs) n before out h p = any_fails (either t c) cs n before out h (or_left_fails t c n before out h p)

-- ---- arguments

-- none stands before
pub no_argument : (w : Lowered (List Operand)) → and_then w (λ xs n. ready xs n) ≡ w
no_argument w = by w.value
  where
    by : (o : Option (List Operand)) → made_of w.commands w.next o (λ xs n. ready xs n) ≡ (let v : Lowered (List Operand) = record { commands = w.commands; value = o; next = w.next } in v)
    by None = refl
    by (Some xs) = ap (λ cs. let v : Lowered (List Operand) = record { commands = cs; value = Some xs; next = w.next } in v) (append-nil w.commands)

-- what follows parts, with nothing before its values
after_parts : (x : Lowered ⊤) (f : ℕ → Lowered (List Operand)) → and_then x (λ _ n. f n) ≡ and_then x (λ _ n. and_then (f n) (λ ys n. ready ys n))
after_parts x f = by x.value
  where
    by : (o : Option ⊤) → made_of x.commands x.next o (λ _ n. f n) ≡ made_of x.commands x.next o (λ _ n. and_then (f n) (λ ys n. ready ys n))
    by None = refl
    by (Some u) = ap (λ w. behind x.commands w) (sym (no_argument (f x.next)))

-- the first, and then the rest
pub argument_one : (a : Argument) (rest : Arguments) (n : ℕ) →
    lowered_arguments (an_argument a rest) n ≡ and_then (lowered_arguments (an_argument a no_arguments) n) (λ xs n. and_then (lowered_arguments rest n) (λ ys n. ready (xs ++ ys) n))
argument_one (passed e) rest n =
    sym (then_assoc (lowered_expression e n) (λ x n. and_then (lowered_arguments no_arguments n) (λ xs n. ready (x ∷ xs) n)) (λ xs n. and_then (lowered_arguments rest n) (λ ys n. ready (xs ++ ys) n)))
argument_one (erased parts) rest n =
    after_parts (lowered_passed parts n) (λ n. lowered_arguments rest n)
    ∙ sym (then_assoc (lowered_passed parts n) (λ _ n. ready [] n) (λ xs n. and_then (lowered_arguments rest n) (λ ys n. ready (xs ++ ys) n)))
