-- What operators and comparisons make of values.
use Rattle.std.specs.Prelude.{◌≡◌, ◌≢◌, ℕ, ℤ, pos, ◌+ℤ◌, ◌-ℤ◌, ◌*ℤ◌, neg_ℤ, int_div, ◌<ℤ◌, ◌≤ℤ◌, List, Option, Some, None, slice_index_or, if◌then◌else◌}
use Rattle.std.specs.Int.{w32, int_wrap}
use Rattle.std.specs.Ordering.{int_eq}
use Rattle.px_core.specs.declared.command.Operand.{Operand}
use Rattle.px_core.specs.declared.command.Operand.TheVariants as operand
use Rattle.px_core.specs.declared.command.Operator.{Operator}
use Rattle.px_core.specs.declared.command.Operator.TheVariants.{Copy, Neg, Add, Sub, Mul}
use Rattle.px_core.specs.declared.command.Comparison.{Comparison}
use Rattle.px_core.specs.declared.command.Comparison.TheVariants.{Equal, Unequal, Less, AtMost, SamePlace, OtherPlace}
use Rattle.px_meaning.specs.Values.{Value, Word, Null, Block, Unwritten}

-- the value at a number; nothing was written beyond the last
abbrev pub value_at : List Value → ℕ → Value
value_at values n = slice_index_or values n Unwritten

abbrev pub operand_value : List Value → Operand → Value
operand_value slots (operand.Slot n) = value_at slots n
operand_value slots (operand.Word z) = Word z
operand_value slots operand.Null = Null

-- a number as an `int`. C17 6.5 leaves a sum, difference, product, quotient or negation that doesn't fit
-- undefined; here it wraps.
abbrev pub wrapped : ℤ → Value
wrapped z = Word (int_wrap w32 z)

abbrev pub of_word : (ℤ → ℤ) → Value → Option Value
of_word f (Word x) = Some (wrapped (f x))
of_word f _ = None

abbrev pub of_words : (ℤ → ℤ → ℤ) → Value → Value → Option Value
of_words f (Word x) (Word y) = Some (wrapped (f x y))
of_words f _ _ = None

-- what is made of two words; nothing is of other values
abbrev pub on_words : {A : Type 0} → (ℤ → ℤ → A) → Value → Value → Option A
on_words f (Word x) (Word y) = Some (f x y)
on_words f _ _ = None

-- the quotient of two words, truncated towards zero; there is none by 0 (C17 6.5.5)
abbrev pub quotient : ℤ → ℤ → Option Value
quotient x y = if int_eq y (pos 0) then None else Some (wrapped (int_div x y))

-- what the quotient times the second leaves of the first
abbrev pub remainder : ℤ → ℤ → Option Value
remainder x y = if int_eq y (pos 0) then None else Some (wrapped (x -ℤ int_div x y *ℤ y))

-- an operator's value, where the operands are of its kind (C17 6.5.3.3, 6.5.5, 6.5.6)
abbrev pub result_of : Operator → Value → Value → Option Value
result_of Copy a b = Some a
result_of Neg a b = of_word neg_ℤ a
result_of Add a b = of_words (λ x y. x +ℤ y) a b
result_of Sub a b = of_words (λ x y. x -ℤ y) a b
result_of Mul a b = of_words (λ x y. x *ℤ y) a b

-- a comparison of words, as signed numbers (C17 6.5.8, 6.5.9)
abbrev pub WordsAre : Comparison → ℤ → ℤ → Type 0
WordsAre Equal x y = x ≡ y
WordsAre Unequal x y = x ≢ y
WordsAre Less x y = x <ℤ y
WordsAre AtMost x y = x ≤ℤ y
WordsAre SamePlace x y = ⊥
WordsAre OtherPlace x y = ⊥

-- a comparison of pointers (C17 6.5.9); that of a freed pointer is no error
abbrev pub PointersAre : Comparison → Value → Value → Type 0
PointersAre Equal p q = ⊥
PointersAre Unequal p q = ⊥
PointersAre Less p q = ⊥
PointersAre AtMost p q = ⊥
PointersAre SamePlace p q = p ≡ q
PointersAre OtherPlace p q = p ≢ q

-- the comparison is true of these values, which are two words or two pointers
abbrev pub Holds : Comparison → Value → Value → Type 0
Holds how (Word x) (Word y) = WordsAre how x y
Holds how Null Null = PointersAre how Null Null
Holds how Null (Block n) = PointersAre how Null (Block n)
Holds how (Block m) Null = PointersAre how (Block m) Null
Holds how (Block m) (Block n) = PointersAre how (Block m) (Block n)
Holds how _ _ = ⊥

-- the comparison is false of these values: its contrary is true of them
abbrev pub Fails : Comparison → Value → Value → Type 0
Fails Equal a b = Holds Unequal a b
Fails Unequal a b = Holds Equal a b
Fails Less a b = Holds AtMost b a
Fails AtMost a b = Holds Less b a
Fails SamePlace a b = Holds OtherPlace a b
Fails OtherPlace a b = Holds SamePlace a b
