-- The outcomes of comparisons of pointers.
use Rattle.std.proofs.Common.{arith, ◌≡◌, ℕ, Bool, true, false, nat_eq, refl, ap}
use Rattle.px_meaning.specs.Values.{Value, Word, Null, Block, Unwritten}
use Rattle.px_syntax.specs.declared.typed_expression.Relation.{Relation}
use Rattle.px_syntax.specs.declared.typed_expression.Relation.TheVariants.{Equal, Unequal, Less, Greater, AtMost, AtLeast, SamePlace, OtherPlace}
use Rattle.px_replay.specs.Operations.{place_outcome, IsOutcome}

pub null_null : (r : Relation) → IsOutcome r Null Null (place_outcome r true)
null_null Equal = (λ h. h, λ h. h)
null_null Unequal = (λ h. h, λ h. h)
null_null Less = (λ h. h, λ h. h)
null_null Greater = (λ h. h, λ h. h)
null_null AtMost = (λ h. h, λ h. h)
null_null AtLeast = (λ h. h, λ h. h)
null_null SamePlace = refl
null_null OtherPlace = refl

pub null_block : (r : Relation) (n : ℕ) → IsOutcome r Null (Block n) (place_outcome r false)
null_block Equal n = (λ h. h, λ h. h)
null_block Unequal n = (λ h. h, λ h. h)
null_block Less n = (λ h. h, λ h. h)
null_block Greater n = (λ h. h, λ h. h)
null_block AtMost n = (λ h. h, λ h. h)
null_block AtLeast n = (λ h. h, λ h. h)
null_block SamePlace n = λ e. absurd cc
null_block OtherPlace n = λ e. absurd cc

pub block_null : (r : Relation) (n : ℕ) → IsOutcome r (Block n) Null (place_outcome r false)
block_null Equal n = (λ h. h, λ h. h)
block_null Unequal n = (λ h. h, λ h. h)
block_null Less n = (λ h. h, λ h. h)
block_null Greater n = (λ h. h, λ h. h)
block_null AtMost n = (λ h. h, λ h. h)
block_null AtLeast n = (λ h. h, λ h. h)
block_null SamePlace n = λ e. absurd cc
block_null OtherPlace n = λ e. absurd cc

-- the number of a block
abbrev number_of : Value → ℕ
number_of (Word z) = 0
number_of Null = 0
number_of (Block n) = n
number_of Unwritten = 0

block_block_by : (r : Relation) (m n : ℕ) (b : Bool) → (b ≡ true → m ≡ n) → (m ≡ n → b ≡ true) → IsOutcome r (Block m) (Block n) (place_outcome r b)
block_block_by Equal m n b f g = (λ h. h, λ h. h)
block_block_by Unequal m n b f g = (λ h. h, λ h. h)
block_block_by Less m n b f g = (λ h. h, λ h. h)
block_block_by Greater m n b f g = (λ h. h, λ h. h)
block_block_by AtMost m n b f g = (λ h. h, λ h. h)
block_block_by AtLeast m n b f g = (λ h. h, λ h. h)
block_block_by SamePlace m n true f g = ap Block (f refl)
block_block_by SamePlace m n false f g = λ e. absurd (let h : false ≡ true = g (ap number_of e) in cc)
block_block_by OtherPlace m n true f g = ap Block (f refl)
block_block_by OtherPlace m n false f g = λ e. absurd (let h : false ≡ true = g (ap number_of e) in cc)

pub block_block : (r : Relation) (m n : ℕ) → IsOutcome r (Block m) (Block n) (place_outcome r (nat_eq m n))
block_block r m n = block_block_by r m n (nat_eq m n) (λ e. grind arith) (λ e. grind arith)
