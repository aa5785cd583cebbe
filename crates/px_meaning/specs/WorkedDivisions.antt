-- Quotients and remainders of numbers, and two small functions that divide, worked by hand.
use Rattle.std.specs.Prelude.{◌≡◌, pos, negsuc, List, [], ◌∷◌, Some, None}
use Rattle.px_base.specs.declared.trace.Kind.TheVariants.{DivisionByZero}
use Rattle.px_core.specs.declared.command.Operand.TheVariants.{Slot}
use Rattle.px_core.specs.declared.command.Operator.TheVariants.{Sub, Mul}
use Rattle.px_core.specs.CommandTree.{commands_of, assign, read, divide, return}
use Rattle.px_core.specs.BodyTree.{BodyTree}
use Rattle.px_syntax.specs.declared.typed_expression.Arithmetic.{Arithmetic}
use Rattle.px_syntax.specs.declared.typed_expression.Arithmetic.TheVariants.{Divide, Remainder}
use Rattle.px_syntax.specs.TypedTree as tree
use Rattle.px_meaning.specs.Values.{Value, Word, Int}
use Rattle.px_meaning.specs.Calls.{error, Ending, Returned, Failed}
use Rattle.px_meaning.specs.Operations.{quotient, remainder}
use Rattle.px_meaning.specs.CoreCalls.{CoreCalls}
use Rattle.px_meaning.specs.TypedProgram.{TypedProgram}
use Rattle.px_meaning.specs.TreeCalls.{TreeCalls}
use Rattle.px_meaning.specs.WorkedBodies.{at, the_only, empty_heap}
use Rattle.px_meaning.specs.WorkedTrees.{only_procedure, a_procedure}

-- int q(int a,int b){return a/b;}
abbrev pub divides_body : BodyTree
divides_body = record {
  slots = 3;
  parameters = Int ∷ Int ∷ [];
  result = Some Int;
  commands = commands_of (read 0 (at 1 27) ∷ read 1 (at 1 29)
      ∷ divide 2 (Slot 0) (Slot 1) (at 1 28) ∷ return (Some (Slot 2)) ∷ []);
}

-- int r(int a,int b){return a%b;}
abbrev pub remains_body : BodyTree
remains_body = record {
  slots = 5;
  parameters = Int ∷ Int ∷ [];
  result = Some Int;
  commands = commands_of (read 0 (at 1 27) ∷ read 1 (at 1 29)
      ∷ divide 2 (Slot 0) (Slot 1) (at 1 28) ∷ assign 3 Mul (Slot 2) (Slot 1) ∷ assign 4 Sub (Slot 0) (Slot 3) ∷ return (Some (Slot 4)) ∷ []);
}

abbrev pub between : Arithmetic → TypedProgram
between op = only_procedure (a_procedure 0 1 (Int ∷ Int ∷ []) (Some Int) []
    (tree.return (Some (tree.arithmetic op (tree.local 0 (at 1 27)) (tree.local 1 (at 1 29)))) ∷ []))

abbrev pub divides_tree : TypedProgram
divides_tree = between (Divide (at 1 28))

abbrev pub remains_tree : TypedProgram
remains_tree = between (Remainder (at 1 28))

-- the call of these arguments leaves no mark, and ends so
abbrev pub CoreGives : BodyTree → List Value → Ending → Type 0
CoreGives b arguments ending = CoreCalls (the_only b) 0 arguments empty_heap [] ending empty_heap

abbrev pub TreeGives : TypedProgram → List Value → Ending → Type 0
TreeGives P arguments ending = TreeCalls P 0 arguments empty_heap [] ending empty_heap

abbrev pub by_zero : Ending
by_zero = Failed (error DivisionByZero) (at 1 28)

pub record WorkedDivisions : Type 0 where
  -- 7 / 2 = 3, and towards zero with each sign
  pub quotient_up : quotient (pos 7) (pos 2) ≡ Some (Word (pos 3))
  pub quotient_of_negative : quotient (negsuc 6) (pos 2) ≡ Some (Word (negsuc 2))
  pub quotient_by_negative : quotient (pos 7) (negsuc 1) ≡ Some (Word (negsuc 2))
  pub quotient_of_negatives : quotient (negsuc 6) (negsuc 1) ≡ Some (Word (pos 3))
  -- 1 / 2 and -1 / 2 are 0
  pub small_quotient : quotient (pos 1) (pos 2) ≡ Some (Word (pos 0))
  pub small_negative : quotient (negsuc 0) (pos 2) ≡ Some (Word (pos 0))
  -- the least `int` by -1 is itself
  pub least_quotient : quotient (negsuc 2147483647) (negsuc 0) ≡ Some (Word (negsuc 2147483647))
  pub no_quotient : quotient (pos 7) (pos 0) ≡ None
  -- 7 % 2 = 1, and the sign is that of the first
  pub remainder_up : remainder (pos 7) (pos 2) ≡ Some (Word (pos 1))
  pub remainder_of_negative : remainder (negsuc 6) (pos 2) ≡ Some (Word (negsuc 0))
  pub remainder_by_negative : remainder (pos 7) (negsuc 1) ≡ Some (Word (pos 1))
  pub remainder_of_negatives : remainder (negsuc 6) (negsuc 1) ≡ Some (Word (negsuc 0))
  pub least_remainder : remainder (negsuc 2147483647) (negsuc 0) ≡ Some (Word (pos 0))
  pub no_remainder : remainder (pos 7) (pos 0) ≡ None
  -- the functions: -7 / 2 and 7 / 0, -7 % 2 and 7 % 0
  pub divides : CoreGives divides_body (Word (negsuc 6) ∷ Word (pos 2) ∷ []) (Returned (Word (negsuc 2)))
  pub divides_by_zero : CoreGives divides_body (Word (pos 7) ∷ Word (pos 0) ∷ []) by_zero
  pub remains : CoreGives remains_body (Word (negsuc 6) ∷ Word (pos 2) ∷ []) (Returned (Word (negsuc 0)))
  pub remains_by_zero : CoreGives remains_body (Word (pos 7) ∷ Word (pos 0) ∷ []) by_zero
  pub tree_divides : TreeGives divides_tree (Word (negsuc 6) ∷ Word (pos 2) ∷ []) (Returned (Word (negsuc 2)))
  pub tree_divides_by_zero : TreeGives divides_tree (Word (pos 7) ∷ Word (pos 0) ∷ []) by_zero
  pub tree_remains : TreeGives remains_tree (Word (negsuc 6) ∷ Word (pos 2) ∷ []) (Returned (Word (negsuc 0)))
  pub tree_remains_by_zero : TreeGives remains_tree (Word (pos 7) ∷ Word (pos 0) ∷ []) by_zero
