-- An expression with its type, as plain data.
use Rattle.std.specs.Prelude.{List, Option, map, option_map}
use Rattle.std.specs.Borrow.{Bor}
use Rattle.px_syntax.specs.declared.type_name.TypeName.{TypeName}
use Rattle.px_syntax.specs.declared.item.Parameter.{Parameter}
use Rattle.px_syntax.specs.TypedTree.{Place, Expression}
use Rattle.px_syntax.specs.TypedViews.{typed_expression, typed_condition, typed_place}
use Rattle.px_bodies.specs.declared.operand.Operand.{Operand}
use Rattle.px_bodies.specs.declared.operand.Operand.TheVariants as operand
use Rattle.px_bodies.specs.declared.operand.TypedPlace.{TypedPlace}
use Rattle.px_bodies.specs.declared.operand.Freed.{Freed}
use Rattle.px_bodies.specs.Lent.{type_of}
use Rattle.px_bodies.specs.Typed.{Typed, of_type, a_null, a_zero, a_test}

abbrev pub operand_seen : Operand → Typed
operand_seen (operand.OfType t e) = of_type (type_of t) (typed_expression e)
operand_seen operand.Null = a_null
operand_seen operand.Zero = a_zero
operand_seen (operand.Test c) = a_test (typed_condition c)

abbrev pub place_seen : TypedPlace → TypeName × Place
place_seen p = (type_of p.value, typed_place p.place)

abbrev pub freed_seen : Freed → TypeName × Expression
freed_seen f = (type_of f.block, typed_expression f.pointer)

-- the parameters that are wanted, where they are known
abbrev pub wanted_of : Option (Bor (List Parameter)) → Option (List TypeName)
wanted_of parameters = option_map (λ ps. map (λ p. p.value) ps.now) parameters
