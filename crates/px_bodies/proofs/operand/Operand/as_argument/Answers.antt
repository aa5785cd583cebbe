use Rattle.std.proofs.Common.{sym, subst}
use Rattle.px_syntax.specs.TypedViews.{typed_expression}
use Rattle.px_bodies.specs.Lent.{type_of}
use Rattle.px_bodies.specs.Operands.{operand_seen}
use Rattle.px_bodies.specs.Outcomes.{Yields}
use Rattle.px_bodies.proofs.ArgumentLemmas.{argument_is}
use Rattle.px_bodies.proofs.operand.Operand.as_argument.Goals as goal

pub returns-in-Some-get : goal.returns-in-Some-get
returns-in-Some-get c =
    subst (Yields typed_expression c.as_type.result)
    (sym (argument_is c.args.wanted c.args.place c.in-Some.parameters c.in-Some-get.parameter.now (type_of c.of.result) (operand_seen c.args.self) c.in-Some.is c.in-Some-get.ensures.lookup.3.0 (c.in-Some-get.ensures.lookup.3.1 c.in-Some-get.parameter.now) c.of.ensures))
    c.as_type.ensures
