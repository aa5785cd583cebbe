-- What the code has, as plain data.
use Rattle.std.specs.Prelude.{map}
use Rattle.px_syntax.specs.TypedViews.{typed_expression, typed_condition}
use Rattle.px_real_values.specs.declared.calls.Given.{Given as Evaluated}
use Rattle.px_real_values.specs.declared.environment.Signature.{Signature as Declared}
use Rattle.px_real_values.specs.declared.environment.Callee.{Callee as Called}
use Rattle.px_real_values.specs.declared.environment.Callee.TheVariants as C
use Rattle.px_real_values.specs.declared.environment.Meaning.{Meaning as Means}
use Rattle.px_real_values.specs.declared.environment.Meaning.TheVariants as M
use Rattle.px_real_values.specs.declared.environment.TypeSpelled.{TypeSpelled}
use Rattle.px_real_values.specs.declared.operand.Operand.{Operand as Kept}
use Rattle.px_real_values.specs.declared.operand.Operand.TheVariants as O
use Rattle.px_real_values.specs.Spelled.{Spelled}
use Rattle.px_real_values.specs.Environment.{Signature, Callee, function, library, no_function, Meaning, local, enumerator, other, undeclared}
use Rattle.px_real_values.specs.Operands.{Operand, of_type, a_zero, a_null, a_test, a_block, a_name, a_member, outside, a_struct, an_object, stopped}
use Rattle.px_real_values.specs.Calls.{Given}

abbrev pub signature_seen : Declared → Signature
signature_seen s = record { proc = s.proc; parameters = s.parameters.now; takes_more = s.takes_more; result = s.result }

abbrev pub callee_seen : Called → Callee
callee_seen (C.Function s) = function (signature_seen s)
callee_seen (C.Library l) = library l
callee_seen C.NoFunction = no_function

abbrev pub meaning_seen : Means → Meaning
meaning_seen (M.Local number kind) = local number kind
meaning_seen (M.Enumerator value) = enumerator value
meaning_seen (M.Other callee known word) = other (callee_seen callee) known word
meaning_seen M.Undeclared = undeclared

abbrev pub spelled_seen : TypeSpelled → Spelled
spelled_seen s = record { shape = s.shape; is_starred = s.is_starred }

abbrev pub operand_seen : Kept → Operand
operand_seen (O.OfType kind site value) = of_type kind site (typed_expression value)
operand_seen (O.Zero site) = a_zero site
operand_seen (O.Null word site) = a_null word site
operand_seen (O.Test condition) = a_test (typed_condition condition)
operand_seen (O.Block block site) = a_block block site
operand_seen (O.Named callee known word site) = a_name (callee_seen callee) known word site
operand_seen (O.Member known pointer block access word site) = a_member known (typed_expression pointer) block access word site
operand_seen (O.Outside known parts word site) = outside known (map typed_expression parts.items) word site
operand_seen (O.Struct number pointer word site) = a_struct number (typed_expression pointer) word site
operand_seen (O.Object known parts word site) = an_object known (map typed_expression parts.items) word site
operand_seen (O.Stopped parts word site) = stopped (map typed_expression parts.items) word site

abbrev pub given_seen : Evaluated → Given
given_seen x = record { first = x.first; operand = operand_seen x.operand }
