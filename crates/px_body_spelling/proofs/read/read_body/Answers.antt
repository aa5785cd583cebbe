use Rattle.std.proofs.Common.{arith}
use Rattle.px_core.specs.BodyTree.{body_tree}
use Rattle.px_body_spelling.proofs.BodyLaw.{given_is_spelled}
use Rattle.px_body_spelling.proofs.read.read_body.Goals as goal

pub returns-clause-spelled : goal.returns-clause-spelled
returns-clause-spelled c = given_is_spelled (λ x. (body_tree x.0, x.1.now)) c.args.bytes.now (λ i. omega (arith, c.type_inv.bytes i)) c.read_parts.result c.read_parts.ensures
