use Rattle.std.proofs.Common.{sym}
use Rattle.px_wire.specs.Messages.{said_tree}
use Rattle.px_wire.proofs.Listed.{decided}
use Rattle.px_wire.proofs.decoding.has_terms.Goals as goal

pub returns-clause-test : goal.returns-clause-test
returns-clause-test c = decided c.in_ok-own.own (said_tree c.args.said.now) c.args.terms.now c.in_ok-own.ensures

pub returns-clause-own : goal.returns-clause-own
returns-clause-own c = λ e. sym (c.in_ok-own.ensures.0 e)
