use Rattle.std.proofs.Common.{arith}
use Rattle.px_parity.proofs.Sums.{constant_added, no_constant}
use Rattle.px_parity.proofs.equations.constant_row.Goals as goal

pub returns-then-constant-eq0-clause-value : goal.returns-then-constant-eq0-clause-value
returns-then-constant-eq0-clause-value c = no_constant c.in_ok-row.row c.args.constant c.in_ok-row.ensures.none c.if-constant-eq0.true

pub returns-clause-value : goal.returns-clause-value
returns-clause-value c =
    let s = c.in_ok-row.ensures.size in
    constant_added c.in_ok-row.row c.flip.new.self c.args.constant c.in_ok-row.ensures.none (omega arith) c.if-constant-eq0.false c.flip.ensures
