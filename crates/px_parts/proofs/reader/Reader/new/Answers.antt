use Rattle.std.proofs.Common.{arith}
use Rattle.px_parts.specs.Places.{Start}
use Rattle.px_parts.proofs.reader.Reader.new.Goals as goal

pub invariant_of-result : goal.invariant_of-result
invariant_of-result c = (omega arith, c.new-2.ensures Start c.new.result.items)
