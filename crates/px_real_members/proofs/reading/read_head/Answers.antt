use Rattle.px_real_symbols.specs.Symbols.{seen}
use Rattle.px_real_members.specs.Trees.{head_tree}
use Rattle.px_real_members.proofs.WholeLemmas.{head_found, no_head}
use Rattle.px_real_members.proofs.reading.read_head.Goals as goal

pub returns-in-Ok : goal.returns-in-Ok
returns-in-Ok g c = head_found (g.T.TypeNames.named c.args.types.now) (seen c.args.on) (head_tree (seen c.args.on) c.in-Ok.head) c.in-Ok.ensures

pub returns-in-Err : goal.returns-in-Err
returns-in-Err g c = no_head (g.T.TypeNames.named c.args.types.now) (seen c.args.on) (seen c.args.on) c.in-Err.fault c.as_fault.result c.as_fault.ensures c.in-Err.ensures
