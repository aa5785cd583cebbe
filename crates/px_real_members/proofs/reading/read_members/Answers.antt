use Rattle.std.proofs.Common.{map}
use Rattle.px_real_symbols.specs.Symbols.{seen}
use Rattle.px_real_declaring.specs.Trees.{declaration_tree}
use Rattle.px_real_members.proofs.WholeLemmas.{members_found, no_members}
use Rattle.px_real_members.proofs.reading.read_members.Goals as goal

pub returns-in-Ok : goal.returns-in-Ok
returns-in-Ok g c = members_found (g.T.TypeNames.named c.args.types.now) (seen c.args.on) (map (declaration_tree (seen c.args.on)) c.in-Ok.members.items) c.in-Ok.ensures

pub returns-in-Err : goal.returns-in-Err
returns-in-Err g c = no_members (g.T.TypeNames.named c.args.types.now) (seen c.args.on) (seen c.args.on) c.in-Err.fault c.as_fault.result c.as_fault.ensures c.in-Err.ensures
