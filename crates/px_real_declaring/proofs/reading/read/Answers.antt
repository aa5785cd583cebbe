use Rattle.px_real_symbols.specs.Symbols.{seen}
use Rattle.px_real_declaring.specs.Trees.{declaration_tree}
use Rattle.px_real_declaring.proofs.WholeLemmas.{declaration_found, no_declaration}
use Rattle.px_real_declaring.proofs.reading.read.Goals as goal

pub returns-in-Ok : goal.returns-in-Ok
returns-in-Ok g c = declaration_found (g.T.TypeNames.named c.args.types.now) c.args.members (seen c.args.on) (declaration_tree (seen c.args.on) c.in-Ok.tree) c.in-Ok.ensures

pub returns-in-Err : goal.returns-in-Err
returns-in-Err g c = no_declaration (g.T.TypeNames.named c.args.types.now) c.args.members (seen c.args.on) (seen c.args.on) c.in-Err.fault c.as_fault.result c.as_fault.ensures c.in-Err.ensures
