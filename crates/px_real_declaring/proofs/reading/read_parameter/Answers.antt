use Rattle.px_real_symbols.specs.Symbols.{seen}
use Rattle.px_real_declaring.specs.Trees.{declaration_tree}
use Rattle.px_real_declaring.proofs.WholeLemmas.{parameter_found, no_parameter}
use Rattle.px_real_declaring.proofs.reading.read_parameter.Goals as goal

pub returns-in-Ok : goal.returns-in-Ok
returns-in-Ok g c = parameter_found (g.T.TypeNames.named c.args.types.now) (seen c.args.on) (declaration_tree (seen c.args.on) c.in-Ok.tree) c.in-Ok.ensures

pub returns-in-Err : goal.returns-in-Err
returns-in-Err g c = no_parameter (g.T.TypeNames.named c.args.types.now) (seen c.args.on) (seen c.args.on) c.in-Err.fault c.as_fault.result c.as_fault.ensures c.in-Err.ensures
