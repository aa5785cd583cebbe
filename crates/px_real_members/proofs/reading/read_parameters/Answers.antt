use Rattle.px_real_symbols.specs.Symbols.{seen}
use Rattle.px_real_members.specs.Trees.{parameters_tree}
use Rattle.px_real_members.proofs.WholeLemmas.{parameters_found, no_parameters}
use Rattle.px_real_members.proofs.reading.read_parameters.Goals as goal

pub returns-in-Ok : goal.returns-in-Ok
returns-in-Ok g c = parameters_found (g.T.TypeNames.named c.args.types.now) (seen c.args.on) (parameters_tree (seen c.args.on) c.in-Ok.parameters) c.in-Ok.ensures

pub returns-in-Err : goal.returns-in-Err
returns-in-Err g c = no_parameters (g.T.TypeNames.named c.args.types.now) (seen c.args.on) (seen c.args.on) c.in-Err.fault c.as_fault.result c.as_fault.ensures c.in-Err.ensures
