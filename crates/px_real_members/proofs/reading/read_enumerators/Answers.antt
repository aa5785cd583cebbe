use Rattle.std.proofs.Common.{map}
use Rattle.px_real_symbols.specs.Symbols.{seen}
use Rattle.px_real_members.specs.Trees.{enumerator_tree}
use Rattle.px_real_members.proofs.WholeLemmas.{enumerators_found, no_enumerators}
use Rattle.px_real_members.proofs.reading.read_enumerators.Goals as goal

pub returns-in-Ok : goal.returns-in-Ok
returns-in-Ok c = enumerators_found (seen c.args.on) (map (enumerator_tree (seen c.args.on)) c.in-Ok.enumerators.items) c.in-Ok.ensures

pub returns-in-Err : goal.returns-in-Err
returns-in-Err c = no_enumerators (seen c.args.on) (seen c.args.on) c.in-Err.fault c.as_fault.result c.as_fault.ensures c.in-Err.ensures
