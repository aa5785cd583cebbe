use Rattle.std.proofs.Common.{map, subst, sym}
use Rattle.px_real_types.specs.Scopes.{texts}
use Rattle.px_real_declarations.specs.Grammar.{Enumerators}
use Rattle.px_real_members.specs.Trees.{enumerator_tree}
use Rattle.px_real_names.proofs.EnumeratedExact.{enumeration_fails, enumeration_found}
use Rattle.px_real_names.proofs.enumerated.add_enumeration.Goals as goal

pub returns-in-Err : goal.returns-in-Err
returns-in-Err c = enumeration_fails (texts c.args.on) c.args.names.now.items c.args.names.now.items c.in-Err.fault c.in-Err.ensures

pub returns-in_ok-add_enumerators-in-Ok : goal.returns-in_ok-add_enumerators-in-Ok
returns-in_ok-add_enumerators-in-Ok c =
    enumeration_found (texts c.args.on) c.args.names.now.items c.add_enumerators.new.names.items (map (enumerator_tree (texts c.args.on)) c.deref.result.now)
    (subst (λ z. Enumerators (texts c.args.on) (map (enumerator_tree (texts c.args.on)) z)) (sym c.deref.ensures.value) c.in-Ok.ensures) (c.in_ok-add_enumerators-in-Ok.ensures (texts c.args.on))
