use Rattle.std.proofs.Common.{map, sym, subst}
use Rattle.px_real_declarations.specs.Grammar.{Enumerators}
use Rattle.px_real_members.specs.Trees.{enumerator_tree}
use Rattle.px_real_types.specs.Scopes.{texts}
use Rattle.px_real_scopes.proofs.EnteringLemmas.{not_enumerators, enumerated_is}
use Rattle.px_real_scopes.proofs.enumerators.define_enumeration.Goals as goal

pub returns-in_ok-add_enumeration-in-Ok-clause-comes : goal.returns-in_ok-add_enumeration-in-Ok-clause-comes
returns-in_ok-add_enumeration-in-Ok-clause-comes c =
    let all = texts c.args.on in
    enumerated_is c.args.tag.now all c.args.scopes.now c.add_enumeration.new.scopes (map (enumerator_tree all) c.deref.result.now)
    (subst (λ z. Enumerators all (map (enumerator_tree all) z)) (sym c.deref.ensures.value) c.in-Ok.ensures) c.in_ok-add_enumeration-in-Ok.ensures.added

pub returns-in-Err-clause-comes : goal.returns-in-Err-clause-comes
returns-in-Err-clause-comes c = not_enumerators c.args.tag.now (texts c.args.on) c.args.scopes.now c.args.scopes.now c.in-Err.fault c.in-Err.ensures
