use Rattle.std.proofs.Common.{◌+◌, Some, map, drop, ap, subst, sym, ◌∙◌, arith}
use Rattle.px_real_declarations.specs.Grammar.{Members}
use Rattle.px_real_declaring.specs.Items.{nesting_limit}
use Rattle.px_real_declaring.specs.Trees.{specifier_tree, declaration_tree}
use Rattle.px_real_types.specs.Scopes.{texts}
use Rattle.px_real_names.specs.Enumerated.{both, of_each, of_member, of_members, deeper_by, enumerated_by, Adds}
use Rattle.px_real_names.proofs.EnumeratedExact.{record_fails, record_is, too_deep}
use Rattle.px_real_names.proofs.AddLemmas.{adds_next, each_left, members_left}
use Rattle.px_real_names.proofs.enumerated.+add_specifier.Goals as goal

pub add_record-returns-then-depth-eq0 : goal.add_record-returns-then-depth-eq0
add_record-returns-then-depth-eq0 g t c = too_deep (g.T.TypeNames.named c.args.types.now) c.args.depth (texts c.args.on) c.if-depth-eq0.true

pub add_record-returns-in-Err : goal.add_record-returns-in-Err
add_record-returns-in-Err g t c =
    record_fails (g.T.TypeNames.named c.args.types.now) (deeper_by (g.T.TypeNames.named c.args.types.now) c.args.depth) (texts c.args.on) c.args.names.now.items c.args.names.now.items c.in-Err.fault c.in-Err.ensures

pub add_record-returns-in-Ok : goal.add_record-returns-in-Ok
add_record-returns-in-Ok g t c =
    let m = subst (λ z. Members (g.T.TypeNames.named c.args.types.now) nesting_limit (texts c.args.on) (map (declaration_tree (texts c.args.on)) z)) (sym c.deref.ensures.value) c.in-Ok.ensures in
    subst (λ z. Adds c.args.names.now.items c.add_members.new.names.items c.add_members.result z)
    (sym (record_is (g.T.TypeNames.named c.args.types.now) c.args.depth (texts c.args.on) (map (declaration_tree (texts c.args.on)) c.deref.result.now) (omega (arith, c.if-depth-eq0.false)) m)) c.add_members.ensures

pub add_specifiers-loop-specifier-preserved : goal.add_specifiers-loop-specifier-preserved
add_specifiers-loop-specifier-preserved g t c =
    let T = g.T.TypeNames.named c.args.types.now in
    let one = enumerated_by T c.args.depth (specifier_tree (texts c.args.on) c.specifier-item.result) in
    let rest = of_each (enumerated_by T c.args.depth) (map (specifier_tree (texts c.args.on)) (drop (c.loop-specifier.specifier-index + 1) c.args.specifiers.now)) in
    adds_next c.loop-specifier.names.items c.add_specifier.new.names.items c.args.names.now.items one rest _ c.in_ok-add_specifier.ensures
    (ap (both (Some c.loop-specifier.names.items)) (sym (each_left (enumerated_by T c.args.depth) (specifier_tree (texts c.args.on)) c.args.specifiers.now c.loop-specifier.specifier-index c.specifier-item.result c.loop-specifier-test.true c.specifier-item.is))
    ∙ c.loop-specifier.invariant)

pub add_members-loop-member-preserved : goal.add_members-loop-member-preserved
add_members-loop-member-preserved g t c =
    let T = g.T.TypeNames.named c.args.types.now in
    let one = of_member (enumerated_by T c.args.depth) (declaration_tree (texts c.args.on) c.member-item.result) in
    let rest = of_members (enumerated_by T c.args.depth) (map (declaration_tree (texts c.args.on)) (drop (c.loop-member.member-index + 1) c.args.members.now)) in
    adds_next c.loop-member.names.items c.add_member.new.names.items c.args.names.now.items one rest _ c.in_ok-add_member.ensures
    (ap (both (Some c.loop-member.names.items)) (sym (members_left (enumerated_by T c.args.depth) (declaration_tree (texts c.args.on)) c.args.members.now c.loop-member.member-index c.member-item.result c.loop-member-test.true c.member-item.is))
    ∙ c.loop-member.invariant)
