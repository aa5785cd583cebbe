use Rattle.std.proofs.Common.{◌∙◌}
use Rattle.px_real_declaring.specs.Trees.{declared_tree}
use Rattle.px_real_types.specs.Scopes.{texts}
use Rattle.px_real_types.proofs.MemberLemmas.{no_weak, one_weak}
use Rattle.px_real_types.proofs.linkage.add_weak.Goals as goal

pub returns-in_default : goal.returns-in_default
returns-in_default c = no_weak c.args.all c.args.names.now.items (declared_tree (texts c.args.on) c.args.declared.now) (c.in_default.ensures (texts c.args.on))

pub returns : goal.returns
returns c =
    one_weak c.args.all c.args.names.now.items c.push.new.self.items (declared_tree (texts c.args.on) c.args.declared.now) c.in-Some.name.now c.in_ok-from_slice.field-0 c.if-not-is_weak.ensures (c.in-Some.ensures (texts c.args.on))
    (c.in_ok-from_slice.ensures ∙ c.as_slice.ensures) c.in_ok-push.ensures.items
