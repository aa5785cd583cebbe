use Rattle.std.proofs.Common.{map, ◌∙◌}
use Rattle.px_real_types.specs.Scopes.{texts}
use Rattle.px_real_types.specs.Cells.{cell_tree}
use Rattle.px_real_types.proofs.MemberLemmas.{no_cell, a_cell}
use Rattle.px_real_types.proofs.cells.add_member.Goals as goal

pub returns-in_default-declared_name : goal.returns-in_default-declared_name
returns-in_default-declared_name c = no_cell (texts c.args.on) c.args.member.now c.args.shape (map cell_tree c.args.cells.now.items) (c.in_default-declared_name.ensures (texts c.args.on))

pub returns : goal.returns
returns c =
    a_cell (texts c.args.on) c.args.member.now c.args.shape c.declared_shape.result c.args.cells.now.items c.push.new.self.items c.in-Some-declared_name.name.now c.in_ok-name.name c.in-Some-in_profile.kind c.in_default.is
    (c.in-Some-declared_name.ensures (texts c.args.on)) c.declared_shape.ensures c.in-Some-in_profile.ensures (c.in_ok-name.ensures ∙ c.as_slice.ensures) c.in_ok-push.ensures.items
