use Rattle.std.proofs.Common.{ap, ap₂, ◌∙◌}
use Rattle.px_real_declaring.specs.Trees.{declared_tree}
use Rattle.px_real_types.specs.Scopes.{texts}
use Rattle.px_real_types.specs.Declarators.{declared_shape}
use Rattle.px_real_scopes.specs.Knowing.{with_shape}
use Rattle.px_real_scopes.proofs.known.declared_known.Goals as goal

pub returns : goal.returns
returns c =
    c.with_shape.ensures ∙ ap₂ with_shape (c.declared_shape-shape.ensures ∙ ap (declared_shape (declared_tree (texts c.args.on) c.args.declared.now)) c.seen.ensures) (c.beyond_declarator.ensures (texts c.args.on))
