use Rattle.std.proofs.Common.{ap₂, ◌∙◌}
use Rattle.px_real_types.specs.Scopes.{texts}
use Rattle.px_real_scopes.specs.Knowing.{with_shape}
use Rattle.px_real_scopes.proofs.scopes.Scopes.specified_known.Goals as goal

pub returns : goal.returns
returns c = c.with_shape.ensures ∙ ap₂ with_shape c.specified.ensures (c.said_known.ensures (texts c.args.on))
