use Rattle.std.proofs.Common.{ap₂, ◌∙◌}
use Rattle.px_real_scopes.specs.Knowing.{beyond_by}
use Rattle.px_real_scopes.proofs.known.beyond_declarator.Goals as goal

pub returns : goal.returns
returns c = λ all. c.beyond_by.ensures ∙ ap₂ (λ a b. beyond_by a b c.args.known) (c.is_bare.ensures all) (c.is_array_of.ensures all)
