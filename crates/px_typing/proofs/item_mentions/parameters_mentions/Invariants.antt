use Rattle.std.proofs.Common.{◌≡◌, ◌++◌, drop}
use Rattle.px_typing.specs.Mentions.{of_parameters}
use Rattle.px_typing.proofs.item_mentions.parameters_mentions.Given as goal

-- what was found, and what is left, are all
abbrev pub invariant-loop-parameter : goal.invariant-loop-parameter
invariant-loop-parameter l = l.out ++ of_parameters (drop l.parameter-index l.parameters) ≡ l.initial.out ++ of_parameters l.parameters
