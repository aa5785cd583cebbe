use Rattle.std.proofs.Common.{◌≡◌, ◌++◌, flat_map, drop}
use Rattle.px_bodies.specs.Environment.{fields_of_one}
use Rattle.px_typing.specs.Mentions.{of_type}
use Rattle.px_typing.proofs.item_mentions.declarators_mentions.Given as goal

-- what was found, and what is left, are all
abbrev pub invariant-loop-declarator : goal.invariant-loop-declarator
invariant-loop-declarator l =
    l.out ++ flat_map (λ f. of_type f.1) (fields_of_one (record { base = l.declaration.base; declarators = drop l.declarator-index l.declaration.declarators }))
    ≡ l.initial.out ++ flat_map (λ f. of_type f.1) (fields_of_one l.declaration)
