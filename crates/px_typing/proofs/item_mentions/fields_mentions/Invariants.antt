use Rattle.std.proofs.Common.{◌≡◌, ◌++◌, flat_map, drop}
use Rattle.px_bodies.specs.Environment.{fields_of}
use Rattle.px_typing.specs.Mentions.{of_type}
use Rattle.px_typing.proofs.item_mentions.fields_mentions.Given as goal

-- what was found, and what is left, are all
abbrev pub invariant-loop-declaration : goal.invariant-loop-declaration
invariant-loop-declaration l =
    l.out ++ flat_map (λ f. of_type f.1) (fields_of (drop l.declaration-index l.fields)) ≡ l.initial.out ++ flat_map (λ f. of_type f.1) (fields_of l.fields)
