use Rattle.std.proofs.Common.{◌≡◌, ◌++◌, map, take}
use Rattle.std.specs.List.{flat_map}
use Rattle.px_spelling.proofs.mentions.add_all_mentions.Given as goal

-- what the items so far mention is there
abbrev pub invariant-loop-item : goal.invariant-loop-item
invariant-loop-item g l = map (λ p. p.now) l.all.items ≡ map (λ p. p.now) l.fn.all.items ++ flat_map (g.T.Mentions.mentions) (take l.item-index l.items)
