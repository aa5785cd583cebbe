use Rattle.std.proofs.Common.{◌≡◌, ◌++◌, map, take}
use Rattle.std.specs.List.{flat_map}
use Rattle.px_spelling.specs.Mentions.{callee_mentions}
use Rattle.px_wire.proofs.sharing.add_callee_mentions.Given as goal

-- what the callees so far mention is there
abbrev pub invariant-loop-callee : goal.invariant-loop-callee
invariant-loop-callee l = map (λ p. p.now) l.all.items ≡ map (λ p. p.now) l.fn.all.items ++ flat_map (λ c. callee_mentions c.1) (take l.callee-index l.callees)
