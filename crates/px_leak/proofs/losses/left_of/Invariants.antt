use Rattle.std.proofs.Common.{◌≡◌, ◌++◌, drop}
use Rattle.std.specs.Prelude.{filter}
use Rattle.px_entry.specs.declared.entries.Entry.{Entry}
use Rattle.px_leak.specs.declared.got.GotBlock.{GotBlock}
use Rattle.px_leak.specs.Losses.{is_left}
use Rattle.px_leak.specs.Lives.{AreWithin, Tells}
use Rattle.px_leak.proofs.losses.left_of.Given as goal

-- those so far, and those of the blocks that are left
abbrev pub invariant-loop-block : goal.invariant-loop-block
invariant-loop-block l =
    (x : Entry) → Tells x l.fates → AreWithin x l.got →
    l.left.items ++ filter (λ (g : GotBlock). is_left x g.place) (drop l.block-index l.got) ≡ filter (λ (g : GotBlock). is_left x g.place) l.got
