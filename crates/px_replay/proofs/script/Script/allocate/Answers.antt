use Rattle.std.proofs.Common.{rules, ◌≡◌, ap, ◌∙◌, subst}
use Rattle.px_meaning.specs.Heaps.{with_block}
use Rattle.px_meaning.specs.Steps.{new_block}
use Rattle.px_replay.specs.Following.{IsLeast, IsTaken}
use Rattle.px_replay.specs.Replays.{heap_map}
use Rattle.px_replay.proofs.TakenNumbers.{got_block}
use Rattle.px_replay.proofs.script.Script.allocate.Goals as goal

pub returns : goal.returns
returns c =
    let same : c.mark-2.new.self.heap ≡ c.args.self.now.heap = search rules in
    let least : IsLeast (IsTaken (heap_map c.mark-2.new.self.heap)) c.in_ok-number.number = search rules in
    let put : heap_map c.add_block.new.self.heap ≡ with_block (heap_map c.mark-2.new.self.heap) c.in_ok-number.number (new_block c.args.types.now c.args.block.0) = search rules in
    got_block c.args.types.now c.args.block c.args.site c.args.self.now c.add_block.new.self c.in_ok-number.number (search rules) (search rules)
    (subst (λ h. IsLeast (IsTaken (heap_map h)) c.in_ok-number.number) same least)
    (put ∙ ap (λ h. with_block (heap_map h) c.in_ok-number.number (new_block c.args.types.now c.args.block.0)) same)
