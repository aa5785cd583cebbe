use Rattle.std.proofs.Common.{◌≡◌, ◌++◌, drop, map}
use Rattle.std.specs.Prelude.{filter}
use Rattle.px_text_report.specs.Firsts.{others}
use Rattle.px_leak.specs.Leaks.{leak_at, same_leak, is_outer}
use Rattle.px_leak.proofs.told.put_leaks.Given as goal

abbrev pub invariant-loop-block : goal.invariant-loop-block
invariant-loop-block l =
    l.leaks.items ++ others same_leak l.leaks.items (map (leak_at l.entry l.blocks) (filter (is_outer l.sites) (drop l.block-index l.lost)))
    ≡ l.initial.leaks.items ++ others same_leak l.initial.leaks.items (map (leak_at l.entry l.blocks) (filter (is_outer l.sites) l.lost))
