use Rattle.std.proofs.Common.{◌≡◌, ◌++◌, drop, map}
use Rattle.px_text_report.specs.Firsts.{others}
use Rattle.px_text_report.specs.Bugs.{same_site}
use Rattle.px_leak.specs.declared.got.GotBlock.{GotBlock}
use Rattle.px_leak.proofs.told.put_each.Given as goal

abbrev pub invariant-loop-block : goal.invariant-loop-block
invariant-loop-block l =
    l.sites.items ++ others same_site l.sites.items (map (λ (g : GotBlock). g.site) (drop l.block-index l.lost))
    ≡ l.initial.sites.items ++ others same_site l.initial.sites.items (map (λ (g : GotBlock). g.site) l.lost)
