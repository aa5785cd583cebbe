use Rattle.std.proofs.Common.{◌≡◌, ◌∙◌, ◌+◌, ◌++◌, ◌∷◌, drop, get_or, map, ap, sym}
use Rattle.std.specs.Prelude.{filter}
use Rattle.std.proofs.lemmas.List.{drop_more}
use Rattle.px_text_report.specs.Firsts.{others}
use Rattle.px_leak.specs.declared.got.GotBlock.{GotBlock}
use Rattle.px_leak.specs.Leaks.{leak_at, same_leak, is_outer}
use Rattle.px_leak.proofs.StepLemmas.{no_block, leaks_more}
use Rattle.px_leak.proofs.told.put_leaks.Goals as goal

pub loop-block-preserved : goal.loop-block-preserved
loop-block-preserved c =
    let a = c.args in
    let lost = a.lost.now in
    let i = c.loop-block.block-index in
    let g : GotBlock = get_or lost i no_block in
    let these = c.loop-block.leaks.items in
    let is : drop i lost ≡ g ∷ drop (i + 1) lost = drop_more lost i no_block c.loop-block-test.true in
    leaks_more a.entry.now a.blocks a.sites.now these c.put_leak.new.leaks.items g (drop (i + 1) lost) _ c.in_ok-put_leak.ensures
    (ap (λ zs. these ++ others same_leak these (map (leak_at a.entry.now a.blocks) (filter (is_outer a.sites.now) zs))) (sym is) ∙ c.loop-block.invariant)
