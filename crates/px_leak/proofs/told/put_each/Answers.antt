use Rattle.std.proofs.Common.{◌≡◌, ◌∙◌, ◌+◌, ◌++◌, ◌∷◌, [], drop, get_or, map, ap, sym}
use Rattle.std.proofs.lemmas.List.{drop_more}
use Rattle.px_text_report.specs.Firsts.{others}
use Rattle.px_text_report.specs.Bugs.{same_site}
use Rattle.px_text_report.proofs.FirstLemmas.{others_more}
use Rattle.px_leak.specs.declared.got.GotBlock.{GotBlock}
use Rattle.px_leak.proofs.StepLemmas.{no_block}
use Rattle.px_leak.proofs.told.put_each.Goals as goal

pub loop-block-preserved : goal.loop-block-preserved
loop-block-preserved c =
    let lost = c.args.lost.now in
    let i = c.loop-block.block-index in
    let g : GotBlock = get_or lost i no_block in
    let these = c.loop-block.sites.items in
    let is : drop i lost ≡ g ∷ drop (i + 1) lost = drop_more lost i no_block c.loop-block-test.true in
    others_more same_site these c.put_site.new.sites.items (g.site ∷ []) (map (λ (b : GotBlock). b.site) (drop (i + 1) lost)) _ c.in_ok-put_site.ensures
    (ap (λ zs. these ++ others same_site these (map (λ (b : GotBlock). b.site) zs)) (sym is) ∙ c.loop-block.invariant)
