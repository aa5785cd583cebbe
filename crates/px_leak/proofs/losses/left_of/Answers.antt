use Rattle.std.proofs.Common.{◌≡◌, ◌∙◌, ◌+◌, ◌∷◌, ◌++◌, drop, get_or, sym, ap}
use Rattle.std.specs.Prelude.{filter}
use Rattle.std.proofs.lemmas.List.{drop_more}
use Rattle.px_leak.specs.declared.got.GotBlock.{GotBlock}
use Rattle.px_leak.specs.Losses.{is_left}
use Rattle.px_leak.proofs.StepLemmas.{no_block, filter_more}
use Rattle.px_leak.proofs.losses.left_of.Goals as goal

pub loop-block-preserved : goal.loop-block-preserved
loop-block-preserved c = λ x tells within.
    let got = c.args.got.now in
    let i = c.loop-block.block-index in
    let g : GotBlock = get_or got i no_block in
    let is : drop i got ≡ g ∷ drop (i + 1) got = drop_more got i no_block c.loop-block-test.true in
    filter_more (λ (b : GotBlock). is_left x b.place) c.loop-block.left.items c.put_left.new.left.items g (drop (i + 1) got) _
    (c.in_ok-put_left.ensures x tells (within i no_block c.loop-block-test.true))
    (ap (λ gs. c.loop-block.left.items ++ filter (λ (b : GotBlock). is_left x b.place) gs) (sym is) ∙ c.loop-block.invariant x tells within)
