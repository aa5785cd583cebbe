use Rattle.std.proofs.Common.{◌∙◌, sym, ap, subst}
use Rattle.std.specs.Prelude.{filter}
use Rattle.std.proofs.lemmas.Result.{IfOk-weaker}
use Rattle.px_leak.specs.declared.got.GotBlock.{GotBlock}
use Rattle.px_leak.specs.Losses.{is_left}
use Rattle.px_leak.specs.Lives.{AreWithin}
use Rattle.px_leak.proofs.LostBlocks.{got_within}
use Rattle.px_leak.proofs.losses.left_blocks.Goals as goal

pub returns : goal.returns
returns c =
    let x = c.args.entry.now in
    let is = c.as_slice.ensures.value ∙ c.in_ok-got.ensures in
    IfOk-weaker c.left_of.result _ _
    (λ v h. h x c.in_ok-fates.ensures (subst (AreWithin x) (sym is) (got_within x)) ∙ ap (filter (λ (g : GotBlock). is_left x g.place)) is)
    c.left_of.ensures
