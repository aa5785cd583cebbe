use Rattle.std.proofs.Common.{◌∙◌, filter_map, flat_map, subst, OnOk}
use Rattle.px_typing.specs.Numberings.{Sees}
use Rattle.px_typing.specs.Programs.{mentioned_name, mentioned_blocks}
use Rattle.px_typing.proofs.numbering.Numbering.see_item.Goals as goal

pub returns : goal.returns
returns c =
    subst (λ ms. OnOk c.see_mentions.result (Sees c.args.self.now c.see_mentions.new.self (filter_map mentioned_name ms) (flat_map mentioned_blocks ms)))
    (c.as_slice.ensures ∙ c.in_ok-mentions.ensures) c.see_mentions.ensures
