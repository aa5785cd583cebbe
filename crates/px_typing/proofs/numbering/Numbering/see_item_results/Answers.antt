use Rattle.std.proofs.Common.{[], ◌∙◌, flat_map, subst, OnOk}
use Rattle.px_bodies.specs.Environment.{environment_of}
use Rattle.px_typing.specs.Numberings.{Sees}
use Rattle.px_typing.specs.Programs.{called_blocks}
use Rattle.px_typing.proofs.numbering.Numbering.see_item_results.Goals as goal

pub returns : goal.returns
returns c =
    subst (λ ms. OnOk c.see_results.result (Sees c.args.self.now c.see_results.new.self [] (flat_map (called_blocks (environment_of c.args.self.now.environment).signature) ms)))
    (c.as_slice.ensures ∙ c.in_ok-mentions.ensures) c.see_results.ensures
