use Rattle.std.proofs.Common.{◌∷◌, [], map, subst}
use Rattle.std.proofs.lemmas.Result.{IfOk-weaker}
use Rattle.px_typing.specs.ItemViews.{judged_of}
use Rattle.px_typing.specs.Numberings.{Sees}
use Rattle.px_typing.specs.Programs.{mentions}
use Rattle.px_typing.proofs.NumberingLemmas.{sees_whole}
use Rattle.px_typing.proofs.numbering.Numbering.see_program.Goals as goal

pub returns : goal.returns
returns c =
    IfOk-weaker c.see_items_results.result _ _
    (λ _ k. sees_whole c.args.self.now c.see_kept.new.self c.see_left.new.self c.see_type.new.self c.see_items.new.self c.see_items_results.new.self
    (map judged_of c.args.judged.now) (mentions (map judged_of c.args.judged.now)) c.in_ok-see_kept.ensures c.in_ok-see_left.ensures
    (subst (λ t. Sees c.see_left.new.self c.see_type.new.self [] (t ∷ [])) c.int.ensures c.in_ok-see_type.ensures) c.in_ok-see_items.ensures k)
    c.see_items_results.ensures
