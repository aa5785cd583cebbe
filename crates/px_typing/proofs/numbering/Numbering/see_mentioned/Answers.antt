use Rattle.std.proofs.Common.{◌∷◌, [], sym, subst, option_to_list, OnOk}
use Rattle.std.proofs.lemmas.Result.{IfOk-weaker}
use Rattle.px_typing.specs.Numberings.{Sees}
use Rattle.px_typing.specs.MentionViews.{mention_of}
use Rattle.px_typing.specs.Programs.{mentioned_name, mentioned_blocks}
use Rattle.px_typing.proofs.NumberingLemmas.{sees_after}
use Rattle.px_typing.proofs.numbering.Numbering.see_mentioned.Goals as goal

pub returns-in_ok-see_after-in-Sized : goal.returns-in_ok-see_after-in-Sized
returns-in_ok-see_after-in-Sized c =
    subst
    (λ m. OnOk c.see_type.result (Sees c.args.self.now c.see_type.new.self (option_to_list (mentioned_name (mention_of m))) (mentioned_blocks (mention_of m))))
    (sym c.in-Sized.is)
    (IfOk-weaker c.see_type.result _ _
    (λ _ k. sees_after c.args.self.now c.see_after-in-Sized.new.self c.see_type.new.self c.in-Sized.base.now c.in-Sized.stars c.in_ok-see_after-in-Sized.ensures
    (subst (λ t. Sees c.see_after-in-Sized.new.self c.see_type.new.self [] (t ∷ [])) c.new.ensures k))
    c.see_type.ensures)
