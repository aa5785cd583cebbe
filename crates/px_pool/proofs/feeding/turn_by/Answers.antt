use Rattle.std.proofs.Common.{◌≡◌, true, false, sym, ◌∙◌}
use Rattle.px_pool.proofs.FeedingLemmas.{whole_part}
use Rattle.px_pool.proofs.feeding.turn_by.Goals as goal

pub returns-clause-turn : goal.returns-clause-turn
returns-clause-turn c =
    whole_part c.args.part (λ is. let clash : true ≡ false = sym (c.is_held.ensures.1 is) ∙ c.if-is_held.false in cc) (λ is. let clash : true ≡ false = sym (c.is_end.ensures.1 is) ∙ c.if-is_end.false in cc)
