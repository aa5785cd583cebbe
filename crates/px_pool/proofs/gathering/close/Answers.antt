use Rattle.std.proofs.Common.{◌≡◌, true, false, sym, ◌∙◌}
use Rattle.px_pool.proofs.GatheringLemmas.{too_few, first_refused, gives}
use Rattle.px_pool.proofs.gathering.close.Goals as goal

pub returns-then-not-none_wait : goal.returns-then-not-none_wait
returns-then-not-none_wait c v j parts opened bytes own m spells replying are =
    too_few j v parts bytes own m c.args.gathering (λ none. let clash : true ≡ false = sym (c.none_wait.ensures.1 none) ∙ c.if-not-none_wait.true in cc) opened spells replying are

pub returns-in-Some : goal.returns-in-Some
returns-in-Some c v j parts opened bytes own m spells replying are =
    first_refused j v parts bytes own m c.args.gathering c.in-Some.refusal (c.none_wait.ensures.0 c.if-not-none_wait.false) c.in-Some.is opened spells replying are

pub returns : goal.returns
returns c v j parts opened bytes own m spells replying are =
    gives j v parts bytes own m c.args.gathering (c.none_wait.ensures.0 c.if-not-none_wait.false) c.in-None.is opened spells replying are
