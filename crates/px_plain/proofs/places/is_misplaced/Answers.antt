use Rattle.px_plain.proofs.Placing.{not_own, not_pointer, owns, null_one, shares, others}
use Rattle.px_plain.proofs.places.is_misplaced.Goals as goal
use Rattle.px_terms.proofs.Tests.{never_both}

pub returns-then-number-x-clause-yes : goal.returns-then-number-x-clause-yes
returns-then-number-x-clause-yes c = λ e. not_own c.args.vars.now c.args.numbers.now c.args.x c.requires.inside c.requires.below (c.is_made.ensures.0 c.if-is_made.true) c.if-number-x.true

pub returns-then-is_made-clause-yes : goal.returns-then-is_made-clause-yes
returns-then-is_made-clause-yes c = λ e. not_pointer c.args.vars.now c.args.numbers.now c.args.x c.requires.inside c.requires.below (c.is_made.ensures.0 c.if-is_made.true) (c.is_same_type.ensures.0 e)

pub returns-then-is_made-clause-no : goal.returns-then-is_made-clause-no
returns-then-is_made-clause-no c = λ e. owns c.args.vars.now c.args.numbers.now c.args.x c.requires.inside c.requires.below c.if-number-x.false
    (λ q. never_both c.is_same_type.result (c.is_same_type.ensures.1 q) e)

pub returns-then-number-eq0-clause-no : goal.returns-then-number-eq0-clause-no
returns-then-number-eq0-clause-no c = λ e. null_one c.args.vars.now c.args.numbers.now c.args.x c.requires.inside c.requires.below
    (λ q. never_both c.is_made.result (c.is_made.ensures.1 q) c.if-is_made.false) c.if-number-eq0.true

pub returns-clause-yes : goal.returns-clause-yes
returns-clause-yes c = λ e. shares c.args.vars.now c.args.numbers.now c.args.x c.requires.inside c.requires.below
    (λ q. never_both c.is_made.result (c.is_made.ensures.1 q) c.if-is_made.false) c.if-number-eq0.false (c.is_made-2.ensures.0 e)

pub returns-clause-no : goal.returns-clause-no
returns-clause-no c = λ e. others c.args.vars.now c.args.numbers.now c.args.x c.requires.inside c.requires.below
    (λ q. never_both c.is_made.result (c.is_made.ensures.1 q) c.if-is_made.false)
    (λ q. never_both c.is_made-2.result (c.is_made-2.ensures.1 q) e)
