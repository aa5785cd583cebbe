use Rattle.std.proofs.Common.{◌≡◌, ◌∷◌, ◌∙◌, ◌++◌, List, ap}
use Rattle.px_interval.specs.declared.gaps.Gap.{Gap}
use Rattle.px_interval.specs.Gaps.{gaps_of, gaps_on}
use Rattle.px_interval.proofs.Bounding.{bounding, gaps_are, decided}
use Rattle.px_interval.proofs.interval.is_ruled_out.Goals as goal

pub rule_out-requires : goal.rule_out-requires
rule_out-requires c =
    let (d, cs, e, f) = c.requires in
    let gaps : c.add_gaps-2.new.gaps.items ≡ gaps_of c.args.bound ++ gaps_on c.args.bound.variable c.args.kept.now =
    c.in_ok-add_gaps-2.ensures ∙ ap (λ (gs : List Gap). gs ++ gaps_on c.args.bound.variable c.args.kept.now) (c.in_ok-add_gaps.ensures ∙ ap (λ (gs : List Gap). gs ++ gaps_of c.args.bound) c.clear.ensures.items) in
    (bounding c.args.bound.variable (d ∷ cs), gaps ∙ gaps_are d cs c.args.bound c.args.kept.now e f)

pub returns : goal.returns
returns c = λ d cs e f free.
    let gaps : c.add_gaps-2.new.gaps.items ≡ gaps_of c.args.bound ++ gaps_on c.args.bound.variable c.args.kept.now =
    c.in_ok-add_gaps-2.ensures ∙ ap (λ (gs : List Gap). gs ++ gaps_on c.args.bound.variable c.args.kept.now) (c.in_ok-add_gaps.ensures ∙ ap (λ (gs : List Gap). gs ++ gaps_of c.args.bound) c.clear.ensures.items) in
    decided d cs c.args.bound c.args.kept.now c.add_gaps-2.new.gaps.items c.rule_out.result e f gaps c.rule_out.ensures free
