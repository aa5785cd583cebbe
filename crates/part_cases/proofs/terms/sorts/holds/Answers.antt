use Rattle.std.proofs.Common.{◌<◌, sym, subst}
use Rattle.std.specs.Prelude.{All}
use Rattle.px_terms.specs.Variables.{mentioned}
use Rattle.px_plain.proofs.Mentioned.{mentioned_inside}
use Rattle.part_cases.proofs.terms.sorts.holds.Goals as goal

pub eval-requires : goal.eval-requires
eval-requires c = subst (λ n. All (λ x. x < n) (mentioned c.args.conjunct.now)) (sym c.requires.size) (mentioned_inside c.args.vars.now c.args.conjunct.now c.requires.sorted)
