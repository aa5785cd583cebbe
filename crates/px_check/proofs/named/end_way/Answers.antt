use Rattle.std.proofs.Common.{◌≡◌, ◌∷◌, subst, sym}
use Rattle.px_walks.specs.Items.{end_of}
use Rattle.px_check.specs.Steps.{named_way}
use Rattle.px_check.proofs.named.end_way.Goals as goal

pub returns-in-Head : goal.returns-in-Head
returns-in-Head c = λ atoms l k. subst (λ p. c.unroll_way.result ≡ named_way atoms (end_of p l ∷ k) c.args.rule c.args.choices.now) (sym c.in-Head.is) (c.unroll_way.ensures atoms l k)
