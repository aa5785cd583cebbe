use Rattle.std.proofs.Common.{◌≡◌, ◌∙◌, ◌++◌, List, ℕ, sym, subst}
use Rattle.px_lines.specs.Sinks.{Tells, change}
use Rattle.px_rechecking.proofs.files.tell_bad.Goals as goal

pub returns-in-Ok-clause-bad : goal.returns-in-Ok-clause-bad
returns-in-Ok-clause-bad g c e =
    let k = g.E.Sink in
    subst (λ (t : List ℕ). Tells (change k.told k.count c.args.err.now c.tell.new.err) (c.args.path.now ++ t)) (c.deref.ensures.value ∙ c.in-Ok.ensures) c.tell.ensures.line
