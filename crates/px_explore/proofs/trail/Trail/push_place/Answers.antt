use Rattle.std.proofs.Common.{sym, ◌∙◌}
use Rattle.std.proofs.lemmas.Result.{on_ok_weaker}
use Rattle.px_explore.proofs.ReachLemmas.{place_put}
use Rattle.px_explore.proofs.trail.Trail.push_place.Goals as goal

pub returns-clause-pushed : goal.returns-clause-pushed
returns-clause-pushed c =
    on_ok_weaker c.push_apart.result (λ f. place_put c.args.self.now c.push_apart.new.self c.args.vars.now c.args.atom.now (sym c.is_made.ensures ∙ c.if-is_made.false) f) c.push_apart.ensures.pushed
