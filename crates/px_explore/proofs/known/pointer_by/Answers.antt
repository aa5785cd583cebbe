use Rattle.px_explore.proofs.SaidLemmas.{some_weaker}
use Rattle.px_explore.proofs.KnownLemmas.{load_through, store_through, free_through}
use Rattle.px_explore.proofs.known.pointer_by.Goals as goal

pub returns-in-Load : goal.returns-in-Load
returns-in-Load c = let t = c.in-Load in some_weaker _ _ c.variable_at.result (λ x h k. load_through c.args.state.now k c.args.command.now t.to t.at t.field t.block t.site x t.is h) c.variable_at.ensures

pub returns-in-Store : goal.returns-in-Store
returns-in-Store c =
    let t = c.in-Store in some_weaker _ _ c.variable_at-in-Store.result (λ x h k. store_through c.args.state.now k c.args.command.now t.at t.field t.block t.from t.site x t.is h) c.variable_at-in-Store.ensures

pub returns-in-Free : goal.returns-in-Free
returns-in-Free c = let t = c.in-Free in some_weaker _ _ c.variable_at-in-Free.result (λ x h k. free_through c.args.state.now k c.args.command.now t.at t.block t.site x t.is h) c.variable_at-in-Free.ensures
