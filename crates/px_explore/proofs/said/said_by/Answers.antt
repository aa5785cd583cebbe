use Rattle.std.proofs.lemmas.Result.{IfOk-weaker}
use Rattle.px_explore.proofs.SaidLemmas.{some_weaker, read_said, test_said, load_said, store_said, free_said}
use Rattle.px_explore.proofs.said.said_by.Goals as goal

pub returns-in-Read : goal.returns-in-Read
returns-in-Read c =
    let t = c.in-Read in some_weaker _ _ c.read.result (λ x h j k n. read_said j c.args.state.now k c.args.command.now t.slot t.site c.args.way x t.is (h n)) c.read.ensures

pub returns-in-Test : goal.returns-in-Test
returns-in-Test c =
    let t = c.in-Test in
    IfOk-weaker c.tested.result _ _ (λ o. some_weaker _ _ o (λ x h j k n. test_said j c.args.state.now k c.args.command.now t.to t.how t.a t.b t.site c.args.way x t.is (h n))) c.tested.ensures

pub returns-in-Load : goal.returns-in-Load
returns-in-Load c =
    let t = c.in-Load in
    some_weaker _ _ c.joined.result (λ x h j k n. load_said j c.args.state.now k c.args.command.now t.to t.at t.field t.block t.site c.args.way x t.is (h n)) c.joined.ensures

pub returns-in-Store : goal.returns-in-Store
returns-in-Store c =
    let t = c.in-Store in
    some_weaker _ _ c.joined-in-Store.result (λ x h j k n. store_said j c.args.state.now k c.args.command.now t.at t.field t.block t.from t.site c.args.way x t.is (h n)) c.joined-in-Store.ensures

pub returns-in-Free : goal.returns-in-Free
returns-in-Free c =
    let t = c.in-Free in
    some_weaker _ _ c.joined-in-Free.result (λ x h j k n. free_said j c.args.state.now k c.args.command.now t.at t.block t.site c.args.way x t.is (h n)) c.joined-in-Free.ensures
