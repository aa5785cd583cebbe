use Rattle.std.proofs.Common.{rules}
use Rattle.std.proofs.lemmas.Result.{IfOk-weaker}
use Rattle.px_calls.proofs.RequiredLemmas.{possible_by}
use Rattle.px_calls.proofs.possible.is_possible.Goals as goal

pub returns : goal.returns
returns c =
    let m = c.args.matching.now in
    IfOk-weaker c.are_open.result _ _
    (λ r e. possible_by m.entry.now m.substitution.items c.args.state.now c.as_slice-4.result.now c.deref-2.result.now c.as_slice-5.result.now r (search rules) (search rules) (search rules) e)
    c.are_open.ensures
