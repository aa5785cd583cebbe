use Rattle.std.proofs.Common.{arith}
use Rattle.px_callgraph.proofs.Uniqueness.{same_ranks}
use Rattle.px_callgraph.proofs.laws.ranks_rise.Goals as goal

pub returns : goal.returns
returns c = λ bodies kept f g m n l i callee apart (a, h, e) (b, k, d).
    let s = same_ranks bodies kept a b h k g i in
    let r = k.above f g l (record { callee = callee; is_kept = i; apart = apart }) in
    omega arith
