use Rattle.std.proofs.Common.{◌≡◌, length, false, get_or, slice_get, Some, refl, arith}
use Rattle.std.proofs.lemmas.Option.{slice_get_read}
use Rattle.px_findings.proofs.OrderLemmas.{rising_pushed}
use Rattle.px_findings.proofs.order.put_turn.Goals as goal

pub returns : goal.returns
returns c = λ h.
    let large = c.args.marked.now in
    let n = c.args.number in
    let l = c.requires.kept in
    let s = c.requires.marks in
    let read : false ≡ get_or large n false = let f = c.if-marked-number.false in cc in
    let there : slice_get large n ≡ Some false = slice_get_read large (length large) n false refl (omega arith) read in
    rising_pushed c.args.graph.now large n c.args.order.now.items h (record { number = n; rank = c.rank-rank.result }) c.push.new.self.items refl
    (record { small = there; ranked = c.rank-rank.ensures }) c.in_ok-push.ensures.items
