use Rattle.std.proofs.Common.{◌<◌, length, arith}
use Rattle.px_book.proofs.CallLemmas.{tabled_here, left_here}
use Rattle.px_book.proofs.book.Book.settled.Goals as goal

pub returns-in-Tabled-clause-some : goal.returns-in-Tabled-clause-some
returns-in-Tabled-clause-some g c =
    let i = c.self.inside in
    let inside : c.args.proc.0 < length i.parts = (let a = c.len.ensures in let n = c.if-place-len.false in omega arith) in
    tabled_here g.H.Honesty.says i.sources i.roll i.parts i.total.total i.rest.amount i.rest.parts c.self.invariant c.args.self.now c.self.view_is c.as_slice.result.now c.args.proc.0 c.index-as_slice-place.result c.in-Tabled.checked c.as_slice-in-Tabled.result.now c.in-Tabled.drops
    c.as_slice.ensures inside c.index-as_slice-place.is c.in-Tabled.is c.as_slice-in-Tabled.ensures

pub returns-in-LeftOut-clause-none : goal.returns-in-LeftOut-clause-none
returns-in-LeftOut-clause-none g c =
    let i = c.self.inside in
    let inside : c.args.proc.0 < length i.parts = (let a = c.len.ensures in let n = c.if-place-len.false in omega arith) in
    left_here g.H.Honesty.says i.sources i.roll i.parts i.total.total i.rest.amount i.rest.parts c.self.invariant c.args.self.now c.self.view_is c.as_slice.result.now c.args.proc.0 c.index-as_slice-place.result c.as_slice.ensures inside c.index-as_slice-place.is c.in-LeftOut.is
