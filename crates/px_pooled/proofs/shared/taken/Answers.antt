use Rattle.std.proofs.Common.{refl}
use Rattle.px_pooled.proofs.OwnLemmas.{few_same}
use Rattle.px_pooled.proofs.EndLemmas.{shared_found, shared_counted}
use Rattle.px_pooled.proofs.shared.taken.Goals as goal

pub go_on-requires-clause-few : goal.go_on-requires-clause-few
go_on-requires-clause-few g c =
    let same = c.if-not-agrees.ensures.0 refl in
    few_same c.args.book.sources.bodies c.args.own.now.desk.bodies same.1.bodies c.requires.own.1.few

pub returns-clause-found : goal.returns-clause-found
returns-clause-found g c =
    let same = c.if-not-agrees.ensures.0 refl in
    let e = c.in_ok-go_on.ensures in
    shared_found c.args.own.now _ g.H.Honesty.says c.args.book c.go_on.new.book c.ok.result c.finish.result c.ok.ensures.value c.finish.ensures.done c.finish.ensures.found c.finish.ensures.sound e.sources e.graph same.0 same.1

pub returns-clause-all : goal.returns-clause-all
returns-clause-all g c =
    let same = c.if-not-agrees.ensures.0 refl in
    let e = c.in_ok-go_on.ensures in
    shared_counted c.args.own.now _ g.H.Honesty.says c.args.book c.go_on.new.book c.ok.result c.finish.result c.ok.ensures.value c.finish.ensures.done c.finish.ensures.found c.finish.ensures.sound e.sources e.graph same.0 same.1
    c.desk_histories.ensures c.desk_tallies.ensures c.requires.own.0 c.requires.own.1
