use Rattle.std.proofs.Common.{◌≡◌, refl, sym, subst, true, false}
use Rattle.px_pooled.specs.Making.{IsIdle, sources_in}
use Rattle.px_pooled.proofs.EndLemmas.{new_idle, alone_found, alone_counted}
use Rattle.px_pooled.proofs.shared.alone.Goals as goal

pub unreachable-requires : goal.unreachable-requires
unreachable-requires g c =
    let idle = subst IsIdle (sym c.in_ok-book.ensures) (new_idle (sources_in c.args.parts) c.args.parts.desk.graph) in
    let done : false ≡ true = c.in-Err.ensures.done.1 (c.in_ok-go_on.ensures.settled idle) in
    let no : ⊥ = cc in no

pub returns-clause-found : goal.returns-clause-found
returns-clause-found g c =
    let e = c.in_ok-go_on.ensures in
    alone_found c.args.parts _ c.in_ok-book.book c.go_on.new.book c.in-Ok.findings c.in_ok-book.ensures e.sources e.graph c.in-Ok.ensures.sound (c.in-Ok.ensures.done.0 refl) c.in-Ok.ensures.found

pub returns-clause-all : goal.returns-clause-all
returns-clause-all g c =
    let e = c.in_ok-go_on.ensures in
    alone_counted c.args.parts _ c.in_ok-book.book c.go_on.new.book c.in-Ok.findings c.in_ok-book.ensures e.sources e.graph c.in-Ok.ensures.sound (c.in-Ok.ensures.done.0 refl) c.in-Ok.ensures.found
    c.desk_histories.ensures c.desk_tallies.ensures c.requires.own.0 c.requires.own.1
