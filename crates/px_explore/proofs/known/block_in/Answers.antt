use Rattle.std.proofs.Common.{sym, ◌∙◌, subst}
use Rattle.std.specs.Prelude.{Contains}
use Rattle.std.proofs.lemmas.List.Elements.{Contains-get_or}
use Rattle.px_explore.proofs.known.block_in.Goals as goal

pub returns-in-Some : goal.returns-in-Some
returns-in-Some c =
    let xs = c.args.pure.now in
    let x = c.index-pure-n.result in
    let (met, is, same) = c.in-Some.ensures in
    (record { met = met; same = subst (Contains xs) (sym c.index-pure-n.is ∙ is) (Contains-get_or xs c.loop-n.n x c.loop-n-test.true) }, same)
