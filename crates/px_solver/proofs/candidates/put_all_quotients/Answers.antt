use Rattle.std.proofs.Common.{ap, ◌∙◌}
use Rattle.std.specs.Prelude.{fold, flat_map}
use Rattle.std.proofs.lemmas.List.{take_all}
use Rattle.px_solver.specs.Candidates.{quotients_of}
use Rattle.px_solver.specs.Tables.{fixed_under, picked, put_few}
use Rattle.px_solver.proofs.CandidateLemmas.{put_quotients_more}
use Rattle.px_solver.proofs.candidates.put_all_quotients.Goals as goal

pub loop-i-preserved : goal.loop-i-preserved
loop-i-preserved c =
    let cs = c.args.conjuncts.now in
    let is = c.args.indexes.now in
    let i = c.loop-i.i in
    c.in_ok-put_quotients.ensures ∙ put_quotients_more (fixed_under c.args.table.now) cs is i c.index-conjuncts-indexes.result c.args.values.now.items c.loop-i.values.items c.loop-i-test.true (c.requires.places i 0 c.loop-i-test.true) c.index-conjuncts-indexes.is c.loop-i.invariant

pub returns : goal.returns
returns c =
    let cs = c.args.conjuncts.now in
    let is = c.args.indexes.now in
    c.loop-i.invariant ∙ ap (λ z. fold put_few c.args.values.now.items (flat_map (quotients_of (fixed_under c.args.table.now)) (picked cs z))) (take_all c.loop-i.i is c.loop-i-test.false)
