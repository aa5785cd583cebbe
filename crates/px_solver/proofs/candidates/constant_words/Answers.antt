use Rattle.std.proofs.Common.{◌++◌, [], ap, ◌∙◌}
use Rattle.std.specs.Prelude.{fold, flat_map}
use Rattle.std.proofs.lemmas.List.{take_all}
use Rattle.px_solver.specs.Candidates.{end_words, around, constants_of}
use Rattle.px_solver.specs.Tables.{picked, put_few}
use Rattle.px_solver.proofs.CandidateLemmas.{put_more}
use Rattle.px_solver.proofs.candidates.constant_words.Goals as goal

pub loop-i-preserved : goal.loop-i-preserved
loop-i-preserved c =
    let cs = c.args.conjuncts.now in
    let is = c.args.indexes.now in
    let i = c.loop-i.i in
    c.in_ok-put_constants.ensures ∙ put_more cs is i c.index-conjuncts-indexes.result c.loop-i.values.items c.loop-i-test.true (c.requires i 0 c.loop-i-test.true) c.index-conjuncts-indexes.is c.loop-i.invariant

pub returns : goal.returns
returns c =
    let cs = c.args.conjuncts.now in
    let is = c.args.indexes.now in
    c.loop-i.invariant ∙ ap (λ z. fold put_few [] (end_words ++ flat_map around (flat_map constants_of (picked cs z)))) (take_all c.loop-i.i is c.loop-i-test.false)
