use Rattle.std.proofs.Common.{◌≡◌, ◌%◌, ◌^◌, ◌+◌, ◌<◌, length, get_or, subst, sym}
use Rattle.std.proofs.lemmas.List.{take_all}
use Rattle.std.specs.Prelude.{All}
use Rattle.px_terms.specs.Terms.{product_at}
use Rattle.px_solver.specs.Tables.{word_under}
use Rattle.px_solver.proofs.Values.{product_more}
use Rattle.px_solver.proofs.truth.product_at.Goals as goal

pub word_at-word-requires-clause-inside : goal.word_at-word-requires-clause-inside
word_at-word-requires-clause-inside c =
    let h = subst (λ z. All (λ x. x + 1 < length c.args.table.now) z) (sym c.vars-vars.ensures) c.requires.inside in
    h c.loop-i.i 0 c.loop-i-test.true

pub loop-i-preserved : goal.loop-i-preserved
loop-i-preserved c = product_more (word_under c.args.table.now (λ k. get_or c.args.roots.now k 0)) c.vars-vars.result.now c.loop-i.i c.loop-i.product c.word_at-word.result c.loop-i-test.true c.word_at-word.ensures c.loop-i.invariant

pub returns : goal.returns
returns c =
    let v = word_under c.args.table.now (λ k. get_or c.args.roots.now k 0) in
    subst (λ z. c.loop-i.product ≡ product_at v z % 2 ^ 32) c.vars-vars.ensures
    (subst (λ z. c.loop-i.product ≡ product_at v z % 2 ^ 32) (take_all c.loop-i.i c.vars-vars.result.now c.loop-i-test.false) c.loop-i.invariant)
