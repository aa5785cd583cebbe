use Rattle.std.proofs.Common.{◌≡◌, ◌<◌, length, get_or, sym, ap, ◌∙◌, subst, arith, get_or-set_same}
use Rattle.std.proofs.lemmas.List.{get_or_default}
use Rattle.px_book.specs.Ready.{callees_in, NoneBlocks, IsPast}
use Rattle.px_book.proofs.ready.refresh.Goals as goal

pub returns-clause-passed : goal.returns-clause-passed
returns-clause-passed c = λ bodies is before.
    let f = c.args.proc.0 in
    let items = c.args.ready.now.passed.items in
    let size = c.requires.sized.passed in
    let l = c.requires.proc in
    let inside : f < length items = omega arith in
    let now : get_or c.put_flags.new.ready.passed.items f 0 ≡ c.pass-passed.result = ap (λ z. get_or z f 0) c.put_flags.ensures.passed ∙ get_or-set_same items f c.pass-passed.result 0 inside in
    let was : get_or items f 0 ≡ c.index.result.now = sym (c.index.ensures ∙ get_or_default items f c.index.result.now 0 inside) in
    subst (IsPast bodies c.args.statuses.now f (callees_in c.args.graph.now f)) (sym now)
    (c.pass-passed.ensures.past bodies is (subst (NoneBlocks bodies c.args.statuses.now f (callees_in c.args.graph.now f)) was before))
