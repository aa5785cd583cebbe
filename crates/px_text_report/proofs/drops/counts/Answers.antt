use Rattle.std.proofs.Common.{◌≡◌, ◌∙◌, ◌+◌, ◌++◌, ◌∷◌, [], drop, ap, sym}
use Rattle.std.proofs.lemmas.List.{drop_more}
use Rattle.px_text_report.proofs.DropLemmas.{added, counts_more}
use Rattle.px_text_report.proofs.drops.counts.Goals as goal

pub loop-text-preserved : goal.loop-text-preserved
loop-text-preserved c =
    let t = c.text-item.result in
    let texts = c.args.texts.now in
    let f = c.args.proc in
    let i = c.loop-text.text-index in
    let these = c.loop-text.counts.items in
    let is : drop i texts ≡ t ∷ drop (i + 1) texts = drop_more texts i t c.loop-text-test.true ∙ ap (λ z. z ∷ drop (i + 1) texts) (sym c.text-item.is) in
    counts_more f texts these _ (t ∷ []) (drop (i + 1) texts) _ c.in_ok-put_count.ensures
    (ap (λ zs. these ++ added f texts these zs) (sym is) ∙ c.loop-text.invariant)
