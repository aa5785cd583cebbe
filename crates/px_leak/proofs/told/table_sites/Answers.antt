use Rattle.std.proofs.Common.{◌≡◌, ◌∙◌, ◌+◌, ◌++◌, ◌∷◌, drop, map, ap, sym}
use Rattle.std.specs.Prelude.{flat_map}
use Rattle.std.proofs.lemmas.List.{drop_more}
use Rattle.px_check.specs.Answers.{entry_of}
use Rattle.px_text_report.specs.Firsts.{others}
use Rattle.px_text_report.specs.Bugs.{same_site}
use Rattle.px_text_report.proofs.FirstLemmas.{others_more}
use Rattle.px_leak.specs.Leaks.{entry_sites}
use Rattle.px_leak.proofs.told.table_sites.Goals as goal

pub loop-one-preserved : goal.loop-one-preserved
loop-one-preserved c =
    let x = c.one-item.result in
    let checked = c.args.checked.now in
    let i = c.loop-one.one-index in
    let these = c.loop-one.sites.items in
    let is : drop i checked ≡ x ∷ drop (i + 1) checked = drop_more checked i x c.loop-one-test.true ∙ ap (λ z. z ∷ drop (i + 1) checked) (sym c.one-item.is) in
    others_more same_site these _ (entry_sites (entry_of x)) (flat_map entry_sites (map entry_of (drop (i + 1) checked))) _ c.in_ok-put_sites.ensures
    (ap (λ zs. these ++ others same_site these (flat_map entry_sites (map entry_of zs))) (sym is) ∙ c.loop-one.invariant)
