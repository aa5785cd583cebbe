use Rattle.std.proofs.Common.{◌≡◌, ◌∙◌, ◌+◌, ◌++◌, ◌∷◌, drop, map, ap, sym}
use Rattle.std.specs.Prelude.{flat_map}
use Rattle.std.proofs.lemmas.List.{drop_more}
use Rattle.px_check.specs.Answers.{entry_of}
use Rattle.px_text_report.specs.Firsts.{others}
use Rattle.px_text_report.specs.Faults.{same_fault, fault_of}
use Rattle.px_text_report.proofs.FirstLemmas.{others_more}
use Rattle.px_text_report.proofs.faults.table_faults.Goals as goal

pub loop-one-preserved : goal.loop-one-preserved
loop-one-preserved c =
    let x = c.one-item.result in
    let checked = c.args.checked.now in
    let i = c.loop-one.one-index in
    let these = c.loop-one.faults.items in
    let is : drop i checked ≡ x ∷ drop (i + 1) checked = drop_more checked i x c.loop-one-test.true ∙ ap (λ z. z ∷ drop (i + 1) checked) (sym c.one-item.is) in
    others_more same_fault these _ (fault_of (entry_of x)) (flat_map fault_of (map entry_of (drop (i + 1) checked))) _
    (c.in_ok-put_fault.ensures ∙ ap (λ z. these ++ others same_fault these z) c.fault_of.ensures)
    (ap (λ zs. these ++ others same_fault these (flat_map fault_of (map entry_of zs))) (sym is) ∙ c.loop-one.invariant)
