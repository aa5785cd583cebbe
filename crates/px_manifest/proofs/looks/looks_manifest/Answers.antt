use Rattle.std.proofs.Common.{◌∙◌, sym, ap}
use Rattle.px_check.specs.Answers.{entry_of, job_of}
use Rattle.px_manifest.specs.LooksManifest.{looks_manifest}
use Rattle.px_manifest.proofs.TestLemmas.{known_values, from_test, to_test}
use Rattle.px_manifest.proofs.looks.looks_manifest.Goals as goal

pub returns-clause-looks : goal.returns-clause-looks
returns-clause-looks c =
    let checked = c.args.checked.now in
    let tested = c.is_sure.ensures ∙ ap looks_manifest c.entry.ensures in (
      λ e. from_test (entry_of checked) (known_values (job_of checked) (entry_of checked) checked.derived) (sym tested ∙ e),
      λ l. tested ∙ to_test (entry_of checked) l,
    )
