use Rattle.std.proofs.Common.{◌∙◌, sym, ap}
use Rattle.px_check.specs.Answers.{entry_of, job_of}
use Rattle.px_manifest.specs.LooksManifest.{asks_nothing}
use Rattle.px_manifest.proofs.TestLemmas.{known_values, from_free, to_free}
use Rattle.px_manifest.proofs.looks.asks_nothing.Goals as goal

pub returns-clause-asks : goal.returns-clause-asks
returns-clause-asks c =
    let checked = c.args.checked.now in
    let tested = c.is_free.ensures ∙ ap asks_nothing c.entry.ensures in (
      λ e. from_free (entry_of checked) (known_values (job_of checked) (entry_of checked) checked.derived) (sym tested ∙ e),
      λ l. tested ∙ to_free (entry_of checked) l,
    )
