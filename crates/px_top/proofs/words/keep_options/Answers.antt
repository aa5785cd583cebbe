use Rattle.std.proofs.Common.{◌∙◌, sym, ap}
use Rattle.std.specs.Prelude.{option_map}
use Rattle.px_base.specs.Texts.{texts}
use Rattle.px_words.specs.Meaning.{Command, view_of}
use Rattle.px_top.proofs.WordLemmas.{few_kept}
use Rattle.px_top.proofs.words.keep_options.Goals as goal

pub returns-in_ok-asked-in-Some-clause-few : goal.returns-in_ok-asked-in-Some-clause-few
returns-in_ok-asked-in-Some-clause-few c =
    few_kept (texts c.args.words.now) c.in_ok-asked-in-Some.field-0.check.names.items (view_of c.in-Some.options)
    (sym c.in_ok-options.ensures ∙ ap (option_map view_of) c.in-Some.is) (ap (λ (asked : Command). asked.files) c.in_ok-asked-in-Some.ensures)
