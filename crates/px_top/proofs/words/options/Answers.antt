use Rattle.std.proofs.Common.{◌∙◌, sym, ap, map}
use Rattle.std.specs.Prelude.{option_map}
use Rattle.px_base.specs.Texts.{texts}
use Rattle.px_words.specs.Meaning.{view_of}
use Rattle.px_top.proofs.WordLemmas.{few_names}
use Rattle.px_top.proofs.words.options.Goals as goal

pub returns-in_ok-owned-in-Some-clause-few : goal.returns-in_ok-owned-in-Some-clause-few
returns-in_ok-owned-in-Some-clause-few c =
    few_names (texts c.args.words.now) c.in_ok-owned-in-Some.field-0.items (view_of c.in-Some.options)
    (sym c.in_ok-options.ensures ∙ ap (option_map view_of) c.in-Some.is) (c.in_ok-owned-in-Some.ensures ∙ ap (map (λ word. word.now)) c.deref.ensures.value)
