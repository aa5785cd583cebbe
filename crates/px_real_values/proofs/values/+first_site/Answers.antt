use Rattle.std.proofs.Common.{◌∙◌, ap}
use Rattle.px_real_reading.specs.Trees.{expression_tree}
use Rattle.px_real_values.specs.Values.{first_site}
use Rattle.px_real_values.proofs.SiteLemmas.{site-first}
use Rattle.px_real_values.proofs.values.+first_site.Goals as goal

pub returns-in-Postfix : goal.returns-in-Postfix
returns-in-Postfix t c = λ all.
    c.first_site-in-Postfix.ensures all
    ∙ ap (λ z. first_site (expression_tree all z)) c.deref-in-Postfix.ensures
    ∙ site-first all c.args.expression.now c.in-Postfix.first c.in-Postfix.is
