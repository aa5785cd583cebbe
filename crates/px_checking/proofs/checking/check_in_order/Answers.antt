use Rattle.std.proofs.Common.{◌∙◌, ap, map, option_map}
use Rattle.std.proofs.lemmas.List.Sorted.{IsPermutation-refl}
use Rattle.px_loading.proofs.Loops.{if_ok}
use Rattle.px_checking.proofs.checking.check_in_order.Goals as goal

pub returns-clause-check : goal.returns-clause-check
returns-clause-check g c =
    if_ok c.render_found.result c.render_found.ensures
    (λ r h. record {
      kinds = map (λ b. (goal.Domain-dyn g (b.vtable, b.value)).number b.value) c.args.domains.now.items;
      rising = (IsPermutation-refl _, c.requires.rising);
      findings = c.in_ok-findings.findings;
      found = c.in_ok-findings.ensures.found;
      backed = c.in_ok-findings.ensures.borne_out;
      rest = h.0.rest;
      after = h.0.after;
      text_is = h.0.text_is;
      bug = h.0.bug;
      line_is = ap (option_map (λ v. v.items)) h.1 ∙ c.in_ok-line.ensures;
    })
