use Rattle.std.proofs.Common.{◌∙◌, ap, map, option_map}
use Rattle.std.proofs.lemmas.List.Sorted.{IsPermutation-refl}
use Rattle.px_syntax.specs.ProgramTree.{program_tree}
use Rattle.px_loading.proofs.Loops.{if_ok}
use Rattle.px_rechecking.proofs.FoundLemmas.{found_by}
use Rattle.px_rechecking.proofs.checking.check_in_order.Goals as goal

pub returns-clause-check : goal.returns-clause-check
returns-clause-check g c =
    let kinds = map (λ b. (goal.Domain-dyn g (b.vtable, b.value)).number b.value) c.args.domains.now.items in
    let r = c.in_ok-findings.field-0 in
    let found = c.in_ok-findings.ensures in
    if_ok c.render_found.result c.render_found.ensures
    (λ x h. record {
      used = r.used;
      check = record {
        kinds = kinds;
        rising = (IsPermutation-refl _, c.requires.rising);
        findings = r.findings;
        found = found_by (program_tree c.args.program.now) c.args.asked.now.limits kinds c.args.items.now r.findings r.used c.reused_tables.ensures found.reused;
        backed = found.events;
        rest = h.0.rest;
        after = h.0.after;
        text_is = h.0.text_is;
        bug = h.0.bug;
        line_is = ap (option_map (λ v. v.items)) h.1 ∙ c.in_ok-line.ensures;
      };
      reused = found.reused;
    })
