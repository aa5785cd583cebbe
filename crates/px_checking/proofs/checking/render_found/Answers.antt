use Rattle.std.proofs.Common.{rules, ◌↔◌, ◌∙◌, ◌++◌, ℕ, List, refl, ap, subst}
use Rattle.std.specs.Prelude.{IsTrue, not}
use Rattle.px_syntax.specs.ProgramTree.{program_tree}
use Rattle.px_checking.specs.Findings.{HasBug}
use Rattle.px_checking.proofs.checking.render_found.Goals as goal

pub returns : goal.returns
returns g c =
    let (after, is_after, put) = c.in_ok-put_after.ensures in (
      record {
        rest = after;
        after = is_after;
        text_is =
            put ∙ ap (λ (xs : List ℕ). xs ++ after) (c.in_ok-text.ensures ∙ ap (g.W.Form.written c.args.form.now (program_tree c.args.program.now)) c.in_ok-report.ensures);
        bug = subst (λ r. IsTrue (not c.is_empty.result) ↔ HasBug r) c.in_ok-report.ensures (search rules);
      },
      refl,
    )
