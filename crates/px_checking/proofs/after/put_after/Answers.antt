use Rattle.std.proofs.Common.{◌++◌, ◌∙◌, ℕ, List, refl, ap, append_assoc}
use Rattle.std.proofs.lemmas.Result.{on_ok_weaker}
use Rattle.px_syntax.specs.ProgramTree.{program_tree}
use Rattle.px_text_report.specs.Known.{known}
use Rattle.px_leak.specs.Leaks.{all_leaks}
use Rattle.px_leak.specs.LeakTexts.{leaks_asked}
use Rattle.px_checking.proofs.after.put_after.Goals as goal

pub returns : goal.returns
returns c =
    let (looks, is_looks, put) = c.in_ok-put_bits.ensures in
    let leaks : List ℕ = leaks_asked c.args.asked.leaks (program_tree c.args.program.now) (all_leaks (known c.args.findings.now)) in
    on_ok_weaker c.put_leaks.result (λ h.
    (looks ++ leaks, (looks, is_looks, refl), h ∙ ap (λ (xs : List ℕ). xs ++ leaks) put ∙ append_assoc c.args.out.now.items looks leaks)) c.put_leaks.ensures
