use Rattle.std.proofs.Common.{rules, ◌≡◌, ◌*◌, ◌-◌, length, true, ap, ◌∙◌, arith}
use Rattle.std.specs.Prelude.{take, drop}
use Rattle.std.proofs.lemmas.List.{take_all, length-drop}
use Rattle.px_parts.specs.Forms.{size}
use Rattle.px_parts.proofs.Passing.{passes_alone}
use Rattle.px_parts.proofs.skim.behind_alone.Goals as goal

pub returns-clause-passes : goal.returns-clause-passes
returns-clause-passes c =
    let bytes = c.args.bytes.now in
    let all = c.in-Some.all in
    let yes : c.stands_alone.result ≡ true = search rules in
    let product : all ≡ c.size_of.result * c.args.due.count = search rules in
    let many : all ≡ size c.args.due.form * c.args.due.count = product ∙ ap (λ n. n * c.args.due.count) c.size_of.ensures.size in
    passes_alone c.args.due bytes (take (length bytes - all) (drop all bytes)) all (c.stands_alone.ensures yes) many (omega (arith, c.if-all-bytes.false))
    (take_all (length bytes - all) (drop all bytes) (omega (arith, length-drop all bytes)))
