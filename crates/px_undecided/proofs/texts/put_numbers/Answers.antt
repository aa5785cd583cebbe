use Rattle.std.proofs.Common.{◌∙◌, ◌++◌, ap, append_assoc}
use Rattle.std.specs.Prelude.{codes}
use Rattle.std.specs.Fmt.{decimal}
use Rattle.px_text_report.specs.Places.{line_feed}
use Rattle.px_undecided.proofs.texts.put_numbers.Goals as goal

pub returns : goal.returns
returns c =
    let out = c.args.out.now.items in
    let counts = c.args.counts.now in
    let refuted = codes ": refuted " ++ decimal counts.refuted in
    let met = codes ", met " ++ decimal counts.met in
    let left = codes ", open " ++ decimal counts.left_open in
    c.in_ok-put.ensures
    ∙ ap (λ z. z ++ line_feed) (c.in_ok-put_count-3.ensures ∙ ap (λ z. z ++ left) (c.in_ok-put_count-2.ensures ∙ ap (λ z. z ++ met) c.in_ok-put_count.ensures))
    ∙ append_assoc ((out ++ refuted) ++ met) left line_feed ∙ append_assoc (out ++ refuted) met (left ++ line_feed) ∙ append_assoc out refuted (met ++ (left ++ line_feed))
