use Rattle.std.proofs.Common.{◌≡◌, length, min, sym, subst, ◌∙◌, arith}
use Rattle.std.proofs.lemmas.List.{length-map}
use Rattle.px_real_symbols.specs.Answers.{IsFaultOf}
use Rattle.px_real_symbols.specs.Symbols.{see, seen}
use Rattle.px_real_reading.specs.Faults.{nesting_limit, whole_at}
use Rattle.px_real_reading.proofs.WholeLemmas.{goes_wrong, nests_too_deep}
use Rattle.px_real_reading.proofs.reading.read.Goals as goal

pub returns-in-Err-Wrong-clause-wrong : goal.returns-in-Err-Wrong-clause-wrong
returns-in-Err-Wrong-clause-wrong c = λ at h.
    let same : c.min-at.result ≡ at = cc in
    let capped : c.min-at.result ≡ min c.in-Err-Wrong.at (length (seen c.args.on)) = omega (arith, c.min-at.ensures, length-map c.args.on.symbols.now (see c.args.on.source.now)) in
    goes_wrong c.in-Err-Wrong.at at (seen c.args.on) (sym same ∙ capped)
    (subst (λ z. IsFaultOf (seen c.args.on) z (whole_at nesting_limit (seen c.args.on))) c.in-Err-Wrong.field-0-is c.in-Err-Wrong.ensures)

pub returns-in-Err-Deep-clause-deep : goal.returns-in-Err-Deep-clause-deep
returns-in-Err-Deep-clause-deep c = λ at h.
    let same : c.min-at-in-Err-Deep.result ≡ at = cc in
    let capped : c.min-at-in-Err-Deep.result ≡ min c.in-Err-Deep.at (length (seen c.args.on)) = omega (arith, c.min-at-in-Err-Deep.ensures, length-map c.args.on.symbols.now (see c.args.on.source.now)) in
    nests_too_deep c.in-Err-Deep.at at (seen c.args.on) (sym same ∙ capped)
    (subst (λ z. IsFaultOf (seen c.args.on) z (whole_at nesting_limit (seen c.args.on))) c.in-Err-Deep.field-0-is c.in-Err-Deep.ensures)
