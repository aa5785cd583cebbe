use Rattle.std.proofs.Common.{rules}
use Rattle.px_lexer.specs.Lent.{as_tokens}
use Rattle.px_reading.proofs.Within.{named}
use Rattle.px_reading.proofs.reading.parsed_item.Goals as goal

pub returns-in_ok-name-in-Err-Outside : goal.returns-in_ok-name-in-Err-Outside
returns-in_ok-name-in-Err-Outside c =
    let refused = c.in-Err-Outside.ensures.outside _ _ (search rules) in
    let name = c.in_ok-name-in-Err-Outside in
    (refused.0, refused.1, named c.args.source.now (as_tokens c.args.tokens) name.name name.ensures.named name.ensures.unnamed)
