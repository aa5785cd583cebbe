use Rattle.std.proofs.Common.{length, subst, sym}
use Rattle.px_lexer.specs.Lent.{as_tokens}
use Rattle.px_reading.specs.Sources.{AreWithin}
use Rattle.px_reading.proofs.Within.{within_all}
use Rattle.px_reading.proofs.reading.read_file.Goals as goal

pub parsed_items-requires : goal.parsed_items-requires
parsed_items-requires c =
    let tokens = as_tokens c.as_slice-tokens.result in
    subst (λ ss. AreWithin (length tokens) ss) (sym c.deref.ensures.value) (within_all tokens c.in-Ok.spans.items c.in-Ok.ensures.spans)
