use Rattle.std.proofs.Common.{◌∙◌}
use Rattle.px_lexer.specs.Lent.{as_tokens}
use Rattle.px_parser.proofs.NameLemmas.{is_named, no_token_before, no_word_before}
use Rattle.px_parser.proofs.names.function_name.Goals as goal

pub returns-in_ok-name-in-Word-clause-named : goal.returns-in_ok-name-in-Word-clause-named
returns-in_ok-name-in-Word-clause-named c =
    is_named c.args.source.now (as_tokens c.args.tokens) c.in-Some.token c.in_ok-name-in-Word.name (c.in_ok-is_function_shaped.ensures.0 c.if-not-branch.false) c.in-Some.ensures c.in-Word.is
    (c.in_ok-name-in-Word.ensures ∙ c.text.ensures)

pub returns-in_default : goal.returns-in_default
returns-in_default c = record { named = tt; unnamed = λ name. no_word_before c.args.source.now (as_tokens c.args.tokens) name c.in-Some.token c.in-Some.ensures c.in_default.not-Word }

pub returns-in-None-clause-unnamed : goal.returns-in-None-clause-unnamed
returns-in-None-clause-unnamed c = λ name. no_token_before c.args.source.now (as_tokens c.args.tokens) name c.in-None.ensures
