-- The tokens that what is lent of them stands for.
use Rattle.std.specs.Prelude.{List}
use Rattle.px_lexer.specs.declared.token.Token.{Token}
use Rattle.px_lexer.specs.declared.tokens.LentToken.{LentToken}
use Rattle.px_lexer.specs.declared.tokens.TokenSlice.{TokenSlice}
use Rattle.px_lexer.specs.Kept.{on_lines, all_on_lines}

abbrev pub as_token : LentToken → Token
as_token t = on_lines t.lines.now.file t.lines.now.starts.items t.kept

abbrev pub as_tokens : TokenSlice → List Token
as_tokens s = all_on_lines s.lines.now.file s.lines.now.starts.items s.kept.now
