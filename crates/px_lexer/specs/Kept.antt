-- The tokens that what is kept of them stands for.
use Rattle.std.specs.Prelude.{ℕ, List, map}
use Rattle.px_lexer.specs.declared.token.Token.{Token}
use Rattle.px_lexer.specs.declared.kept.KeptToken.{KeptToken}
use Rattle.px_lexer.specs.Places.{site_at}

-- a token of a file in which lines begin there
abbrev pub on_lines : ℕ → List ℕ → KeptToken → Token
on_lines file starts t = record { kind = t.kind; site = site_at file starts t.start; start = t.start; end = t.end }

abbrev pub all_on_lines : ℕ → List ℕ → List KeptToken → List Token
all_on_lines file starts = map (on_lines file starts)
