-- What stands behind a declarator, one by one.
use Rattle.std.specs.Prelude.{List, Option, Some, None, Ok}
use Rattle.px_base.specs.declared.trace.Site.{Site}
use Rattle.px_expressions.specs.Reading.{or_else}
use Rattle.px_real_expressions.specs.Lexemes.{Lexeme, front}
use Rattle.px_real_expressions.specs.Stops.{◌>>=◌}
use Rattle.px_real_expressions.specs.Reading.{Reader, closed_at, held_up_to}
use Rattle.px_real_expressions.specs.declared.terminal.Terminal.TheVariants as T
use Rattle.px_real_symbols.specs.Symbols.{held_in}
use Rattle.px_real_declaring.specs.declared.tree.Suffix.{Suffix}
use Rattle.px_real_declaring.specs.declared.tree.Suffix.TheVariants as B

pub data SuffixTree : Type 0 where
  an_array : Site → List Lexeme → SuffixTree
  a_function : Site → List Lexeme → SuffixTree

abbrev pub suffix_tree : List Lexeme → Suffix → SuffixTree
suffix_tree all (B.Array site held) = an_array site (held_in all held)
suffix_tree all (B.Function site held) = a_function site (held_in all held)

-- brackets or parentheses and what they hold, or none
unfoldable pub suffix_at : Reader (Option SuffixTree)
suffix_at ts = or_else (front T.OpenBracket ts)
    (λ o. closed_at T.CloseBracket (held_up_to T.CloseBracket) o.1 >>= λ x. Ok (Some (an_array o.0.site x.0), x.1))
    (or_else (front T.OpenParenthesis ts)
    (λ o. closed_at T.CloseParenthesis (held_up_to T.CloseParenthesis) o.1 >>= λ x. Ok (Some (a_function o.0.site x.0), x.1))
    (Ok (None, ts)))
