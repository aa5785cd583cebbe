-- Tokens as the grammar of expressions sees them.
use Rattle.std.specs.Prelude.{ℕ, List, [], ◌∷◌, Bool, Option, Some, None, if◌then◌else◌}
use denote.Enum.Bare.{sameb}
use Rattle.px_base.specs.declared.trace.Site.{Site}
use Rattle.px_real_expressions.specs.declared.terminal.Terminal.{Terminal}
use Rattle.px_real_expressions.specs.contracts.terminal.Terminal.{the_type}

-- a terminal, where it stands, its text, and the value of a constant of the profile
pub record Lexeme : Type 0 where
  pub terminal : Terminal
  pub site : Site
  pub text : List ℕ
  pub value : Option ℕ

abbrev pub same : Terminal → Terminal → Bool
same = sameb the_type

-- the lexeme at the front where its terminal is such a one, and those after it
abbrev pub front_if : (Terminal → Bool) → List Lexeme → Option (Lexeme × List Lexeme)
front_if is [] = None
front_if is (t ∷ ts) = if is t.terminal then Some (t, ts) else None

-- the lexeme at the front where it is that terminal, and those after it
abbrev pub front : Terminal → List Lexeme → Option (Lexeme × List Lexeme)
front k [] = None
front k (t ∷ ts) = if same t.terminal k then Some (t, ts) else None
