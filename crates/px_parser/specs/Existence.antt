-- Tokens are read or refused, and have a name or none.
use Rattle.std.specs.Prelude.{ℕ, ◌<◌, ◌⊎◌, List, length}
use Rattle.px_base.specs.declared.trace.Site.{Site}
use Rattle.px_lexer.specs.declared.token.Token.{Token}
use Rattle.px_expressions.specs.Lexemes.{lexemes}
use Rattle.px_syntax.specs.ItemTree.{ItemTree}
use Rattle.px_parser.specs.ItemGrammar.{IsItem}
use Rattle.px_parser.specs.Refusals.{IsRefusal}
use Rattle.px_parser.specs.Names.{IsFunctionName}

-- some tokens are an item, or they are none, and a refusal says so
abbrev pub SomeItem : Type 0
SomeItem = (source : List ℕ) (ts : List Token) → 0 < length ts →
    ((item : ItemTree) × IsItem (lexemes source ts) item)
    ⊎ (((item : ItemTree) → ¬ IsItem (lexemes source ts) item) × ((word : List ℕ) × (place : Site) × IsRefusal source ts word place))

-- tokens have a name, or they have none
abbrev pub SomeName : Type 0
SomeName = (source : List ℕ) (ts : List Token) → ((name : List ℕ) × IsFunctionName source ts name) ⊎ ((name : List ℕ) → ¬ IsFunctionName source ts name)
