-- What the declarations in scope say, and what stands in attributes.
use Rattle.std.specs.Prelude.{ℕ, List, [], ◌∷◌, Bool, true, false, if◌then◌else◌}
use Rattle.px_base.specs.declared.trace.Site.{Site}
use Rattle.px_expressions.specs.Terminals.{is_in}
use Rattle.px_real_expressions.specs.Lexemes.{Lexeme}
use Rattle.px_real_symbols.specs.Symbols.{lexemes}
use Rattle.px_real_blocks.specs.Parts.{no_types}
use Rattle.px_real_types.specs.declared.shape.Shape.{Shape}
use Rattle.px_real_types.specs.declared.scope.Texts.{Texts}
use Rattle.px_real_types.specs.declared.words.Mark.{Mark}
use Rattle.px_real_types.specs.Words.{words_of}

-- the type that a word names, the struct with a tag, and the one that has none, by its place
pub record Meanings : Type 0 where
  pub named : List ℕ → Shape
  pub tagged : List ℕ → Shape
  pub placed : Site → Shape

-- the tokens as the grammar of declarations sees them
abbrev pub texts : Texts → List Lexeme
texts on = lexemes no_types on.source.now on.tokens.now

-- whether a word that is looked for is among them
abbrev pub any_marks : Mark → List Lexeme → Bool
any_marks mark [] = false
any_marks mark (t ∷ ts) = if is_in (words_of mark) t.text then true else any_marks mark ts
