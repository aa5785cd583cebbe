-- What is read of held tokens is what the grammar says of them.
use Rattle.std.proofs.Common.{◌≡◌, List, false, Option, Some, None, refl, sym, ap}
use Rattle.px_real_expressions.specs.Lexemes.{Lexeme}
use Rattle.px_real_expressions.specs.Stops.{Read}
use Rattle.px_real_declarations.specs.DeclarationTree.{DeclarationTree, EnumeratorTree, ParametersTree}
use Rattle.px_real_declarations.specs.Grammar.{Types, Members, Enumerators, Parameters}
use Rattle.px_real_declarations.specs.HeldReading.{members_at, enumerators_at, parameters_at}
use Rattle.px_real_declarations.proofs.MemberExact.{members_whole_sound, members_whole_complete}
use Rattle.px_real_declarations.proofs.HeldExact.{enumerators_sound, enumerators_complete, parameters_sound, parameters_complete}
use Rattle.px_real_declaring.specs.declared.reading.DeclarationFault.{DeclarationFault}
use Rattle.px_real_declaring.specs.declared.reading.DeclarationFault.TheVariants as D
use Rattle.px_real_declaring.specs.Items.{nesting_limit}
use Rattle.px_real_declaring.specs.Whole.{NoneIs}
use Rattle.px_real_names.specs.Enumerated.{as_whole}
use Rattle.px_real_scopes.specs.Steps.{is_memory}
use Rattle.px_real_names.proofs.EnumeratedExact.{whole_of}

-- what is nothing of the grammar isn't read
unread : {A : Type 0} (r : Read A) → ((a : A) → as_whole r ≡ Some a → ⊥) → as_whole r ≡ None
unread r none = by (as_whole r) refl
  where
    by : (o : Option _) → as_whole r ≡ o → o ≡ None
    by (Some a) e = absurd (none a e)
    by None e = refl

module _ (types : Types) (held : List Lexeme) where
  pub members_are_read : (ds : List DeclarationTree) → Members types nesting_limit held ds → as_whole (members_at types nesting_limit held) ≡ Some ds
  members_are_read ds m = ap as_whole (members_whole_complete types nesting_limit m)

  pub no_members_are_read : ((ds : List DeclarationTree) → Members types nesting_limit held ds → ⊥) → as_whole (members_at types nesting_limit held) ≡ None
  no_members_are_read none = unread (members_at types nesting_limit held) (λ ds e. none ds (members_whole_sound types nesting_limit held ds (whole_of (members_at types nesting_limit held) ds e)))

  pub parameters_are_read : (p : ParametersTree) → Parameters types nesting_limit held p → as_whole (parameters_at types nesting_limit held) ≡ Some p
  parameters_are_read p m = ap as_whole (parameters_complete types nesting_limit m)

  pub no_parameters_are_read : ((p : ParametersTree) → Parameters types nesting_limit held p → ⊥) → as_whole (parameters_at types nesting_limit held) ≡ None
  no_parameters_are_read none = unread (parameters_at types nesting_limit held) (λ p e. none p (parameters_sound types nesting_limit held p (whole_of (parameters_at types nesting_limit held) p e)))

pub enumerators_are_read : (held : List Lexeme) (es : List EnumeratorTree) → Enumerators held es → as_whole (enumerators_at held) ≡ Some es
enumerators_are_read held es m = ap as_whole (enumerators_complete m)

pub no_enumerators_are_read : (held : List Lexeme) → ((es : List EnumeratorTree) → Enumerators held es → ⊥) → as_whole (enumerators_at held) ≡ None
no_enumerators_are_read held none = unread (enumerators_at held) (λ es e. none es (enumerators_sound held es (whole_of (enumerators_at held) es e)))

pub no_parameters : (types : Types) (held : List Lexeme) (e : DeclarationFault) → NoneIs (Parameters types nesting_limit held) e → false ≡ is_memory e → None ≡ as_whole (parameters_at types nesting_limit held)
no_parameters types held D.NoMemory h g = absurd cc
no_parameters types held (D.NotADeclaration at) h g = sym (no_parameters_are_read types held h)
no_parameters types held (D.Deep at) h g = sym (no_parameters_are_read types held h)
