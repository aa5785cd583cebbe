-- What is read of a type's name is what the grammar says.
use Rattle.std.proofs.Common.{◌≡◌, List, [], ◌∷◌, Ok, Err, refl, sym, ap, ◌∙◌}
use Rattle.px_real_expressions.specs.Lexemes.{Lexeme}
use Rattle.px_real_expressions.specs.Stops.{Read, wrong, deep}
use Rattle.px_real_expressions.specs.Reading.{Reader}
use Rattle.px_real_expressions.proofs.Tools.{done, both_are, bind_ok}
use Rattle.px_real_symbols.specs.declared.fault.Fault.TheVariants as F
use Rattle.px_real_declarations.specs.DeclarationTree.{DeclarationTree}
use Rattle.px_real_declarations.specs.Grammar.{Types}
use Rattle.px_real_declarations.specs.Reading.{parameter_at}
use Rattle.px_real_declaring.specs.declared.reading.DeclarationFault.TheVariants as D
use Rattle.px_real_declaring.specs.Items.{nesting_limit}
use Rattle.px_real_declaring.specs.Whole.{nothing_left, whole_by}
use Rattle.px_real_declaring.proofs.WholeLemmas.{parameter_found, no_parameter}
use Rattle.px_real_types.specs.Scopes.{Meanings}
use Rattle.px_real_values.specs.Spelled.{Spells, spells, spells_nothing, spelled_of, TypesAreSpelled}

left_ends : {A : Type 0} (a d : A) (ts us : List Lexeme) → nothing_left a ts ≡ Ok (d, us) → us ≡ []
left_ends a d [] us h = sym (both_are a d [] us h).1
left_ends a d (t ∷ ts) us h = absurd cc

-- behind all that is read nothing is left
whole_ends : {A : Type 0} (r : Reader A) (ts : List Lexeme) (d : A) (us : List Lexeme) → whole_by r ts ≡ Ok (d, us) → us ≡ []
unfolding whole_by
whole_ends r ts d us h = let b = bind_ok (r ts) (λ x. nothing_left x.0 x.1) (d, us) h in left_ends b.0.0 d b.0.1 us b.2

module _ (scope : Meanings) (types : Types) (ts : List Lexeme) where
  by_reading : (read : Read DeclarationTree) → whole_by (parameter_at types nesting_limit) ts ≡ read → Spells scope types ts (spelled_of scope read)
  by_reading (Ok (d, us)) h = spells (parameter_found types ts d (h ∙ ap (λ z. done d z) (whole_ends (parameter_at types nesting_limit) ts d us h))) refl
  by_reading (Err (wrong us)) h = spells_nothing (no_parameter types ts us (F.Wrong 0) (D.NotADeclaration 0) tt h) refl
  by_reading (Err (deep us)) h = spells_nothing (no_parameter types ts us (F.Deep 0) (D.Deep 0) tt h) refl

pub types_spelled : TypesAreSpelled
types_spelled scope types ts = by_reading scope types ts (whole_by (parameter_at types nesting_limit) ts) refl
