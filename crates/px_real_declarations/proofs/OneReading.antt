-- Declarations are read in one way.
use Rattle.std.proofs.Common.{◌≡◌, List, [], Ok, refl, ap, sym, ◌∙◌}
use Rattle.std.proofs.lemmas.List.{append-nil}
use Rattle.px_real_expressions.specs.Lexemes.{Lexeme}
use Rattle.px_real_expressions.specs.Reading.{Reader}
use Rattle.px_real_expressions.specs.Grammar.{Gram}
use Rattle.px_real_expressions.proofs.Tools.{both_are, Exact}
use Rattle.px_real_declarations.specs.Laws.{OneDeclaration, OneMember, OneParameter}
use Rattle.px_real_declarations.proofs.PartExact.{Over, at_end, Ended, at_over}
use Rattle.px_real_declarations.proofs.DeclarationExact.{declared_exact, member_exact, declaration_exact}
use Rattle.px_real_declarations.proofs.ParameterExact.{parameter_exact}

module _ {A : Type 0} {G : Gram A} {r : Reader A} {Follows : List Lexeme → Type 0} (p : Exact G r Follows) where
  -- all that these tokens are is read
  pub whole_read : (ts : List Lexeme) (a : A) → Follows [] → G ts a → r ts ≡ Ok (a, [])
  whole_read ts a f m = ap r (sym (append-nil ts)) ∙ p.complete ts a [] m f

  -- where nothing is left, all was read
  pub whole_is : (ts : List Lexeme) (a : A) → r ts ≡ Ok (a, []) → G ts a
  whole_is ts a h = let x = p.sound ts a [] h in let e = x.parts ∙ append-nil x.front in rw e x.is

  one_way : (ts : List Lexeme) (a b : A) → Follows [] → G ts a → G ts b → a ≡ b
  one_way ts a b f g h = (both_are a b [] [] (sym (whole_read ts a f g) ∙ whole_read ts b f h)).0

pub over : Over []
over = at_end refl

pub ended : Ended []
ended = at_over over

pub one_declaration : OneDeclaration
one_declaration types n ts a b g h = one_way (declaration_exact types (declared_exact types n)) ts a b over g h

pub one_member : OneMember
one_member types n ts a b g h = one_way (declaration_exact types (member_exact types n)) ts a b over g h

pub one_parameter : OneParameter
one_parameter types n ts a b g h = one_way (parameter_exact types n) ts a b ended g h
