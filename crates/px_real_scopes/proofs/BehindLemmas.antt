-- What is in scope behind a declaration, by what the code does in turn.
use Rattle.std.proofs.Common.{◌≡◌, ℕ, Bool, false, List, [], ◌∷◌, length, map, nat_eq, Option, Some, None, refl, sym, ap, ap₂, ◌∙◌, arith}
use Rattle.std.proofs.lemmas.Bool.{ne_eqb}
use Rattle.px_expressions.specs.Reading.{or_else}
use Rattle.px_real_declarations.specs.DeclarationTree.{SpecifierTree, DeclaredTree, declaration}
use Rattle.px_real_declarations.specs.Names.{is_typedef}
use Rattle.px_real_types.specs.declared.known.Known.{Known}
use Rattle.px_real_scopes.specs.Scopes.{MeaningTree, Scopes}
use Rattle.px_real_scopes.specs.Knowing.{type_word, specified_known}
use Rattle.px_real_scopes.specs.Entering.{with_specifiers}
use Rattle.px_real_scopes.specs.Behind.{with_name, with_declared, declares_none, behind, with_parameters, behind_parameters}

-- a name that is declared
pub named_is : (o : Option (List ℕ)) (name given : List ℕ) (m n : MeaningTree) (st : Scopes) → Some name ≡ o → given ≡ name → m ≡ n → with_name (Some given) m st ≡ with_name o n st
named_is o name given m n st h e g = ap₂ (λ w z. with_name (Some w) z st) e g ∙ ap (λ z. with_name z n st) h

pub not_named : (o : Option (List ℕ)) (m : MeaningTree) (st : Scopes) → None ≡ o → st ≡ with_name o m st
not_named o m st h = ap (λ z. with_name z m st) h

pub none_declared : {A : Type 0} (f : A → DeclaredTree) (xs : List A) → nat_eq (length xs) 0 ≡ declares_none (map f xs)
none_declared f [] = refl
none_declared f (x ∷ xs) = ne_eqb (length (x ∷ xs)) 0 (λ h. omega (arith, h))

module _ (st mid new : Scopes) (ss : List SpecifierTree) (xs : List DeclaredTree) (k : Known) (w : List ℕ) (known : k ≡ specified_known mid ss) (word : w ≡ type_word ss) where
  pub declared_behind : (alone is_type : Bool) → alone ≡ declares_none xs → is_type ≡ is_typedef ss → with_specifiers alone ss st ≡ Some mid → new ≡ with_declared is_type k w mid xs → behind st (declaration ss xs) ≡ Some new
  declared_behind alone is_type ha ht h e =
      ap (λ z. or_else z (λ st1. Some (with_declared (is_typedef ss) (specified_known st1 ss) (type_word ss) st1 xs)) None) (ap (λ b. with_specifiers b ss st) (sym ha) ∙ h)
      ∙ ap (λ z. Some z) (sym (e ∙ ap (λ b. with_declared b k w mid xs) ht ∙ ap₂ (λ k w. with_declared (is_typedef ss) k w mid xs) known word))

  pub parameters_behind : with_specifiers false ss st ≡ Some mid → new ≡ with_parameters k w mid xs → behind_parameters st (declaration ss xs) ≡ Some new
  parameters_behind h e =
      ap (λ z. or_else z (λ st1. Some (with_parameters (specified_known st1 ss) (type_word ss) st1 xs)) None) h ∙ ap (λ z. Some z) (sym (e ∙ ap₂ (λ k w. with_parameters k w mid xs) known word))
