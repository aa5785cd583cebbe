-- What the answer of the readers says of all that stands there.
use Rattle.std.proofs.Common.{◌≡◌, ◌<◌, Bool, true, false, List, [], ◌∷◌, length, Ok, Err, refl, sym, ap, ◌∙◌, arith}
use Rattle.px_real_expressions.specs.Lexemes.{Lexeme}
use Rattle.px_real_expressions.specs.Stops.{Stop, wrong}
use Rattle.px_real_expressions.specs.Reading.{Reader}
use Rattle.px_real_expressions.proofs.Tools.{done, both_are, bind_ok}
use Rattle.px_real_symbols.specs.declared.fault.Fault.{Fault}
use Rattle.px_real_symbols.specs.declared.fault.Fault.TheVariants as F
use Rattle.px_real_symbols.specs.Answers.{IsFaultOf}
use Rattle.px_real_declarations.specs.DeclarationTree.{DeclarationTree}
use Rattle.px_real_declarations.specs.Grammar.{Types, IsParameter}
use Rattle.px_real_declarations.specs.Reading.{declaration_by, parameter_at}
use Rattle.px_real_declarations.proofs.DeclarationExact.{declared_exact, member_exact, declaration_exact}
use Rattle.px_real_declarations.proofs.ParameterExact.{parameter_exact}
use Rattle.px_real_declarations.proofs.OneReading.{over, ended, whole_read, whole_is}
use Rattle.px_real_declaring.specs.declared.reading.DeclarationFault.{DeclarationFault}
use Rattle.px_real_declaring.specs.declared.reading.DeclarationFault.TheVariants as D
use Rattle.px_real_declaring.specs.Items.{nesting_limit, item_at}
use Rattle.px_real_declaring.specs.Whole.{nothing_left, whole_by, IsOneOf, SameKind, NoneIs}

-- where something is left, and where nothing is
pub some_left : {A : Type 0} (a : A) (us : List Lexeme) → 0 < length us → nothing_left a us ≡ Err (wrong us)
some_left a [] lt = absurd (omega arith)
some_left a (u ∷ us) lt = refl

pub none_left : {A : Type 0} (a : A) (us : List Lexeme) → us ≡ [] → nothing_left a us ≡ Ok (a, [])
none_left a us h = rw h refl

-- where nothing was left of one, nothing is left of another
pub left_alike : {A B : Type 0} (a : A) (b : B) (us : List Lexeme) → nothing_left a us ≡ Ok (a, []) → nothing_left b us ≡ Ok (b, [])
left_alike a b [] h = refl
left_alike a b (u ∷ us) h = absurd cc

left_is : {A : Type 0} (a d : A) (us : List Lexeme) → nothing_left a us ≡ Ok (d, []) → (a ≡ d) × (us ≡ [])
left_is a d [] h = ((both_are a d [] [] h).0, refl)
left_is a d (u ∷ us) h = absurd cc

-- ---- all that was read, by what a reader gives exactly

module _ {A : Type 0} (r : Reader A) (ts : List Lexeme) where
  pub found : {P : A → Type 0} → ((a : A) → r ts ≡ Ok (a, []) → P a) → (a : A) → whole_by r ts ≡ Ok (a, []) → P a
  unfolding whole_by
  found is a h =
      let b = bind_ok (r ts) (λ x. nothing_left x.0 x.1) (a, []) h in
      let q = left_is b.0.0 a b.0.1 b.2 in
      is a (b.1 ∙ ap (λ z. done z b.0.1) q.0 ∙ ap (λ z. done a z) q.1)

  never_stops : (a : A) (s : Stop) → r ts ≡ Ok (a, []) → whole_by r ts ≡ Err s → ⊥
  unfolding whole_by
  never_stops a s h g = absurd (let z : done a [] ≡ Err s = sym (rw h refl) ∙ g in cc)

  pub none_found : {P : A → Type 0} → ((a : A) → P a → r ts ≡ Ok (a, [])) → (all : List Lexeme) (e : Fault) (x : DeclarationFault) → SameKind e x → IsFaultOf all e (whole_by r ts) → NoneIs P x
  none_found there all F.NoMemory D.NoMemory same h = tt
  none_found there all (F.Wrong at) (D.NotADeclaration n) same h = λ a m. never_stops a _ (there a m) h
  none_found there all (F.Deep at) (D.Deep n) same h = λ a m. never_stops a _ (there a m) h
  none_found there all F.NoMemory (D.NotADeclaration n) same h = absurd same
  none_found there all F.NoMemory (D.Deep n) same h = absurd same
  none_found there all (F.Wrong at) D.NoMemory same h = absurd same
  none_found there all (F.Wrong at) (D.Deep n) same h = absurd same
  none_found there all (F.Deep at) D.NoMemory same h = absurd same
  none_found there all (F.Deep at) (D.NotADeclaration n) same h = absurd same

-- ---- declarations and parameters

declaration_is : (types : Types) (members : Bool) (ts : List Lexeme) (d : DeclarationTree) → declaration_by types (item_at types members) ts ≡ Ok (d, []) → IsOneOf types members ts d
declaration_is types true ts d h = whole_is (declaration_exact types (member_exact types nesting_limit)) ts d h
declaration_is types false ts d h = whole_is (declaration_exact types (declared_exact types nesting_limit)) ts d h

is_declaration : (types : Types) (members : Bool) (ts : List Lexeme) (d : DeclarationTree) → IsOneOf types members ts d → declaration_by types (item_at types members) ts ≡ Ok (d, [])
is_declaration types true ts d m = whole_read (declaration_exact types (member_exact types nesting_limit)) ts d over m
is_declaration types false ts d m = whole_read (declaration_exact types (declared_exact types nesting_limit)) ts d over m

pub declaration_found : (types : Types) (members : Bool) (ts : List Lexeme) (d : DeclarationTree) → whole_by (declaration_by types (item_at types members)) ts ≡ Ok (d, []) → IsOneOf types members ts d
declaration_found types members ts d h = found (declaration_by types (item_at types members)) ts (declaration_is types members ts) d h

pub no_declaration : (types : Types) (members : Bool) (ts all : List Lexeme) (e : Fault) (x : DeclarationFault) → SameKind e x → IsFaultOf all e (whole_by (declaration_by types (item_at types members)) ts) → NoneIs (IsOneOf types members ts) x
no_declaration types members ts all e x same h = none_found (declaration_by types (item_at types members)) ts (is_declaration types members ts) all e x same h

pub parameter_found : (types : Types) (ts : List Lexeme) (d : DeclarationTree) → whole_by (parameter_at types nesting_limit) ts ≡ Ok (d, []) → IsParameter types nesting_limit ts d
parameter_found types ts d h = found (parameter_at types nesting_limit) ts (λ a g. whole_is (parameter_exact types nesting_limit) ts a g) d h

pub no_parameter : (types : Types) (ts all : List Lexeme) (e : Fault) (x : DeclarationFault) → SameKind e x → IsFaultOf all e (whole_by (parameter_at types nesting_limit) ts) → NoneIs (IsParameter types nesting_limit ts) x
no_parameter types ts all e x same h = none_found (parameter_at types nesting_limit) ts (λ a m. whole_read (parameter_exact types nesting_limit) ts a ended m) all e x same h
